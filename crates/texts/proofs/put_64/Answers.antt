-- Four words, each right behind the one before.
use mathlib.Core.Path.{◌∙◌}
use borrow.Author.Rules.{rules}
use Rattle.texts.proofs.Words.{words-64}
use Rattle.texts.proofs.put_64.Goals as goal

pub returns : goal.returns
returns c =
    let a = c.args in
    let p = c.requires in
    c.put_word-4.ensures
    ∙ rw (c.put_word-3.ensures, c.put_word-2.ensures, c.put_word.ensures)
    (words-64 a.room.now a.at a.src.now a.from p.0 p.1)

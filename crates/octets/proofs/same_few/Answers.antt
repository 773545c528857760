-- Two texts of one length are the same exactly where all pairs of their bytes are.
use mathlib.Core.Path.{◌≡◌}
use borrow.Author.Rules.{rules}
use borrow.Author.Tests.{tests}
use Rattle.std.proofs.lemmas.Iterator.{YieldsList-from_slice, YieldsList-from_zip, same_from_all}
use Rattle.octets.proofs.Texts.{same-decides}
use Rattle.octets.proofs.same_few.Goals as goal

pub returns : goal.returns
returns c =
    let a = c.args.a.now in
    let b = c.args.b.now in
    same-decides a b _ (same_from_all c.all.new.self _ c.all.result a b c.all.ensures.ran
    (YieldsList-from_zip (YieldsList-from_slice a cc) (YieldsList-from_slice b cc)) c.requires
    (λ x q k. search (rules, tests)) (λ x q k. search (rules, tests)))

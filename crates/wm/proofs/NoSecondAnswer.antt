-- No second answer in C: all that was given back can be read back from all that was left, so that what is equal there was equal before.
use mathlib.Core.Path.{◌≡◌, refl, sym, ap, ◌∙◌}
use Prim.Native.Nat.{ℕ}
use Rattle.table.specs.Answers.{lent}
use Rattle.rules.specs.Calls.{Left, Result}
use Rattle.numbers.specs.InNumbers.{numbers_said}
use Rattle.wm.specs.InC.{leaves_in_c}
use Rattle.wm.specs.NoSecondAnswer.{GivenInC, OneAnswerInC}

given_back : Left → GivenInC
given_back l =
    let r : Result = l.reply.result in
    record {
      outcome = record {
        code = r.code;
        kind = r.kind;
        length = r.length;
        place = r.place;
        cut = r.cut;
        session = r.cut_session;
        host = r.cut_host;
        realm = r.cut_realm;
      };
      table = l.table.bytes;
      answer = l.reply.answer;
      notice = l.reply.notice;
    }

given_back_lem : (form : ℕ) (g : GivenInC) → given_back (leaves_in_c g.outcome (lent form g.table) g.answer g.notice) ≡ g
unfolding given_back leaves_in_c numbers_said
given_back_lem form g = refl

one-given : (form : ℕ) (g h : GivenInC) → leaves_in_c g.outcome (lent form g.table) g.answer g.notice ≡ leaves_in_c h.outcome (lent form h.table) h.answer h.notice → g ≡ h
one-given form g h e = sym (given_back_lem form g) ∙ ap given_back e ∙ given_back_lem form h

pub one-answer-in-c : OneAnswerInC
one-answer-in-c form table operator host realm message wag answer notice g h p q = one-given form g h (p ∙ sym q)

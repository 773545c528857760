-- No second answer: all that was given back can be read back from all that was left, so that what is equal there was equal before.
use mathlib.Core.Path.{◌≡◌, refl, sym, ap, ap₂, ◌∙◌}
use mathlib.Core.Bool.{true}
use mathlib.Core.List.{List, [], ◌∷◌, map}
use Prim.Native.Nat.{ℕ}
use native.Mathlib.Omega.{arith}
use borrow.Author.Tests.{eqb-true}
use lib.Dec.{eqb}
use lib.ListN.{length}
use Rattle.octets.specs.Lists.{every}
use Rattle.octets.proofs.Lists.{and_left, and_right}
use Rattle.table.specs.Answers.{lent}
use Rattle.rules.specs.Calls.{Result}
use Rattle.burst.specs.TheBurst.{Bursted}
use Rattle.burst.specs.Code.{leaves, result_in}
use Rattle.burstlaws.specs.NoSecondAnswer.{Given, OneBurst, are_eight}

-- the numbers of a place, from what it says
place_back : Result → List ℕ
place_back r = r.code ∷ r.kind ∷ r.length ∷ r.place ∷ r.cut ∷ r.cut_session ∷ r.cut_host ∷ r.cut_realm ∷ []

place-back : (s : List ℕ) → length s ≡ 8 → place_back (result_in s) ≡ s
unfolding place_back result_in
place-back [] e = absurd (omega (arith, e))
place-back (a ∷ []) e = absurd (omega (arith, e))
place-back (a ∷ b ∷ []) e = absurd (omega (arith, e))
place-back (a ∷ b ∷ c ∷ []) e = absurd (omega (arith, e))
place-back (a ∷ b ∷ c ∷ d ∷ []) e = absurd (omega (arith, e))
place-back (a ∷ b ∷ c ∷ d ∷ f ∷ []) e = absurd (omega (arith, e))
place-back (a ∷ b ∷ c ∷ d ∷ f ∷ g ∷ []) e = absurd (omega (arith, e))
place-back (a ∷ b ∷ c ∷ d ∷ f ∷ g ∷ h ∷ []) e = absurd (omega (arith, e))
place-back (a ∷ b ∷ c ∷ d ∷ f ∷ g ∷ h ∷ k ∷ []) e = refl
place-back (a ∷ b ∷ c ∷ d ∷ f ∷ g ∷ h ∷ k ∷ m ∷ s) e = absurd (omega (arith, e))

places-back : (r : List (List ℕ)) → are_eight r ≡ true → map place_back (map result_in r) ≡ r
unfolding are_eight every
places-back [] h = refl
places-back (s ∷ r) h =
    ap₂ (λ (x : List ℕ) (l : List (List ℕ)). x ∷ l)
    (place-back s (eqb-true (length s) 8 (and_left (eqb (length s) 8) (are_eight r) h)))
    (places-back r (and_right (eqb (length s) 8) (are_eight r) h))

given_back : Bursted → Given
given_back b =
    record {
      taken = record {
        number = b.taken.number;
        messages = b.taken.messages;
        bytes = b.taken.bytes;
        answers = b.taken.answers;
        notices = b.taken.notices;
      };
      table = b.table.bytes;
      answers = b.answers;
      notices = b.notices;
      results = map place_back b.results;
    }

given_back_lem : (form : ℕ) (g : Given) → are_eight g.results ≡ true
    → given_back (leaves g.taken (lent form g.table) g.answers g.notices g.results) ≡ g
unfolding given_back leaves
given_back_lem form g e i =
    record { taken = g.taken; table = g.table; answers = g.answers; notices = g.notices; results = places-back g.results e i }

pub one-burst : OneBurst
one-burst form table operator host realm messages wags answers notices results g h eg eh p q =
    sym (given_back_lem form g eg) ∙ ap given_back (p ∙ sym q) ∙ given_back_lem form h eh

-- No second answer for a burst in C: all that was given back can be read back from all that was left, so that what is equal there was equal before.
use mathlib.Core.Path.{◌≡◌, refl, sym, ap, ◌∙◌}
use mathlib.Core.Bool.{true}
use mathlib.Core.List.{List, [], ◌∷◌, map}
use Prim.Native.Nat.{ℕ}
use native.Mathlib.Omega.{arith}
use borrow.Author.Tests.{eqb-true}
use lib.Dec.{eqb}
use lib.ListN.{length, get_or, drop_of_length-le}
use lib.Seq.{drop-cons}
use Rattle.octets.specs.Lists.{every}
use Rattle.octets.proofs.Lists.{and_left, and_right}
use Rattle.table.specs.Answers.{lent}
use Rattle.rules.specs.Calls.{Result}
use Rattle.burst.specs.TheBurst.{Bursted}
use Rattle.burst.specs.Code.{leaves, result_in}
use Rattle.wm_burst.specs.NoSecondAnswer.{GivenInC, OneBurstInC, eight_each}

-- THE PLACES

eight : Result → List ℕ
eight r = r.code ∷ r.kind ∷ r.length ∷ r.place ∷ r.cut ∷ r.cut_session ∷ r.cut_host ∷ r.cut_realm ∷ []

-- eight numbers are a list of eight
one-back : (s : List ℕ) → length s ≡ 8 → eight (result_in s) ≡ s
unfolding eight result_in
one-back s l =
    let with-th : (i : ℕ) → List ℕ → List ℕ = λ i t. get_or s i 0 ∷ t in
    sym
    (drop-cons s 0 0 (omega (arith, l))
    ∙ ap (with-th 0) (drop-cons s 1 0 (omega (arith, l))
    ∙ ap (with-th 1) (drop-cons s 2 0 (omega (arith, l))
    ∙ ap (with-th 2) (drop-cons s 3 0 (omega (arith, l))
    ∙ ap (with-th 3) (drop-cons s 4 0 (omega (arith, l))
    ∙ ap (with-th 4) (drop-cons s 5 0 (omega (arith, l))
    ∙ ap (with-th 5) (drop-cons s 6 0 (omega (arith, l))
    ∙ ap (with-th 6) (drop-cons s 7 0 (omega (arith, l))
    ∙ ap (with-th 7) (drop_of_length-le s {i = 8} (omega (arith, l)))))))))))

all_back : (r : List (List ℕ)) → eight_each r ≡ true → map eight (map result_in r) ≡ r
unfolding eight_each every
all_back [] e = refl
all_back (s ∷ r) e =
    let first : length s ≡ 8 = eqb-true (length s) 8 (and_left (eqb (length s) 8) (eight_each r) e) in
    let others : map eight (map result_in r) ≡ r = all_back r (and_right (eqb (length s) 8) (eight_each r) e) in
    ap {B = List (List ℕ)} (λ t. t ∷ map eight (map result_in r)) (one-back s first) ∙ ap {B = List (List ℕ)} (λ t. s ∷ t) others

-- ALL OF IT

given_back : Bursted → GivenInC
given_back b =
    record {
      taken = record {
        number = b.taken.number;
        messages = b.taken.messages;
        bytes = b.taken.bytes;
        answers = b.taken.answers;
        notices = b.taken.notices;
      };
      table = b.table.bytes;
      answers = b.answers;
      notices = b.notices;
      results = map eight b.results;
    }

abbrev left : (form : ℕ) → GivenInC → Bursted
left form g = leaves g.taken (lent form g.table) g.answers g.notices g.results

given_back_lem : (form : ℕ) (g : GivenInC) → eight_each g.results ≡ true → given_back (left form g) ≡ g
unfolding given_back leaves
given_back_lem form g e =
    ap (λ (r : List (List ℕ)). record { taken = g.taken; table = g.table; answers = g.answers; notices = g.notices; results = r }) (all_back g.results e)

pub one-burst-in-c : OneBurstInC
one-burst-in-c form table operator host realm messages wags answers notices results g h eg eh p q =
    let same : left form g ≡ left form h = p ∙ sym q in
    sym (given_back_lem form g eg) ∙ ap given_back same ∙ given_back_lem form h eh

-- A burst of which a call is lent a first part: the next message is the same one, the rest of a part is a part of the rest, and a part is refused
-- as the whole is, but for 18.
use mathlib.Core.Path.{◌≡◌, refl, sym, ap, ◌∙◌}
use mathlib.Core.List.{List, [], ◌∷◌, ◌++◌}
use Prim.Native.Nat.{ℕ, zero, suc, ◌+◌, ◌-◌, ◌*◌, ◌≤◌}
use native.Mathlib.Nat.{zero-add, zero-mul, add-mul}
use native.Mathlib.Omega.{arith}
use borrow.Author.Tests.{leb-true, leb-false}
use lib.Dec.{leb}
use lib.ListN.{length, take, drop, length-take}
use lib.Seq.{drop-drop, drop-nil, get_or-take, take-nil, take-take}
use Rattle.octets.specs.Numbers.{net24}
use Rattle.octets.proofs.Lists.{by-test}
use Rattle.message.specs.TheRooms.{notice_length}
use Rattle.table.specs.TheTable.{Table}
use Rattle.burst.specs.TheBurst.{Burst, Bursted, Taken, next_length, refused_burst}
use Rattle.burst.specs.GoingOn.{rest, together}
use Rattle.burst.proofs.Boundaries.{next_fits, next-is, next_past, next-short, next_under}
use Rattle.burstlaws.specs.BurstsRules.{Part, first_part}

-- LISTS

module _ {A : Type 0} where
  -- what is left of a part is a part of what is left
  pub part_left : (k n : ℕ) (l : List A) → drop k (take n l) ≡ take (n - k) (drop k l)
  part_left zero n l = let all : n ≡ n - 0 = omega arith in ap (λ (m : ℕ). take m l) all
  part_left (suc k) zero l = let none : 0 - suc k ≡ 0 = omega arith in rw none (drop-nil (suc k))
  part_left (suc k) (suc n) [] = sym (take-nil (suc n - suc k))
  part_left (suc k) (suc n) (x ∷ l) = let less : n - k ≡ suc n - suc k = omega arith in part_left k n l ∙ ap (λ (m : ℕ). take m (drop k l)) less

-- THE NEXT MESSAGE

module _ (n : ℕ) (s : List ℕ) (some : next_length (take n s) ≡ 0 → ⊥) where
  four : 4 ≤ length (take n s)
  four = by-test (leb 4 (length (take n s))) (λ e. leb-true 4 (length (take n s)) e) (λ e. absurd (some (next-short (take n s) (leb-false 4 (length (take n s)) e))))

  twenty : 20 ≤ net24 (take n s) 1
  twenty = by-test (leb 20 (net24 (take n s) 1)) (λ e. leb-true 20 (net24 (take n s) 1) e) (λ e. absurd (some (next_under (take n s) (leb-false 20 (net24 (take n s) 1) e))))

  not-past : net24 (take n s) 1 ≤ length (take n s)
  not-past =
      by-test (leb (net24 (take n s) 1) (length (take n s)))
      (λ e. leb-true (net24 (take n s) 1) (length (take n s)) e)
      (λ e. absurd (some (next_past (take n s) (leb-false (net24 (take n s) 1) (length (take n s)) e))))

  same-header : net24 (take n s) 1 ≡ net24 s 1
  unfolding net24
  same-header =
      let most : 4 ≤ n = omega (arith, four, length-take n s) in
      rw (get_or-take n s 1 0 (omega (arith, most)), get_or-take n s 2 0 (omega (arith, most)), get_or-take n s 3 0 (omega (arith, most))) refl

  -- a whole message in a part is the next one of the whole
  pub next-same : next_length (take n s) ≡ next_length s
  next-same =
      next-is (take n s) four twenty not-past
      ∙ same-header
      ∙ sym (next-is s (omega (arith, four, length-take n s)) (omega (arith, twenty, same-header)) (omega (arith, not-past, same-header, length-take n s)))

  pub message-same : take (next_length (take n s)) (take n s) ≡ take (next_length s) s
  message-same =
      let most : next_length (take n s) ≤ n = omega (arith, next_fits (take n s), length-take n s) in
      take-take (next_length (take n s)) n s most ∙ ap (λ (k : ℕ). take k s) next-same

-- THE REST OF A PART

unfoldable pub less_part : (form : ℕ) → Taken → Part → Part
less_part f x p =
    record {
      messages = p.messages - x.bytes;
      wags = p.wags - x.messages;
      answers = p.answers - x.answers;
      notices = p.notices - x.notices * notice_length f;
      results = p.results - x.messages;
    }

pub rest_part : (f : ℕ) (x : Taken) (p : Part) (b : Burst) → rest f x (first_part p b) ≡ first_part (less_part f x p) (rest f x b)
unfolding rest first_part less_part
rest_part f x p b i =
    record {
      operator = b.operator;
      host = b.host;
      realm = b.realm;
      messages = part_left x.bytes p.messages b.messages i;
      wags = part_left x.messages p.wags b.wags i;
      answers = part_left x.answers p.answers b.answers i;
      notices = part_left (x.notices * notice_length f) p.notices b.notices i;
      results = part_left x.messages p.results b.results i;
    }

-- the rest of the rest
pub rest-rest : (f : ℕ) (x y : Bursted) (b : Burst) → rest f y.taken (rest f x.taken b) ≡ rest f (together f x y).taken b
unfolding rest together
rest-rest f x y b i =
    let k : ℕ = notice_length f in
    let both : x.taken.notices * k + y.taken.notices * k ≡ (x.taken.notices + y.taken.notices) * k = sym (add-mul x.taken.notices y.taken.notices k) in
    let notices : drop (y.taken.notices * k) (drop (x.taken.notices * k) b.notices) ≡ drop ((x.taken.notices + y.taken.notices) * k) b.notices =
    drop-drop (y.taken.notices * k) (x.taken.notices * k) b.notices ∙ ap (λ (n : ℕ). drop n b.notices) both in
    record {
      operator = b.operator;
      host = b.host;
      realm = b.realm;
      messages = drop-drop y.taken.bytes x.taken.bytes b.messages i;
      wags = drop-drop y.taken.messages x.taken.messages b.wags i;
      answers = drop-drop y.taken.answers x.taken.answers b.answers i;
      notices = notices i;
      results = drop-drop y.taken.messages x.taken.messages b.results i;
    }

-- WHERE NOTHING IS TAKEN, whatever the number

module _ (f n : ℕ) (t : Table) (d : Burst) where
  abbrev none : Bursted
  none = refused_burst t d n

  pub rest_all : (b : Burst) → rest f none.taken b ≡ b
  unfolding rest refused_burst
  rest_all b i =
      let notices : drop (0 * notice_length f) b.notices ≡ b.notices = ap (λ (k : ℕ). drop k b.notices) (zero-mul (notice_length f)) in
      record {
        operator = b.operator;
        host = b.host;
        realm = b.realm;
        messages = b.messages;
        wags = b.wags;
        answers = b.answers;
        notices = notices i;
        results = b.results;
      }

  pub second-alone : (y : Bursted) → together f none y ≡ y
  unfolding together refused_burst
  second-alone y i =
      let notices : take (0 * notice_length f) d.notices ++ y.notices ≡ y.notices = ap (λ (k : ℕ). take k d.notices ++ y.notices) (zero-mul (notice_length f)) in
      record {
        taken = record {
          number = y.taken.number;
          messages = zero-add y.taken.messages i;
          bytes = zero-add y.taken.bytes i;
          answers = zero-add y.taken.answers i;
          notices = zero-add y.taken.notices i;
        };
        table = y.table;
        answers = y.answers;
        notices = notices i;
        results = y.results;
      }

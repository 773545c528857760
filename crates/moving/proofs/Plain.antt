-- An access without a realm and without further policies fits both forms.
use mathlib.Core.Path.{◌≡◌, refl}
use mathlib.Core.Bool.{true}
use mathlib.Core.List.{List, [], ◌∷◌, ◌++◌}
use Prim.Native.Nat.{ℕ}
use native.Mathlib.Omega.{arith}
use borrow.Author.Tests.{eq-eqb, eqb-true, le-leb, leb-false, leb-true}
use lib.Dec.{eqb, leb}
use lib.ListN.{length}
use Rattle.octets.specs.Choice.{pick}
use Rattle.octets.specs.Lists.{every}
use Rattle.octets.specs.Texts.{filled, zeros}
use Rattle.octets.proofs.Lists.{and_left, and_right, both, by-test, every-both, every-imp}
use Rattle.table.specs.Soundness.{only_behind}
use Rattle.table.specs.TheTable.{Access, Subscriber, is_form, sealed, second_bytes, sums_from}
use Rattle.table.proofs.Good.{Fits, Good, Standing, good_access, spare, stand, standing}
use Rattle.moving.specs.Moving.{plain_access}
use Rattle.moving.specs.Copying.{plain_second}

-- what the second block would hold is empty
pub record Bare (a : Access) : Type 0 where
  pub realm-none : length a.realm ≡ 0
  pub second_none : length a.policies.second ≡ 0
  pub third-none : length a.policies.third ≡ 0

none-behind : (n m : ℕ) → only_behind n m ≡ true → m ≡ 0 → n ≡ 0
unfolding only_behind pick
none-behind n m h z =
    by-test (leb 1 n)
    (λ e. let k : leb 1 m ≡ true = rw e at h in absurd (omega (arith, leb-true 1 m k)))
    (λ e. omega (arith, leb-false 1 n e))

pub bare : (fm n : ℕ) (a : Access) → good_access fm n a ≡ true → plain_access a ≡ true → Bare a
unfolding plain_access
bare fm n a g p =
    let s : Standing fm n a = standing n a g in
    let second : length a.policies.second ≡ 0 = eqb-true _ 0 (and_right (eqb (length a.realm) 0) _ p) in
    record {
      realm-none = eqb-true _ 0 (and_left (eqb (length a.realm) 0) _ p);
      second_none = second;
      third-none = none-behind (length a.policies.third) (length a.policies.second) s.third-behind second;
    }

-- ANOTHER FORM

good-access : (fm to n : ℕ) (a : Access) → good_access fm n a ≡ true → plain_access a ≡ true → good_access to n a ≡ true
good-access fm to n a g p =
    let s : Standing fm n a = standing n a g in
    let b : Bare a = bare fm n a g p in
    stand n a
    (record {
      place_in = s.place_in;
      entry_in = s.entry_in;
      sid-fits = s.sid-fits;
      host-fits = s.host-fits;
      first_fits = s.first_fits;
      realm-fits = le-leb (length a.realm) (spare to) (omega (arith, b.realm-none));
      second_fits = le-leb (length a.policies.second) (spare to) (omega (arith, b.second_none));
      third-fits = le-leb (length a.policies.third) (spare to) (omega (arith, b.third-none));
      second-behind = s.second-behind;
      third-behind = s.third-behind;
    })

pub good-to : (fm to : ℕ) (s : Subscriber) → is_form to ≡ true → Good fm s → every plain_access s.accesses ≡ true → Good to s
good-to fm to s f g p =
    let a : Fits fm s.entries s.accesses = g.accesses-good in
    record {
      form-good = f;
      name-good = g.name-good;
      operator-good = g.operator-good;
      entries-good = g.entries-good;
      accesses-good =
          record {
            each = every-both (good_access fm (length s.entries)) plain_access (good_access to (length s.entries)) (good-access fm to (length s.entries)) s.accesses a.each p;
            places-once = a.places-once;
            sids-once = a.sids-once;
            under = a.under;
          };
    }

-- form 1 has room for no other
pub plain-one : (s : Subscriber) → Good 1 s → every plain_access s.accesses ≡ true
unfolding plain_access spare
plain-one s g =
    every-imp (good_access 1 (length s.entries)) plain_access
    (λ a t. let k : Standing 1 (length s.entries) a = standing (length s.entries) a t in
    both (eq-eqb (length a.realm) 0 (omega (arith, leb-true (length a.realm) 0 k.realm-fits))) (eq-eqb (length a.policies.second) 0 (omega (arith, leb-true (length a.policies.second) 0 k.second_fits))))
    s.accesses g.accesses-good.each

-- ITS SECOND BLOCK

none : (t : List ℕ) → length t ≡ 0 → t ≡ []
none [] h = refl
none (x ∷ t) h = absurd (omega arith)

bare-block : sealed (3 ∷ 0 ∷ 0 ∷ 0 ∷ 0 ∷ 0 ∷ 0 ∷ 0 ∷ filled [] 128 ++ (filled [] 128 ++ (filled [] 128 ++ zeros 118))) ≡ plain_second
unfolding sealed sums_from filled zeros plain_second
bare-block = refl

pub second-bare : (a : Access) → Bare a → second_bytes a ≡ plain_second
unfolding second_bytes
second-bare a b = rw (none a.realm b.realm-none, none a.policies.second b.second_none, none a.policies.third b.third-none) bare-block

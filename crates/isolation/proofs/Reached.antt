-- Tables that are reached from a cleared one: rows in use, each of an operator, and behind them nothing but wholly zero rows.
use mathlib.Core.Path.{◌≡◌, refl, ap, ◌∙◌}
use mathlib.Core.Bool.{Bool, true, false, ◌&&◌}
use mathlib.Core.List.{List, [], ◌∷◌, ◌++◌, append-nil}
use Prim.Native.Nat.{ℕ, zero, suc, ◌+◌, ◌-◌, ◌*◌, ◌/◌, ◌%◌, ◌≤◌}
use native.Mathlib.Omega.{arith}
use borrow.Author.Tests.{eq-eqb, le-leb, leb-true}
use lib.Dec.{eqb, leb}
use lib.ListN.{length, get_or, length-append}
use Rattle.octets.specs.Choice.{pick, require, within}
use Rattle.octets.specs.Lists.{every, keep, sum_of}
use Rattle.octets.specs.Texts.{all_zero, pieces, zeros}
use Rattle.octets.proofs.Lists.{and_left, and_right, both, every-imp, keep-and, same_refl}
use Rattle.octets.proofs.Pieces.{drop-zeros, length-pieces, one_more, take-zeros}
use Rattle.octets.proofs.Texts.{length-zeros}
use Rattle.table.specs.Answers.{lent}
use Rattle.table.specs.TheTable.{most_rows, is_form, is_own, own_rows, row_length, rows, table_number}
use Rattle.table.proofs.Rows.{width-least}
use Rattle.table.proofs.Widths.{quotient_is, rest-is}
use Rattle.setup.specs.SetUp.{share}
use Rattle.isolation.proofs.Firsts.{bound, keep_append}

-- A WHOLLY ZERO ROW

abbrev pub zero_row : (form : ℕ) → List ℕ
zero_row fm = zeros (row_length fm)

unfoldable pub blank : (form : ℕ) → ℕ → List (List ℕ)
blank fm zero = []
blank fm (suc k) = zero_row fm ∷ blank fm k

-- a row in use: byte 0 is 1, and byte 19 an operator
unfoldable pub is_used : List ℕ → Bool
is_used r = eqb (get_or r 0 0) 1 && leb (get_or r 19 0) 15

zero-head : (k : ℕ) → get_or (zeros k) 0 0 ≡ 0
unfolding zeros
zero-head zero = refl
zero-head (suc k) = refl

pub zero-first : (fm : ℕ) → get_or (zero_row fm) 0 0 ≡ 0
zero-first fm = zero-head (row_length fm)

pub zero-own : (fm o : ℕ) → is_own o (zero_row fm) ≡ false
unfolding is_own
zero-own fm o = rw (zero-first fm)

pub zero-zero : (fm : ℕ) → all_zero (zero_row fm) ≡ true
unfolding all_zero
zero-zero fm = rw (length-zeros (row_length fm)) (same_refl (zero_row fm))

pub blank-keep : (fm o k : ℕ) → keep (is_own o) (blank fm k) ≡ []
unfolding keep blank pick
blank-keep fm o zero = refl
blank-keep fm o (suc k) = rw (zero-own fm o) (blank-keep fm o k)

pub keep-used : (fm o : ℕ) (us : List (List ℕ)) (k : ℕ) → keep (is_own o) (us ++ blank fm k) ≡ keep (is_own o) us
keep-used fm o us k =
    keep_append (is_own o) us (blank fm k) ∙ ap (λ (t : List (List ℕ)). keep (is_own o) us ++ t) (blank-keep fm o k) ∙ append-nil (keep (is_own o) us)

pub length-blank : (fm k : ℕ) → length (blank fm k) ≡ k
unfolding blank
length-blank fm zero = refl
length-blank fm (suc k) = ap suc (length-blank fm k)

-- the first k rows of a table of zeros
pub zero-rows : (fm k m : ℕ) → row_length fm * k ≤ m → pieces (row_length fm) k (zeros m) ≡ blank fm k
unfolding pieces blank
zero-rows fm zero m h = refl
zero-rows fm (suc k) m h =
    rw (
      take-zeros (row_length fm) m (omega (arith, one_more (row_length fm) k)),
      drop-zeros (row_length fm) m,
      zero-rows fm k (m - row_length fm) (omega (arith, one_more (row_length fm) k)),
    )

-- REACHED: the bytes of a table of the form

pub record Reached (fm n : ℕ) (shares t : List ℕ) : Type 0 where
  pub size : length t ≡ row_length fm * n
  pub used : List (List ℕ)
  pub free : ℕ
  pub rows_are : pieces (row_length fm) n t ≡ used ++ blank fm free
  pub in_use : every is_used used ≡ true
  pub in-share : (o : ℕ) → length (keep (is_own o) used) ≤ share o shares

pub cleared : (fm n : ℕ) (shares : List ℕ) → Reached fm n shares (zeros (row_length fm * n))
unfolding every keep
cleared fm n shares =
    record {
      size = length-zeros (row_length fm * n);
      used = [];
      free = n;
      rows_are = zero-rows fm n (row_length fm * n) (omega arith);
      in_use = refl;
      in-share = λ o. omega arith;
    }

-- n rows of a form, of which a table has 1 to 1,024
module _ (fm n : ℕ) (some : is_form fm && within 1 most_rows n ≡ true) (shares t : List ℕ) (R : Reached fm n shares t) where
  pub count-is : length t / row_length fm ≡ n
  count-is = quotient_is (row_length fm) (length t) n 0 (omega (arith, R.size)) (omega (arith, width-least fm))

  pub good-table : table_number (lent fm t) ≡ 0
  unfolding table_number require
  good-table =
      let m : length t % row_length fm ≡ 0 = rest-is (row_length fm) (length t) n 0 (omega (arith, R.size)) (omega (arith, width-least fm)) in
      rw (and_left (is_form fm) _ some, eq-eqb (length t % row_length fm) 0 m, count-is, and_right (is_form fm) _ some)

  pub rows_of : rows (lent fm t) ≡ R.used ++ blank fm R.free
  unfolding rows
  rows_of = ap (λ (k : ℕ). pieces (row_length fm) k t) count-is ∙ R.rows_are

  pub own_of : (o : ℕ) → own_rows o (lent fm t) ≡ keep (is_own o) R.used
  unfolding own_rows
  own_of o = ap (keep (is_own o)) rows_of ∙ keep-used fm o R.used R.free

  pub all_of : length R.used + R.free ≡ n
  all_of =
      omega (
        arith,
        ap length R.rows_are,
        length-pieces (row_length fm) n t,
        length-append R.used (blank fm R.free),
        length-blank fm R.free,
      )

-- NO MORE ROWS THAN THE SHARES COME TO

one-first : (r : List ℕ) → is_used r ≡ true → eqb (get_or r 0 0) 1 ≡ true
unfolding is_used
one-first r h = and_left (eqb (get_or r 0 0) 1) _ h

operator-small : (r : List ℕ) → is_used r ≡ true → leb (get_or r 19 0) 15 ≡ true
unfolding is_used
operator-small r e = and_right (eqb (get_or r 0 0) 1) _ e

pub few : (shares : List ℕ) (us : List (List ℕ)) → length shares ≡ 16 → every is_used us ≡ true → ((o : ℕ) → length (keep (is_own o) us) ≤ share o shares) → length us ≤ sum_of shares
unfolding is_own share
few shares us s u h =
    bound (λ r. get_or r 19 0) 0 shares us
    (every-imp is_used _ (λ r e. both (le-leb 0 (get_or r 19 0) (omega arith)) (le-leb (suc (get_or r 19 0)) (0 + length shares) (omega (arith, s, leb-true (get_or r 19 0) 15 (operator-small r e))))) us u)
    (λ i. let q : 0 + i ≡ i = omega arith in
    rw (q, ← keep-and (λ r. eqb (get_or r 19 0) i) (λ r. eqb (get_or r 0 0) 1) us (every-imp is_used _ one-first us u)) (h i))

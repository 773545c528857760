-- The theorems of specs/TheYear.
use mathlib.Core.Path.{◌≡◌, refl, sym, ap, ◌∙◌}
use mathlib.Core.Bool.{Bool, true}
use mathlib.Core.List.{List, [], ◌∷◌, ◌++◌}
use Prim.Native.Nat.{ℕ, ◌+◌, ◌*◌, ◌%◌, ◌≤◌, ◌<◌}
use native.Mathlib.Nat.{dvd_of_mod-eq-zero, pos_of_ne-zero, eq-one_of_dvd-one}
use native.Mathlib.Omega.{arith}
use borrow.Author.Tests.{eqb-false, eq-eqb, ne_eqb}
use lib.Dec.{eqb}
use Rattle.octets.specs.Choice.{pick, require, first_of}
use Rattle.octets.specs.Lists.{every}
use Rattle.octets.proofs.Lists.{by-test, and_left, and_right}
use Rattle.octets.proofs.Choice.{first_passes, passed}
use Rattle.report.specs.TheReport.{Told, Left, opened, cut_beside, ended, terminated, other, in_column, in_hour, total, empty, hours, year, held, how_many, with, hour_right, leaving, count, plus, add}
use Rattle.report.specs.Rates.{Rated, lowest, rate}
use Rattle.report.specs.Code.{leaves, ratio_said}
use Rattle.report.specs.declared.Ratio.{Ratio}
use Rattle.report.specs.TheYear.{EachTotal, EachYear, TotalGrows, NoneTwice, CutsBeside, RefusedStays, AnyOrder, Joined, InPieces, AddedIsCounted, LowestTerms, SameRatio, NoneOpened, OneCount, OneAdd, OneRate}
use Rattle.report.proofs.Tables.{total-tabled, same-tabled, year-tabled}
use Rattle.report.proofs.Counting.{many-none, many-cons, sum-none, every-order, with-order, with-with, total-with, year-with}
use Rattle.report.proofs.Divisors.{no-common, same-ratio}
use Rattle.report.proofs.Leaving.{rate-refused, rate-told}

-- A LIST THAT IS COUNTED

left-whole : (n : ℕ) (was is : List ℕ) → n ≡ 0 → (leaving n was is).report ≡ is
unfolding leaving pick
left-whole n was is e = rw (eq-eqb n 0 e)

left_alone : (n : ℕ) (was is : List ℕ) → (n ≡ 0 → ⊥) → (leaving n was is).report ≡ was
unfolding leaving pick
left_alone n was is e = rw (ne_eqb n 0 e)

count_number : List ℕ → List Told → ℕ
count_number report list = first_of (require (every hour_right list) 29 ∷ require (held (with report list)) 30 ∷ [])

count-is : (report : List ℕ) (list : List Told) → count report list ≡ leaving (count_number report list) report (with report list)
unfolding count count_number
count-is report list = refl

number-of : (report : List ℕ) (list : List Told) → (count report list).number ≡ count_number report list
unfolding count leaving count_number
number-of report list = refl

module _ (report : List ℕ) (list : List Told) (none : (count report list).number ≡ 0) where
  number-0 : count_number report list ≡ 0
  number-0 = sym (number-of report list) ∙ none

  counted : (count report list).report ≡ with report list
  counted = ap (λ (l : Left). l.report) (count-is report list) ∙ left-whole _ report (with report list) number-0

  all_right : every hour_right list ≡ true
  unfolding count_number
  all_right = passed (every hour_right list) 29 (omega arith) (first_passes _ _ number-0)

pub total-grows : TotalGrows
total-grows report list hour k p q e =
    ap (λ (r : List ℕ). total r hour k) (counted report list e) ∙ total-with report list hour k p q

empty-total : (hour k : ℕ) → hour < 24 → k < 4 → total empty hour k ≡ 0
unfolding empty
empty-total hour k p q = total-tabled (λ h j. 0) hour k p q

empty-year : (k : ℕ) → k < 4 → year empty k ≡ 0
unfolding empty
empty-year k q = year-tabled (λ h j. 0) k q ∙ sum-none hours

pub each-total : EachTotal
each-total list hour k p q e = omega (arith, total-grows empty list hour k p q e, empty-total hour k p q)

pub each-year : EachYear
each-year list k q e =
    let a : year (count empty list).report k ≡ year (with empty list) k = ap (λ (r : List ℕ). year r k) (counted empty list e) in
    omega (arith, a, year-with empty list k q (all_right empty list e), empty-year k q)

pub refused-stays : RefusedStays
unfolding count add leaving
refused-stays report more list = (left_alone _ report (with report list), left_alone _ report (plus report more))

-- COLUMNS

one-column : (t : Told) → pick (in_column 0 t) 1 0 + pick (in_column 2 t) 1 0 + pick (in_column 3 t) 1 0 ≡ 1
unfolding in_column terminated other pick
one-column t =
    by-test (opened t) (λ e. rw e) (λ e. by-test (ended t) (λ d. rw (e, d)) (λ d. rw (e, d)))

cut-opens : (t : Told) → pick (in_column 1 t) 1 0 ≤ pick (in_column 0 t) 1 0
unfolding in_column cut_beside pick
cut-opens t =
    by-test (opened t) (λ e. by-test (eqb t.cut 0) (λ d. rw (e, d) (omega arith)) (λ d. rw (e, d) (omega arith))) (λ e. rw e (omega arith))

pub none-twice : NoneTwice
none-twice [] = omega (arith, many-none (in_column 0), many-none (in_column 2), many-none (in_column 3))
none-twice (t ∷ list) =
    omega (
      arith,
      many-cons (in_column 0) t list,
      many-cons (in_column 2) t list,
      many-cons (in_column 3) t list,
      one-column t,
      none-twice list,
    )

pub cuts-beside : CutsBeside
cuts-beside [] = omega (arith, many-none (in_column 0), many-none (in_column 1))
cuts-beside (t ∷ list) = omega (arith, many-cons (in_column 0) t list, many-cons (in_column 1) t list, cut-opens t, cuts-beside list)

-- THE ORDER

pub any_order : AnyOrder
unfolding count
any_order report list other d = rw (every-order hour_right d, with-order report d)

-- TWO LISTS

every-both : (p : Told → Bool) (l m : List Told) → every p l ≡ true → every p (l ++ m) ≡ every p m
unfolding every
every-both p [] m e = refl
every-both p (t ∷ l) m e = rw (and_left (p t) (every p l) e) (every-both p l m (and_right (p t) (every p l) e))

alike : (a b : List ℕ) (l m : List Told) → every hour_right l ≡ every hour_right m → with a l ≡ with b m → count_number a l ≡ count_number b m
unfolding count_number
alike a b l m e f = rw (e, f)

pub in_pieces : InPieces
in_pieces report list more e =
    let first = (count report list).report in
    let f : with first more ≡ with report (list ++ more) =
    ap (λ (r : List ℕ). with r more) (counted report list e) ∙ with-with report list more in
    let right : every hour_right (list ++ more) ≡ every hour_right more = every-both hour_right list more (all_right report list e) in
    let same : (count first more).number ≡ (count report (list ++ more)).number =
    number-of first more ∙ alike first report more (list ++ more) (sym right) f ∙ sym (number-of report (list ++ more)) in
    (same, λ z. counted first more (same ∙ z) ∙ f ∙ sym (counted report (list ++ more) z))

-- a list's report added is the list counted
plus-total : (report : List ℕ) (list : List Told) (h k : ℕ) → h < 24 → k < 4
    → total report h k + total (with empty list) h k ≡ total report h k + how_many (in_hour h k) list
plus-total report list h k p q = omega (arith, total-with empty list h k p q, empty-total h k p q)

plus-with : (report : List ℕ) (list : List Told) → plus report (with empty list) ≡ with report list
unfolding plus with
plus-with report list =
    same-tabled (λ h k. total report h k + total (with empty list) h k) (λ h k. total report h k + how_many (in_hour h k) list) (plus-total report list)

sums-as : (report : List ℕ) (list : List Told)
    → add report (with empty list) ≡ leaving (require (held (with report list)) 30) report (with report list)
unfolding add
sums-as report list = ap (λ (r : List ℕ). leaving (require (held r) 30) report r) (plus-with report list)

counts-as : (report : List ℕ) (list : List Told) → every hour_right list ≡ true
    → leaving (require (held (with report list)) 30) report (with report list) ≡ count report list
unfolding count first_of require pick
counts-as report list e = by-test (held (with report list)) (λ h. rw (e, h)) (λ h. rw (e, h))

pub added-is-counted : AddedIsCounted
added-is-counted report list e =
    ap (λ (r : List ℕ). add report r) (counted empty list e) ∙ sums-as report list ∙ counts-as report list (all_right empty list e)

pub joined : Joined
joined list more e f =
    let a : add (count empty list).report (count empty more).report ≡ count (count empty list).report more =
    added-is-counted (count empty list).report more f in
    let p = in_pieces empty list more e in
    (ap (λ (l : Left). l.number) a ∙ p.0, λ z. ap (λ (l : Left). l.report) a ∙ p.1 z)

-- THE RATE

one-divides : (d : ℕ) → 1 % d ≡ 0 → d ≡ 1
one-divides d q = eq-one_of_dvd-one (dvd_of_mod-eq-zero d q)

lowest-coprime : (c o d : ℕ) → (lowest c o).cuts % d ≡ 0 → (lowest c o).opened % d ≡ 0 → d ≡ 1
unfolding lowest pick
lowest-coprime c o d p q =
    by-test (eqb o 0) (λ e. one-divides d (rw e at q))
    (λ e.
    no-common c o (pos_of_ne-zero (eqb-false o 0 e)) d (dvd_of_mod-eq-zero d (rw e at p)) (dvd_of_mod-eq-zero d (rw e at q)))

pub lowest-terms : LowestTerms
lowest-terms report d p q =
    by-test (held report)
    (λ h. lowest-coprime (year report 1) (year report 0) d (rw (← rate-told report h) at p) (rw (← rate-told report h) at q))
    (λ h. one-divides d (rw (← rate-refused report h) at q))

-- a rate that is given is that of the year's totals
given : (report : List ℕ) → (rate report).number ≡ 0 → lowest (year report 1) (year report 0) ≡ rate report
given report e = by-test (held report) (λ h. rate-told report h) (λ h. let z : 30 ≡ 0 = rw (← rate-refused report h) at e in absurd (omega arith))

lowest-ratio : (c o : ℕ) → (o ≡ 0 → ⊥) → (lowest c o).cuts * o ≡ (lowest c o).opened * c
unfolding lowest pick
lowest-ratio c o s = rw (ne_eqb o 0 s) (same-ratio c o (pos_of_ne-zero s))

lowest-none : (c o : ℕ) → o ≡ 0 → ((lowest c o).cuts ≡ 0) × ((lowest c o).opened ≡ 1)
unfolding lowest pick
lowest-none c o s = rw (eq-eqb o 0 s) (refl, refl)

pub same-ratio-of : SameRatio
same-ratio-of report e s = rw (← given report e) (lowest-ratio (year report 1) (year report 0) s)

pub none-opened : NoneOpened
none-opened report e s = rw (← given report e) (lowest-none (year report 1) (year report 0) s)

-- NO SECOND ANSWER

one_left : (n m : ℕ) (r s : List ℕ) → leaves n r ≡ leaves m s → (n ≡ m) × (r ≡ s)
unfolding leaves
one_left n m r s e = (ap (λ (l : Left). l.number) e, ap (λ (l : Left). l.report) e)

pub one-count : OneCount
one-count report list n m r s p q = one_left n m r s (p ∙ sym q)

pub one-add : OneAdd
one-add report more n m r s p q = one_left n m r s (p ∙ sym q)

ratio_back : Rated → Ratio
ratio_back r = record { number = r.number; cuts = r.cuts; opened = r.opened }

ratio-back : (x : Ratio) → ratio_back (ratio_said x) ≡ x
unfolding ratio_back ratio_said
ratio-back x = refl

pub one-rate : OneRate
one-rate report x y p q = sym (ratio-back x) ∙ ap ratio_back (p ∙ sym q) ∙ ratio-back y

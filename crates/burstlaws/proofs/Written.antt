-- What a burst that is not refused writes: how many messages it takes, and that each notice has its whole length.
use mathlib.Core.Path.{◌≡◌, refl, sym, ap, ◌∙◌, subst}
use mathlib.Core.Bool.{Bool, true, ◌&&◌}
use mathlib.Core.List.{List, [], ◌∷◌, map}
use Prim.Native.Nat.{ℕ, zero, suc, ◌-◌, ◌*◌, ◌≤◌}
use native.Mathlib.Nat.{add-mul, zero-mul}
use native.Mathlib.Omega.{arith}
use borrow.Author.Tests.{eq-eqb, eqb-true, eqb-false, le-leb}
use lib.Dec.{eqb, leb}
use lib.ListN.{length, take, length-append, length-map}
use lib.Seq.{length-take-le}
use Rattle.octets.specs.Lists.{every, sum_of}
use Rattle.octets.proofs.Choice.{by-pick}
use Rattle.octets.proofs.Lists.{and_left, and_right, both, by-test}
use Rattle.message.specs.TheRooms.{answer_least, notice_length}
use Rattle.table.specs.TheTable.{Table}
use Rattle.rules.specs.Calls.{Call, handle, ran_first, run}
use Rattle.order.specs.Demand3.{Told, told}
use Rattle.order.proofs.Lists.{one-reply-each}
use Rattle.burst.specs.TheBurst.{Burst, Bursted, all_told, burst, burst_number, calls_of, how_many, joined, refused_burst}
use Rattle.order.proofs.Handled.{fine}
use Rattle.burst.proofs.Loop.{burst-goes, burst-refused}
use Rattle.burst.proofs.Steps.{go_on}
use Rattle.burstlaws.proofs.ToldEach.{Whole, form-on, number_is, told_of, whole-on}

-- REFUSED OR NOT

module _ (t : Table) (b : Burst) where
  pub not-refused : (burst t b).taken.number ≡ 0 → burst_number t b ≡ 0
  not-refused z = sym (number_is t b) ∙ z

  -- what holds of a refusal and of a burst that goes on holds of any
  pub by_number : (P : Bursted → Type 0) → P (refused_burst t b (burst_number t b)) → (burst_number t b ≡ 0 → P (go_on t b)) → P (burst t b)
  by_number P r g =
      by-test (eqb (burst_number t b) 0)
      (λ e. let z : burst_number t b ≡ 0 = eqb-true (burst_number t b) 0 e in subst P (sym (burst-goes t b z)) (g z))
      (λ e. subst P (burst-refused t b (burst_number t b) refl (eqb-false (burst_number t b) 0 e)) r)

-- HOW MANY

many-most : (f : ℕ) (xs : List Told) (a n : ℕ) → how_many f xs a n ≤ length xs
unfolding how_many
many-most f [] a n = omega arith
many-most f (x ∷ xs) a n =
    by-pick (λ (k : ℕ). k ≤ length (x ∷ xs)) (leb answer_least a && leb (notice_length f) n)
    (λ e. omega (arith, many-most f xs (a - length x.answer) (n - length x.notice)))
    (λ e. omega arith)

module _ (t : Table) (b : Burst) where
  -- how many are taken, and these as calls
  abbrev pub count : ℕ
  count = how_many t.form (all_told t b) (length b.answers) (length b.notices)

  abbrev pub first_calls : List Call
  first_calls = take count (calls_of t.form b)

  -- what they are told
  abbrev pub tolds : List Told
  tolds = map (told t.form) (run t first_calls).replies

  pub all_told_lem : length (all_told t b) ≡ length (calls_of t.form b)
  unfolding all_told
  all_told_lem = length-map (run t (calls_of t.form b)).replies (told t.form) ∙ one-reply-each t (calls_of t.form b)

  pub count_fits : count ≤ length (calls_of t.form b)
  count_fits = omega (arith, all_told_lem, many-most t.form (all_told t b) (length b.answers) (length b.notices))

  pub count-told : length tolds ≡ count
  count-told =
      length-map (run t first_calls).replies (told t.form)
      ∙ one-reply-each t first_calls
      ∙ length-take-le count (calls_of t.form b) count_fits

pub map-take : {A B : Type 0} (f : A → B) (k : ℕ) (xs : List A) → map f (take k xs) ≡ take k (map f xs)
map-take f zero xs = refl
map-take f (suc k) [] = refl
map-take {A} {B} f (suc k) (x ∷ xs) = ap {B = List B} (λ (l : List B). f x ∷ l) (map-take f k xs)

-- EACH NOTICE WHOLE

-- one cut at most, with a notice of the form's length, or none and no notice
unfoldable pub whole : (form : ℕ) → Told → Bool
whole f x = leb x.result.cut 1 && eqb (length x.notice) (x.result.cut * notice_length f)

is_whole : (f : ℕ) (x : Told) → x.result.cut ≤ 1 → Whole f x → whole f x ≡ true
unfolding whole
is_whole f x one w =
    let size : length x.notice ≡ x.result.cut * notice_length f =
    by-test (eqb x.result.cut 1)
    (λ e. rw (eqb-true x.result.cut 1 e) (w.notice-length e ∙ omega arith))
    (λ e.
    let none : x.result.cut ≡ 0 = omega (arith, one, eqb-false x.result.cut 1 e) in
    rw none (ap length (w.notice-none e) ∙ sym (zero-mul (notice_length f)))) in
    both (le-leb x.result.cut 1 one) (eq-eqb (length x.notice) (x.result.cut * notice_length f) size)

each-whole : (f : ℕ) (t : Table) → t.form ≡ f → (cs : List Call) → every (whole f) (told_of f t cs) ≡ true
unfolding run ran_first every told
each-whole f t e [] = refl
each-whole f t e (c ∷ cs) =
    both (is_whole f (told f (handle t c).reply) (fine t c).one-cut (whole-on f t e c)) (each-whole f (handle t c).table (form-on f t e c) cs)

pub tolds-whole : (t : Table) (b : Burst) → every (whole t.form) (tolds t b) ≡ true
tolds-whole t b = each-whole t.form t refl (first_calls t b)

-- so all of them together have as many bytes as the cuts need
pub notices-length : (f : ℕ) (xs : List Told) → every (whole f) xs ≡ true
    → length (joined (map (λ (x : Told). x.notice) xs)) ≡ sum_of (map (λ (x : Told). x.result.cut) xs) * notice_length f
unfolding joined sum_of every whole
notices-length f [] h = sym (zero-mul (notice_length f))
notices-length f (x ∷ xs) h =
    let here : whole f x ≡ true = and_left (whole f x) (every (whole f) xs) h in
    let size : length x.notice ≡ x.result.cut * notice_length f = eqb-true _ _ (and_right (leb x.result.cut 1) _ here) in
    let others : length (joined (map (λ (y : Told). y.notice) xs)) ≡ sum_of (map (λ (y : Told). y.result.cut) xs) * notice_length f =
    notices-length f xs (and_right (whole f x) (every (whole f) xs) h) in
    omega (
      arith,
      length-append x.notice (joined (map (λ (y : Told). y.notice) xs)),
      size,
      others,
      add-mul x.result.cut (sum_of (map (λ (y : Told). y.result.cut) xs)) (notice_length f),
    )

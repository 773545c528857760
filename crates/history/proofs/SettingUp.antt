-- Set-up, in between: a clearing leaves no tunnels, and entering and adding leave every subscriber's as they were. Every row stays wholly zero or sound.
use mathlib.Core.Path.{◌≡◌, refl, sym, ap, ◌∙◌}
use mathlib.Core.Bool.{Bool, true, false, ◌||◌, or-true}
use mathlib.Core.List.{List, [], ◌∷◌, ◌++◌, map}
use Prim.Native.Nat.{ℕ, zero, suc, ◌-◌, ◌*◌, ◌/◌, ◌<◌}
use native.Mathlib.Omega.{arith}
use borrow.Author.Tests.{eqb-false, eqb-true}
use lib.Dec.{eqb}
use lib.ListN.{length, get_or, set, take}
use Rattle.octets.specs.Choice.{within}
use Rattle.octets.specs.Lists.{every}
use Rattle.octets.specs.Texts.{all_zero, pieces, same, zeros}
use Rattle.octets.proofs.Choice.{by-pick}
use Rattle.octets.proofs.Lists.{and_left, and_right, by-test, within-high, within_low}
use Rattle.octets.proofs.Pieces.{drop-zeros}
use Rattle.table.specs.TheTable.{Access, Account, Entry, Found, Subscriber, Table, first_row, has_name, is_found, is_row_of, lookup, nothing, read_row, row, row_at, row_bytes, row_length, rows, table_number, width, with_row}
use Rattle.table.specs.Soundness.{sound}
use Rattle.table.proofs.Bytes.{length-row}
use Rattle.table.proofs.Good.{Good, good_access, standing as is_standing}
use Rattle.table.proofs.Rows.{first-table, form-with, found_alike, length-with_row, not-zero, nth-row, row-with, rows-with, whole-rows}
use Rattle.table.proofs.Sound.{says-good}
use Rattle.changes.specs.Changes.{named, with_entry}
use Rattle.setup.specs.SetUp.{SetUp, add, add_at, clear, enter, enter_number, entry_number, leaving, with_row_at}
use Rattle.setup.proofs.SetUps.{entry-passed}
use Rattle.rules.specs.Deciding.{entry_at, no_entry}
use Rattle.order.specs.OpenedFirst.{line_of, tunnel_of, tunnels}
use Rattle.order.specs.SettingUp.{Wrote}
use Rattle.order.proofs.Handling.{written}
use Rattle.order.proofs.Opening.{found_at, one-owner, passes_at, same-account}
use Rattle.order.proofs.Rest.{in_table}
use Rattle.order.proofs.Setting.{add-first, add_is, add-refused, add-writes, cleared-zero, enter-refused, enter-rows, enter-writes, entered-found, leaving-done, leaving-number, not-held}
use Rattle.history.specs.OrderOfOpening.{line_at, listed, standing}

-- TESTS

pub impossible : {P : Type 0} → true ≡ false → P
impossible e = let y : ◌≡◌ {A = ℕ} 0 1 = cc in absurd (omega arith)

or-first : {a : Bool} (b : Bool) → a ≡ true → a || b ≡ true
or-first b e = rw e

or-second : (a : Bool) {b : Bool} → b ≡ true → a || b ≡ true
or-second a e = rw e (or-true a)

-- EVERY ROW IS WHOLLY ZERO OR SOUND

abbrev pub Fine : Table → Type 0
Fine t = (i : ℕ) → all_zero (row_at t i) || sound (row_at t i) ≡ true

pub fine-same : (t u : Table) → u ≡ t → Fine t → Fine u
fine-same t u e h i = ap (λ (v : Table). all_zero (row_at v i) || sound (row_at v i)) e ∙ h i

pub fine-wrote : (t : Table) (i : ℕ) (says : Subscriber) (u : Table) → Wrote t i says u → Fine t → Fine u
fine-wrote t i says u w h j =
    by-test (eqb j i)
    (λ e. let q : j ≡ i = eqb-true j i e in or-second (all_zero (row_at u j)) (rw q w.sound-row))
    (λ e. ap (λ (r : List ℕ). all_zero r || sound r) (w.others-stay j (eqb-false j i e)) ∙ h j)

-- a row that is found is not wholly zero
one-first : (a : Account) (r : List ℕ) → is_row_of a r ≡ true → get_or r 0 0 ≡ 1
unfolding is_row_of has_name
one-first a r h = eqb-true (get_or r 0 0) 1 (and_left (eqb (get_or r 0 0) 1) _ (and_right (eqb (get_or r 19 0) a.operator) _ h))

used : (a : Account) (r : List ℕ) → is_row_of a r ≡ true → all_zero r ≡ false
used a [] h = let z : ◌≡◌ {A = ℕ} 0 1 = one-first a [] h in absurd (omega arith)
used a (x ∷ r) h = let one : x ≡ 1 = one-first a (x ∷ r) h in sym (not-zero (x ∷ r) (omega arith) (λ z. omega (arith, one, z)))

pub zero-unfound : (a : Account) (r : List ℕ) → all_zero r ≡ true → is_row_of a r ≡ false
zero-unfound a r z = by-test (is_row_of a r) (λ e. e ∙ sym z ∙ used a r e) (λ e. e)

-- so it is sound
pub found-sound : (t : Table) (a : Account) (i : ℕ) → Fine t → lookup t a ≡ row i → sound (row_at t i) ≡ true
found-sound t a i h e =
    let n : all_zero (row_at t i) ≡ false = used a (row_at t i) (found_at t a i e) in
    rw n at (h i)

-- CLEARING

zero-part : (j m : ℕ) → all_zero (take j (zeros m)) ≡ true
unfolding all_zero zeros same
zero-part zero m = refl
zero-part (suc j) zero = refl
zero-part (suc j) (suc m) = zero-part j m

zero-rows : (f n i : ℕ) → all_zero (row_at (record { form = f; bytes = zeros n }) i) ≡ true
unfolding row_at
zero-rows f n i = rw (drop-zeros (row_length f * i) n) (zero-part (row_length f) (n - row_length f * i))

module _ (t : Table) (z : (clear t).number ≡ 0) where
  cleared-row : (i : ℕ) → all_zero (row_at (clear t).table i) ≡ true
  cleared-row i = ap (λ (u : Table). all_zero (row_at u i)) (cleared-zero t z) ∙ zero-rows t.form (length t.bytes) i

  pub cleared-fine : Fine (clear t).table
  cleared-fine i = or-first (sound (row_at (clear t).table i)) (cleared-row i)

  pub cleared-form : (clear t).table.form ≡ t.form
  cleared-form = ap (λ (u : Table). u.form) (cleared-zero t z)

  cleared-found : (a : Account) (F : Found) → lookup (clear t).table a ≡ F → F ≡ nothing
  cleared-found a nothing e = refl
  cleared-found a (row i) e =
      impossible (sym (found_at (clear t).table a i e) ∙ zero-unfound a (row_at (clear t).table i) (cleared-row i))

  pub cleared-nothing : (a : Account) → lookup (clear t).table a ≡ nothing
  cleared-nothing a = cleared-found a (lookup (clear t).table a) refl

  pub cleared-line : (a : Account) → standing (clear t).table a ≡ []
  unfolding line_at
  cleared-line a = ap (line_at (clear t).table) (cleared-nothing a)

-- ONE ROW IS WRITTEN

-- the first that passes is the same, if the test says the same of the row that is put in place of another
first-set : (f : List ℕ → Bool) (rs : List (List ℕ)) (i : ℕ) (r : List ℕ) → f r ≡ f (get_or rs i []) → first_row f (set rs i r) ≡ first_row f rs
unfolding first_row
first-set f [] i r e = refl
first-set f (x ∷ rs) zero r e = rw e
first-set f (x ∷ rs) (suc i) r e = rw (first-set f rs i r e)

module _ (t : Table) (good : table_number t ≡ 0) (i : ℕ) (there : i < length t.bytes / width t) (r : List ℕ) (full : length r ≡ width t) where
  pub rows-after : rows (with_row t i r) ≡ set (rows t) i r
  unfolding rows
  rows-after =
      let n : ℕ = length t.bytes / width t in
      let size : length t.bytes ≡ width t * n = whole-rows t good in
      rw (form-with t i r)
      (ap (λ (k : ℕ). pieces (width t) (k / width t) (with_row t i r).bytes) (length-with_row n t size i there r full)
      ∙ rows-with n t size i there r full)

  pub row_before : get_or (rows t) i [] ≡ row_at t i
  unfolding rows
  row_before = nth-row (length t.bytes / width t) t (whole-rows t good) i there

  look-with : (b : Account) → is_row_of b r ≡ is_row_of b (row_at t i) → lookup (with_row t i r) b ≡ lookup t b
  unfolding lookup
  look-with b e =
      ap (first_row (is_row_of b)) rows-after ∙ first-set (is_row_of b) (rows t) i r (e ∙ ap (is_row_of b) (sym row_before))

-- where the lookup finds the same row, and that row has the same line, the same tunnels stand
pub same-standing : (t u : Table) (b : Account) → lookup u b ≡ lookup t b → ((j : ℕ) → lookup t b ≡ row j → map listed (line_of u j) ≡ map listed (line_of t j)) → standing u b ≡ standing t b
same-standing t u b e h = ap (line_at u) e ∙ by-found (lookup t b) refl
  where
    by-found : (F : Found) → lookup t b ≡ F → line_at u F ≡ line_at t F
    by-found nothing l = unfold line_at in refl
    by-found (row j) l = unfold line_at in h j l

line_other : (t : Table) (i : ℕ) (says : Subscriber) (u : Table) → Wrote t i says u → (j : ℕ) → (j ≡ i → ⊥) → map listed (line_of u j) ≡ map listed (line_of t j)
line_other t i says u w j ne = ap (λ (r : List ℕ). map listed (tunnels (read_row r))) (w.others-stay j ne)

-- where the table stays
still : (n : ℕ) (t : Table) → (leaving n t t).table ≡ t
unfolding leaving
still n t = by-pick (λ (u : Table). u ≡ t) (eqb n 0) (λ e. refl) (λ e. refl)

pub not_found : (F : Found) → is_found F ≡ false → F ≡ nothing
unfolding is_found
not_found nothing e = refl
not_found (row i) e = impossible e

-- ENTERING

pub data EnterWent (t : Table) (shares : List ℕ) (a : Account) : Type 0 where
  stayed-enter : (enter t shares a).table ≡ t → EnterWent t shares a
  wrote-enter : (i : ℕ) → (enter t shares a).number ≡ 0 → first_row all_zero (rows t) ≡ row i → EnterWent t shares a

module _ (t : Table) (shares : List ℕ) (a : Account) where
  enter-found : (enter t shares a).number ≡ 0 → (F : Found) → first_row all_zero (rows t) ≡ F → EnterWent t shares a
  unfolding enter with_row_at
  enter-found h nothing e = stayed-enter (rw e (still (enter_number t shares a) t))
  enter-found h (row i) e = wrote-enter i h e

  pub enter-went : EnterWent t shares a
  enter-went =
      by-test (eqb (enter t shares a).number 0)
      (λ e. enter-found (eqb-true _ 0 e) (first_row all_zero (rows t)) refl)
      (λ e. stayed-enter (enter-refused t shares a e))

  fine-went : Fine t → EnterWent t shares a → Fine (enter t shares a).table
  fine-went h (stayed-enter e) = fine-same t _ e h
  fine-went h (wrote-enter i z e) = fine-wrote t i (named a) _ (enter-writes t shares a i z e) h

  pub fine-enter : Fine t → Fine (enter t shares a).table
  fine-enter h = fine-went h enter-went

  form-went : EnterWent t shares a → (enter t shares a).table.form ≡ t.form
  form-went (stayed-enter e) = ap (λ (u : Table). u.form) e
  form-went (wrote-enter i z e) = (enter-writes t shares a i z e).same-form

  pub form-enter : (enter t shares a).table.form ≡ t.form
  form-enter = form-went enter-went

  module _ (i : ℕ) (z : (enter t shares a).number ≡ 0) (e : first_row all_zero (rows t) ≡ row i) where
    abbrev pub after : Table
    after = (enter t shares a).table

    pub none-failed : enter_number t shares a ≡ 0
    unfolding enter
    none-failed = sym (leaving-number (enter_number t shares a) t _) ∙ z

    pub after_is : after ≡ with_row t i (row_bytes t.form (named a))
    unfolding enter with_row_at
    after_is = rw (leaving-done (enter_number t shares a) t _ none-failed, e)

    pub good : table_number t ≡ 0
    good = enter-rows t shares a none-failed

    pub inside : i < length t.bytes / width t
    inside = in_table all_zero t i e

    pub was-zero : all_zero (row_at t i) ≡ true
    was-zero = passes_at all_zero t i e

    pub row_new : row_at after i ≡ row_bytes t.form (named a)
    row_new = ap (λ (u : Table). row_at u i) after_is ∙ row-with (length t.bytes / width t) t (whole-rows t good) i inside (row_bytes t.form (named a)) (length-row t.form (named a))

    -- the account that enters had no row, and has a row without tunnels
    new_line : standing after a ≡ []
    unfolding line_at tunnels named
    new_line = ap (line_at after) (entered-found t shares a i z e) ∙ ap (λ (s : Subscriber). map listed (tunnels s)) (enter-writes t shares a i z e).row-says

    no_line : standing t a ≡ []
    unfolding line_at
    no_line = ap (line_at t) (not_found (lookup t a) (not-held t shares a none-failed))

    -- no other finds the new row
    own-enter : (b : Account) → is_row_of b (row_at after i) ≡ true → standing after b ≡ standing t b
    own-enter b o =
        let q : b ≡ a = same-account b a (one-owner b a (row_at after i) o (found_at after a i (entered-found t shares a i z e))) in
        rw q (new_line ∙ sym no_line)

    other-enter : (b : Account) → is_row_of b (row_at after i) ≡ false → standing after b ≡ standing t b
    other-enter b o =
        let old : is_row_of b (row_at t i) ≡ false = zero-unfound b (row_at t i) was-zero in
        let new : is_row_of b (row_bytes t.form (named a)) ≡ false = ap (is_row_of b) (sym row_new) ∙ o in
        let look : lookup after b ≡ lookup t b =
        ap (λ (u : Table). lookup u b) after_is ∙ look-with t good i inside (row_bytes t.form (named a)) (length-row t.form (named a)) b (new ∙ sym old) in
        same-standing t after b look
        (λ j l. line_other t i (named a) after (enter-writes t shares a i z e) j (λ q. impossible (sym (found_at t b j l) ∙ ap (λ (k : ℕ). is_row_of b (row_at t k)) q ∙ old)))

    wrote-line : (b : Account) → standing after b ≡ standing t b
    wrote-line b = by-test (is_row_of b (row_at after i)) (own-enter b) (other-enter b)

  line-went : (b : Account) → EnterWent t shares a → standing (enter t shares a).table b ≡ standing t b
  line-went b (stayed-enter e) = ap (λ (u : Table). standing u b) e
  line-went b (wrote-enter i z e) = wrote-line i z e b

  pub line-enter : (b : Account) → standing (enter t shares a).table b ≡ standing t b
  line-enter b = line-went b enter-went

-- ADDING

-- what was entered before stays what it was, and with it the labels of the tunnels
earlier-stays : (es : List Entry) (e : Entry) (i : ℕ) → i < length es → get_or (es ++ (e ∷ [])) i no_entry ≡ get_or es i no_entry
earlier-stays [] e i h = absurd (omega arith)
earlier-stays (x ∷ es) e zero h = refl
earlier-stays (x ∷ es) e (suc i) h = earlier-stays es e i (omega arith)

more-tunnels : (fm : ℕ) (s : Subscriber) (e : Entry) (xs : List Access) → every (good_access fm (length s.entries)) xs ≡ true → map (tunnel_of (with_entry e s)) xs ≡ map (tunnel_of s) xs
unfolding every tunnel_of entry_at with_entry
more-tunnels fm s e [] h = refl
more-tunnels fm s e (x ∷ xs) h =
    let w : within 1 (length s.entries) x.entry ≡ true = (is_standing _ x (and_left (good_access fm (length s.entries) x) _ h)).entry_in in
    rw (earlier-stays s.entries e (x.entry - 1) (omega (arith, within_low 1 _ _ w, within-high 1 _ _ w)), more-tunnels fm s e xs (and_right (good_access fm (length s.entries) x) _ h))

same-tunnels : {fm : ℕ} (s : Subscriber) (e : Entry) → Good fm s → tunnels (with_entry e s) ≡ tunnels s
unfolding tunnels with_entry
same-tunnels {fm} s e g = more-tunnels fm s e s.accesses g.accesses-good.each

pub data AddWent (t : Table) (a : Account) (e : Entry) : Type 0 where
  stayed-add : (add t a e).table ≡ t → AddWent t a e
  wrote-add : (i : ℕ) → (add t a e).number ≡ 0 → lookup t a ≡ row i → AddWent t a e

module _ (t : Table) (a : Account) (e : Entry) where
  add-found : (add t a e).number ≡ 0 → (F : Found) → lookup t a ≡ F → AddWent t a e
  unfolding add add_at
  add-found h nothing l = stayed-add (rw l (by-pick (λ (s : SetUp). s.table ≡ t) _ (λ z. still 12 t) (λ z. still _ t)))
  add-found h (row i) l = wrote-add i h l

  pub add-went : AddWent t a e
  add-went =
      by-test (eqb (add t a e).number 0)
      (λ z. add-found (eqb-true _ 0 z) (lookup t a) refl)
      (λ z. stayed-add (add-refused t a e z))

  fine-added : Fine t → AddWent t a e → Fine (add t a e).table
  fine-added h (stayed-add s) = fine-same t _ s h
  fine-added h (wrote-add i z l) = fine-wrote t i _ _ (add-writes t a e i z l) h

  pub fine-add : Fine t → Fine (add t a e).table
  fine-add h = fine-added h add-went

  form-added : AddWent t a e → (add t a e).table.form ≡ t.form
  form-added (stayed-add s) = ap (λ (u : Table). u.form) s
  form-added (wrote-add i z l) = (add-writes t a e i z l).same-form

  pub form-add : (add t a e).table.form ≡ t.form
  form-add = form-added add-went

  module _ (i : ℕ) (z : (add t a e).number ≡ 0) (l : lookup t a ≡ row i) where
    abbrev pub then : Table
    then = (add t a e).table

    abbrev pub before : Subscriber
    before = read_row (row_at t i)

    abbrev pub more : List ℕ
    more = row_bytes t.form (with_entry e before)

    is-left : add t a e ≡ leaving (entry_number (row_at t i) e) t (with_row t i more)
    is-left = add_is t a e i (add-first t a e z) l

    may : entry_number (row_at t i) e ≡ 0
    may = sym (leaving-number (entry_number (row_at t i) e) t (with_row t i more)) ∙ ap (λ (s : SetUp). s.number) (sym is-left) ∙ z

    pub then_is : then ≡ with_row t i more
    then_is = ap (λ (s : SetUp). s.table) is-left ∙ leaving-done (entry_number (row_at t i) e) t (with_row t i more) may

    was-sound : sound (row_at t i) ≡ true
    was-sound = (entry-passed (row_at t i) e may).is-sound

    pub found-as-before : (b : Account) → is_row_of b more ≡ is_row_of b (row_at t i)
    unfolding with_entry
    found-as-before b = found_alike b more (row_at t i) (written t.form (row_at t i) (with_entry e before) was-sound refl).bearer

    looks-same : (b : Account) → lookup then b ≡ lookup t b
    unfolding lookup
    looks-same b =
        ap (λ (u : Table). lookup u b) then_is
        ∙ look-with t (first-table t a.operator (add-first t a e z)) i (in_table (is_row_of a) t i l) more (length-row t.form (with_entry e before)) b (found-as-before b)

    line-here : map listed (line_of then i) ≡ map listed (line_of t i)
    line-here =
        ap (λ (s : Subscriber). map listed (tunnels s)) (add-writes t a e i z l).row-says
        ∙ ap (map listed) (same-tunnels before e (says-good (row_at t i) was-sound))

    added-line : (b : Account) → standing then b ≡ standing t b
    added-line b =
        same-standing t then b (looks-same b)
        (λ j k. by-test (eqb j i)
        (λ q. let p : j ≡ i = eqb-true j i q in rw p line-here)
        (λ q. line_other t i (with_entry e before) then (add-writes t a e i z l) j (eqb-false j i q)))

  line-added : (b : Account) → AddWent t a e → standing (add t a e).table b ≡ standing t b
  line-added b (stayed-add s) = ap (λ (u : Table). standing u b) s
  line-added b (wrote-add i z l) = added-line i z l b

  pub line-add : (b : Account) → standing (add t a e).table b ≡ standing t b
  line-add b = line-added b add-went

-- From table to table: what operations that were seen make of one subscriber's line and of its counts, one after another.
use mathlib.Core.Path.{◌≡◌, refl, sym, ap, ◌∙◌, subst}
use mathlib.Core.Bool.{Bool, true, ◌&&◌, ◌||◌, or-true}
use mathlib.Core.List.{List, [], ◌∷◌, ◌++◌, map}
use Prim.Native.Nat.{ℕ, suc, ◌≤◌}
use native.Mathlib.Omega.{arith}
use borrow.Author.Tests.{eqb-false, eqb-true}
use lib.Dec.{eqb}
use lib.ListN.{take}
use Rattle.octets.specs.Choice.{pick}
use Rattle.octets.specs.Lists.{distinct, keep}
use Rattle.octets.specs.Texts.{all_zero, same}
use Rattle.octets.proofs.Lists.{by-test}
use Rattle.message.specs.ReadingAMessage.{Ask}
use Rattle.table.specs.TheTable.{Account, Found, Table, lookup, nothing, read_row, row, row_at}
use Rattle.table.specs.Soundness.{sound}
use Rattle.table.proofs.Sound.{says-good}
use Rattle.setup.specs.SetUp.{clear}
use Rattle.rules.specs.Calls.{Call, handle, ran_first, run}
use Rattle.order.specs.Demand2.{request_in}
use Rattle.order.specs.Demand3.{Told, is_of, subscriber, told}
use Rattle.order.specs.OpenedFirst.{Tunnel, label_asked}
use Rattle.order.proofs.Lists.{form-stays}
use Rattle.order.proofs.Opening.{unsound-row-stays}
use Rattle.order.proofs.Rest.{sound-stays-sound}
use Rattle.order.proofs.Setting.{clear-refused}
use Rattle.burst.specs.TheBurst.{Burst, Bursted, burst, calls_of, refused_burst}
use Rattle.burstlaws.specs.AnyOrder.{tolds}
use Rattle.burstlaws.specs.BurstsRules.{taken_calls, told_all}
use Rattle.burstlaws.proofs.AnyOrder.{told-one-by-one}
use Rattle.burstlaws.proofs.NothingElse.{refused-stays}
use Rattle.burstlaws.proofs.OneByOne.{one_by_one}
use Rattle.history.specs.Histories.{Event, Operation, adding, answered, asking, bursting, cleared, clearing, done, each_answered, entering, past, seen_burst, seen_clearing, seen_first, seen_request, unseen}
use Rattle.history.specs.OrderOfOpening.{line_after, line_at, line_from, on_name, standing, tunnel_cut}
use Rattle.history.specs.EachCounted.{count_from, cuts, ends, is_on, opens}
use Rattle.history.proofs.Asking.{Asked, asked, asks, once-listed}
use Rattle.history.proofs.Counting.{Balanced, keeps}
use Rattle.history.proofs.OneRow.{rows-add, rows-call, rows-cleared, rows-enter, rows_for}
use Rattle.history.proofs.Taking.{sids}
use Rattle.history.proofs.SettingUp.{Fine, cleared-fine, cleared-form, cleared-line, fine-add, fine-enter, fine-same, form-add, found-sound, form-enter, line-add, line-enter}

-- EVERY CUT SO FAR TOOK THE FIRST, event by event

module _ (f : ℕ) (a : Account) where
  abbrev pub CutFirst : (line : List Tunnel) → Call → Told → Type 0
  CutFirst line c x =
      is_of f (subscriber a) c ≡ true → x.result.cut ≡ 1 → take 1 (on_name (label_asked (request_in c).ask) line) ≡ tunnel_cut (label_asked (request_in c).ask) x ∷ []

  abbrev pub after : (line : List Tunnel) → Call → Told → List Tunnel
  after line c x = pick (is_of f (subscriber a) c) (line_after f (request_in c).ask x line) line

  -- no Session-Id stands twice
  abbrev pub Once : List Tunnel → Type 0
  Once line = distinct same (sids line) ≡ true

  unfoldable pub CutsFirst : (line : List Tunnel) → List Event → Type 0
  CutsFirst line [] = Unit {0}
  CutsFirst line (cleared ∷ es) = CutsFirst [] es
  CutsFirst line (answered c x ∷ es) = CutFirst line c x × (Once (after line c x) × CutsFirst (after line c x) es)

  -- one list behind another
  pub line-append : (line : List Tunnel) (es fs : List Event) → line_from f a line (es ++ fs) ≡ line_from f a (line_from f a line es) fs
  unfolding line_from
  line-append line [] fs = refl
  line-append line (cleared ∷ es) fs = line-append [] es fs
  line-append line (answered c x ∷ es) fs = line-append (after line c x) es fs

  cuts-append : (line : List Tunnel) (es fs : List Event) → CutsFirst line es → CutsFirst (line_from f a line es) fs → CutsFirst line (es ++ fs)
  unfolding CutsFirst line_from
  cuts-append line [] fs h k = k
  cuts-append line (cleared ∷ es) fs h k = cuts-append [] es fs h k
  cuts-append line (answered c x ∷ es) fs h k = (h.0, (h.1.0, cuts-append (after line c x) es fs h.1.1 k))

  count-append : (p : Ask → Told → Bool) (l : List ℕ) (n : ℕ) (es fs : List Event) → count_from p f a l n (es ++ fs) ≡ count_from p f a l (count_from p f a l n es) fs
  unfolding count_from
  count-append p l n [] fs = refl
  count-append p l n (cleared ∷ es) fs = count-append p l _ es fs
  count-append p l n (answered c x ∷ es) fs = count-append p l (pick (is_on f a l c && p (request_in c).ask x) (suc n) n) es fs

  -- FROM ONE TABLE TO ANOTHER

  pub record Goes (l : List ℕ) (t : Table) (es : List Event) (u : Table) : Type 0 where
    pub same-form : u.form ≡ t.form
    pub rows-fine : Fine t → Fine u
    pub one-row : rows_for a t ≤ 1 → rows_for a u ≤ 1
    pub line-is : line_from f a (standing t a) es ≡ standing u a
    pub cuts_first : Fine t → CutsFirst (standing t a) es
    pub balances : (n m k : ℕ) → Balanced l (standing t a) n m k
        → Balanced l (standing u a) (count_from opens f a l n es) (count_from cuts f a l m es) (count_from ends f a l k es)

  -- the same tunnels stand, and nothing was seen
  pub goes-unseen : (l : List ℕ) (t u : Table) → u.form ≡ t.form → (Fine t → Fine u) → (rows_for a t ≤ 1 → rows_for a u ≤ 1) → standing u a ≡ standing t a → Goes l t [] u
  unfolding line_from CutsFirst count_from
  goes-unseen l t u e h r s =
      record {
        same-form = e;
        rows-fine = h;
        one-row = r;
        line-is = sym s;
        cuts_first = λ h. tt;
        balances = λ n m k b. subst (λ (line : List Tunnel). Balanced l line n m k) (sym s) b;
      }

  pub goes_same : (l : List ℕ) (t u : Table) → u ≡ t → Goes l t [] u
  goes_same l t u e = goes-unseen l t u (ap (λ (v : Table). v.form) e) (fine-same t u e) (subst (λ (v : Table). rows_for a v ≤ 1) (sym e)) (ap (λ (v : Table). standing v a) e)

  -- one behind another
  pub goes_on : (l : List ℕ) (t u v : Table) (es fs : List Event) → Goes l t es u → Goes l u fs v → Goes l t (es ++ fs) v
  goes_on l t u v es fs x y =
      record {
        same-form = y.same-form ∙ x.same-form;
        rows-fine = λ h. y.rows-fine (x.rows-fine h);
        one-row = λ h. y.one-row (x.one-row h);
        line-is = line-append (standing t a) es fs ∙ ap (λ (line : List Tunnel). line_from f a line fs) x.line-is ∙ y.line-is;
        cuts_first = λ h. cuts-append (standing t a) es fs (x.cuts_first h) (subst (λ (line : List Tunnel). CutsFirst line fs) (sym x.line-is) (y.cuts_first (x.rows-fine h)));
        balances = λ n m k b.
            rw (count-append opens l n es fs, count-append cuts l m es fs, count-append ends l k es fs)
            (y.balances (count_from opens f a l n es) (count_from cuts f a l m es) (count_from ends f a l k es) (x.balances n m k b));
      }

-- A REQUEST

-- in a table of which every row is wholly zero or sound
once-found : (t : Table) (a : Account) → Fine t → (F : Found) → lookup t a ≡ F → distinct same (sids (line_at t F)) ≡ true
unfolding line_at distinct
once-found t a h nothing e = refl
once-found t a h (row i) e = once-listed (read_row (row_at t i)) (says-good (row_at t i) (found-sound t a i h e))

once-standing : (t : Table) (a : Account) → Fine t → distinct same (sids (standing t a)) ≡ true
once-standing t a h = once-found t a h (lookup t a) refl

fine-call : (t : Table) (c : Call) → Fine t → Fine (handle t c).table
unfolding run ran_first
fine-call t c h i =
    by-test (sound (row_at t i))
    (λ e. let s : sound (row_at (handle t c).table i) ≡ true = sound-stays-sound t c i e in rw s (or-true (all_zero (row_at (handle t c).table i))))
    (λ e. ap (λ (r : List ℕ). all_zero r || sound r) (unsound-row-stays t (c ∷ []) i e) ∙ h i)

module _ (a : Account) (l : List ℕ) (t : Table) (c : Call) where
  counted-call : (n m k : ℕ) → Asked t c a → Balanced l (standing t a) n m k
      → Balanced l (standing (handle t c).table a)
      (count_from opens t.form a l n (answered c (told t.form (handle t c).reply) ∷ []))
      (count_from cuts t.form a l m (answered c (told t.form (handle t c).reply) ∷ []))
      (count_from ends t.form a l k (answered c (told t.form (handle t c).reply) ∷ []))
  unfolding count_from is_on pick
  counted-call n m k x b =
      by-test (is_of t.form (subscriber a) c)
      (λ e. let step : standing (handle t c).table a ≡ line_after t.form (asks c) (told t.form (handle t c).reply) (standing t a) = x.line-is ∙ rw e in
      rw (e, step) (keeps t.form (asks c) (told t.form (handle t c).reply) (standing t a) l (x.changed-so e) n m k b))
      (λ e. let step : standing (handle t c).table a ≡ standing t a = x.line-is ∙ rw e in
      rw (e, step) b)

  pub goes-call : Goes t.form a l t (answered c (told t.form (handle t c).reply) ∷ []) (handle t c).table
  unfolding line_from CutsFirst run ran_first
  goes-call =
      let x : Asked t c a = asked t c a in
      record {
        same-form = form-stays t (c ∷ []);
        rows-fine = fine-call t c;
        one-row = λ h. omega (arith, h, rows-call a t c);
        line-is = sym x.line-is;
        cuts_first = λ h. (x.first-cut, (subst (λ (line : List Tunnel). distinct same (sids line) ≡ true) x.line-is (once-standing (handle t c).table a (fine-call t c h)), tt));
        balances = λ n m k b. counted-call n m k x b;
      }

-- SEVERAL, one after another

pub goes-run : (a : Account) (l : List ℕ) (f : ℕ) (t : Table) (cs : List Call) → t.form ≡ f
    → Goes f a l t (each_answered cs (map (told f) (run t cs).replies)) (run t cs).table
unfolding run ran_first each_answered
goes-run a l f t [] e = goes_same f a l t t refl
goes-run a l f t (c ∷ cs) e =
    let u : Table = (handle t c).table in
    let x : Goes f a l t (answered c (told f (handle t c).reply) ∷ []) u =
    subst (λ (g : ℕ). Goes g a l t (answered c (told g (handle t c).reply) ∷ []) u) e (goes-call a l t c) in
    goes_on f a l t u (run u cs).table (answered c (told f (handle t c).reply) ∷ []) (each_answered cs (map (told f) (run u cs).replies)) x
    (goes-run a l f u cs (x.same-form ∙ e))

-- A BURST

module _ (a : Account) (l : List ℕ) (t : Table) (b : Burst) where
  goes-taken : (burst t b).taken.number ≡ 0 → Goes t.form a l t (each_answered (taken_calls t b) (tolds t.form (burst t b))) (burst t b).table
  unfolding told_all
  goes-taken z =
      rw (told-one-by-one t b z, (one_by_one t b (taken_calls t b) z refl).table) (goes-run a l t.form t (taken_calls t b) refl)

  pub none-taken : ((burst t b).taken.number ≡ 0 → ⊥) → each_answered (taken_calls t b) (tolds t.form (burst t b)) ≡ []
  unfolding taken_calls each_answered refused_burst
  none-taken z = ap (λ (x : Bursted). each_answered (take x.taken.messages (calls_of t.form b)) (tolds t.form (burst t b))) (refused-stays t b z)

  stays_put : ((burst t b).taken.number ≡ 0 → ⊥) → (burst t b).table ≡ t
  unfolding refused_burst
  stays_put z = ap (λ (x : Bursted). x.table) (refused-stays t b z)

  pub goes-burst : Goes t.form a l t (each_answered (taken_calls t b) (tolds t.form (burst t b))) (burst t b).table
  goes-burst =
      by-test (eqb (burst t b).taken.number 0)
      (λ e. goes-taken (eqb-true _ 0 e))
      (λ e. let z : (burst t b).taken.number ≡ 0 → ⊥ = eqb-false _ 0 e in
      subst (λ (es : List Event). Goes t.form a l t es (burst t b).table) (sym (none-taken z)) (goes_same t.form a l t (burst t b).table (stays_put z)))

-- A CLEARING

module _ (a : Account) (l : List ℕ) (t : Table) where
  goes-cleared : (clear t).number ≡ 0 → Goes t.form a l t (cleared ∷ []) (clear t).table
  unfolding line_from CutsFirst count_from on_name keep
  goes-cleared z =
      record {
        same-form = cleared-form t z;
        rows-fine = λ h. cleared-fine t z;
        one-row = λ h. omega (arith, rows-cleared a t z);
        line-is = sym (cleared-line t z a);
        cuts_first = λ h. tt;
        balances = λ n m k b. rw (cleared-line t z a);
      }

  goes-clearing : Goes t.form a l t (pick (eqb (clear t).number 0) (cleared ∷ []) []) (clear t).table
  unfolding pick
  goes-clearing =
      by-test (eqb (clear t).number 0)
      (λ e. rw e (goes-cleared (eqb-true _ 0 e)))
      (λ e. rw e (goes_same t.form a l t (clear t).table (clear-refused t e)))

-- ANY OPERATION, AND ANY HISTORY

pub goes : (a : Account) (l : List ℕ) (t : Table) (x : Operation) → Goes t.form a l t (done t x).events (done t x).table
unfolding done seen_clearing unseen seen_request seen_burst
goes a l t clearing = goes-clearing a l t
goes a l t (entering shares b) = goes-unseen t.form a l t _ (form-enter t shares b) (fine-enter t shares b) (rows-enter a t shares b) (line-enter t shares b a)
goes a l t (adding b e) = goes-unseen t.form a l t _ (form-add t b e) (fine-add t b e) (λ h. omega (arith, h, rows-add a t b e)) (line-add t b e a)
goes a l t (asking c) = goes-call a l t c
goes a l t (bursting b) = goes-burst a l t b

pub goes-past : (a : Account) (l : List ℕ) (f : ℕ) (t : Table) (xs : List Operation) → t.form ≡ f → Goes f a l t (past t xs).events (past t xs).table
unfolding past seen_first
goes-past a l f t [] e = goes_same f a l t t refl
goes-past a l f t (x ∷ xs) e =
    let u : Table = (done t x).table in
    let y : Goes f a l t (done t x).events u = subst (λ (g : ℕ). Goes g a l t (done t x).events u) e (goes a l t x) in
    goes_on f a l t u (past u xs).table (done t x).events (past u xs).events y (goes-past a l f u xs (y.same-form ∙ e))

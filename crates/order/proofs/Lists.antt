-- A list of calls on a table is the list on its rows; from there to demand 3.
use mathlib.Core.Path.{◌≡◌, refl, sym, ap, ◌∙◌, subst}
use mathlib.Core.Bool.{false}
use mathlib.Core.List.{List, [], ◌∷◌, map}
use Prim.Native.Nat.{ℕ, suc, ◌*◌, ◌/◌}
use borrow.Author.Tests.{eqb-true}
use lib.Dec.{eqb}
use lib.ListN.{length, get_or}
use Rattle.octets.specs.Choice.{pick}
use Rattle.octets.specs.Lists.{keep}
use Rattle.octets.proofs.Lists.{by-test}
use Rattle.octets.proofs.Pieces.{joined, join-pieces, length-pieces}
use Rattle.octets.specs.Texts.{pieces}
use Rattle.message.specs.ReadingAMessage.{Reading, refused, request}
use Rattle.table.specs.TheTable.{Account, Found, Table, row, nothing, later, first_row, lookup, rows, row_length, width, table_number, is_row_of}
use Rattle.table.proofs.Rows.{nth-row, whole-rows}
use Rattle.rules.specs.Calls.{Call, Reply, Left, silent, refusal, on_reading, handle, ran_first, run}
use Rattle.order.specs.Demand3.{Subject, nobody, subscriber, same_subject, subject, sent_by, is_of, calls_of, replies_of, Record, absent, bytes, record_at, record_of, own_number}
use Rattle.order.specs.Demand3.{FormStays, OneReplyEach, EachInTurn, LastTable, RepliesAlone, RecordAlone, LookupStays, NobodysReply, NobodyChangesNothing, NobodysReplies}
use Rattle.order.proofs.Finding.{finds, subject-eq}
use Rattle.order.proofs.Handling.{act, says, lost, lost_on, read_in, rows_of, stable, silence, tab, ans, Agrees, one-call, handle-good, handle-bad, There, there}
use Rattle.order.proofs.Alone as A

-- ONE BY ONE

pub one-reply-each : OneReplyEach
unfolding run ran_first
one-reply-each t [] = refl
one-reply-each t (c ∷ cs) = ap suc (one-reply-each (handle t c).table cs)

pub each-in-turn : EachInTurn
unfolding run ran_first
each-in-turn t [] c after = refl
each-in-turn t (b ∷ before) c after = ap (λ (rs : List Reply). (handle t b).reply ∷ rs) (each-in-turn (handle t b).table before c after)

pub last-table : LastTable
unfolding run ran_first
last-table t [] c = refl
last-table t (b ∷ before) c = last-table (handle t b).table before c

-- A TABLE THAT NUMBER 1 REFUSES

module _ (t : Table) (bad : eqb (table_number t) 0 ≡ false) where
  bad-table : (cs : List Call) → (run t cs).table ≡ t
  unfolding run ran_first silent
  bad-table [] = refl
  bad-table (c ∷ cs) = rw (handle-bad t c bad) (bad-table cs)

  pub bad-replies : (cs : List Call) → (run t cs).replies ≡ map (λ (c : Call). silence c (table_number t)) cs
  unfolding run ran_first silent silence
  bad-replies [] = refl
  bad-replies (c ∷ cs) = rw (handle-bad t c bad, bad-replies cs)

replies-map : (fm : ℕ) (f : Call → Reply) (who : Subject) (cs : List Call) → replies_of fm who cs (map f cs) ≡ map f (calls_of fm who cs)
unfolding replies_of calls_of keep pick
replies-map fm f who [] = refl
replies-map fm f who (c ∷ cs) = by-test (is_of fm who c) (λ e. rw (e, replies-map fm f who cs)) (λ e. rw (e, replies-map fm f who cs))

-- A TABLE OF ROWS

abbrev runs : (fm : ℕ) → List (List ℕ) → List Call → List (List ℕ)
runs fm = A.runs fm (act fm) (says fm) (lost fm)

abbrev outs : (fm : ℕ) → List (List ℕ) → List Call → List Reply
outs fm = A.outs fm (act fm) (says fm) (lost fm)

abbrev record_in : (fm : ℕ) → Subject → List (List ℕ) → Record
record_in fm = A.record_in fm (act fm) (says fm) (lost fm)

number-by-length : (t u : Table) → t.form ≡ u.form → length t.bytes ≡ length u.bytes → table_number t ≡ table_number u
unfolding table_number
number-by-length t u f e = rw (f, e)

-- what the list of calls leaves, of n rows, in a table of the form
pub record Runs (fm n : ℕ) (t : Table) (cs : List Call) : Type 0 where
  pub form-is : (run t cs).table.form ≡ fm
  pub size : length (run t cs).table.bytes ≡ length t.bytes
  pub rows_are : pieces (row_length fm) n (run t cs).table.bytes ≡ runs fm (pieces (row_length fm) n t.bytes) cs
  pub replies-are : (run t cs).replies ≡ outs fm (pieces (row_length fm) n t.bytes) cs

run_on : (fm n : ℕ) (t : Table) (cs : List Call) → t.form ≡ fm → table_number t ≡ 0 → length t.bytes / row_length fm ≡ n → Runs fm n t cs
unfolding run ran_first A.runs A.outs
run_on fm n t [] f h e = record { form-is = f; size = refl; rows_are = refl; replies-are = refl }
run_on fm n t (c ∷ cs) f h e =
    let many : length t.bytes / width t ≡ n = ap (λ (m : ℕ). length t.bytes / row_length m) f ∙ e in
    let one : Agrees n t c (handle t c) = rw many at (one-call t h c) in
    let u : Table = (handle t c).table in
    let rows-one : pieces (row_length fm) n u.bytes ≡ tab fm (pieces (row_length fm) n t.bytes) c =
    subst (λ (m : ℕ). pieces (row_length m) n u.bytes ≡ tab m (pieces (row_length m) n t.bytes) c) f one.rows_are in
    let reply-one : (handle t c).reply ≡ ans fm (pieces (row_length fm) n t.bytes) c =
    subst (λ (m : ℕ). (handle t c).reply ≡ ans m (pieces (row_length m) n t.bytes) c) f one.reply-is in
    let rest : Runs fm n u cs =
    run_on fm n u cs (one.form-is ∙ f) (number-by-length u t one.form-is one.size ∙ h) (ap (λ (l : ℕ). l / row_length fm) one.size ∙ e) in
    record {
      form-is = rest.form-is;
      size = rest.size ∙ one.size;
      rows_are = rest.rows_are ∙ ap (λ (rs : List (List ℕ)). runs fm rs cs) rows-one;
      replies-are = rw (reply-one, rest.replies-are, rows-one);
    }

-- the record that the lookup finds, among the rows
held_at : Found → List (List ℕ) → Record
held_at nothing rs = absent
held_at (row i) rs = bytes (get_or rs i [])

held-later : (F : Found) (r : List ℕ) (rs : List (List ℕ)) → held_at (later F) (r ∷ rs) ≡ held_at F rs
unfolding held_at later
held-later nothing r rs = refl
held-later (row i) r rs = refl

record-found : (fm : ℕ) (who : Account) (rs : List (List ℕ)) → record_in fm (subscriber who) rs ≡ held_at (first_row (is_row_of who) rs) rs
unfolding A.record_in finds first_row held_at pick
record-found fm who [] = refl
record-found fm who (r ∷ rs) =
    by-test (is_row_of who r)
    (λ e. rw e)
    (λ e. rw (e, held-later (first_row (is_row_of who) rs) r rs) (record-found fm who rs))

record-cut : (n : ℕ) (t : Table) → length t.bytes ≡ width t * n → (F : Found) → There F n → record_at t F ≡ held_at F (rows_of n t)
unfolding record_at held_at There
record-cut n t size nothing l = refl
record-cut n t size (row i) l = ap bytes (sym (nth-row n t size i l))

record_is : (n : ℕ) (t : Table) (who : Account) → length t.bytes ≡ width t * n → length t.bytes / width t ≡ n → record_of who t ≡ record_in t.form (subscriber who) (rows_of n t)
unfolding record_of lookup rows
record_is n t who size e =
    let l : There (first_row (is_row_of who) (rows_of n t)) n = rw (length-pieces (width t) n t.bytes) at (there (is_row_of who) (rows_of n t)) in
    rw e (record-cut n t size (first_row (is_row_of who) (rows_of n t)) l ∙ sym (record-found t.form who (rows_of n t)))

-- no call changes where a row is found
find-tab : (fm : ℕ) (who : Account) (c : Call) (rs : List (List ℕ)) → first_row (is_row_of who) (tab fm rs c) ≡ first_row (is_row_of who) rs
unfolding A.tab first_row finds pick
find-tab fm who c [] = refl
find-tab fm who c (r ∷ rs) =
    by-test (finds (subject fm c) r)
    (λ e. rw e (rw (stable fm (subscriber who) c r)))
    (λ e. rw (e, find-tab fm who c rs))

find_runs : (fm : ℕ) (who : Account) (cs : List Call) (rs : List (List ℕ)) → first_row (is_row_of who) (runs fm rs cs) ≡ first_row (is_row_of who) rs
unfolding A.runs
find_runs fm who [] rs = refl
find_runs fm who (c ∷ cs) rs = find_runs fm who cs (tab fm rs c) ∙ find-tab fm who c rs

-- ANY TABLE

module _ (t : Table) (good : table_number t ≡ 0) where
  abbrev count : ℕ
  count = length t.bytes / width t

  pub ran : (cs : List Call) → Runs t.form count t cs
  ran cs = run_on t.form count t cs refl good refl

  size-after : (cs : List Call) → length (run t cs).table.bytes ≡ width t * count
  size-after cs = (ran cs).size ∙ whole-rows t good

  good-replies : (cs : List Call) (who : Subject) → replies_of t.form who cs (run t cs).replies ≡ (run t (calls_of t.form who cs)).replies
  good-replies cs who =
      rw ((ran cs).replies-are, (ran (calls_of t.form who cs)).replies-are)
      (A.same-answers t.form (act t.form) (says t.form) (lost t.form) (stable t.form) who cs (rows_of count t) (rows_of count t) refl)

  record-after : (who : Account) (cs : List Call) → record_of who (run t cs).table ≡ record_in t.form (subscriber who) (runs t.form (rows_of count t) cs)
  record-after who cs =
      let u : Table = (run t cs).table in
      let f : u.form ≡ t.form = (ran cs).form-is in
      let is : record_of who u ≡ record_in u.form (subscriber who) (rows_of count u) =
      record_is count u who (rw f (size-after cs)) (rw f (ap (λ (l : ℕ). l / width t) (ran cs).size)) in
      (rw f at is) ∙ ap (record_in t.form (subscriber who)) (ran cs).rows_are

  good-record : (cs : List Call) (who : Account) → record_of who (run t cs).table ≡ record_of who (run t (calls_of t.form (subscriber who) cs)).table
  good-record cs who =
      record-after who cs
      ∙ A.same-record t.form (act t.form) (says t.form) (lost t.form) (stable t.form) (subscriber who) cs (rows_of count t) (rows_of count t) refl
      ∙ sym (record-after who (calls_of t.form (subscriber who) cs))

  good-lookup : (cs : List Call) (who : Account) → lookup (run t cs).table who ≡ lookup t who
  unfolding lookup rows
  good-lookup cs who =
      let u : Table = (run t cs).table in
      rw (ran cs).form-is
      (ap (λ (l : ℕ). first_row (is_row_of who) (pieces (width t) (l / width t) u.bytes)) (ran cs).size
      ∙ ap (first_row (is_row_of who)) (ran cs).rows_are
      ∙ find_runs t.form who cs (rows_of count t))

  -- the bytes of the table, from its rows
  bytes_after : (cs : List Call) → joined (pieces (width t) count (run t cs).table.bytes) ≡ (run t cs).table.bytes
  bytes_after cs = join-pieces (width t) count (run t cs).table.bytes (size-after cs)

  good-table : (cs ds : List Call) → ((who : Account) → calls_of t.form (subscriber who) cs ≡ calls_of t.form (subscriber who) ds) → (run t cs).table ≡ (run t ds).table
  good-table cs ds h =
      let b : (run t cs).table.bytes ≡ (run t ds).table.bytes =
      sym (bytes_after cs)
      ∙ ap joined ((ran cs).rows_are ∙ A.same_rows t.form (act t.form) (says t.form) (lost t.form) (stable t.form) (rows_of count t) cs ds h ∙ sym (ran ds).rows_are)
      ∙ bytes_after ds in
      let f : (run t cs).table.form ≡ (run t ds).table.form = (ran cs).form-is ∙ sym (ran ds).form-is in
      λ i. record { form = f i; bytes = b i }

pub form-stays : FormStays
form-stays t cs =
    by-test (eqb (table_number t) 0)
    (λ e. (ran t (eqb-true (table_number t) 0 e) cs).form-is)
    (λ e. ap (λ (u : Table). u.form) (bad-table t e cs))

pub replies-alone : RepliesAlone
replies-alone t cs who =
    by-test (eqb (table_number t) 0)
    (λ e. good-replies t (eqb-true (table_number t) 0 e) cs who)
    (λ e. rw (bad-replies t e cs, bad-replies t e (calls_of t.form who cs)) (replies-map t.form (λ (c : Call). silence c (table_number t)) who cs))

pub record-alone : RecordAlone
record-alone t cs who =
    by-test (eqb (table_number t) 0)
    (λ e. good-record t (eqb-true (table_number t) 0 e) cs who)
    (λ e. ap (record_of who) (bad-table t e cs ∙ sym (bad-table t e (calls_of t.form (subscriber who) cs))))

pub lookup-stays : LookupStays
lookup-stays t cs who =
    by-test (eqb (table_number t) 0)
    (λ e. good-lookup t (eqb-true (table_number t) 0 e) cs who)
    (λ e. ap (λ (u : Table). lookup u who) (bad-table t e cs))

-- two lists in which each subscriber's calls are equal
pub equal-calls : (t : Table) (cs ds : List Call) → ((who : Account) → calls_of t.form (subscriber who) cs ≡ calls_of t.form (subscriber who) ds) → (run t cs).table ≡ (run t ds).table
equal-calls t cs ds h =
    by-test (eqb (table_number t) 0)
    (λ e. good-table t (eqb-true (table_number t) 0 e) cs ds h)
    (λ e. bad-table t e cs ∙ sym (bad-table t e ds))

-- NOBODY

-- what a call of nobody gets, by its own number and what was read
nobody-reading : (t : Table) (c : Call) (g : Reading) → sent_by c.operator g ≡ nobody → (on_reading t c g) ≡ record { reply = lost_on t.form c g; table = t }
unfolding on_reading sent_by lost_on refusal
nobody-reading t c (refused code) h = refl
nobody-reading t c (request q) h = cc

nobody-good : (t : Table) (c : Call) → table_number t ≡ 0 → subject t.form c ≡ nobody → handle t c ≡ record { reply = lost t.form c; table = t }
unfolding subject lost silent silence pick
nobody-good t c good h =
    by-test (eqb (own_number t.form c) 0)
    (λ e. rw (handle-good t c good, e) (nobody-reading t c (read_in t.form c) (rw e at h)))
    (λ e. rw (handle-good t c good, e))

pub nobody-changes-nothing : NobodyChangesNothing
unfolding silent
nobody-changes-nothing t c h =
    by-test (eqb (table_number t) 0)
    (λ e. ap (λ (l : Left). l.table) (nobody-good t c (eqb-true (table_number t) 0 e) h))
    (λ e. ap (λ (l : Left). l.table) (handle-bad t c e))

pub nobodys-reply : NobodysReply
unfolding silent
nobodys-reply t u c h f l =
    let n : table_number t ≡ table_number u = number-by-length t u f l in
    let k : subject u.form c ≡ nobody = rw f at h in
    by-test (eqb (table_number t) 0)
    (λ e. let z : table_number t ≡ 0 = eqb-true (table_number t) 0 e in
    ap (λ (l : Left). l.reply) (nobody-good t c z h) ∙ ap (λ (m : ℕ). lost m c) f ∙ sym (ap (λ (l : Left). l.reply) (nobody-good u c (sym n ∙ z) k)))
    (λ e. ap (λ (l : Left). l.reply) (handle-bad t c e) ∙ ap (λ (i : ℕ). (silent u c i).reply) n ∙ sym (ap (λ (l : Left). l.reply) (handle-bad u c (rw n at e))))

-- nobody's calls alone leave the table
alone-nobody : (t : Table) (cs : List Call) → (run t (calls_of t.form nobody cs)).replies ≡ map (λ (c : Call). (handle t c).reply) (calls_of t.form nobody cs)
unfolding run ran_first calls_of keep is_of pick
alone-nobody t [] = refl
alone-nobody t (c ∷ cs) =
    by-test (same_subject (subject t.form c) nobody)
    (λ e. rw (e, nobody-changes-nothing t c (subject-eq (subject t.form c) nobody e), alone-nobody t cs))
    (λ e. rw e (alone-nobody t cs))

pub nobodys-replies : NobodysReplies
nobodys-replies t cs = replies-alone t cs nobody ∙ alone-nobody t cs

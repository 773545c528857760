-- Demand 3 whatever stands in the rooms: the table after a call and what it is told depend on its rooms only as to whether they
-- are large enough. So every call may be given rooms of zeros instead; calls that bring the same are then equal.
use mathlib.Core.Path.{◌≡◌, refl, sym, ap, ap₂, ◌∙◌, fun_ext, subst}
use mathlib.Core.Bool.{Bool, true, false, ◌&&◌}
use mathlib.Core.List.{List, [], ◌∷◌, ◌++◌, map}
use Prim.Native.Nat.{ℕ, ◌≤◌}
use native.Mathlib.Nat.{zero-add}
use native.Mathlib.Omega.{arith}
use borrow.Author.Tests.{le-leb, lt-leb}
use lib.Dec.{eqb, leb}
use lib.ListN.{length, take, drop, length-append}
use lib.Seq.{take_at}
use Rattle.octets.specs.Choice.{pick, require, first_of, within}
use Rattle.octets.specs.Lists.{keep}
use Rattle.octets.specs.Texts.{zeros, put}
use Rattle.octets.proofs.Choice.{by-pick}
use Rattle.octets.proofs.Lists.{by-test}
use Rattle.octets.proofs.Texts.{length-zeros, length-filled, put-nothing}
use Rattle.message.specs.TheRooms.{answer_least, notice_length}
use Rattle.message.specs.Codes.{Code, plain, user_unknown}
use Rattle.message.specs.CallsThatGetNoAnswer.{message_number}
use Rattle.message.specs.ReadingAMessage.{Request, Reading, refused, request, read}
use Rattle.message.specs.WritingTheAnswer.{answer, answer_room}
use Rattle.table.specs.TheTable.{Access, Found, Table, row, nothing, lookup, row_at, read_row, table_number}
use Rattle.table.specs.Soundness.{sound}
use Rattle.changes.proofs.Steps.{keep-map}
use Rattle.rules.specs.Deciding.{Verdict, decide}
use Rattle.rules.specs.Calls.{account, Call, Left, Reply, notice_bytes, call_number, silent, notice_room, result_of, reply, refusal, settled, most_policies, on_row, on_reading, handle, Ran, ran_first, run}
use Rattle.order.specs.Demand2.{place_taken, request_in, said}
use Rattle.order.specs.Demand3.{Subject, subscriber, same_subject, own_number, sent_by, nobody, subject, is_of, calls_of, record_of, Brought, brought, Told, told, SameLeft, RoomsOf}
use Rattle.order.specs.Demand3.{NoticeTold, SameBrought, SameTable, SameReplies, SameRecord}
use Rattle.order.proofs.Checks.{success-reply}
use Rattle.order.proofs.Handling.{read_in}
use Rattle.order.proofs.Lists.{equal-calls, form-stays, replies-alone, record-alone}

-- WHAT AN ANSWERED CALL IS TOLD, and what its rooms hold then

answer_of : Brought → Code → List ℕ
answer_of b code = answer b.message b.host b.realm code

cut_bytes : (form : ℕ) → List Access → List ℕ
cut_bytes f [] = []
cut_bytes f (a ∷ others) = notice_bytes f a

-- a notice has the length of its form
pub length_cut : (f : ℕ) (a : Access) → length (notice_bytes f a) ≡ notice_length f
unfolding notice_bytes notice_length pick
length_cut f a =
    by-test (eqb f 2)
    (λ e. rw e (simp (length-append, length-filled)))
    (λ e. rw e (simp (length-append, length-filled)))

module _ (room s : List ℕ) (n : ℕ) (e : length s ≡ n) where
  put_first : s ++ drop n room ≡ put room 0 s
  unfolding put
  put_first = rw (← e, zero-add)

  take_put : take n (put room 0 s) ≡ s
  unfolding put
  take_put = take_at s _ n e

module _ (f : ℕ) (c : Call) (code : Code) (place : ℕ) where
  answer-after : (cut : List Access) → (reply f c code place cut).answer ≡ put c.answer 0 (answer_of (brought f c) code)
  unfolding reply answer_room answer_of brought
  answer-after cut = put_first c.answer (answer_of (brought f c) code) _ refl

  notice-after : (cut : List Access) → (reply f c code place cut).notice ≡ put c.notice 0 (cut_bytes f cut)
  unfolding reply notice_room cut_bytes
  notice-after [] = sym (put-nothing c.notice 0)
  notice-after (a ∷ others) = put_first c.notice (notice_bytes f a) (notice_length f) (length_cut f a)

  length-is : (cut : List Access) → (reply f c code place cut).result.length ≡ length (answer_of (brought f c) code)
  unfolding reply result_of answer_of brought
  length-is [] = refl
  length-is (a ∷ others) = refl

  told-answer : (cut : List Access) → (told f (reply f c code place cut)).answer ≡ answer_of (brought f c) code
  unfolding told
  told-answer cut = ap (take (reply f c code place cut).result.length) (answer-after cut) ∙ take_put c.answer (answer_of (brought f c) code) _ (sym (length-is cut))

  told-notice : (cut : List Access) → (told f (reply f c code place cut)).notice ≡ cut_bytes f cut
  unfolding told reply result_of cut_bytes pick
  told-notice [] = refl
  told-notice (a ∷ others) = ap (take (notice_length f)) (notice-after (a ∷ others)) ∙ take_put c.notice (notice_bytes f a) (notice_length f) (length_cut f a)

  rooms-reply : (cut : List Access) → RoomsOf f c (reply f c code place cut)
  rooms-reply cut =
      record {
        answer = answer-after cut ∙ ap (put c.answer 0) (sym (told-answer cut));
        notice = notice-after cut ∙ ap (put c.notice 0) (sym (told-notice cut));
      }

-- all that is told, by what the call brings
told_of : (form : ℕ) → Brought → Code → ℕ → List Access → Told
told_of f b code place cut = record { result = result_of (length (answer_of b code)) place code cut; answer = answer_of b code; notice = cut_bytes f cut }

told_is : (f : ℕ) (c : Call) (code : Code) (place : ℕ) (cut : List Access) → told f (reply f c code place cut) ≡ told_of f (brought f c) code place cut
unfolding told_of told reply answer_of brought
told_is f c code place cut i = record { result = (reply f c code place cut).result; answer = told-answer f c code place cut i; notice = told-notice f c code place cut i }

-- A CALL: the rooms afterwards

rooms-silent : (t : Table) (c : Call) (n : ℕ) → RoomsOf t.form c (silent t c n).reply
unfolding silent told pick
rooms-silent t c n = record { answer = sym (put-nothing c.answer 0); notice = sym (put-nothing c.notice 0) }

module _ (t : Table) (c : Call) where
  abbrev Roomed : Left → Type 0
  Roomed l = RoomsOf t.form c l.reply

  rooms-row : (q : Request) (F : Found) → Roomed (on_row t c q F)
  unfolding on_row refusal settled
  rooms-row q nothing = rooms-reply t.form c user_unknown 0 []
  rooms-row q (row i) = by-pick Roomed (sound (row_at t i)) (λ h. rooms-reply t.form c _ _ _) (λ h. rooms-reply t.form c (plain 5012) 0 [])

  rooms-reading : (g : Reading) → Roomed (on_reading t c g)
  unfolding on_reading refusal
  rooms-reading (refused code) = rooms-reply t.form c (plain code) 0 []
  rooms-reading (request q) = rooms-row q (lookup t (account c q))

  pub rooms-after : RoomsOf t.form c (handle t c).reply
  unfolding handle
  rooms-after = by-pick Roomed (eqb (call_number t c) 0) (λ h. rooms-reading (read_in t.form c)) (λ h. rooms-silent t c (call_number t c))

-- the notice of a cut, whole
pub notice-told : NoticeTold
unfolding cut_bytes
notice-told t c a s e =
    let place : ℕ = place_taken (request_in c).ask (said t c) in
    ap (λ (r : Reply). (told t.form r).notice) (success-reply t c s ∙ ap (reply t.form c (plain 2001) place) e)
    ∙ told-notice t.form c (plain 2001) place (a ∷ [])

-- A CALL: what else it leaves depends on what it brings

-- the tests 33 and 2 to 8
tests : Brought → List ℕ
tests b =
    require (leb b.operator 15) 33
    ∷ require (within 1 128 (length b.host) && within 1 128 (length b.realm)) 2
    ∷ require b.answer_fits 3
    ∷ require b.notice_fits 4
    ∷ message_number b.message
    ∷ []

module _ (t : Table) (c d : Call) (e : brought t.form c ≡ brought t.form d) where
  same_number : call_number t c ≡ call_number t d
  unfolding call_number tests brought
  same_number = ap (λ (b : Brought). first_of (table_number t ∷ tests b)) e

  same-message : c.message ≡ d.message
  unfolding brought
  same-message = ap (λ (b : Brought). b.message) e

  same-operator : c.operator ≡ d.operator
  unfolding brought
  same-operator = ap (λ (b : Brought). b.operator) e

  same_word : c.wag ≡ d.wag
  unfolding brought
  same_word = ap (λ (b : Brought). b.wag) e

  same-told : (code : Code) (place : ℕ) (cut : List Access) → told t.form (reply t.form c code place cut) ≡ told t.form (reply t.form d code place cut)
  same-told code place cut = told_is t.form c code place cut ∙ ap (λ (b : Brought). told_of t.form b code place cut) e ∙ sym (told_is t.form d code place cut)

  same-silent : (n : ℕ) → SameLeft t.form (silent t c n) (silent t d n)
  unfolding silent told pick
  same-silent n = record { table = refl; reply = refl }

  same-refusal : (code : Code) → SameLeft t.form (refusal t c code) (refusal t d code)
  unfolding refusal
  same-refusal code = record { table = refl; reply = same-told code 0 [] }

  same-settled : (i : ℕ) (v : Verdict) → SameLeft t.form (settled t c i v) (settled t d i v)
  unfolding settled
  same-settled i v = record { table = refl; reply = same-told v.code v.place v.cut }

  same_row : (q : Request) (F : Found) → SameLeft t.form (on_row t c q F) (on_row t d q F)
  unfolding on_row pick
  same_row q nothing = same-refusal user_unknown
  same_row q (row i) =
      by-test (sound (row_at t i))
      (λ h. rw h (subst (λ (w : Bool). SameLeft t.form (settled t c i (decide t.form q.ask c.wag (read_row (row_at t i)))) (settled t d i (decide t.form q.ask w (read_row (row_at t i))))) same_word (same-settled i _)))
      (λ h. rw h (same-refusal (plain 5012)))

  same-reading : (g : Reading) → SameLeft t.form (on_reading t c g) (on_reading t d g)
  unfolding on_reading account
  same-reading (refused code) = same-refusal (plain code)
  same-reading (request q) =
      subst (λ (o : ℕ). SameLeft t.form (on_row t c q (lookup t (account c q))) (on_row t d q (lookup t (record { operator = o; name = q.user })))) same-operator (same_row q (lookup t (account c q)))

  pub brought-decides : SameLeft t.form (handle t c) (handle t d)
  unfolding handle pick
  brought-decides =
      by-test (eqb (call_number t d) 0)
      (λ h. rw (same_number, h) (subst (λ (m : List ℕ). SameLeft t.form (on_reading t c (read_in t.form c)) (on_reading t d (read (most_policies t.form) m))) same-message (same-reading (read_in t.form c))))
      (λ h. rw (same_number, h) (same-silent (call_number t d)))

-- A LIST OF CALLS

pub record SameRan (form : ℕ) (r s : Ran) : Type 0 where
  pub table : r.table ≡ s.table
  pub replies : map (told form) r.replies ≡ map (told form) s.replies

pub same-run : (t : Table) (cs ds : List Call) → map (brought t.form) cs ≡ map (brought t.form) ds → SameRan t.form (run t cs) (run t ds)
unfolding run ran_first
same-run t [] [] h = record { table = refl; replies = refl }
same-run t [] (d ∷ ds) h = absurd (omega (arith, ap length h))
same-run t (c ∷ cs) [] h = absurd (omega (arith, ap length h))
same-run t (c ∷ cs) (d ∷ ds) h =
    let e : brought t.form c ≡ brought t.form d = cc in
    let es : map (brought t.form) cs ≡ map (brought t.form) ds = cc in
    let one : SameLeft t.form (handle t c) (handle t d) = brought-decides t c d e in
    let u : Table = (handle t d).table in
    let f : u.form ≡ t.form = form-stays t (d ∷ []) in
    let rest : SameRan t.form (run u cs) (run u ds) =
    subst (λ (g : ℕ). SameRan g (run u cs) (run u ds)) f (same-run u cs ds (subst (λ (g : ℕ). map (brought g) cs ≡ map (brought g) ds) (sym f) es)) in
    rw one.table (record { table = rest.table; replies = ap₂ (λ (r : Told) (rs : List Told). r ∷ rs) one.reply rest.replies })

-- THE CALLS OF ONE SUBJECT, by what they bring

of_brought : (fm : ℕ) → Subject → Brought → Bool
of_brought fm who b = same_subject (pick (eqb (first_of (tests b)) 0) (sent_by b.operator (read (most_policies fm) b.message)) nobody) who

brought-of : (fm : ℕ) (who : Subject) (cs : List Call) → map (brought fm) (calls_of fm who cs) ≡ keep (of_brought fm who) (map (brought fm) cs)
unfolding calls_of is_of subject own_number tests of_brought brought
brought-of fm who cs = sym (keep-map (brought fm) (of_brought fm who) cs)

pub same_of : (fm : ℕ) (who : Subject) (cs ds : List Call) → map (brought fm) cs ≡ map (brought fm) ds → SameBrought fm who cs ds
same_of fm who cs ds h = brought-of fm who cs ∙ ap (keep (of_brought fm who)) h ∙ sym (brought-of fm who ds)

-- CALLS WITH ROOMS OF ZEROS, or with none where they are not large enough

room_of : Bool → ℕ → List ℕ
room_of fits n = pick fits (zeros n) []

room_fits : (fits : Bool) (n : ℕ) → 1 ≤ n → leb n (length (room_of fits n)) ≡ fits
unfolding room_of pick
room_fits true n h = rw (length-zeros n) (le-leb n n (omega arith))
room_fits false n h = lt-leb n 0 (omega arith)

roomed : (fm : ℕ) → Brought → Call
roomed fm b =
    record {
      operator = b.operator;
      message = b.message;
      host = b.host;
      realm = b.realm;
      answer = room_of b.answer_fits answer_least;
      notice = room_of b.notice_fits (notice_length fm);
      wag = b.wag;
    }

notice-some : (fm : ℕ) → 1 ≤ notice_length fm
unfolding notice_length
notice-some fm = by-pick (λ (n : ℕ). 1 ≤ n) (eqb fm 2) (λ e. omega arith) (λ e. omega arith)

roomed-brings : (fm : ℕ) (b : Brought) → brought fm (roomed fm b) ≡ b
unfolding brought roomed
roomed-brings fm b = rw (room_fits b.answer_fits answer_least (omega arith), room_fits b.notice_fits (notice_length fm) (notice-some fm))

abbrev zeroed : (fm : ℕ) → List Call → List Call
zeroed fm cs = map (roomed fm) (map (brought fm) cs)

zeroed-bring : (fm : ℕ) (cs : List Call) → map (brought fm) (zeroed fm cs) ≡ map (brought fm) cs
zeroed-bring fm [] = refl
zeroed-bring fm (c ∷ cs) = rw (roomed-brings fm (brought fm c), zeroed-bring fm cs)

roomed-is : (fm : ℕ) (who : Subject) (b : Brought) → is_of fm who (roomed fm b) ≡ of_brought fm who b
unfolding is_of subject own_number tests of_brought brought
roomed-is fm who b = ap (of_brought fm who) (roomed-brings fm b)

zeroed-of : (fm : ℕ) (who : Subject) (cs : List Call) → calls_of fm who (zeroed fm cs) ≡ zeroed fm (calls_of fm who cs)
unfolding calls_of
zeroed-of fm who cs =
    keep-map (roomed fm) (is_of fm who) (map (brought fm) cs)
    ∙ ap (λ (f : Brought → Bool). map (roomed fm) (keep f (map (brought fm) cs))) (fun_ext (roomed-is fm who))
    ∙ ap (map (roomed fm)) (sym (brought-of fm who cs))

zeroed-same : (fm : ℕ) (who : Subject) (cs ds : List Call) → SameBrought fm who cs ds → calls_of fm who (zeroed fm cs) ≡ calls_of fm who (zeroed fm ds)
zeroed-same fm who cs ds h = zeroed-of fm who cs ∙ ap (map (roomed fm)) h ∙ sym (zeroed-of fm who ds)

-- DEMAND 3

pub same-table : SameTable
same-table t cs ds h =
    sym (same-run t (zeroed t.form cs) cs (zeroed-bring t.form cs)).table
    ∙ equal-calls t (zeroed t.form cs) (zeroed t.form ds) (λ name. zeroed-same t.form (subscriber name) cs ds (h name))
    ∙ (same-run t (zeroed t.form ds) ds (zeroed-bring t.form ds)).table

pub same-replies : SameReplies
same-replies t cs ds who h =
    ap (map (told t.form)) (replies-alone t cs who) ∙ (same-run t (calls_of t.form who cs) (calls_of t.form who ds) h).replies ∙ ap (map (told t.form)) (sym (replies-alone t ds who))

pub same-record : SameRecord
same-record t cs ds name h =
    record-alone t cs name
    ∙ ap (record_of name) (same-run t (calls_of t.form (subscriber name) cs) (calls_of t.form (subscriber name) ds) h).table
    ∙ sym (record-alone t ds name)

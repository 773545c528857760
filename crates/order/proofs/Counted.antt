-- Demand 3 for a subscriber's calls together with refused ones that are counted as that subscriber's.
use mathlib.Core.Path.{◌≡◌, refl, sym, ap, ◌∙◌}
use mathlib.Core.Bool.{Bool, true, false}
use mathlib.Core.List.{List, [], ◌∷◌, map}
use Prim.Native.Nat.{ℕ, zero, suc, ◌/◌}
use native.Mathlib.Omega.{arith}
use borrow.Author.Tests.{eqb-true, eq-eqb}
use lib.Dec.{eqb}
use lib.ListN.{length, take}
use Rattle.octets.specs.Choice.{pick, first_of}
use Rattle.octets.specs.Lists.{keep}
use Rattle.octets.proofs.Choice.{first_passes, others-pass}
use Rattle.octets.proofs.Lists.{by-test}
use Rattle.message.specs.ReadingAMessage.{read, reading_code, list_code, command, avps, user_name, value_of, request_of}
use Rattle.table.specs.TheTable.{Account, Table, table_number, width}
use Rattle.rules.specs.Calls.{Call, Reply, most_policies, run}
use Rattle.order.specs.Demand3.{Subject, nobody, subscriber, same_subject, subject, sent_by, is_of, calls_of, record_of, own_number, Counting, name_read, sender, is_by, calls_by, replies_by, brought, told, SameBrought, SameBroughtBy}
use Rattle.order.specs.Demand3.{SubjectCounts, SenderCounts, NoSender, RepliesAloneBy, RecordAloneBy, SameTableBy, SameRepliesBy, SameRecordBy}
use Rattle.order.proofs.Finding.{subject-eq, subject-refl}
use Rattle.order.proofs.Handling.{act, says, lost, read_in, rows_of, stable, silence}
use Rattle.order.proofs.Lists.{bad-replies, ran, record-alone}
use Rattle.order.proofs.Rooms.{same-run, same_of, same-table, same-record}
use Rattle.order.proofs.Alone as A

-- a part of a part
keep-inside : (f g : Call → Bool) → ((c : Call) → g c ≡ false → f c ≡ false) → (cs : List Call) → keep f (keep g cs) ≡ keep f cs
unfolding keep pick
keep-inside f g h [] = refl
keep-inside f g h (c ∷ cs) =
    by-test (g c)
    (λ e. rw (e, keep-inside f g h cs))
    (λ e. rw (e, h c e, keep-inside f g h cs))

replies-map : (f : Call → Reply) (owner : Call → Subject) (who : Subject) (cs : List Call) → replies_by owner who cs (map f cs) ≡ map f (calls_by owner who cs)
unfolding replies_by calls_by keep pick
replies-map f owner who [] = refl
replies-map f owner who (c ∷ cs) = by-test (is_by owner who c) (λ e. rw (e, replies-map f owner who cs)) (λ e. rw (e, replies-map f owner who cs))

module _ (fm : ℕ) (owner : Call → Subject) (counts : Counting fm owner) (mine : Account) where
  abbrev who : Subject
  who = subscriber mine

  -- each of the subscriber's calls is counted
  all : (c : Call) → is_by owner who c ≡ false → same_subject (subject fm c) who ≡ false
  unfolding is_by
  all c f =
      by-test (same_subject (subject fm c) who)
      (λ e. let p : owner c ≡ who = counts c mine (subject-eq (subject fm c) who e) in
      let z : same_subject (owner c) who ≡ true = rw p (subject-refl who) in
      cc)
      (λ e. e)

  -- and beside them only nobody's
  by-subject : (c : Call) (s : Subject) → subject fm c ≡ s → owner c ≡ who → same_subject s who ≡ false → s ≡ nobody
  by-subject c nobody e o f = refl
  by-subject c (subscriber n) e o f =
      let p : subscriber n ≡ who = sym (counts c n e) ∙ o in
      let z : same_subject (subscriber n) who ≡ true = rw p (subject-refl who) in
      cc

  others : (c : Call) → is_by owner who c ≡ true → same_subject (subject fm c) who ≡ false → subject fm c ≡ nobody
  unfolding is_by
  others c f e = by-subject c (subject fm c) refl (subject-eq (owner c) who f) e

  inside : (cs : List Call) → calls_of fm who (calls_by owner who cs) ≡ calls_of fm who cs
  unfolding calls_of calls_by is_of
  inside cs = keep-inside _ (is_by owner who) all cs

  -- what the subscriber's calls bring, by what the counted ones do
  pub same-inside : (cs ds : List Call) → SameBroughtBy fm owner who cs ds → SameBrought fm who cs ds
  same-inside cs ds h =
      ap (map (brought fm)) (sym (inside cs)) ∙ same_of fm who (calls_by owner who cs) (calls_by owner who ds) h ∙ ap (map (brought fm)) (inside ds)

module _ (t : Table) (owner : Call → Subject) (counts : Counting t.form owner) (mine : Account) (good : table_number t ≡ 0) where
  good-replies : (cs : List Call) → replies_by owner (subscriber mine) cs (run t cs).replies ≡ (run t (calls_by owner (subscriber mine) cs)).replies
  good-replies cs =
      rw ((ran t good cs).replies-are, (ran t good (calls_by owner (subscriber mine) cs)).replies-are)
      (A.same-answers-by t.form (act t.form) (says t.form) (lost t.form) (stable t.form) (subscriber mine) owner (all t.form owner counts mine) (others t.form owner counts mine) cs
      (rows_of (length t.bytes / width t) t) (rows_of (length t.bytes / width t) t) refl)

pub replies-alone-by : RepliesAloneBy
replies-alone-by t owner counts cs mine =
    by-test (eqb (table_number t) 0)
    (λ e. good-replies t owner counts mine (eqb-true (table_number t) 0 e) cs)
    (λ e. rw (bad-replies t e cs, bad-replies t e (calls_by owner (subscriber mine) cs)) (replies-map (λ (c : Call). silence c (table_number t)) owner (subscriber mine) cs))

pub record-alone-by : RecordAloneBy
record-alone-by t owner counts cs mine =
    record-alone t cs mine
    ∙ ap (λ (ds : List Call). record_of mine (run t ds).table) (sym (inside t.form owner counts mine cs))
    ∙ sym (record-alone t (calls_by owner (subscriber mine) cs) mine)

pub same-table-by : SameTableBy
same-table-by t owner counts cs ds h =
    same-table t cs ds (λ mine. same-inside t.form owner counts mine cs ds (h mine))

pub same-replies-by : SameRepliesBy
same-replies-by t owner counts cs ds mine h =
    ap (map (told t.form)) (replies-alone-by t owner counts cs mine)
    ∙ (same-run t (calls_by owner (subscriber mine) cs) (calls_by owner (subscriber mine) ds) h).replies
    ∙ ap (map (told t.form)) (sym (replies-alone-by t owner counts ds mine))

pub same-record-by : SameRecordBy
same-record-by t owner counts cs ds mine h = same-record t cs ds mine (same-inside t.form owner counts mine cs ds h)

-- THE TWO COUNTINGS

pub subject-counts : SubjectCounts
subject-counts fm c mine h = h

first-take : (n : ℕ) (cs : List ℕ) → first_of cs ≡ 0 → first_of (take n cs) ≡ 0
unfolding first_of pick
first-take zero cs h = refl
first-take (suc n) [] h = refl
first-take (suc n) (c ∷ cs) h = let z : c ≡ 0 = first_passes c cs h in rw z (first-take n cs (others-pass c cs h))

first-both : (c : ℕ) (cs : List ℕ) → c ≡ 0 → first_of cs ≡ 0 → first_of (c ∷ cs) ≡ 0
unfolding first_of pick
first-both c cs h k = rw h k

name-read : (most : ℕ) (m : List ℕ) → reading_code most m ≡ 0 → name_read most m ≡ true
unfolding reading_code list_code name_read
name-read most m h =
    let l : list_code most (command m) (avps m) ≡ 0 = first_passes _ _ (others-pass _ _ (others-pass _ _ h)) in
    eq-eqb _ 0 (first-both _ _ (first_passes _ _ h) (first-both _ _ (first_passes _ _ (others-pass _ _ h))
    (first-both _ _ (first_passes _ _ l) (first-take 8 _ (others-pass _ _ l)))))

read-passes : (o most : ℕ) (m : List ℕ) (mine : Account) → sent_by o (read most m) ≡ subscriber mine → reading_code most m ≡ 0
unfolding read sent_by pick
read-passes o most m mine h =
    by-test (eqb (reading_code most m) 0)
    (λ e. eqb-true (reading_code most m) 0 e)
    (λ e. let z : nobody ≡ subscriber mine = rw e at h in let y : ◌≡◌ {A = ℕ} 0 1 = cc in absurd (omega arith))

read_name : (o most : ℕ) (m : List ℕ) → reading_code most m ≡ 0 → sent_by o (read most m) ≡ subscriber (record { operator = o; name = value_of user_name (avps m) })
unfolding read sent_by request_of pick
read_name o most m h = rw h

own-passes : (fm : ℕ) (c : Call) (mine : Account) → subject fm c ≡ subscriber mine → eqb (own_number fm c) 0 ≡ true
unfolding subject pick
own-passes fm c mine h =
    by-test (eqb (own_number fm c) 0)
    (λ e. e)
    (λ e. let z : nobody ≡ subscriber mine = rw e at h in cc)

message-is : (fm : ℕ) (c : Call) (mine : Account) → subject fm c ≡ subscriber mine → sent_by c.operator (read_in fm c) ≡ subscriber mine
unfolding subject pick
message-is fm c mine h = rw (own-passes fm c mine h) at h

pub sender-counts : SenderCounts
unfolding sender pick
sender-counts fm c mine h =
    let r : reading_code (most_policies fm) c.message ≡ 0 = read-passes c.operator (most_policies fm) c.message mine (message-is fm c mine h) in
    rw (own-passes fm c mine h, name-read (most_policies fm) c.message r) (sym (read_name c.operator (most_policies fm) c.message r) ∙ message-is fm c mine h)

no-sender-by : (fm : ℕ) (c : Call) (s : Subject) → subject fm c ≡ s → sender fm c ≡ nobody → s ≡ nobody
no-sender-by fm c nobody e h = refl
no-sender-by fm c (subscriber n) e h = sym (sender-counts fm c n e) ∙ h

pub no-sender : NoSender
no-sender fm c h = no-sender-by fm c (subject fm c) refl h

-- Demand 3 for bursts: from demand 3 for lists of calls, since a burst leaves what its first messages leave as calls.
use mathlib.Core.Path.{◌≡◌, refl, sym, ap, ap₂, ◌∙◌}
use mathlib.Core.Bool.{Bool, true}
use mathlib.Core.List.{List, [], ◌∷◌, ◌++◌, map}
use Prim.Native.Nat.{ℕ, zero, suc, ◌≤◌, ◌<◌}
use native.Mathlib.Omega.{arith}
use lib.ListN.{length, take, drop}
use lib.Seq.{drop-append_seam, drop-nil, length-take-le, take_all, take-nil, take-take}
use Rattle.octets.specs.Choice.{pick}
use Rattle.octets.specs.Lists.{keep}
use Rattle.octets.proofs.Lists.{by-test, keep_snoc}
use Rattle.table.specs.TheTable.{Account, Table}
use Rattle.rules.specs.Calls.{Call, Reply, handle, ran_first, run}
use Rattle.order.specs.Demand3.{Subject, nobody, subscriber, same_subject, subject, is_of, calls_of as calls_by, replies_of, Told, told}
use Rattle.order.proofs.Finding.{subject-eq, subject-refl}
use Rattle.order.proofs.Lists.{each-in-turn, equal-calls, nobody-changes-nothing, one-reply-each, replies-alone}
use Rattle.burst.specs.TheBurst.{Burst, Bursted, burst, burst_number, bursted, calls_for, calls_of, whole_messages}
use Rattle.burst.proofs.Loop.{burst-goes, words-fit}
use Rattle.burst.proofs.Steps.{go_on}
use Rattle.burstlaws.specs.BurstsRules.{taken_calls, told_all}
use Rattle.burstlaws.specs.AnyOrder.{Goes, TakesAll, kth, told_by, told_to, tolds}
use Rattle.burstlaws.specs.AnyOrder.{ToldOneByOne, OneToldEach, TableInAnyOrder, ToldInAnyOrder, ToldAsFar, MessageInAnyOrder}
use Rattle.burstlaws.proofs.Written.{count, count_fits, not-refused}
use Rattle.burstlaws.proofs.ToldEach.{length-told, read-bursted, told_of}

-- A BURST AS CALLS

-- a call for each message that has a word
calls_count : (f : ℕ) (b : Burst) (ms : List (List ℕ)) (ws : List ℕ) → length ms ≤ length ws → length (calls_for f b ms ws) ≡ length ms
unfolding calls_for
calls_count f b [] ws h = refl
calls_count f b (m ∷ ms) [] h = absurd (omega (arith, h))
calls_count f b (m ∷ ms) (w ∷ ws) h = ap suc (calls_count f b ms ws (omega (arith, h)))

module _ (t : Table) (b : Burst) (g : Goes t b) where
  abbrev cs : List Call
  cs = calls_of t.form b

  abbrev n : ℕ
  n = (burst t b).taken.messages

  passes : burst_number t b ≡ 0
  passes = not-refused t b g

  goes_on : burst t b ≡ bursted t b (count t b)
  unfolding go_on
  goes_on = burst-goes t b passes

  pub many-taken : n ≡ count t b
  unfolding bursted
  many-taken = ap (λ (x : Bursted). x.taken.messages) goes_on

  leaves-is : burst t b ≡ bursted t b n
  leaves-is = goes_on ∙ ap (bursted t b) (sym many-taken)

  pub few-taken : n ≤ length cs
  few-taken = omega (arith, many-taken, count_fits t b)

  pub tolds-are : tolds t.form (burst t b) ≡ told_of t.form t (take n cs)
  tolds-are = ap (tolds t.form) leaves-is ∙ read-bursted t b n few-taken

  pub table_is : (burst t b).table ≡ (run t (take n cs)).table
  unfolding bursted
  table_is = ap (λ (x : Bursted). x.table) leaves-is

  pub count-is : length cs ≡ length (whole_messages b.messages)
  unfolding calls_of
  count-is = calls_count t.form b (whole_messages b.messages) b.wags (words-fit t b passes)

pub told-one-by-one : ToldOneByOne
unfolding taken_calls told_all
told-one-by-one t b g = tolds-are t b g

pub one-told-each : OneToldEach
one-told-each t b g =
    let n : ℕ = (burst t b).taken.messages in
    let cs : List Call = calls_of t.form b in
    ap length (tolds-are t b g) ∙ length-told t.form t (take n cs) ∙ length-take-le n cs (few-taken t b g)

-- all of them
all-taken : (t : Table) (b : Burst) → TakesAll t b → take (burst t b).taken.messages (calls_of t.form b) ≡ calls_of t.form b
all-taken t b w = take_all (burst t b).taken.messages (calls_of t.form b) (omega (arith, w.all, count-is t b w.goes))

-- SUBJECT BY SUBJECT

told_by-is : (f : ℕ) (who : Subject) (n : ℕ) (cs : List Call) (rs : List Reply) → length rs ≤ n
    → told_by f who cs (map (told f) rs) ≡ map (told f) (replies_of f who (take n cs) rs)
unfolding told_by replies_of pick
told_by-is f who n [] rs h = rw (take-nil n)
told_by-is f who zero (c ∷ cs) [] h = refl
told_by-is f who (suc n) (c ∷ cs) [] h = refl
told_by-is f who zero (c ∷ cs) (r ∷ rs) h = absurd (omega (arith, h))
told_by-is f who (suc n) (c ∷ cs) (r ∷ rs) h =
    by-test (is_of f who c)
    (λ e. rw e (ap (λ (xs : List Told). told f r ∷ xs) (told_by-is f who n cs rs (omega (arith, h)))))
    (λ e. rw e (told_by-is f who n cs rs (omega (arith, h))))

-- what a subject is told is what its messages that were taken are told alone
own-told : (t : Table) (b : Burst) (who : Subject) → Goes t b
    → told_to t who b ≡ told_of t.form t (calls_by t.form who (take (burst t b).taken.messages (calls_of t.form b)))
unfolding told_to
own-told t b who g =
    let f : ℕ = t.form in
    let cs : List Call = calls_of f b in
    let n : ℕ = (burst t b).taken.messages in
    let l : length (run t (take n cs)).replies ≡ n = one-reply-each t (take n cs) ∙ length-take-le n cs (few-taken t b g) in
    ap (told_by f who cs) (tolds-are t b g)
    ∙ told_by-is f who n cs (run t (take n cs)).replies (omega (arith, l))
    ∙ ap (map (told f)) (replies-alone t (take n cs) who)

pub table-in-any-order : TableInAnyOrder
table-in-any-order t b d v w same =
    table_is t b v.goes
    ∙ ap (λ (cs : List Call). (run t cs).table) (all-taken t b v)
    ∙ equal-calls t (calls_of t.form b) (calls_of t.form d) same
    ∙ ap (λ (cs : List Call). (run t cs).table) (sym (all-taken t d w))
    ∙ sym (table_is t d w.goes)

pub told-in-any-order : ToldInAnyOrder
told-in-any-order t b d who v w same =
    let f : ℕ = t.form in
    own-told t b who v.goes
    ∙ ap (λ (cs : List Call). told_of f t (calls_by f who cs)) (all-taken t b v)
    ∙ ap (told_of f t) same
    ∙ ap (λ (cs : List Call). told_of f t (calls_by f who cs)) (sym (all-taken t d w))
    ∙ sym (own-told t d who w.goes)

-- AS FAR AS BOTH GO

module _ {A : Type 0} where
  keep-take : (f : A → Bool) (n : ℕ) (xs : List A) → keep f (take n xs) ≡ take (length (keep f (take n xs))) (keep f xs)
  unfolding keep pick
  keep-take f zero xs = refl
  keep-take f (suc n) [] = refl
  keep-take f (suc n) (x ∷ xs) =
      by-test (f x)
      (λ e. rw e (ap (λ (ys : List A). x ∷ ys) (keep-take f n xs)))
      (λ e. rw e (keep-take f n xs))

  take-comm : (p q : ℕ) (l : List A) → take q (take p l) ≡ take p (take q l)
  take-comm zero q l = take-nil q
  take-comm (suc p) zero l = refl
  take-comm (suc p) (suc q) [] = refl
  take-comm (suc p) (suc q) (x ∷ l) = ap (λ (ys : List A). x ∷ ys) (take-comm p q l)

told-take : (f : ℕ) (t : Table) (p : ℕ) (cs : List Call) → told_of f t (take p cs) ≡ take p (told_of f t cs)
unfolding run ran_first
told-take f t zero cs = refl
told-take f t (suc p) [] = refl
told-take f t (suc p) (c ∷ cs) = ap (λ (xs : List Told). told f (handle t c).reply ∷ xs) (told-take f (handle t c).table p cs)

-- how many of a subject's messages are taken
taken-by : Table → Subject → Burst → ℕ
taken-by t who b = length (calls_by t.form who (take (burst t b).taken.messages (calls_of t.form b)))

-- they are the first of its messages
first-told : (t : Table) (b : Burst) (who : Subject) → Goes t b
    → told_to t who b ≡ take (taken-by t who b) (told_of t.form t (calls_by t.form who (calls_of t.form b)))
unfolding taken-by calls_by
first-told t b who g =
    own-told t b who g
    ∙ ap (told_of t.form t) (keep-take (is_of t.form who) (burst t b).taken.messages (calls_of t.form b))
    ∙ told-take t.form t (taken-by t who b) (calls_by t.form who (calls_of t.form b))

count-told : (t : Table) (b : Burst) (who : Subject) → Goes t b → length (told_to t who b) ≡ taken-by t who b
unfolding taken-by
count-told t b who g = ap length (own-told t b who g) ∙ length-told t.form t _

pub told-as-far : ToldAsFar
told-as-far t b d who g h same =
    let all : List Told = told_of t.form t (calls_by t.form who (calls_of t.form d)) in
    let p : ℕ = taken-by t who b in
    let q : ℕ = taken-by t who d in
    let one : told_to t who b ≡ take p all = first-told t b who g ∙ ap (λ (cs : List Call). take p (told_of t.form t cs)) same in
    let other : told_to t who d ≡ take q all = first-told t d who h in
    ap₂ (take {A = Told}) (count-told t d who h) one ∙ take-comm p q all ∙ ap₂ (take {A = Told}) (sym (count-told t b who g)) (sym other)

-- MESSAGE BY MESSAGE

module _ {A : Type 0} where
  -- the k-th of a list that has so many
  pub record At (l : List A) (k : ℕ) : Type 0 where
    pub it : A
    pub is : kth l k ≡ it ∷ []

  pub at : (l : List A) (k : ℕ) → k < length l → At l k
  unfolding kth
  at [] k h = absurd (omega (arith, h))
  at (x ∷ l) zero h = record { it = x; is = refl }
  at (x ∷ l) (suc k) h = let r : At l k = at l k (omega (arith, h)) in record { it = r.it; is = r.is }

  kth-take : (n : ℕ) (l : List A) (k : ℕ) → k < n → kth (take n l) k ≡ kth l k
  unfolding kth
  kth-take zero l k h = absurd (omega (arith, h))
  kth-take (suc n) [] k h = refl
  kth-take (suc n) (x ∷ l) zero h = refl
  kth-take (suc n) (x ∷ l) (suc k) h = kth-take n l k (omega (arith, h))

  last-same : (xs : List A) (x y : A) → xs ++ (x ∷ []) ≡ xs ++ (y ∷ []) → x ≡ y
  last-same xs x y e =
      let r : x ∷ [] ≡ y ∷ [] = sym (drop-append_seam xs (x ∷ [])) ∙ ap (drop (length xs)) e ∙ drop-append_seam xs (y ∷ []) in
      cc

-- the k-th is told what it gets on the table that those before it leave
told_at : (f : ℕ) (t : Table) (cs : List Call) (k : ℕ) (c : Call) → kth cs k ≡ c ∷ []
    → kth (told_of f t cs) k ≡ told f (handle (run t (take k cs)).table c).reply ∷ []
unfolding kth run ran_first
told_at f t [] k c h = let z : [] ≡ c ∷ [] = sym (ap (take 1) (drop-nil k)) ∙ h in absurd (omega (arith, ap length z))
told_at f t (x ∷ cs) zero c h = let e : x ≡ c = cc in ap (λ (d : Call). told f (handle t d).reply ∷ []) e
told_at f t (x ∷ cs) (suc k) c h = told_at f (handle t x).table cs k c h

-- the replies to a subject's calls, with one call of its own behind them
replies-snoc : (f : ℕ) (who : Subject) (cs : List Call) (rs : List Reply) (c : Call) (r : Reply) → length rs ≡ length cs → is_of f who c ≡ true
    → replies_of f who (cs ++ (c ∷ [])) (rs ++ (r ∷ [])) ≡ replies_of f who cs rs ++ (r ∷ [])
unfolding replies_of pick
replies-snoc f who [] [] c r l e = rw e
replies-snoc f who [] (s ∷ rs) c r l e = absurd (omega (arith, l))
replies-snoc f who (d ∷ cs) [] c r l e = absurd (omega (arith, l))
replies-snoc f who (d ∷ cs) (s ∷ rs) c r l e =
    by-test (is_of f who d)
    (λ h. rw h (ap (λ (xs : List Reply). s ∷ xs) (replies-snoc f who cs rs c r (omega (arith, l)) e)))
    (λ h. rw h (replies-snoc f who cs rs c r (omega (arith, l)) e))

module _ (t : Table) (before : List Call) (c : Call) where
  abbrev who : Subject
  who = subject t.form c

  abbrev own : List Call
  own = calls_by t.form who before

  its_own : is_of t.form who c ≡ true
  unfolding is_of
  its_own = subject-refl who

  one_more : calls_by t.form who (before ++ (c ∷ [])) ≡ own ++ (c ∷ [])
  unfolding calls_by pick
  one_more = keep_snoc (is_of t.form who) before c ∙ rw its_own refl

  -- a call gets the reply that it gets behind its subject's calls alone
  alone : (handle (run t before).table c).reply ≡ (handle (run t own).table c).reply
  unfolding run
  alone =
      let r : Reply = (handle (run t before).table c).reply in
      let s : Reply = (handle (run t own).table c).reply in
      let left : replies_of t.form who (before ++ (c ∷ [])) (run t (before ++ (c ∷ []))).replies ≡ (run t own).replies ++ (r ∷ []) =
      ap (replies_of t.form who (before ++ (c ∷ []))) (each-in-turn t before c [])
      ∙ replies-snoc t.form who before (run t before).replies c r (one-reply-each t before) its_own
      ∙ ap (λ (rs : List Reply). rs ++ (r ∷ [])) (replies-alone t before who) in
      let right : (run t (calls_by t.form who (before ++ (c ∷ [])))).replies ≡ (run t own).replies ++ (s ∷ []) =
      ap (λ (cs : List Call). (run t cs).replies) one_more ∙ each-in-turn t own c [] in
      last-same (run t own).replies r s (sym left ∙ replies-alone t (before ++ (c ∷ [])) who ∙ right)

-- nobody's calls alone leave the table
nobodys-table : (t : Table) (cs : List Call) → (run t (calls_by t.form nobody cs)).table ≡ t
unfolding run ran_first calls_by keep is_of pick
nobodys-table t [] = refl
nobodys-table t (c ∷ cs) =
    by-test (same_subject (subject t.form c) nobody)
    (λ e. rw (e, nobody-changes-nothing t c (subject-eq (subject t.form c) nobody e)) (nobodys-table t cs))
    (λ e. rw e (nobodys-table t cs))

-- a call gets the same behind two lists of calls, if its subscriber's are the same in both
same-reply : (t : Table) (cs ds : List Call) (c : Call) (s : Subject) → subject t.form c ≡ s
    → ((a : Account) → s ≡ subscriber a → calls_by t.form (subscriber a) cs ≡ calls_by t.form (subscriber a) ds)
    → (handle (run t cs).table c).reply ≡ (handle (run t ds).table c).reply
same-reply t cs ds c nobody e same =
    let behind : (before : List Call) → (handle (run t before).table c).reply ≡ (handle t c).reply =
    λ before. alone t before c
    ∙ ap (λ (k : Subject). (handle (run t (calls_by t.form k before)).table c).reply) e
    ∙ ap (λ (u : Table). (handle u c).reply) (nobodys-table t before) in
    behind cs ∙ sym (behind ds)
same-reply t cs ds c (subscriber a) e same =
    let behind : (before : List Call) → (handle (run t before).table c).reply ≡ (handle (run t (calls_by t.form (subscriber a) before)).table c).reply =
    λ before. alone t before c ∙ ap (λ (k : Subject). (handle (run t (calls_by t.form k before)).table c).reply) e in
    behind cs ∙ ap (λ (xs : List Call). (handle (run t xs).table c).reply) (same a refl) ∙ sym (behind ds)

-- what the k-th message of a burst is told, if it is taken
told-in-burst : (t : Table) (b : Burst) (k : ℕ) (c : Call) → Goes t b → k < (burst t b).taken.messages → kth (calls_of t.form b) k ≡ c ∷ []
    → kth (tolds t.form (burst t b)) k ≡ told t.form (handle (run t (take k (calls_of t.form b))).table c).reply ∷ []
told-in-burst t b k c g h is =
    let cs : List Call = calls_of t.form b in
    let n : ℕ = (burst t b).taken.messages in
    ap (λ (xs : List Told). kth xs k) (tolds-are t b g)
    ∙ told_at t.form t (take n cs) k c (kth-take n cs k h ∙ is)
    ∙ ap (λ (xs : List Call). told t.form (handle (run t xs).table c).reply ∷ []) (take-take k n cs (omega (arith, h)))

pub message-in-any-order : MessageInAnyOrder
message-in-any-order t b d k l g h kb ld m =
    let f : ℕ = t.form in
    let x : At (calls_of f b) k = at (calls_of f b) k (omega (arith, kb, few-taken t b g)) in
    told-in-burst t b k x.it g kb x.is
    ∙ ap (λ (r : Reply). told f r ∷ [])
    (same-reply t (take k (calls_of f b)) (take l (calls_of f d)) x.it (subject f x.it) refl
    (λ a e. m.before a (ap (map (subject f)) x.is ∙ ap (λ (s : Subject). s ∷ []) e)))
    ∙ sym (told-in-burst t d l x.it h ld (sym m.message ∙ x.is))

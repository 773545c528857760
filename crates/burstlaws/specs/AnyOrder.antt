-- Demand 3 for bursts (W2): order between subscribers does not matter. Two bursts on one table are compared; their rooms, and what stands behind the
-- last whole message of each, are any.
use Rattle.std.specs.Prelude.{◌≡◌, List, [], ◌∷◌, ◌++◌, map, ℕ, ◌*◌, ◌≤◌, ◌<◌, eqb, length, take, drop}
use Rattle.octets.specs.Choice.{pick}
use Rattle.message.specs.TheRooms.{answer_least, notice_length}
use Rattle.table.specs.TheTable.{Account, Table}
use Rattle.rules.specs.Calls.{Call, Result}
use Rattle.order.specs.Demand3.{Subject, subscriber, subject, is_of, calls_of as calls_by, Told}
use Rattle.burst.specs.TheBurst.{Burst, Bursted, burst, calls_of, whole_messages}
use Rattle.burstlaws.specs.BurstsRules.{taken_calls, told_all}

-- WHAT EACH MESSAGE IS TOLD, read from what a burst leaves

-- Result by result: its answer has the next bytes of the answers, as many as it says; the next notice is its own if it has a cut.
unfoldable pub told_in : (form : ℕ) → List Result → (answers notices : List ℕ) → List Told
told_in f [] a n = []
told_in f (r ∷ rs) a n =
    record { result = r; answer = take r.length a; notice = pick (eqb r.cut 1) (take (notice_length f) n) [] }
    ∷ told_in f rs (drop r.length a) (pick (eqb r.cut 1) (drop (notice_length f) n) n)

unfoldable pub tolds : (form : ℕ) → Bursted → List Told
tolds f x = told_in f (take x.taken.messages x.results) x.answers x.notices

-- A burst that is not refused.
abbrev pub Goes : Table → Burst → Type 0
Goes t b = (burst t b).taken.number ≡ 0

-- So read, each message that was taken is told what it is told as a call of its own, one by one.
abbrev pub ToldOneByOne : Type 0
ToldOneByOne = (t : Table) (b : Burst) → Goes t b → tolds t.form (burst t b) ≡ told_all t (taken_calls t b)

-- One for each message that was taken.
abbrev pub OneToldEach : Type 0
OneToldEach = (t : Table) (b : Burst) → Goes t b → length (tolds t.form (burst t b)) ≡ (burst t b).taken.messages

-- A burst that takes all its whole messages.
pub record TakesAll (t : Table) (b : Burst) : Type 0 where
  pub goes : Goes t b
  pub all : (burst t b).taken.messages ≡ length (whole_messages b.messages)

-- SUBJECT BY SUBJECT

-- A subject's messages, each with its word from the WAG, are the same in both bursts and in the same order: as calls, so that operator and own names
-- are the same too.
abbrev pub SameSent : (form : ℕ) → Subject → Burst → Burst → Type 0
SameSent f who b d = calls_by f who (calls_of f b) ≡ calls_by f who (calls_of f d)

-- What a subject is told of its messages, in their order; `xs` tells of the calls `cs`, or of the first of them.
unfoldable pub told_by : (form : ℕ) → Subject → (cs : List Call) → (xs : List Told) → List Told
told_by f who [] xs = []
told_by f who (c ∷ cs) [] = []
told_by f who (c ∷ cs) (x ∷ xs) = pick (is_of f who c) (x ∷ told_by f who cs xs) (told_by f who cs xs)

unfoldable pub told_to : Table → Subject → Burst → List Told
told_to t who b = told_by t.form who (calls_of t.form b) (tolds t.form (burst t b))

-- If both take all, and each subscriber's messages are the same, the tables are equal, byte for byte, whatever nobody's messages are.
abbrev pub TableInAnyOrder : Type 0
TableInAnyOrder =
    (t : Table) (b d : Burst) → TakesAll t b → TakesAll t d → ((a : Account) → SameSent t.form (subscriber a) b d) → (burst t b).table ≡ (burst t d).table

-- If both take all, a subject whose messages are the same is told the same, whatever the others' messages are.
abbrev pub ToldInAnyOrder : Type 0
ToldInAnyOrder =
    (t : Table) (b d : Burst) (who : Subject) → TakesAll t b → TakesAll t d → SameSent t.form who b d → told_to t who b ≡ told_to t who d

-- Always: as far as both bursts tell it, they tell it the same.
abbrev pub ToldAsFar : Type 0
ToldAsFar =
    (t : Table) (b d : Burst) (who : Subject) → Goes t b → Goes t d → SameSent t.form who b d
    → take (length (told_to t who d)) (told_to t who b) ≡ take (length (told_to t who b)) (told_to t who d)

-- MESSAGE BY MESSAGE

-- The k-th of a list, counted from 0, alone; nothing where there are no more than k.
unfoldable pub kth : {A : Type 0} → List A → ℕ → List A
kth l k = take 1 (drop k l)

-- The k-th message of a burst is that of a subscriber.
abbrev pub SentBy : (form : ℕ) → Account → Burst → ℕ → Type 0
SentBy f a b k = map (subject f) (kth (calls_of f b) k) ≡ subscriber a ∷ []

-- The k-th message of the one and the l-th of the other are the same with the same word; and if it is a subscriber's, so are this subscriber's
-- messages before it, in the same order. Of a message that is nobody's nothing more is asked.
pub record SameMessage (form : ℕ) (b d : Burst) (k l : ℕ) : Type 0 where
  pub message : kth (calls_of form b) k ≡ kth (calls_of form d) l
  pub before : (a : Account) → SentBy form a b k → calls_by form (subscriber a) (take k (calls_of form b)) ≡ calls_by form (subscriber a) (take l (calls_of form d))

-- Always: a message that both take is told the same in both.
abbrev pub MessageInAnyOrder : Type 0
MessageInAnyOrder =
    (t : Table) (b d : Burst) (k l : ℕ) → Goes t b → Goes t d → k < (burst t b).taken.messages → l < (burst t d).taken.messages
    → SameMessage t.form b d k l
    → kth (tolds t.form (burst t b)) k ≡ kth (tolds t.form (burst t d)) l

-- ANOTHER ORDER

-- The whole messages of the one burst are those of the other with their words, in another order that keeps each subscriber's: the k-th of the one
-- stands at place `to k` in the other, and the l-th of the other at place `from l` in the one. Nobody's messages may stand in any order.
pub record Reordered (form : ℕ) (b d : Burst) : Type 0 where
  pub to : ℕ → ℕ
  pub from : ℕ → ℕ
  pub to-within : (k : ℕ) → k < length (calls_of form b) → to k < length (calls_of form d)
  pub from-within : (l : ℕ) → l < length (calls_of form d) → from l < length (calls_of form b)
  pub there_and_back : (k : ℕ) → k < length (calls_of form b) → from (to k) ≡ k
  pub back-and-there : (l : ℕ) → l < length (calls_of form d) → to (from l) ≡ l
  pub same-message : (k : ℕ) → k < length (calls_of form b) → kth (calls_of form b) k ≡ kth (calls_of form d) (to k)
  pub in_order : (a : Account) (j k : ℕ) → j < k → k < length (calls_of form b) → SentBy form a b j → SentBy form a b k → to j < to k

-- Such an order is there where two neighbours that are not of one subscriber are exchanged, with their words.
abbrev pub NeighboursExchanged : Type 0
NeighboursExchanged =
    (form : ℕ) (b d : Burst) (before : List Call) (c e : Call) (behind : List Call)
    → calls_of form b ≡ before ++ (c ∷ e ∷ behind) → calls_of form d ≡ before ++ (e ∷ c ∷ behind)
    → ((a : Account) → subject form c ≡ subscriber a → subject form e ≡ subscriber a → ⊥)
    → Reordered form b d

-- Always: a message that both take is told the same in both.
abbrev pub ToldWhenReordered : Type 0
ToldWhenReordered =
    (t : Table) (b d : Burst) (r : Reordered t.form b d) (k : ℕ) → Goes t b → Goes t d
    → k < (burst t b).taken.messages → r.to k < (burst t d).taken.messages
    → kth (tolds t.form (burst t b)) k ≡ kth (tolds t.form (burst t d)) (r.to k)

-- If both take all, the tables are equal, and each message is told the same.
pub record SameInBoth (t : Table) (b d : Burst) (to : ℕ → ℕ) : Type 0 where
  pub table : (burst t b).table ≡ (burst t d).table
  pub told : (k : ℕ) → k < length (calls_of t.form b) → kth (tolds t.form (burst t b)) k ≡ kth (tolds t.form (burst t d)) (to k)

abbrev pub SameWhenReordered : Type 0
SameWhenReordered = (t : Table) (b d : Burst) (r : Reordered t.form b d) → TakesAll t b → TakesAll t d → SameInBoth t b d r.to

-- ROOM FOR ALL

-- Rooms of 5,120 bytes and of a notice for each whole message.
pub record RoomForAll (form : ℕ) (b : Burst) : Type 0 where
  pub answers : length (whole_messages b.messages) * answer_least ≤ length b.answers
  pub notices : length (whole_messages b.messages) * notice_length form ≤ length b.notices

-- A burst that is not refused takes all of them then.
abbrev pub RoomSuffices : Type 0
RoomSuffices = (t : Table) (b : Burst) → Goes t b → RoomForAll t.form b → TakesAll t b

-- Two bursts with the same operator and own names, and with as many whole messages, words and places for results.
pub record LentAlike (b d : Burst) : Type 0 where
  pub operator : b.operator ≡ d.operator
  pub host : b.host ≡ d.host
  pub realm : b.realm ≡ d.realm
  pub whole : length (whole_messages b.messages) ≡ length (whole_messages d.messages)
  pub words : length b.wags ≡ length d.wags
  pub places : length b.results ≡ length d.results

-- With room for all of them both orders get the same number, refused or not, take as many messages, and leave the same table; and each message is
-- told the same.
pub record AllTheSame (t : Table) (b d : Burst) (to : ℕ → ℕ) : Type 0 where
  pub number : (burst t b).taken.number ≡ (burst t d).taken.number
  pub messages : (burst t b).taken.messages ≡ (burst t d).taken.messages
  pub same : SameInBoth t b d to

abbrev pub InAnyOrder : Type 0
InAnyOrder =
    (t : Table) (b d : Burst) (r : Reordered t.form b d) → LentAlike b d → RoomForAll t.form b → RoomForAll t.form d → AllTheSame t b d r.to

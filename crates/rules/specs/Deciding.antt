-- Deciding, on a subscriber whose row is sound.
use Rattle.std.specs.Prelude.{Bool, ◌&&◌, not, List, [], ◌∷◌, ℕ, suc, ◌-◌, eqb, ltb, length, get_or}
use Rattle.changes.specs.Changes.{Opening, freed, kept_in, lowest_free, opened, routed}
use Rattle.message.specs.Codes.{Code, no_subscription, plain, roaming_not_allowed, unused_by_user}
use Rattle.message.specs.ReadingAMessage.{Ask, tunnel, policy, termination}
use Rattle.octets.specs.Choice.{pick}
use Rattle.octets.specs.Lists.{first_or, keep}
use Rattle.octets.specs.Texts.{same}
use Rattle.table.specs.Soundness.{on_entry, same_label}
use Rattle.table.specs.TheTable.{Access, Entry, Policies, Subscriber, barred, line, may_roam}

-- What is decided: the code; the place that a new access takes, else 0; the accesses cut, one or none;
-- and what the row says afterwards, which is what it said unless the code is 2001.
pub record Verdict : Type 0 where
  pub code : Code
  pub place : ℕ
  pub cut : List Access
  pub after : Subscriber

unfoldable pub refuse : Code → Subscriber → Verdict
refuse c s = record { code = c; place = 0; cut = []; after = s }

unfoldable pub grant : Subscriber → Verdict
grant s = record { code = plain 2001; place = 0; cut = []; after = s }

-- WHAT THE REQUEST SPEAKS OF

-- The number of the first entry with this label, counted from n; 0 where no entry has it.
unfoldable pub entry_from : ℕ → List ℕ → List Entry → ℕ
entry_from n l [] = 0
entry_from n l (e ∷ es) = pick (same_label l e.label) n (entry_from (suc n) l es)

unfoldable pub entry_named : List ℕ → Subscriber → ℕ
entry_named l s = entry_from 1 l s.entries

-- Entry n, counted from 1.
unfoldable pub no_entry : Entry
no_entry = record { label = []; flags = 0; limit = 0 }

unfoldable pub entry_at : ℕ → Subscriber → Entry
entry_at n s = get_or s.entries (n - 1) no_entry

-- The accesses with this Session-Id, and the place of the first of a list of accesses, 0 where there is none.
unfoldable pub with_session : List ℕ → List Access → List Access
with_session session a = keep (λ (x : Access). same x.session session) a

unfoldable pub place_of : List Access → ℕ
place_of a = first_or 0 (line a)

unfoldable pub none : List Access → Bool
none a = eqb (length a) 0

-- The access at place k, alone.
unfoldable pub at_place : ℕ → List Access → List Access
at_place k a = keep (λ (x : Access). eqb x.place k) a

-- TYPE 0

-- The new access, with the accesses that were cut for it.
unfoldable pub open_on : ℕ → Opening → List Access → Subscriber → Verdict
open_on n o cut s = record { code = plain 2001; place = lowest_free s.accesses; cut = cut; after = opened n o s }

-- The place of the entry's first-opened access.
unfoldable pub first_on : ℕ → List Access → ℕ
first_on n a = place_of (on_entry n a)

-- The entry is at its limit.
unfoldable pub at_limit : ℕ → Subscriber → Bool
at_limit n s = not (ltb (length (on_entry n s.accesses)) (entry_at n s).limit)

-- An entry that is at its limit loses the access that was opened first on it. Then the new one stands last on the order line,
-- at the lowest place that is free by then.
unfoldable pub admit : ℕ → Opening → Subscriber → Verdict
admit n o s =
    let k : ℕ = first_on n s.accesses in
    pick (at_limit n s)
    (open_on n o (at_place k s.accesses) (freed k s))
    (open_on n o [] s)

-- An access with this Session-Id stands on entry n.
unfoldable pub stands_on : ℕ → (session : List ℕ) → Subscriber → Bool
stands_on n session s = not (none (with_session session (on_entry n s.accesses)))

-- A Session-Id that is already in the row: on the entry that is asked for, 2001, and the access goes on as it is (W11); on another, 5012.
unfoldable pub held_already : ℕ → (session : List ℕ) → Subscriber → Verdict
held_already n session s = pick (stands_on n session s) (grant s) (refuse (plain 5012) s)

-- In order: the label is not entered, USER_NO_W-APN_SUBSCRIPTION; the entry is barred, 5003; a visited network is named
-- and the entry may not roam, ROAMING_NOT_ALLOWED; the Session-Id is already in the row, as above; else a new access, 2001.
unfoldable pub type0 : Opening → (label : List ℕ) → (visited : Bool) → Subscriber → Verdict
type0 o label visited s =
    let n : ℕ = entry_named label s in
    pick (eqb n 0) (refuse no_subscription s)
    (pick (barred (entry_at n s)) (refuse (plain 5003) s)
    (pick (visited && not (may_roam (entry_at n s))) (refuse roaming_not_allowed s)
    (pick (not (none (with_session o.session s.accesses))) (held_already n o.session s)
    (admit n o s))))

-- TYPE 1

-- In order: the Session-Id has an access, else 5012; the wireless gateway (WAG) agrees, else 5012. Then that access holds these
-- policies in place of all that it had, 2001.
unfoldable pub type1 : (session : List ℕ) → Policies → (wag : Bool) → Subscriber → Verdict
type1 session policies wag s =
    let mine : List Access = with_session session s.accesses in
    pick (none mine) (refuse (plain 5012) s)
    (pick wag (grant (routed (place_of mine) policies s)) (refuse (plain 5012) s))

-- TERMINATION

-- No access has this Session-Id on this W-APN, W-APN_UNUSED_BY_USER; else its place is freed, 2001.
unfoldable pub terminate : (session label : List ℕ) → Subscriber → Verdict
terminate session label s =
    let mine : List Access = with_session session (on_entry (entry_named label s) s.accesses) in
    pick (none mine) (refuse unused_by_user s) (grant (freed (place_of mine) s))

-- ANY REQUEST

unfoldable pub decide : (form : ℕ) → Ask → (wag : Bool) → Subscriber → Verdict
decide f (tunnel session host realm label visited) wag s =
    type0 (record { session = session; host = host; realm = kept_in f realm }) label visited s
decide f (policy session first second third) wag s = type1 session (record { first = first; second = second; third = third }) wag s
decide f (termination session label) wag s = terminate session label s

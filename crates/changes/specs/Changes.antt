-- The table: the changes that a request or a set-up operation makes to what a row says. The row is then the bytes of the
-- changed subscriber.
use Rattle.std.specs.Prelude.{Bool, not, List, [], ◌∷◌, ◌++◌, map, ℕ, eqb}
use Rattle.octets.specs.Choice.{pick}
use Rattle.octets.specs.Lists.{every, first_or, keep}
use Rattle.table.specs.TheTable.{Access, Account, Entry, Policies, Subscriber, places}

abbrev pub with_accesses : List Access → Subscriber → Subscriber
with_accesses a s = record { operator = s.operator; name = s.name; entries = s.entries; accesses = a }

-- A PLACE IS FREED: its access leaves, and with it its bit and its number on the order line, which closes up.
unfoldable pub leave : ℕ → List Access → List Access
leave k a = keep (λ (x : Access). not (eqb x.place k)) a

unfoldable pub freed : ℕ → Subscriber → Subscriber
freed k s = with_accesses (leave k s.accesses) s

-- A NEW ACCESS takes the lowest free place and the end of the order line; it holds no policy.
unfoldable pub vacant : List Access → ℕ → Bool
vacant a k = every (λ (x : Access). not (eqb x.place k)) a

unfoldable pub lowest_free : List Access → ℕ
lowest_free a = first_or 0 (keep (vacant a) places)

-- The texts that it stores: Session-Id, and host and realm of its gateway.
pub record Opening : Type 0 where
  pub session : List ℕ
  pub host : List ℕ
  pub realm : List ℕ

-- What a row of the form keeps of the realm: all of it in form 2, nothing in form 1.
unfoldable pub kept_in : (form : ℕ) → (realm : List ℕ) → List ℕ
kept_in f realm = pick (eqb f 2) realm []

unfoldable pub no_policies : Policies
no_policies = record { first = []; second = []; third = [] }

unfoldable pub new_access : List Access → (entry : ℕ) → Opening → Access
new_access a n o =
    record { place = lowest_free a; entry = n; session = o.session; host = o.host; realm = o.realm; policies = no_policies }

unfoldable pub opened : (entry : ℕ) → Opening → Subscriber → Subscriber
opened n o s = with_accesses (s.accesses ++ (new_access s.accesses n o ∷ [])) s

-- POLICIES replace all that place k held.
unfoldable pub hold : ℕ → Policies → Access → Access
hold k policies a =
    pick (eqb a.place k)
    (record { place = a.place; entry = a.entry; session = a.session; host = a.host; realm = a.realm; policies = policies }) a

unfoldable pub routed : ℕ → Policies → Subscriber → Subscriber
routed k policies s = with_accesses (map (hold k policies) s.accesses) s

-- SET-UP: a subscriber of that operator with that name, and nothing else.
unfoldable pub named : Account → Subscriber
named a = record { operator = a.operator; name = a.name; entries = []; accesses = [] }

-- The next entry, as given, behind the others.
unfoldable pub with_entry : Entry → Subscriber → Subscriber
with_entry e s = record { operator = s.operator; name = s.name; entries = s.entries ++ (e ∷ []); accesses = s.accesses }

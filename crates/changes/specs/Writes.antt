-- The blocks that a change writes, from the bytes that stood there: what stays, and what is new.
use Rattle.std.specs.Prelude.{List, [], ◌∷◌, ◌++◌, Bool, not, ℕ, ◌+◌, ◌-◌, ◌*◌, ◌/◌, ◌%◌, ◌^◌, eqb, ltb, length, take}
use Rattle.octets.specs.Choice.{pick}
use Rattle.octets.specs.Lists.{first_or, keep}
use Rattle.octets.specs.Texts.{filled, part, put}
use Rattle.table.specs.TheTable.{block_length, Access, Entry, Policies, access_bytes, entry_bytes, first_block, places, sealed, second_block}
use Rattle.changes.specs.Changes.{Opening, no_policies}

-- Block 0 with another byte 17 and another order line, sealed anew.
unfoldable pub head_with : (b : List ℕ) → (bits : ℕ) → (order : List ℕ) → List ℕ
head_with b bits order = sealed (take 17 b ++ (bits ∷ part b 18 2 ++ (order ++ part b 28 482)))

-- The lowest place whose bit is clear in a byte 17; 0 where every bit is set.
unfoldable pub is_clear : (bits k : ℕ) → Bool
is_clear bits k = eqb (bits / 2 ^ (k - 1) % 2) 0

unfoldable pub lowest_clear : (bits : ℕ) → ℕ
lowest_clear bits = first_or 0 (keep (is_clear bits) places)

-- An order line without place k, closed up, zero filled.
unfoldable pub closed_up : (order : List ℕ) → (k : ℕ) → List ℕ
closed_up order k = filled (keep (λ p. not (eqb p k)) order) 8

-- The first block of a place with another first policy, sealed anew.
unfoldable pub policy_with : (b policy : List ℕ) → List ℕ
policy_with b policy = sealed (take 4 b ++ (1 ∷ length policy ∷ part b 6 258 ++ (filled policy 128 ++ part b 392 118)))

-- The second block of a place with other second and third policies, sealed anew.
unfoldable pub others_with : (c second third : List ℕ) → List ℕ
others_with c second third =
    sealed (take 3 c ++ (length second ∷ length third ∷ part c 5 131 ++ (filled second 128 ++ (filled third 128 ++ part c 392 118))))

-- A place with other policies: both blocks, or in form 1 the first alone.
unfoldable pub routed_bytes : (p : List ℕ) → Policies → List ℕ
routed_bytes p policies =
    policy_with (first_block p) policies.first ++ pick (ltb block_length (length p)) (others_with (second_block p) policies.second policies.third) []

-- A new access, which holds no policy. The number of its place is not among its bytes.
unfoldable pub fresh : (entry : ℕ) → Opening → Access
fresh n o = record { place = 0; entry = n; session = o.session; host = o.host; realm = o.realm; policies = no_policies }

unfoldable pub opened_bytes : (form entry : ℕ) → Opening → List ℕ
opened_bytes f n o = access_bytes f (fresh n o)

-- Block 0 with one entry more behind the n that are there, sealed anew.
unfoldable pub entries_with : (b : List ℕ) → (n : ℕ) → Entry → List ℕ
entries_with b n e = sealed (take 18 b ++ ((n + 1) ∷ part b 19 13 ++ (put (part b 32 416) (104 * n) (entry_bytes e) ++ part b 448 62)))

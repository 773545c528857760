-- What the code's numbers and parts say in the terms of the same answer.
use Rattle.std.specs.Prelude.{Result, Ok, Err, Bool, true, ◌&&◌, not, List, [], ◌⊎◌, ◌≡◌, ℕ, zero, suc, ◌+◌, ◌-◌, ◌%◌, ◌≤◌, eqb, length, get_or, drop}
use Rattle.octets.specs.Choice.{pick}
use Rattle.octets.specs.Numbers.{net24, up4}
use Rattle.message.specs.ReadingAMessage.{Name, base, vendor, same_name, Avp, head_length, avp_length, avp_code, avp_of, walk, having}
use Rattle.likeness.specs.TheSameAnswer.{Finding, nothing, too_deep, differs}
use Rattle.likeness.specs.declared.Mismatch.{Mismatch}
use Rattle.likeness.specs.declared.Mismatch.TheVariants.{Header, BrokenAvp, OtherAvp, MissingAvp, Notice, Row}
use Rattle.likeness.specs.declared.Difference.{Difference}
use Rattle.likeness.specs.declared.Difference.TheVariants.{TooDeep, At}

-- The number of each kind of mismatch, and what is found by what a comparison answers.
unfoldable pub mismatch_number : Mismatch → ℕ
mismatch_number Header = 1
mismatch_number BrokenAvp = 2
mismatch_number OtherAvp = 3
mismatch_number MissingAvp = 4
mismatch_number Notice = 5
mismatch_number Row = 6

unfoldable pub said : Result Unit Difference → Finding
said (Ok u) = nothing
said (Err TooDeep) = too_deep
said (Err (At kind at)) = differs (mismatch_number kind) at

-- The AVP at a place, the AVPs from there on, and how many of them have a name.
abbrev pub avp_at : List ℕ → ℕ → Avp
avp_at m at = avp_of (drop at m)

abbrev pub avps_from : List ℕ → ℕ → List Avp
avps_from m at = (walk (drop at m)).avps

abbrev pub named_from : Name → List ℕ → ℕ → ℕ
named_from n m at = length (having n (avps_from m at))

-- Where the AVP behind the one at a place starts; 0 where there is none or it fails one of the four tests.
unfoldable pub next_at : List ℕ → ℕ → ℕ
next_at m at = pick (eqb (avp_code (drop at m)) 0) (at + up4 (avp_length (drop at m))) 0

-- An AVP that passes the four tests stands at a place: its header and its value lie inside.
pub record Stands (m : List ℕ) (at : ℕ) : Type 0 where
  pub passes : avp_code (drop at m) ≡ 0
  pub eight : at + 8 ≤ length m
  pub head : head_length (drop at m) ≤ net24 m (at + 5)
  pub end : at + net24 m (at + 5) ≤ length m

-- THE MARKS

-- How many marks there are, and which of them an AVP has: by its code, so that each name in an answer of ours has one of its own.
abbrev pub mark_count : ℕ
mark_count = 64

unfoldable pub mark_of : Name → ℕ
mark_of (base c) = c % mark_count
mark_of (vendor v c) = c % mark_count

-- The walk over the AVPs leads from one place to another, in so many steps.
unfoldable pub leads_in : (steps : ℕ) → List ℕ → (p q : ℕ) → Bool
leads_in zero m p q = eqb p q
leads_in (suc n) m p q = not (eqb (next_at m p) 0) && leads_in n m (next_at m p) q

pub record Leads (m : List ℕ) (p q : ℕ) : Type 0 where
  pub steps : ℕ
  pub there : leads_in steps m p q ≡ true

-- What a mark says of the AVPs of a name, theirs being walked up to a place: 0 that ours has none; from 2 on it is a place of ours, before which
-- as many of them stand as theirs has before its own; and 1 says nothing.
pub record Kept (ours theirs : List ℕ) (at : ℕ) (n : Name) (mark : ℕ) : Type 0 where
  pub inside : mark ≤ length ours
  pub none : mark ≡ 0 → having n (avps_from ours 20) ≡ []
  pub place : 2 ≤ mark → Leads ours 20 mark
  pub left : 2 ≤ mark → having n (avps_from ours mark) ≡ drop (named_from n theirs 20 - named_from n theirs at) (having n (avps_from ours 20))

pub record Marked (ours theirs : List ℕ) (at : ℕ) (marks : List ℕ) : Type 0 where
  pub size : length marks ≡ mark_count
  pub kept : (n : Name) → Kept ours theirs at n (get_or marks (mark_of n) 0)

-- Ours has at a mark an AVP of that name, and the next starts at `behind`.
pub record Behind (ours : List ℕ) (mark : ℕ) (n : Name) (behind : ℕ) : Type 0 where
  pub marked : 2 ≤ mark
  pub next : next_at ours mark ≡ behind
  pub named : same_name n (avp_at ours mark).name ≡ true

-- What is noted behind an AVP of theirs: the mark as it was, where ours has none of the name; 1; or what is behind the AVP at the mark, which has the name.
abbrev pub Noted : (ours : List ℕ) (mark : ℕ) (n : Name) (noted : ℕ) → Type 0
Noted ours mark n noted =
    ((noted ≡ mark) × ((mark ≡ 0) ⊎ (named_from n ours 20 ≡ 0)))
    ⊎ (((noted ≡ 1) × (1 ≤ mark)) ⊎ ((noted ≡ 0 → ⊥) × Behind ours mark n noted))

-- Each code is looked up among the names: one that is asked for has its place, one that is known besides comes behind them, and then
-- one that is no known name's.
use mathlib.Core.Path.{◌≡◌, refl, sym}
use mathlib.Core.Bool.{Bool, true, false, ◌||◌}
use mathlib.Core.List.{List, [], ◌∷◌}
use Prim.Native.Nat.{ℕ}
use lib.Dec.{eqb}
use borrow.Author.Tests.{eqb-true, ne_eqb}
use Rattle.octets.specs.Choice.{pick}
use Rattle.octets.specs.Lists.{every, is_on}
use Rattle.message.specs.ReadingAMessage.{Name, base, vendor, same_name, named_in01, codes_of_aa_request, codes_of_termination, known_avps, is_one_of, known}
use Rattle.message.specs.Positions.{names, slots, not_known, slot_in, slot_of}
use Rattle.message.proofs.Known.{key-holds, no_key, not_known_lem}
use Rattle.message.proofs.base_slot.Goals as goal

asked : List ℕ
asked = 263 ∷ 258 ∷ 264 ∷ 296 ∷ 283 ∷ 274 ∷ 293 ∷ 1 ∷ 295 ∷ 284 ∷ 285 ∷ []

arm1 : List ℕ
arm1 = 2 ∷ 4 ∷ 6 ∷ 8 ∷ 12 ∷ 14 ∷ 24 ∷ 30 ∷ 32 ∷ 34 ∷ 36 ∷ 60 ∷ 62 ∷ []

arm2 : List ℕ
arm2 = 70 ∷ 74 ∷ 94 ∷ 96 ∷ 98 ∷ 266 ∷ 268 ∷ 276 ∷ 278 ∷ 282 ∷ 298 ∷ 402 ∷ 444 ∷ 450 ∷ 578 ∷ []

arm3 : List ℕ
arm3 = 5 ∷ 7 ∷ 9 ∷ 13 ∷ 19 ∷ 25 ∷ 31 ∷ 35 ∷ 61 ∷ 63 ∷ 73 ∷ 77 ∷ []

arm4 : List ℕ
arm4 = 87 ∷ 95 ∷ 277 ∷ 279 ∷ 291 ∷ 297 ∷ 401 ∷ 443 ∷ []

-- known and not asked for
besides : ℕ → Bool
besides k = eqb (slot_of (base k)) slots

arm1-known : every besides arm1 ≡ true
unfolding names slot_in slot_of same_name pick known known_avps named_in01 codes_of_aa_request codes_of_termination is_one_of every besides arm1
arm1-known = refl

arm2-known : every besides arm2 ≡ true
unfolding names slot_in slot_of same_name pick known known_avps named_in01 codes_of_aa_request codes_of_termination is_one_of every besides arm2
arm2-known = refl

arm3-known : every besides arm3 ≡ true
unfolding names slot_in slot_of same_name pick known known_avps named_in01 codes_of_aa_request codes_of_termination is_one_of every besides arm3
arm3-known = refl

arm4-known : every besides arm4 ≡ true
unfolding names slot_in slot_of same_name pick known known_avps named_in01 codes_of_aa_request codes_of_termination is_one_of every besides arm4
arm4-known = refl

-- each known name without V has one of the codes
is_here : Name → Bool
is_here (base k) = is_on asked k || (is_on arm1 k || (is_on arm2 k || (is_on arm3 k || is_on arm4 k)))
is_here (vendor v k) = true

all_here : every is_here known_avps ≡ true
unfolding every is_on is_here asked arm1 arm2 arm3 arm4 known_avps named_in01 codes_of_aa_request codes_of_termination
all_here = refl

none-asked : (k : ℕ) → (k ≡ 263 → ⊥) → (k ≡ 258 → ⊥) → (k ≡ 264 → ⊥) → (k ≡ 296 → ⊥) → (k ≡ 283 → ⊥) → (k ≡ 274 → ⊥) → (k ≡ 293 → ⊥) → (k ≡ 1 → ⊥) → (k ≡ 295 → ⊥) → (k ≡ 284 → ⊥) → (k ≡ 285 → ⊥) → is_on asked k ≡ false
unfolding is_on every asked
none-asked k n0 n1 n2 n3 n4 n5 n6 n7 n8 n9 n10 =
    simp (ne_eqb 263 k (λ e. n0 (sym e)), ne_eqb 258 k (λ e. n1 (sym e)), ne_eqb 264 k (λ e. n2 (sym e)), ne_eqb 296 k (λ e. n3 (sym e)), ne_eqb 283 k (λ e. n4 (sym e)), ne_eqb 274 k (λ e. n5 (sym e)), ne_eqb 293 k (λ e. n6 (sym e)), ne_eqb 1 k (λ e. n7 (sym e)), ne_eqb 295 k (λ e. n8 (sym e)), ne_eqb 284 k (λ e. n9 (sym e)), ne_eqb 285 k (λ e. n10 (sym e)))

unknown : (k : ℕ) → known (base k) ≡ false → not_known ≡ slot_of (base k)
unfolding slot_of pick
unknown k e = rw e

pub returns-in-263 : goal.returns-in-263
unfolding names slot_in slot_of same_name pick known known_avps named_in01 codes_of_aa_request codes_of_termination is_one_of
returns-in-263 c = rw c.in-263.is

pub returns-in-258 : goal.returns-in-258
unfolding names slot_in slot_of same_name pick known known_avps named_in01 codes_of_aa_request codes_of_termination is_one_of
returns-in-258 c = rw c.in-258.is

pub returns-in-264 : goal.returns-in-264
unfolding names slot_in slot_of same_name pick known known_avps named_in01 codes_of_aa_request codes_of_termination is_one_of
returns-in-264 c = rw c.in-264.is

pub returns-in-296 : goal.returns-in-296
unfolding names slot_in slot_of same_name pick known known_avps named_in01 codes_of_aa_request codes_of_termination is_one_of
returns-in-296 c = rw c.in-296.is

pub returns-in-283 : goal.returns-in-283
unfolding names slot_in slot_of same_name pick known known_avps named_in01 codes_of_aa_request codes_of_termination is_one_of
returns-in-283 c = rw c.in-283.is

pub returns-in-274 : goal.returns-in-274
unfolding names slot_in slot_of same_name pick known known_avps named_in01 codes_of_aa_request codes_of_termination is_one_of
returns-in-274 c = rw c.in-274.is

pub returns-in-293 : goal.returns-in-293
unfolding names slot_in slot_of same_name pick known known_avps named_in01 codes_of_aa_request codes_of_termination is_one_of
returns-in-293 c = rw c.in-293.is

pub returns-in-1 : goal.returns-in-1
unfolding names slot_in slot_of same_name pick known known_avps named_in01 codes_of_aa_request codes_of_termination is_one_of
returns-in-1 c = rw c.in-1.is

pub returns-in-295 : goal.returns-in-295
unfolding names slot_in slot_of same_name pick known known_avps named_in01 codes_of_aa_request codes_of_termination is_one_of
returns-in-295 c = rw c.in-295.is

pub returns-in-284 : goal.returns-in-284
unfolding names slot_in slot_of same_name pick known known_avps named_in01 codes_of_aa_request codes_of_termination is_one_of
returns-in-284 c = rw c.in-284.is

pub returns-in-285 : goal.returns-in-285
unfolding names slot_in slot_of same_name pick known known_avps named_in01 codes_of_aa_request codes_of_termination is_one_of
returns-in-285 c = rw c.in-285.is

pub returns-in-2 : goal.returns-in-2
unfolding besides arm1
returns-in-2 c = sym (eqb-true _ slots (key-holds besides arm1 c.args.code arm1-known c.in-2.is))

pub returns-in-70 : goal.returns-in-70
unfolding besides arm2
returns-in-70 c = sym (eqb-true _ slots (key-holds besides arm2 c.args.code arm2-known c.in-70.is))

pub returns-in-5 : goal.returns-in-5
unfolding besides arm3
returns-in-5 c = sym (eqb-true _ slots (key-holds besides arm3 c.args.code arm3-known c.in-5.is))

pub returns-in-87 : goal.returns-in-87
unfolding besides arm4
returns-in-87 c = sym (eqb-true _ slots (key-holds besides arm4 c.args.code arm4-known c.in-87.is))

pub returns-in_default : goal.returns-in_default
unfolding is_here arm1 arm2 arm3 arm4
returns-in_default c =
    let n = c.in_default.in_default-own.rest in
    let k = c.args.code in
    let q = c.in_default.in_default-own.rest.0.0.0.0 in
    let a : is_on asked k ≡ false =
    none-asked k q.0.0.0.0.0.0.0.0.0.0.1 q.0.0.0.0.0.0.0.0.0.1 q.0.0.0.0.0.0.0.0.1 q.0.0.0.0.0.0.0.1 q.0.0.0.0.0.0.1 q.0.0.0.0.0.1 q.0.0.0.0.1 q.0.0.0.1 q.0.0.1 q.0.1 q.1 in
    unknown k (not_known_lem is_here (base k) all_here (rw (a, no_key arm1 k n.0.0.0.1, no_key arm2 k n.0.0.1, no_key arm3 k n.0.1, no_key arm4 k n.1)))

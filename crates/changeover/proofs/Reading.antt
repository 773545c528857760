-- A message without a second policy is read the same whether one is allowed or three.
use mathlib.Core.Path.{◌≡◌, sym, ap, ◌∙◌}
use mathlib.Core.Bool.{Bool}
use mathlib.Core.List.{List, [], ◌∷◌, map}
use Prim.Native.Nat.{ℕ, ◌≤◌}
use native.Mathlib.Omega.{arith}
use lib.Dec.{eqb}
use lib.ListN.{length}
use Rattle.octets.specs.Choice.{first_of, pick}
use Rattle.octets.proofs.Lists.{by-test}
use Rattle.message.specs.ReadingAMessage.{Avp, avps, command, field_code, fields, for265, for_both, having, header_code, list_code, read, reading_code, refused, request, request_of, routing_policy, tested_as, texts_field, type_of, walk_code}
use Rattle.message.proofs.Tested.{tested-none, tested-one}
use Rattle.changeover.specs.TheChangeOver.{ReadAlike, policies_in}

tested-alike : (q : Bool) (xs : List Avp) → length xs ≤ 1 → tested_as (texts_field 3 routing_policy q) xs ≡ tested_as (texts_field 1 routing_policy q) xs
unfolding texts_field
tested-alike q [] h = tested-none (texts_field 3 routing_policy q) ∙ sym (tested-none (texts_field 1 routing_policy q))
tested-alike q (a ∷ []) h = tested-one (texts_field 3 routing_policy q) a (omega arith) ∙ sym (tested-one (texts_field 1 routing_policy q) a (omega arith))
tested-alike q (a ∷ (b ∷ xs)) h = absurd (omega arith)

field_alike : (q : Bool) (xs : List Avp) → length (having routing_policy xs) ≤ 1 → field_code xs (texts_field 3 routing_policy q) ≡ field_code xs (texts_field 1 routing_policy q)
unfolding field_code texts_field
field_alike q xs h = tested-alike q (having routing_policy xs) h

fields-alike : (c : ℕ) (xs : List Avp) → length (having routing_policy xs) ≤ 1 → map (field_code xs) (fields 3 c xs) ≡ map (field_code xs) (fields 1 c xs)
unfolding fields for265 for_both pick
fields-alike c xs h =
    let last : field_code xs (texts_field 3 routing_policy (eqb (type_of xs) 1)) ≡ field_code xs (texts_field 1 routing_policy (eqb (type_of xs) 1)) = field_alike (eqb (type_of xs) 1) xs h in
    by-test (eqb c 265) (λ e. rw (e, last)) (λ e. rw e)

list-alike : (c : ℕ) (xs : List Avp) → length (having routing_policy xs) ≤ 1 → list_code 3 c xs ≡ list_code 1 c xs
unfolding list_code
list-alike c xs h = rw (fields-alike c xs h)

code_alike : (m : List ℕ) → policies_in m ≤ 1 → reading_code 3 m ≡ reading_code 1 m
unfolding reading_code policies_in
code_alike m h = ap (λ (n : ℕ). first_of (header_code m ∷ walk_code m ∷ n ∷ [])) (list-alike (command m) (avps m) h)

pub read_alike : ReadAlike
unfolding read
read_alike m h = ap (λ (n : ℕ). pick (eqb n 0) (request (request_of (command m) (avps m))) (refused n)) (code_alike m h)

-- Case by case of the request: its own plan, with the texts of its spans.
use mathlib.Core.Path.{◌≡◌, sym, ap, ◌∙◌}
use mathlib.Core.List.{List}
use mathlib.Core.Bool.{true}
use Prim.Native.Nat.{ℕ}
use Rattle.octets.specs.Lists.{every}
use Rattle.octets.proofs.Lists.{and_left, and_right}
use Rattle.message.specs.Spans.{asks, bytes_of, spans_in, is_inside}
use Rattle.table.specs.TheTable.{Policies, read_row}
use Rattle.rules.specs.Deciding.{decide, terminate, type0, type1}
use Rattle.changes.specs.Changes.{Opening, kept_in}
use Rattle.decision.proofs.Answered.{policies-fit}
use Rattle.decision.specs.Outcomes.{brought, no_text, policies_at, texts_of}
use Rattle.decision.proofs.handling.plan_for.Goals as goal

pub text-requires : goal.text-requires
unfolding every spans_in
text-requires c =
    let m = c.args.m.now in
    let is = c.in-Tunnel.is in
    let all : every (is_inside m) (spans_in c.args.asked) ≡ true = c.requires.1 in
    and_left (is_inside m c.in-Tunnel.session) _ (rw is at all)

pub text-requires-in-Tunnel : goal.text-requires-in-Tunnel
unfolding every spans_in
text-requires-in-Tunnel c =
    let m = c.args.m.now in
    let is = c.in-Tunnel.is in
    let all : every (is_inside m) (spans_in c.args.asked) ≡ true = c.requires.1 in
    and_left (is_inside m c.in-Tunnel.label) _ (and_right (is_inside m c.in-Tunnel.realm) _ (and_right (is_inside m c.in-Tunnel.host) _ (and_right (is_inside m c.in-Tunnel.session) _ (rw is at all))))

pub returns-in-Tunnel : goal.returns-in-Tunnel
unfolding brought texts_of policies_at asks decide
returns-in-Tunnel c =
    let a = c.args in
    let m = c.args.m.now in
    let session : c.text.result.now ≡ bytes_of m c.in-Tunnel.session = c.text.ensures in
    let label : c.text-in-Tunnel.result.now ≡ bytes_of m c.in-Tunnel.label = c.text-in-Tunnel.ensures in
    let is = c.in-Tunnel.is in
    let ens = c.plan_tunnel.ensures in
    let o : ℕ → Opening = λ f. record { session = bytes_of m c.in-Tunnel.session; host = bytes_of m c.in-Tunnel.host; realm = kept_in f (bytes_of m c.in-Tunnel.realm) } in
    let p : Policies = record { first = bytes_of m no_text; second = bytes_of m no_text; third = bytes_of m no_text } in
    rw is (λ f. ens.0 (o f) p (sym session) ∙ ap (λ (l : List ℕ). type0 (o f) l c.in-Tunnel.visited (read_row a.row.now)) label, λ f g h. ens.1 p)

pub text-requires-in-Policy : goal.text-requires-in-Policy
unfolding every spans_in
text-requires-in-Policy c =
    let m = c.args.m.now in
    let is = c.in-Policy.is in
    let all : every (is_inside m) (spans_in c.args.asked) ≡ true = c.requires.1 in
    and_left (is_inside m c.in-Policy.session) _ (rw is at all)

pub returns-in-Policy : goal.returns-in-Policy
unfolding brought texts_of policies_at asks decide
returns-in-Policy c =
    let m = c.args.m.now in
    let is = c.in-Policy.is in
    let session : c.text-in-Policy.result.now ≡ bytes_of m c.in-Policy.session = c.text-in-Policy.ensures in
    let ens = c.plan_policy.ensures in
    let o : ℕ → Opening = λ f. record { session = bytes_of m c.in-Policy.session; host = bytes_of m no_text; realm = kept_in f (bytes_of m no_text) } in
    let p : Policies = record { first = bytes_of m c.in-Policy.first; second = bytes_of m c.in-Policy.second; third = bytes_of m c.in-Policy.third } in
    rw is (λ f. ens.0 (o f) p ∙ ap (λ (l : List ℕ). type1 l p c.args.wag (read_row c.args.row.now)) session, λ f g h. ens.1 p (policies-fit f (bytes_of m c.in-Policy.session) (bytes_of m c.in-Policy.first) (bytes_of m c.in-Policy.second) (bytes_of m c.in-Policy.third) h))

pub text-requires-in-Termination : goal.text-requires-in-Termination
unfolding every spans_in
text-requires-in-Termination c =
    let m = c.args.m.now in
    let is = c.in-Termination.is in
    let all : every (is_inside m) (spans_in c.args.asked) ≡ true = c.requires.1 in
    and_left (is_inside m c.in-Termination.session) _ (rw is at all)

pub text-requires-in-Termination-2 : goal.text-requires-in-Termination-2
unfolding every spans_in
text-requires-in-Termination-2 c =
    let m = c.args.m.now in
    let is = c.in-Termination.is in
    let all : every (is_inside m) (spans_in c.args.asked) ≡ true = c.requires.1 in
    and_left (is_inside m c.in-Termination.label) _ (and_right (is_inside m c.in-Termination.session) _ (rw is at all))

pub returns-in-Termination : goal.returns-in-Termination
unfolding brought texts_of policies_at asks decide
returns-in-Termination c =
    let m = c.args.m.now in
    let is = c.in-Termination.is in
    let session : c.text-in-Termination.result.now ≡ bytes_of m c.in-Termination.session = c.text-in-Termination.ensures in
    let label : c.text-in-Termination-2.result.now ≡ bytes_of m c.in-Termination.label = c.text-in-Termination-2.ensures in
    let ens = c.plan_termination.ensures in
    let o : ℕ → Opening = λ f. record { session = bytes_of m c.in-Termination.session; host = bytes_of m no_text; realm = kept_in f (bytes_of m no_text) } in
    let p : Policies = record { first = bytes_of m no_text; second = bytes_of m no_text; third = bytes_of m no_text } in
    rw is (λ f. ens.0 (o f) p ∙ (λ i. terminate (session i) (label i) (read_row c.args.row.now)), λ f g h. ens.1 p)

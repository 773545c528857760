-- Case by case of the request, with the texts of its spans.
use mathlib.Core.Path.{◌≡◌}
use mathlib.Core.Bool.{true}
use Rattle.octets.specs.Lists.{every}
use Rattle.octets.proofs.Lists.{and_left, and_right}
use Rattle.message.specs.Spans.{asks, bytes_of, spans_in, is_inside}
use Rattle.reasons.proofs.deciding_failed.Goals as goal

pub text-requires : goal.text-requires
unfolding every spans_in
text-requires c =
    let m = c.args.m.now in
    let is = c.in-Tunnel.is in
    let all : every (is_inside m) (spans_in c.args.asked) ≡ true = c.requires.1 in
    and_left (is_inside m c.in-Tunnel.session) _ (rw is at all)

pub text-requires-in-Tunnel : goal.text-requires-in-Tunnel
unfolding every spans_in
text-requires-in-Tunnel c =
    let m = c.args.m.now in
    let is = c.in-Tunnel.is in
    let all : every (is_inside m) (spans_in c.args.asked) ≡ true = c.requires.1 in
    and_left (is_inside m c.in-Tunnel.label) _ (and_right (is_inside m c.in-Tunnel.realm) _ (and_right (is_inside m c.in-Tunnel.host) _ (and_right (is_inside m c.in-Tunnel.session) _ (rw is at all))))

pub returns-in-Tunnel : goal.returns-in-Tunnel
unfolding asks
returns-in-Tunnel c =
    let a = c.args in
    let m = c.args.m.now in
    let is = c.in-Tunnel.is in
    let session : c.text.result.now ≡ bytes_of m c.in-Tunnel.session = c.text.ensures in
    let label : c.text-in-Tunnel.result.now ≡ bytes_of m c.in-Tunnel.label = c.text-in-Tunnel.ensures in
    rw is (rw (session, label) at (c.tunnel_failed.ensures (bytes_of m c.in-Tunnel.host) (bytes_of m c.in-Tunnel.realm) a.wag))

pub text-requires-in-Policy : goal.text-requires-in-Policy
unfolding every spans_in
text-requires-in-Policy c =
    let m = c.args.m.now in
    let is = c.in-Policy.is in
    let all : every (is_inside m) (spans_in c.args.asked) ≡ true = c.requires.1 in
    and_left (is_inside m c.in-Policy.session) _ (rw is at all)

pub returns-in-Policy : goal.returns-in-Policy
unfolding asks
returns-in-Policy c =
    let m = c.args.m.now in
    let is = c.in-Policy.is in
    let session : c.text-in-Policy.result.now ≡ bytes_of m c.in-Policy.session = c.text-in-Policy.ensures in
    rw is (rw session at (c.policy_failed.ensures (bytes_of m c.in-Policy.first) (bytes_of m c.in-Policy.second) (bytes_of m c.in-Policy.third)))

pub text-requires-in-Termination : goal.text-requires-in-Termination
unfolding every spans_in
text-requires-in-Termination c =
    let m = c.args.m.now in
    let is = c.in-Termination.is in
    let all : every (is_inside m) (spans_in c.args.asked) ≡ true = c.requires.1 in
    and_left (is_inside m c.in-Termination.session) _ (rw is at all)

pub text-requires-in-Termination-2 : goal.text-requires-in-Termination-2
unfolding every spans_in
text-requires-in-Termination-2 c =
    let m = c.args.m.now in
    let is = c.in-Termination.is in
    let all : every (is_inside m) (spans_in c.args.asked) ≡ true = c.requires.1 in
    and_left (is_inside m c.in-Termination.label) _ (and_right (is_inside m c.in-Termination.session) _ (rw is at all))

pub returns-in-Termination : goal.returns-in-Termination
unfolding asks
returns-in-Termination c =
    let a = c.args in
    let m = c.args.m.now in
    let is = c.in-Termination.is in
    let session : c.text-in-Termination.result.now ≡ bytes_of m c.in-Termination.session = c.text-in-Termination.ensures in
    let label : c.text-in-Termination-2.result.now ≡ bytes_of m c.in-Termination.label = c.text-in-Termination-2.ensures in
    rw is (rw (session, label) at (c.termination_failed.ensures a.wag))

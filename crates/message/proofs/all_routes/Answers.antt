-- Four searches, one behind another: what they found says how many there are and how long the first three.
use mathlib.Core.Path.{◌≡◌, sym, ◌∙◌}
use mathlib.Core.Bool.{true, false, ◌&&◌}
use Prim.Native.Nat.{◌≤◌, ◌<◌}
use native.Mathlib.Omega.{arith}
use Rattle.message.specs.ReadingAMessage.{walk_code}
use Rattle.message.specs.Spans.{is_fit, how_many}
use Rattle.message.proofs.Policies.{routes-none, routes-over, routes-unfit, routes-brought}
use Rattle.std.specs.Option.{is_some}
use Rattle.message.proofs.all_routes.Goals as goal

pub route_from-a-requires : goal.route_from-a-requires
unfolding walk_code
route_from-a-requires c =
    let p = c.requires in
    (omega arith, p.0, p.1)

pub route_from-b-requires : goal.route_from-b-requires
route_from-b-requires c =
    let r = c.route_from-a.ensures in
    (r.least, r.most, r.passes)

pub route_from-c-requires : goal.route_from-c-requires
route_from-c-requires c =
    let r = c.route_from-b.ensures in
    (r.least, r.most, r.passes)

pub route_from-d-requires : goal.route_from-d-requires
route_from-d-requires c =
    let r = c.route_from-c.ensures in
    (r.least, r.most, r.passes)

pub returns-in_default : goal.returns-in_default
returns-in_default c =
    routes-none c.args.most c.args.m.now c.route_from-a.result c.route_from-b.result c.route_from-c.result c.route_from-d.result
    c.route_from-a.ensures c.route_from-b.ensures c.route_from-c.ensures c.route_from-d.ensures
    c.in_default.is

pub returns-then-most-how_many : goal.returns-then-most-how_many
returns-then-most-how_many c =
    let b = c.route_from-b.result in
    let e = c.route_from-c.result in
    let f = c.route_from-d.result in
    let o : c.args.most < how_many (is_some b.span) (is_some e.span) (is_some f.span) =
    let h : c.args.most < how_many c.is_some.result c.is_some-2.result c.is_some-3.result = omega (arith, c.if-most-how_many.true, c.how_many.ensures) in
    rw (c.is_some.ensures, c.is_some-2.ensures, c.is_some-3.ensures) at h in
    routes-over c.args.most c.args.m.now c.route_from-a.result b e f
    c.route_from-a.ensures c.route_from-b.ensures c.route_from-c.ensures c.route_from-d.ensures
    c.in-Some.first c.in-Some.is c.requires.2 o

pub returns-then-not-all_fit : goal.returns-then-not-all_fit
returns-then-not-all_fit c =
    let a = c.route_from-a.result in
    let b = c.route_from-b.result in
    let e = c.route_from-c.result in
    let f = c.route_from-d.result in
    let o : how_many (is_some b.span) (is_some e.span) (is_some f.span) ≤ c.args.most =
    let h : how_many c.is_some.result c.is_some-2.result c.is_some-3.result ≤ c.args.most = omega (arith, c.if-most-how_many.false, c.how_many.ensures) in
    rw (c.is_some.ensures, c.is_some-2.ensures, c.is_some-3.ensures) at h in
    let w : is_fit a.span && (is_fit b.span && is_fit e.span) ≡ false = sym c.all_fit.ensures ∙ c.if-not-all_fit.true in
    routes-unfit c.args.most c.args.m.now a b e f
    c.route_from-a.ensures c.route_from-b.ensures c.route_from-c.ensures c.route_from-d.ensures
    c.in-Some.first c.in-Some.is c.requires.2 o w

pub returns : goal.returns
returns c =
    let a = c.route_from-a.result in
    let b = c.route_from-b.result in
    let e = c.route_from-c.result in
    let f = c.route_from-d.result in
    let o : how_many (is_some b.span) (is_some e.span) (is_some f.span) ≤ c.args.most =
    let h : how_many c.is_some.result c.is_some-2.result c.is_some-3.result ≤ c.args.most = omega (arith, c.if-most-how_many.false, c.how_many.ensures) in
    rw (c.is_some.ensures, c.is_some-2.ensures, c.is_some-3.ensures) at h in
    let w : is_fit a.span && (is_fit b.span && is_fit e.span) ≡ true = sym c.all_fit.ensures ∙ c.if-not-all_fit.false in
    rw (c.unwrap_or.ensures, c.unwrap_or-2.ensures)
    (routes-brought c.args.most c.args.m.now a b e f
    c.route_from-a.ensures c.route_from-b.ensures c.route_from-c.ensures c.route_from-d.ensures
    c.in-Some.first c.in-Some.is c.requires.2 o w)

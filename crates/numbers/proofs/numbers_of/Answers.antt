-- Number by number, from what each part promises.
use mathlib.Core.Path.{◌≡◌, ap, ◌∙◌}
use Prim.Native.Nat.{ℕ, ◌<◌}
use native.Mathlib.Omega.{arith}
use Rattle.effects.specs.declared.Cut.{Cut}
use Rattle.decision.specs.Outcomes.{cut_session, cut_host, cut_realm, result_said}
use Rattle.numbers.proofs.Cuts.{session, host, realm}
use Rattle.numbers.specs.InNumbers.{numbers_said}
use Rattle.numbers.proofs.numbers_of.Goals as goal

-- what is returned comes before the bounds: a wrong number is refused here
pub returns : goal.returns
unfolding numbers_said result_said
returns c =
    let of = c.unwrap_or-cut.ensures in
    let s : c.narrow-3.result ≡ cut_session c.args.o.cut = c.narrow-3.ensures ∙ ap (λ (x : Cut). x.session) of ∙ session c.args.o.cut in
    let h : c.narrow-4.result ≡ cut_host c.args.o.cut = c.narrow-4.ensures ∙ ap (λ (x : Cut). x.host) of ∙ host c.args.o.cut in
    let r : c.narrow-5.result ≡ cut_realm c.args.o.cut = c.narrow-5.ensures ∙ ap (λ (x : Cut). x.realm) of ∙ realm c.args.o.cut in
    rw (r, h, s, c.cut_number.ensures, c.narrow-2.ensures, c.narrow.ensures, c.kind_number.ensures c.args.o.code)

pub narrow-requires : goal.narrow-requires
unfolding result_said
narrow-requires c = c.requires.length-fits

pub narrow-requires-2 : goal.narrow-requires-2
unfolding result_said
narrow-requires-2 c = c.requires.place-fits

pub narrow-requires-3 : goal.narrow-requires-3
unfolding result_said
narrow-requires-3 c = omega (arith, ap (λ (x : Cut). x.session) c.unwrap_or-cut.ensures ∙ session c.args.o.cut, c.requires.session-fits)

pub narrow-requires-4 : goal.narrow-requires-4
unfolding result_said
narrow-requires-4 c = omega (arith, ap (λ (x : Cut). x.host) c.unwrap_or-cut.ensures ∙ host c.args.o.cut, c.requires.host-fits)

pub narrow-requires-5 : goal.narrow-requires-5
unfolding result_said
narrow-requires-5 c = omega (arith, ap (λ (x : Cut). x.realm) c.unwrap_or-cut.ensures ∙ realm c.args.o.cut, c.requires.realm-fits)

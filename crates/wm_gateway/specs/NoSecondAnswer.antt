-- No second answer of the gateway in C: what `wm_reauth` promises for the same inputs is met by one outcome only, in the struct that it returns and in every byte of
-- both rooms. The equation is the one that it ensures; `proofs/Ensured` holds it to that.
use Rattle.std.specs.Prelude.{◌≡◌, List, ℕ}
use Rattle.gateway.specs.TheGateway.{Call, reauthorize}
use Rattle.wm_gateway.specs.declared.WmReauthorized.{WmReauthorized}
use Rattle.wm_gateway.specs.InC.{leaves_in_c}

-- All that it gives back: the struct, and the full contents of both rooms.
pub record GivenAtGateway : Type 0 where
  pub numbers : WmReauthorized
  pub answer : List ℕ
  pub request : List ℕ

-- What it ensures of that, for a call.
abbrev pub PromisedAtGateway : Call → GivenAtGateway → Type 0
PromisedAtGateway c g = leaves_in_c g.numbers g.answer g.request ≡ reauthorize c

abbrev pub OneAnswerAtGateway : Type 0
OneAnswerAtGateway = (c : Call) (g h : GivenAtGateway) → PromisedAtGateway c g → PromisedAtGateway c h → g ≡ h

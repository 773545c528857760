-- All that was given back can be read back from all that was left, so that what is equal there was equal before.
use mathlib.Core.Path.{◌≡◌, refl, sym, ap, ◌∙◌}
use Rattle.gateway.specs.TheGateway.{Left}
use Rattle.wm_gateway.specs.InC.{leaves_in_c}
use Rattle.wm_gateway.specs.NoSecondAnswer.{GivenAtGateway, OneAnswerAtGateway}

given_back : Left → GivenAtGateway
given_back l =
    record {
      numbers = record { code = l.code; kind = l.kind; length = l.size; request_length = l.request_size };
      answer = l.answer;
      request = l.request;
    }

given_back_lem : (g : GivenAtGateway) → given_back (leaves_in_c g.numbers g.answer g.request) ≡ g
unfolding given_back leaves_in_c
given_back_lem g = refl

pub one-answer-at-gateway : OneAnswerAtGateway
one-answer-at-gateway c g h p q = sym (given_back_lem g) ∙ ap given_back (p ∙ sym q) ∙ given_back_lem h

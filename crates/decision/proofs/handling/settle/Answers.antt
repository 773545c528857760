-- What is planned on the row is what is decided there, and is carried out with the texts of the request.
use mathlib.Core.Bool.{true}
use mathlib.Core.Path.{◌≡◌, sym, ap, ◌∙◌}
use mathlib.Core.List.{List}
use Prim.Native.Nat.{ℕ}
use native.Mathlib.Omega.{arith}
use lib.ListN.{length}
use Rattle.octets.specs.Lists.{every}
use Rattle.message.specs.Kinds.{code_from}
use Rattle.message.specs.Spans.{asks, bytes_of, is_inside}
use Rattle.table.specs.Answers.{lent}
use Rattle.table.specs.Soundness.{sound}
use Rattle.table.specs.TheTable.{read_row, row_at}
use Rattle.rules.specs.Calls.{most_policies, notice_room, table_after}
use Rattle.rules.specs.Deciding.{Verdict, decide}
use Rattle.plans.specs.Plans.{fit_plan, planned}
use Rattle.effects.specs.Carrying.{done_for}
use Rattle.decision.specs.declared.Texts.{Texts}
use Rattle.decision.specs.Outcomes.{brought, policies_at, spans_of, texts_of}
use Rattle.decision.proofs.Answered.{plan-code, plan-small, request-fits, settled_is, texts-inside, texts-short, user-holds, user-short}
use Rattle.decision.proofs.handling.settle.Goals as goal

pub plan_for-plan-requires : goal.plan_for-plan-requires
plan_for-plan-requires c =
    let at-was = c.at in
    let pre-was = c.requires in
    (ap sound at-was.ensures ∙ pre-was.4, pre-was.5)

pub carry_out-done-requires : goal.carry_out-done-requires
carry_out-done-requires c =
    let given = c.args in
    let texts-of-was = c.texts_of in
    let plan-for-was = c.plan_for-plan in
    let at-was = c.at in
    let pre-was = c.requires in
    let t = lent given.form given.table.now in
    let r = row_at t given.i in
    let m = c.args.m.now in
    let texts : texts-of-was.result ≡ texts_of given.asked = texts-of-was.ensures in
    let fit : fit_plan (policies_at m (texts_of given.asked)) plan-for-was.result r ≡ true =
    ap (fit_plan (policies_at m (texts_of given.asked)) plan-for-was.result) (sym at-was.ensures) ∙ plan-for-was.ensures.1 given.form pre-was.1 (request-fits given.form pre-was.1 m _ pre-was.7) in
    let short = texts-short (most_policies given.form) m _ given.asked pre-was.7 in (
      pre-was.0,
      pre-was.2,
      pre-was.3,
      pre-was.4,
      ap (λ (x : Texts). fit_plan (policies_at m x) plan-for-was.result r) texts ∙ fit,
      ap (λ (x : Texts). every (is_inside m) (spans_of x)) texts ∙ texts-inside m given.asked pre-was.5,
      omega (arith, ap (λ (x : Texts). length (bytes_of m x.session)) texts, short.0),
      omega (arith, ap (λ (x : Texts). length (bytes_of m x.host)) texts, short.1),
      omega (arith, ap (λ (x : Texts). length (bytes_of m x.realm)) texts, short.2),
    )

pub returns : goal.returns
returns c =
    let given = c.args in
    let plan-for-was = c.plan_for-plan in
    let carry-out-was = c.carry_out-done in
    let at-was = c.at in
    let texts-of-was = c.texts_of in
    let kind-of-was = c.kind_of-kind in
    let code-of-was = c.code_of-code in
    let pre-was = c.requires in
    let t = lent given.form given.table.now in
    let m = c.args.m.now in
    let fm = c.args.form in
    let plan = c.plan_for-plan.result in
    let s = read_row (row_at t given.i) in
    let v = decide fm (asks m given.asked) given.wag s in
    let carried = c.carry_out-done.ensures in
    let by : planned (brought fm m (texts_of given.asked)) plan s ≡ v =
    ap (λ (r : List ℕ). planned (brought fm m (texts_of given.asked)) plan (read_row r)) (sym at-was.ensures) ∙ plan-for-was.ensures.0 fm ∙ ap (λ (r : List ℕ). decide fm (asks m given.asked) given.wag (read_row r)) at-was.ensures in
    let is : planned (brought fm m texts-of-was.result) plan s ≡ v = ap (λ (x : Texts). planned (brought fm m x) plan s) texts-of-was.ensures ∙ by in
    let coded : v.code ≡ code_from kind-of-was.result code-of-was.result =
    ap (λ (x : Verdict). x.code) (sym by) ∙ plan-code (brought fm m (texts_of given.asked)) plan s ∙ kind-of-was.ensures ∙ ap (code_from kind-of-was.result) (sym code-of-was.ensures) in (
      record {
        holds = λ e. user-holds (most_policies fm) m given.user pre-was.6 (asks m given.asked) pre-was.7;
        short = λ e. user-short (most_policies fm) m given.user pre-was.6 (asks m given.asked) pre-was.7;
        small = omega (arith, code-of-was.ensures, plan-small plan);
      },
      λ o host realm room.
          settled_is t given.i o m host realm room given.notice.now given.wag v kind-of-was.result code-of-was.result given.user carry-out-was.result _ _
          coded (carried.0 ∙ ap (table_after t given.i) is) (carried.1 ∙ ap (λ (x : Verdict). notice_room fm x.cut given.notice.now) is) (carried.2 ∙ ap done_for is),
    )

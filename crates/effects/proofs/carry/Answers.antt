-- Case by case of the plan: what it means is what the change leaves.
use Rattle.std.specs.Prelude.{Some, None}
use mathlib.Core.Path.{◌≡◌, refl, sym, ap, ◌∙◌}
use mathlib.Core.Bool.{true, false, ◌&&◌}
use mathlib.Core.Logic.{inl, inr}
use Prim.Native.Nat.{◌<◌, ◌≤◌}
use native.Mathlib.Omega.{arith}
use borrow.Author.Tests.{eq-eqb, leb-true, ltb-true, ne_eqb}
use lib.Dec.{eqb, leb, ltb}
use lib.ListN.{length}
use Rattle.octets.specs.Choice.{pick, within}
use Rattle.octets.specs.Lists.{is_on}
use Rattle.octets.proofs.Lists.{and_left, and_right, within_low, within-high}
use Rattle.message.specs.Codes.{number_of}
use Rattle.table.specs.Answers.{lent}
use Rattle.table.specs.TheTable.{order_line, read_row, row_at}
use Rattle.plans.specs.declared.Plan.TheVariants.{Open, Route, Free}
use Rattle.rules.specs.Deciding.{refuse, grant, open_on}
use Rattle.rules.specs.Calls.{notice_room, table_after}
use Rattle.plans.specs.Plans.{fit_plan, fit_policies, plan_code, planned}
use Rattle.effects.specs.Carrying.{cut_for, done_for}
use Rattle.effects.proofs.Rooms.{row_stays}
use Rattle.effects.proofs.carry.Goals as goal

pub overflow_cast-entry : goal.overflow_cast-entry
unfolding fit_plan
overflow_cast-entry c =
    let a = c.args in
    let r = row_at (lent a.form c.args.table.now) a.i in
    let n = c.in-Open-default-None.entry in
    let is : a.plan ≡ Open n None = c.in-Open-default-None.is ∙ ap (Open n) (rw c.in-Open-default-None.is at c.in-Open-default-None.cut-is) in
    let fit : within 1 4 n && ltb (length (read_row r).accesses) 8 ≡ true = rw is at c.requires.4 in
    let four : n ≤ 4 = within-high 1 4 n (and_left (within 1 4 n) _ fit) in
    omega (arith, four)

pub open-place-requires : goal.open-place-requires
unfolding fit_plan
open-place-requires c =
    let a = c.args in
    let r = row_at (lent a.form c.args.table.now) a.i in
    let n = c.in-Open-default-None.entry in
    let is : a.plan ≡ Open n None = c.in-Open-default-None.is ∙ ap (Open n) (rw c.in-Open-default-None.is at c.in-Open-default-None.cut-is) in
    let fit : within 1 4 n && ltb (length (read_row r).accesses) 8 ≡ true = rw is at c.requires.4 in
    let few : length (read_row r).accesses < 8 = ltb-true (length (read_row r).accesses) 8 (and_right (within 1 4 n) _ fit) in
    (c.requires.1, c.requires.2, c.requires.3, few, c.requires.5, c.requires.6, c.requires.7)

pub returns-in-Open-default-None : goal.returns-in-Open-default-None
unfolding planned plan_code refuse grant open_on table_after notice_room done_for cut_for pick number_of
returns-in-Open-default-None c =
    let n = c.in-Open-default-None.entry in
    let is : c.args.plan ≡ Open n None = c.in-Open-default-None.is ∙ ap (Open n) (rw c.in-Open-default-None.is at c.in-Open-default-None.cut-is) in
    let new = c.open-place in
    rw is (new.ensures.0, refl, λ j. record { place = new.ensures.1 j; cut = None })

pub open_with_cut-requires : goal.open_with_cut-requires
unfolding fit_plan
open_with_cut-requires c =
    let a = c.args in
    let r = row_at (lent a.form c.args.table.now) a.i in
    let n = c.in-Open-default-Some.entry in
    let k = c.in-Open-default-Some.k in
    let is : a.plan ≡ Open n (Some k) = c.in-Open-default-Some.is ∙ ap (Open n) (rw c.in-Open-default-Some.is at c.in-Open-default-Some.cut-is) in
    let fit : within 1 4 n && is_on (order_line r) k ≡ true = rw is at c.requires.4 in
    let four : n ≤ 4 = within-high 1 4 n (and_left (within 1 4 n) _ fit) in
    (c.requires.0, c.requires.1, c.requires.2, c.requires.3, and_right (within 1 4 n) _ fit, four, c.requires.5, c.requires.6, c.requires.7)

pub returns-in-Open-default-Some : goal.returns-in-Open-default-Some
unfolding planned plan_code refuse grant open_on table_after done_for pick number_of
returns-in-Open-default-Some c =
    let n = c.in-Open-default-Some.entry in
    let k = c.in-Open-default-Some.k in
    let is : c.args.plan ≡ Open n (Some k) = c.in-Open-default-Some.is ∙ ap (Open n) (rw c.in-Open-default-Some.is at c.in-Open-default-Some.cut-is) in
    let new = c.open_with_cut in
    rw is (new.ensures.0, new.ensures.1, new.ensures.2)

pub route-requires : goal.route-requires
unfolding fit_plan fit_policies
route-requires c =
    let a = c.args in
    let k = c.in-Route.k in
    let on = is_on (order_line (row_at (lent a.form a.table.now) a.i)) k in
    let one = within 1 128 (length a.first.now) in
    let two = leb (length a.second.now) 128 in
    let three = leb (length a.third.now) 128 in
    let is : a.plan ≡ Route k = c.in-Route.is in
    let fit : on && (one && (two && three)) ≡ true = rw is at c.requires.4 in
    let long : one && (two && three) ≡ true = and_right on _ fit in
    let first_fits : one ≡ true = and_left one _ long in
    let others : two && three ≡ true = and_right one _ long in (
      c.requires.1,
      c.requires.2,
      c.requires.3,
      and_left on _ fit,
      within_low 1 128 _ first_fits,
      within-high 1 128 _ first_fits,
      leb-true _ 128 (and_left two three others),
      leb-true _ 128 (and_right two three others),
    )

pub returns-in-Route : goal.returns-in-Route
unfolding planned plan_code refuse grant open_on table_after notice_room done_for cut_for pick number_of
returns-in-Route c =
    let is = c.in-Route.is in
    rw is (c.route.ensures, refl, c.nothing.ensures)

pub free-requires : goal.free-requires
unfolding fit_plan
free-requires c =
    let a = c.args in
    let k = c.in-Free.k in
    let is : a.plan ≡ Free k = c.in-Free.is in
    (c.requires.1, c.requires.2, c.requires.3, rw is at c.requires.4)

pub returns-in-Free : goal.returns-in-Free
unfolding planned plan_code refuse grant open_on table_after notice_room done_for cut_for pick number_of
returns-in-Free c =
    let is = c.in-Free.is in
    rw is (c.free.ensures, refl, c.nothing-in-Free.ensures)

-- a refusal, or an access that goes on
pub returns-in-NotSubscribed : goal.returns-in-NotSubscribed
unfolding planned plan_code refuse grant open_on table_after notice_room done_for cut_for pick number_of
returns-in-NotSubscribed c =
    let a = c.args in
    let none = c.nothing-in-NotSubscribed.ensures in
    elim c.in-NotSubscribed.is [
      | inl not_subscribed ↦ rw not_subscribed (refl, refl, none)
      | inr others ↦ elim others [
        | inl barred ↦ rw barred (refl, refl, none)
        | inr others ↦ elim others [
          | inl roaming ↦ rw roaming (refl, refl, none)
          | inr others ↦ elim others [
            | inl unable ↦ rw unable (refl, refl, none)
            | inr others ↦ elim others [
              | inl unused ↦ rw unused (refl, refl, none)
              | inr stands ↦ rw stands (sym (row_stays (lent a.form a.table.now) a.i c.requires.2 c.requires.3), refl, none)
            ]
          ]
        ]
      ]
    ]

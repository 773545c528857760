-- The first AVP decides whether those behind it are looked at: a law of Answers for each way out.
use mathlib.Core.Path.{◌≡◌, sym, ◌∙◌}
use mathlib.Core.Bool.{true, false}
use Prim.Native.Nat.{◌+◌, ◌-◌}
use native.Mathlib.Omega.{arith}
use lib.ListN.{drop, length-drop}
use Rattle.octets.specs.Numbers.{up4}
use Rattle.octets.specs.Texts.{part, same}
use Rattle.abort.proofs.Answers.{first-no, first-there, first-other, first-ours}
use Rattle.abort.proofs.answers_for.Goals as goal

pub returns-in_default : goal.returns-in_default
returns-in_default c =
    let given = c.args in
    let pre-was = c.requires in
    let m = c.args.answer.now in
    sym (first-no (drop 20 m) given.session.now (rw length-drop (omega (arith, pre-was.0))) c.in_default.ensures)

pub overflow_add-end : goal.overflow_add-end
unfolding up4
overflow_add-end c =
    let n = c.in-Some.n in
    let first = c.in-Some.ensures in
    let pre-was = c.requires in
    let m = c.args.answer.now in
    let t = first-there m n pre-was.0 first.0 first.1 in
    omega (arith, t.whole, pre-was.1)

pub slice_bounds-same_bytes-count : goal.slice_bounds-same_bytes-count
slice_bounds-same_bytes-count c =
    let n = c.in-Some.n in
    let first = c.in-Some.ensures in
    let pre-was = c.requires in
    let m = c.args.answer.now in
    let t = first-there m n pre-was.0 first.0 first.1 in
    omega (arith, t.least)

pub slice_bounds-same_bytes-start : goal.slice_bounds-same_bytes-start
slice_bounds-same_bytes-start c =
    let n = c.in-Some.n in
    let first = c.in-Some.ensures in
    let pre-was = c.requires in
    let m = c.args.answer.now in
    let t = first-there m n pre-was.0 first.0 first.1 in
    omega (arith, t.least)

pub slice_bounds-same_bytes-end : goal.slice_bounds-same_bytes-end
unfolding up4
slice_bounds-same_bytes-end c =
    let n = c.in-Some.n in
    let first = c.in-Some.ensures in
    let pre-was = c.requires in
    let m = c.args.answer.now in
    let t = first-there m n pre-was.0 first.0 first.1 in
    omega (arith, t.whole, pre-was.0)

pub returns-then-not-same_bytes : goal.returns-then-not-same_bytes
returns-then-not-same_bytes c =
    let given = c.args in
    let n = c.in-Some.n in
    let first = c.in-Some.ensures in
    let same-bytes-was = c.same_bytes in
    let test2 = c.if-not-same_bytes in
    let pre-was = c.requires in
    let m = c.args.answer.now in
    let d : same (part m 28 (20 + n - 28)) given.session.now ≡ false = sym same-bytes-was.ensures ∙ test2.true in
    sym (first-other m n pre-was.0 first.0 first.1 given.session.now d)

pub overflow_add-n : goal.overflow_add-n
unfolding up4
overflow_add-n c =
    let n = c.in-Some.n in
    let first = c.in-Some.ensures in
    let pre-was = c.requires in
    let m = c.args.answer.now in
    let t = first-there m n pre-was.0 first.0 first.1 in
    omega (arith, t.whole, pre-was.1)

pub overflow_mul-n : goal.overflow_mul-n
unfolding up4
overflow_mul-n c =
    let n = c.in-Some.n in
    let first = c.in-Some.ensures in
    let pre-was = c.requires in
    let m = c.args.answer.now in
    let t = first-there m n pre-was.0 first.0 first.1 in
    omega (arith, t.whole, pre-was.1)

pub overflow_add-n-2 : goal.overflow_add-n-2
unfolding up4
overflow_add-n-2 c =
    let n = c.in-Some.n in
    let first = c.in-Some.ensures in
    let pre-was = c.requires in
    let m = c.args.answer.now in
    let t = first-there m n pre-was.0 first.0 first.1 in
    omega (arith, t.whole, pre-was.1)

pub rest_answers-requires : goal.rest_answers-requires
unfolding up4
rest_answers-requires c =
    let n = c.in-Some.n in
    let first = c.in-Some.ensures in
    let pre-was = c.requires in
    let m = c.args.answer.now in
    let t = first-there m n pre-was.0 first.0 first.1 in
    (omega (arith, t.whole, pre-was.0), pre-was.1)

pub returns : goal.returns
unfolding up4
returns c =
    let given = c.args in
    let n = c.in-Some.n in
    let first = c.in-Some.ensures in
    let same-bytes-was = c.same_bytes in
    let test2 = c.if-not-same_bytes in
    let rest-answers-was = c.rest_answers in
    let pre-was = c.requires in
    let m = c.args.answer.now in
    let d : same (part m 28 (20 + n - 28)) given.session.now ≡ true = sym same-bytes-was.ensures ∙ test2.false in
    rest-answers-was.ensures ∙ sym (first-ours m n pre-was.0 first.0 first.1 given.session.now d)

-- A name is 1 to 15 digits by its length byte: `name-is` of Tests.
use Rattle.table.proofs.Rows.{lent-part}
use mathlib.Core.Path.{◌∙◌, ◌≡◌, ap, sym}
use mathlib.Core.Bool.{false, true}
use native.Mathlib.Omega.{arith}
use lib.ListN.{get_or}
use Rattle.octets.specs.Lists.{every}
use Rattle.octets.specs.Texts.{part}
use Rattle.octets.proofs.Lists.{within-high}
use Rattle.octets.proofs.Texts.{length_part}
use Rattle.table.specs.Soundness.{is_digit}
use Rattle.table.proofs.Tests.{behind-said, fails, name-is, passes_on}
use Rattle.blocks.proofs.name_form.Goals as goal

pub returns-then-not-is_within : goal.returns-then-not-is_within
returns-then-not-is_within c =
    let given = c.args in
    let pre-was = c.requires in
    let is-within-was = c.is_within in
    let test1 = c.if-not-is_within in
    rw (name-is given.b.now (get_or given.b.now 1 0) pre-was, fails is-within-was.ensures test1.true)

pub slice_bounds-digits-end : goal.slice_bounds-digits-end
slice_bounds-digits-end c =
    let given = c.args in
    let is-within-was = c.is_within in
    let test1 = c.if-not-is_within in
    let from-was = c.from-n in
    omega (arith, within-high 1 15 (get_or given.b.now 1 0) (passes_on is-within-was.ensures test1.false), from-was.ensures)

pub returns-then-not-digits : goal.returns-then-not-digits
returns-then-not-digits c =
    let given = c.args in
    let from-was = c.from-n in
    let digits-was = c.digits in
    let test2 = c.if-not-digits in
    let pre-was = c.requires in
    let is-within-was = c.is_within in
    let test1 = c.if-not-is_within in
    let text : every is_digit (part given.b.now 2 (get_or given.b.now 1 0)) ≡ false = ap (every is_digit) (sym (lent-part given.b.now 2 from-was.result (get_or given.b.now 1 0) from-was.ensures)) ∙ fails digits-was.ensures test2.true in
    rw (name-is given.b.now (get_or given.b.now 1 0) pre-was, passes_on is-within-was.ensures test1.false, text)

pub zero_behind-requires : goal.zero_behind-requires
zero_behind-requires c =
    let given = c.args in
    let is-within-was = c.is_within in
    let test1 = c.if-not-is_within in
    let from-was = c.from-n in
    omega (arith, length_part given.b.now 2 15 (omega arith), within-high 1 15 (get_or given.b.now 1 0) (passes_on is-within-was.ensures test1.false), from-was.ensures)

pub returns : goal.returns
returns c =
    let given = c.args in
    let from-was = c.from-n in
    let digits-was = c.digits in
    let test2 = c.if-not-digits in
    let pre-was = c.requires in
    let is-within-was = c.is_within in
    let test1 = c.if-not-is_within in
    let zero-behind-was = c.zero_behind in
    let text : every is_digit (part given.b.now 2 (get_or given.b.now 1 0)) ≡ true = ap (every is_digit) (sym (lent-part given.b.now 2 from-was.result (get_or given.b.now 1 0) from-was.ensures)) ∙ passes_on digits-was.ensures test2.false in
    rw (name-is given.b.now (get_or given.b.now 1 0) pre-was, passes_on is-within-was.ensures test1.false, text) (behind-said (part given.b.now 2 15) from-was.result (get_or given.b.now 1 0) from-was.ensures zero-behind-was.ensures)

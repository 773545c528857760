-- In a sound row the two texts stand side by side, zero filled, as in the notice; form 2 has the realm behind them.
use mathlib.Core.Path.{◌≡◌, sym, ap, ◌∙◌}
use mathlib.Core.List.{List, [], ◌∷◌, ◌++◌}
use Prim.Native.Nat.{ℕ}
use native.Mathlib.Omega.{arith}
use lib.ListN.{length}
use Rattle.octets.specs.Lists.{is_on}
use Rattle.octets.specs.Texts.{filled, part, put}
use Rattle.octets.proofs.Texts.{length_part}
use Rattle.table.specs.Answers.{lent}
use Rattle.table.specs.Soundness.{is_row, sound}
use Rattle.table.specs.TheTable.{block_length, access_at, first_block, form_of, order_line, place, row_at}
use Rattle.table.proofs.Form.{length-first-of, sized}
use Rattle.row.proofs.Entries.{row_of}
use Rattle.rules.specs.Calls.{notice_room}
use Rattle.effects.specs.Carrying.{cut_for}
use Rattle.std.specs.Prelude.{Some}
use Rattle.effects.proofs.Rooms.{at_least, at_most, at-place-is, form-there, notice-least, notice-long, notice-one, notice-two, realm-none, texts-are}
use Rattle.effects.proofs.write_notice.Goals as goal

pub notice_rooms-requires : goal.notice_rooms-requires
notice_rooms-requires c =
    let at-was = c.at-row in
    let given = c.args in
    let pre-was = c.requires in
    let r = row_at (lent given.form given.table.now) given.i in
    (ap is_row at-was.ensures ∙ row_of r pre-was.3, at_least r pre-was.3 given.k pre-was.4, at_most r pre-was.3 given.k pre-was.4)

pub put_bytes-requires : goal.put_bytes-requires
put_bytes-requires c =
    let notice-rooms-was = c.notice_rooms in
    let at-was = c.at-row in
    let given = c.args in
    let pre-was = c.requires in
    let r = row_at (lent given.form given.table.now) given.i in
    let b = first_block (place at-was.result.now given.k) in
    let whole : length b ≡ block_length =
    length-first-of at-was.result.now given.k (sized at-was.result.now (ap is_row at-was.ensures ∙ row_of r pre-was.3))
    (at_least r pre-was.3 given.k pre-was.4) (at_most r pre-was.3 given.k pre-was.4) in
    omega (arith, ap length notice-rooms-was.ensures, length_part b 8 256 (omega (arith, whole)), notice-least given.form, pre-was.0)

pub session-session-requires : goal.session-session-requires
session-session-requires c =
    let at-was = c.at-row in
    let given = c.args in
    let pre-was = c.requires in
    let r = row_at (lent given.form given.table.now) given.i in
    (ap is_row at-was.ensures ∙ row_of r pre-was.3, at_least r pre-was.3 given.k pre-was.4, at_most r pre-was.3 given.k pre-was.4)

pub host-host-requires : goal.host-host-requires
host-host-requires c =
    let at-was = c.at-row in
    let given = c.args in
    let pre-was = c.requires in
    let r = row_at (lent given.form given.table.now) given.i in
    (ap is_row at-was.ensures ∙ row_of r pre-was.3, at_least r pre-was.3 given.k pre-was.4, at_most r pre-was.3 given.k pre-was.4)

pub returns-then-form-ne2 : goal.returns-then-form-ne2
unfolding cut_for
returns-then-form-ne2 c =
    let given = c.args in
    let pre-was = c.requires in
    let notice-rooms-was = c.notice_rooms in
    let at-was = c.at-row in
    let put-bytes-was = c.put_bytes in
    let session-was = c.session-session in
    let host-was = c.host-host in
    let t = lent given.form given.table.now in
    let r = row_at t given.i in
    let k = c.args.k in
    let x = access_at r k in
    let texts : notice-rooms-was.result.now ≡ filled x.session 128 ++ filled x.host 128 =
    notice-rooms-was.ensures ∙ ap (λ (s : List ℕ). part (first_block (place s k)) 8 256) at-was.ensures ∙ texts-are r pre-was.3 k pre-was.4 in
    let written : put-bytes-was.new.room ≡ notice_room given.form (x ∷ []) given.notice.now =
    put-bytes-was.ensures ∙ ap (put given.notice.now 0) texts ∙ notice-one given.form x given.notice.now c.if-form-ne2.true in
    let session-is : length session-was.result.now ≡ length x.session = ap length (session-was.ensures ∙ ap (λ (s : List ℕ). (access_at s k).session) at-was.ensures) in
    let host-is : length host-was.result.now ≡ length x.host = ap length (host-was.ensures ∙ ap (λ (s : List ℕ). (access_at s k).host) at-was.ensures) in
    let realm-is : 0 ≡ length x.realm = sym (realm-none r pre-was.3 k pre-was.4 (λ e. c.if-form-ne2.true (sym (form-there t given.i pre-was.2) ∙ e))) in
    rw (at-place-is r pre-was.3 k pre-was.4) (written, λ j. Some (record { session = session-is j; host = host-is j; realm = realm-is j }))

pub write_realm-realm-requires : goal.write_realm-realm-requires
write_realm-realm-requires c =
    let given = c.args in
    let pre-was = c.requires in
    let at-was = c.at-row in
    let t = lent given.form given.table.now in
    let two = c.if-form-ne2.false in (
      omega (arith, notice-long given.form two, pre-was.0),
      ap sound at-was.ensures ∙ pre-was.3,
      ap (λ (s : List ℕ). is_on (order_line s) given.k) at-was.ensures ∙ pre-was.4,
      ap form_of at-was.ensures ∙ form-there t given.i pre-was.2 ∙ two,
    )

pub returns : goal.returns
unfolding cut_for
returns c =
    let given = c.args in
    let pre-was = c.requires in
    let notice-rooms-was = c.notice_rooms in
    let at-was = c.at-row in
    let put-bytes-was = c.put_bytes in
    let session-was = c.session-session in
    let host-was = c.host-host in
    let write-realm-was = c.write_realm-realm in
    let two = c.if-form-ne2.false in
    let t = lent given.form given.table.now in
    let r = row_at t given.i in
    let k = c.args.k in
    let x = access_at r k in
    let texts : notice-rooms-was.result.now ≡ filled x.session 128 ++ filled x.host 128 =
    notice-rooms-was.ensures ∙ ap (λ (s : List ℕ). part (first_block (place s k)) 8 256) at-was.ensures ∙ texts-are r pre-was.3 k pre-was.4 in
    let first : put-bytes-was.new.room ≡ put given.notice.now 0 (filled x.session 128 ++ filled x.host 128) =
    put-bytes-was.ensures ∙ ap (put given.notice.now 0) texts in
    let written : write-realm-was.new.notice ≡ notice_room given.form (x ∷ []) given.notice.now =
    write-realm-was.ensures.0 ∙ ap (λ (s : List ℕ). put put-bytes-was.new.room 256 (filled (access_at s k).realm 128)) at-was.ensures
    ∙ ap (λ (s : List ℕ). put s 256 (filled x.realm 128)) first
    ∙ notice-two given.form x given.notice.now two (omega (arith, notice-least given.form, pre-was.0)) in
    let session-is : length session-was.result.now ≡ length x.session = ap length (session-was.ensures ∙ ap (λ (s : List ℕ). (access_at s k).session) at-was.ensures) in
    let host-is : length host-was.result.now ≡ length x.host = ap length (host-was.ensures ∙ ap (λ (s : List ℕ). (access_at s k).host) at-was.ensures) in
    let realm-is : write-realm-was.result ≡ length x.realm = write-realm-was.ensures.1 ∙ ap (λ (s : List ℕ). length (access_at s k).realm) at-was.ensures in
    rw (at-place-is r pre-was.3 k pre-was.4) (written, λ j. Some (record { session = session-is j; host = host-is j; realm = realm-is j }))

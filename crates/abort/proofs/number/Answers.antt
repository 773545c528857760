-- Each way out is a law of Requests; the room is any that has so many bytes.
use mathlib.Core.Path.{sym, ◌∙◌}
use native.Mathlib.Omega.{arith}
use Rattle.abort.specs.Code.{cut_of}
use Rattle.abort.proofs.Requests.{number-host, number-realm, number-notice, number-session, number-gateway, number-gateway-realm, number-room, number-none}
use Rattle.abort.proofs.number.Goals as goal

pub returns-then-not-is_text : goal.returns-then-not-is_text
returns-then-not-is_text c =
    let given = c.args in
    let is-text-was = c.is_text in
    let test1 = c.if-not-is_text in
    λ room e. (
      sym (number-host given.host.now given.realm.now (cut_of given.notice.now given.cut_session given.cut_host given.cut_realm) room
          (sym is-text-was.ensures ∙ test1.true)),
      λ z. omega (arith, z),
    )

pub returns-then-not-is_text-2 : goal.returns-then-not-is_text-2
returns-then-not-is_text-2 c =
    let given = c.args in
    let is-text-was = c.is_text in
    let test1 = c.if-not-is_text in
    let is-text2-was = c.is_text-2 in
    let test2 = c.if-not-is_text-2 in
    λ room e. (
      sym (number-realm given.host.now given.realm.now (cut_of given.notice.now given.cut_session given.cut_host given.cut_realm) room
          (sym is-text-was.ensures ∙ test1.false) (sym is-text2-was.ensures ∙ test2.true)),
      λ z. omega (arith, z),
    )

pub returns-then-notice-lt-NOTICE_LENGTH_2 : goal.returns-then-notice-lt-NOTICE_LENGTH_2
returns-then-notice-lt-NOTICE_LENGTH_2 c =
    let given = c.args in
    let is-text-was = c.is_text in
    let test1 = c.if-not-is_text in
    let is-text2-was = c.is_text-2 in
    let test2 = c.if-not-is_text-2 in
    let test3 = c.if-notice-lt-NOTICE_LENGTH_2 in
    λ room e. (
      sym (number-notice given.host.now given.realm.now (cut_of given.notice.now given.cut_session given.cut_host given.cut_realm) room
          (sym is-text-was.ensures ∙ test1.false) (sym is-text2-was.ensures ∙ test2.false) test3.true),
      λ z. omega (arith, z),
    )

pub returns-then-not-is_text-3 : goal.returns-then-not-is_text-3
returns-then-not-is_text-3 c =
    let given = c.args in
    let is-text-was = c.is_text in
    let test1 = c.if-not-is_text in
    let is-text2-was = c.is_text-2 in
    let test2 = c.if-not-is_text-2 in
    let test3 = c.if-notice-lt-NOTICE_LENGTH_2 in
    let is-text3-was = c.is_text-3 in
    let test4 = c.if-not-is_text-3 in
    λ room e. (
      sym (number-session given.host.now given.realm.now (cut_of given.notice.now given.cut_session given.cut_host given.cut_realm) room
          (sym is-text-was.ensures ∙ test1.false) (sym is-text2-was.ensures ∙ test2.false) (omega (arith, test3.false)) (sym is-text3-was.ensures ∙ test4.true)),
      λ z. omega (arith, z),
    )

pub returns-then-not-is_text-4 : goal.returns-then-not-is_text-4
returns-then-not-is_text-4 c =
    let given = c.args in
    let is-text-was = c.is_text in
    let test1 = c.if-not-is_text in
    let is-text2-was = c.is_text-2 in
    let test2 = c.if-not-is_text-2 in
    let test3 = c.if-notice-lt-NOTICE_LENGTH_2 in
    let is-text3-was = c.is_text-3 in
    let test4 = c.if-not-is_text-3 in
    let is-text4-was = c.is_text-4 in
    let test5 = c.if-not-is_text-4 in
    λ room e. (
      sym (number-gateway given.host.now given.realm.now (cut_of given.notice.now given.cut_session given.cut_host given.cut_realm) room
          (sym is-text-was.ensures ∙ test1.false) (sym is-text2-was.ensures ∙ test2.false) (omega (arith, test3.false)) (sym is-text3-was.ensures ∙ test4.false) (sym is-text4-was.ensures ∙ test5.true)),
      λ z. omega (arith, z),
    )

pub returns-then-not-is_text-5 : goal.returns-then-not-is_text-5
returns-then-not-is_text-5 c =
    let given = c.args in
    let is-text-was = c.is_text in
    let test1 = c.if-not-is_text in
    let is-text2-was = c.is_text-2 in
    let test2 = c.if-not-is_text-2 in
    let test3 = c.if-notice-lt-NOTICE_LENGTH_2 in
    let is-text3-was = c.is_text-3 in
    let test4 = c.if-not-is_text-3 in
    let is-text4-was = c.is_text-4 in
    let test5 = c.if-not-is_text-4 in
    let is-text5-was = c.is_text-5 in
    let test6 = c.if-not-is_text-5 in
    λ room e. (
      sym (number-gateway-realm given.host.now given.realm.now (cut_of given.notice.now given.cut_session given.cut_host given.cut_realm) room
          (sym is-text-was.ensures ∙ test1.false) (sym is-text2-was.ensures ∙ test2.false) (omega (arith, test3.false)) (sym is-text3-was.ensures ∙ test4.false) (sym is-text4-was.ensures ∙ test5.false) (sym is-text5-was.ensures ∙ test6.true)),
      λ z. omega (arith, z),
    )

pub returns-then-size-lt-ROOM_LEAST : goal.returns-then-size-lt-ROOM_LEAST
returns-then-size-lt-ROOM_LEAST c =
    let given = c.args in
    let is-text-was = c.is_text in
    let test1 = c.if-not-is_text in
    let is-text2-was = c.is_text-2 in
    let test2 = c.if-not-is_text-2 in
    let test3 = c.if-notice-lt-NOTICE_LENGTH_2 in
    let is-text3-was = c.is_text-3 in
    let test4 = c.if-not-is_text-3 in
    let is-text4-was = c.is_text-4 in
    let test5 = c.if-not-is_text-4 in
    let is-text5-was = c.is_text-5 in
    let test6 = c.if-not-is_text-5 in
    let test7 = c.if-size-lt-ROOM_LEAST in
    λ room e. (
      sym (number-room given.host.now given.realm.now (cut_of given.notice.now given.cut_session given.cut_host given.cut_realm) room
          (sym is-text-was.ensures ∙ test1.false) (sym is-text2-was.ensures ∙ test2.false) (omega (arith, test3.false)) (sym is-text3-was.ensures ∙ test4.false) (sym is-text4-was.ensures ∙ test5.false) (sym is-text5-was.ensures ∙ test6.false) (omega (arith, e, test7.true))),
      λ z. omega (arith, z),
    )

pub returns : goal.returns
returns c =
    let given = c.args in
    let is-text-was = c.is_text in
    let test1 = c.if-not-is_text in
    let is-text2-was = c.is_text-2 in
    let test2 = c.if-not-is_text-2 in
    let test3 = c.if-notice-lt-NOTICE_LENGTH_2 in
    let is-text3-was = c.is_text-3 in
    let test4 = c.if-not-is_text-3 in
    let is-text4-was = c.is_text-4 in
    let test5 = c.if-not-is_text-4 in
    let is-text5-was = c.is_text-5 in
    let test6 = c.if-not-is_text-5 in
    let test7 = c.if-size-lt-ROOM_LEAST in
    λ room e. number-none given.host.now given.realm.now (cut_of given.notice.now given.cut_session given.cut_host given.cut_realm) room
    (sym is-text-was.ensures ∙ test1.false) (sym is-text2-was.ensures ∙ test2.false) (omega (arith, test3.false)) (sym is-text3-was.ensures ∙ test4.false) (sym is-text4-was.ensures ∙ test5.false) (sym is-text5-was.ensures ∙ test6.false) (omega (arith, e, test7.false))

-- A tunnel just opened is not the next to be cut: until another is opened on its name it stands last there, or it is gone.
use mathlib.Core.Path.{◌≡◌, refl, sym, ap, ◌∙◌, subst}
use mathlib.Core.Bool.{Bool, true, false, ◌&&◌, not}
use mathlib.Core.List.{List, [], ◌∷◌, ◌++◌, append-nil}
use Prim.Native.Nat.{ℕ, suc}
use native.Mathlib.Omega.{arith}
use borrow.Author.Tests.{not-true}
use lib.Dec.{eqb}
use lib.ListN.{take}
use Rattle.octets.specs.Choice.{pick}
use Rattle.octets.specs.Lists.{distinct, every, keep}
use Rattle.octets.specs.Texts.{same}
use Rattle.octets.proofs.Lists.{and_left, and_right, both, by-test, every-keep, keep-comm, keep_snoc, same-comm}
use Rattle.message.specs.ReadingAMessage.{Ask, tunnel, policy, termination}
use Rattle.table.specs.TheTable.{Account, Table}
use Rattle.table.specs.Soundness.{same_label}
use Rattle.changes.specs.Changes.{kept_in}
use Rattle.rules.specs.Calls.{Call, handle}
use Rattle.order.specs.Demand2.{request_in}
use Rattle.order.specs.Demand3.{Told, is_of, subscriber, told}
use Rattle.order.specs.OpenedFirst.{Tunnel, label_asked, without}
use Rattle.history.specs.Histories.{Cleared, Event, Operation, answered, cleared, from_cleared}
use Rattle.history.specs.OrderOfOpening.{compared, line_after, line_from, on_name, on_success, opened_in_order, tunnel_cut}
use Rattle.history.specs.EachCounted.{count_from, is_on, opens}
use Rattle.history.specs.WhatFollows.{JustOpenedStays, Opened, limit_of}
use Rattle.history.proofs.Ages.{cuts_first, gone, order-of-opening}
use Rattle.history.proofs.Asking.{asked}
use Rattle.history.proofs.Going.{CutsFirst, Once, after, line-append}
use Rattle.history.proofs.Labels.{label-test}
use Rattle.history.proofs.Limits.{last-opened-stays}
use Rattle.history.proofs.SettingUp.{cleared-form, impossible}
use Rattle.history.proofs.Taking.{Leads, every-amid, first-leads, is_named, leads, sids}

-- LAST ON ITS NAME, OR GONE

abbrev other : (session : List ℕ) → Tunnel → Bool
other s x = not (same x.session s)

data LastOrGone (s : List ℕ) (line : List Tunnel) : Type 0 where
  last-there : (earlier : List Tunnel) (y : Tunnel) → line ≡ earlier ++ (y ∷ []) → y.session ≡ s → every (other s) earlier ≡ true → LastOrGone s line
  not_there : every (other s) line ≡ true → LastOrGone s line

-- and so when some are taken away
module _ (s : List ℕ) (p : Tunnel → Bool) where
  kept-last : (line earlier : List Tunnel) (y : Tunnel) → line ≡ earlier ++ (y ∷ []) → y.session ≡ s → every (other s) earlier ≡ true → LastOrGone s (keep p line)
  unfolding pick
  kept-last line earlier y e own h =
      let k : keep p line ≡ keep p earlier ++ pick (p y) (y ∷ []) [] = ap (keep p) e ∙ keep_snoc p earlier y in
      by-test (p y)
      (λ yes'. last-there (keep p earlier) y (k ∙ rw yes') own (every-keep (other s) p earlier h))
      (λ no'. not_there (ap (every (other s)) (k ∙ rw no' (append-nil (keep p earlier))) ∙ every-keep (other s) p earlier h))

  kept-so : (line : List Tunnel) → LastOrGone s line → LastOrGone s (keep p line)
  kept-so line (last-there earlier y e own h) = kept-last line earlier y e own h
  kept-so line (not_there h) = not_there (every-keep (other s) p line h)

-- ONE EVENT THAT OPENS NOTHING ON THE NAME

module _ (f : ℕ) (l s : List ℕ) where
  taken-away : (session : List ℕ) (line : List Tunnel) → LastOrGone s (on_name l line) → LastOrGone s (on_name l (without session line))
  unfolding on_name without
  taken-away session line h = subst (LastOrGone s) (keep-comm _ _ line) (kept-so s _ (keep (is_named l) line) h)

  elsewhere : (line : List Tunnel) (y : Tunnel) → is_named l y ≡ false → on_name l (line ++ (y ∷ [])) ≡ on_name l line
  unfolding on_name pick
  elsewhere line y e = keep_snoc (is_named l) line y ∙ rw e (append-nil (keep (is_named l) line))

  success-keeps : (q : Ask) (x : Told) (line : List Tunnel) → same_label (label_asked q) l && opens q x ≡ false → LastOrGone s (on_name l line) → LastOrGone s (on_name l (on_success f q x line))
  unfolding on_success label_asked opens pick
  success-keeps (policy session one two three) x line n h = h
  success-keeps (termination session label) x line n h = taken-away session line h
  success-keeps (tunnel session host realm label visited) x line n h =
      by-test (eqb x.result.place 0)
      (λ p. rw p h)
      (λ p. let away : same_label label l ≡ false = not_on p in
      rw p
      (subst (LastOrGone s) (sym (elsewhere (pick (eqb x.result.cut 1) (without (tunnel_cut label x).session line) line) (record { session = session; host = host; realm = kept_in f realm; label = compared label }) (label-test label l ∙ away)))
      (by-test (eqb x.result.cut 1)
      (λ e. rw e (taken-away (tunnel_cut label x).session line h))
      (λ e. rw e h))))
    where
      not_on : eqb x.result.place 0 ≡ false → same_label label l ≡ false
      not_on p = by-test (same_label label l) (λ e. let z : true ≡ false = rw (e, p) at n in impossible z) (λ e. e)

  answer_keeps : (q : Ask) (x : Told) (line : List Tunnel) → same_label (label_asked q) l && opens q x ≡ false → LastOrGone s (on_name l line) → LastOrGone s (on_name l (line_after f q x line))
  unfolding line_after pick
  answer_keeps q x line n h = by-test (eqb x.result.code 2001) (λ e. rw e (success-keeps q x line n h)) (λ e. rw e h)

  module _ (a : Account) where
    event-keeps : (c : Call) (x : Told) (line : List Tunnel) → is_on f a l c && opens (request_in c).ask x ≡ false → LastOrGone s (on_name l line) → LastOrGone s (on_name l (after f a line c x))
    unfolding is_on pick
    event-keeps c x line n h =
        by-test (is_of f (subscriber a) c)
        (λ o. rw o (answer_keeps (request_in c).ask x line (rw o at n) h))
        (λ o. rw o h)

    -- any number of them: what is counted since the last clearing is none
    many-keep : (es : List Event) (line : List Tunnel) (n : ℕ) → (n ≡ 0 → LastOrGone s (on_name l line)) → count_from opens f a l n es ≡ 0 → LastOrGone s (on_name l (line_from f a line es))
    unfolding count_from line_from pick
    many-keep [] line n h z = h z
    many-keep (cleared ∷ es) line n h z = many-keep es [] 0 (λ e. nobody) z
      where
        nobody : LastOrGone s (on_name l [])
        nobody = not_there (unfold on_name keep every in refl)
    many-keep (answered c x ∷ es) line n h z =
        many-keep es (after f a line c x) (pick (is_on f a l c && opens (request_in c).ask x) (suc n) n)
        (by-test (is_on f a l c && opens (request_in c).ask x)
        (λ o. λ e. let y : suc n ≡ 0 = rw o at e in absurd (omega arith))
        (λ o. λ e. event-keeps c x line o (h (rw o at e))))
        z

-- WHERE IT WAS OPENED it stands last, and no other has its Session-Id.

others-differ : (line : List Tunnel) (y : Tunnel) → distinct same (sids (line ++ (y ∷ []))) ≡ true → every (other y.session) line ≡ true
unfolding distinct every
others-differ [] y d = refl
others-differ (x ∷ line) y d =
    both (every-amid (λ z. not (same x.session z)) line [] y (and_left (every (λ z. not (same x.session z)) (sids (line ++ (y ∷ [])))) _ d))
    (others-differ line y (and_right (every (λ z. not (same x.session z)) (sids (line ++ (y ∷ [])))) _ d))

module _ (f : ℕ) (a : Account) (l session : List ℕ) (c : Call) (x : Told) (o : Opened f a l session c x) (line : List Tunnel) where
  abbrev new : Tunnel
  new = record { session = session; host = o.host; realm = kept_in f o.realm; label = compared o.wrote }

  abbrev left : List Tunnel
  left = pick (eqb x.result.cut 1) (without (tunnel_cut o.wrote x).session line) line

  opened-last : after f a line c x ≡ left ++ (new ∷ [])
  unfolding line_after on_success pick
  opened-last = rw (o.own, o.asks, o.granted, o.at-a-place)

  opened-so : Once f a (after f a line c x) → LastOrGone session (on_name l (after f a line c x))
  unfolding on_name pick
  opened-so d =
      let named : is_named l new ≡ true = label-test o.wrote l ∙ o.on-label in
      let k : keep (is_named l) (after f a line c x) ≡ keep (is_named l) left ++ (new ∷ []) = ap (keep (is_named l)) opened-last ∙ keep_snoc (is_named l) left new ∙ rw named in
      last-there (keep (is_named l) left) new k refl
      (every-keep (other session) (is_named l) left (others-differ left new (ap (λ (m : List Tunnel). distinct same (sids m)) (sym opened-last) ∙ d)))

-- what was seen after it
seen-once : (f : ℕ) (a : Account) (line : List Tunnel) (before : List Event) (c : Call) (x : Told) (behind : List Event) → CutsFirst f a line (before ++ (answered c x ∷ behind))
    → Once f a (after f a (line_from f a line before) c x)
unfolding CutsFirst line_from
seen-once f a line [] c x behind h = h.1.0
seen-once f a line (cleared ∷ es) c x behind h = seen-once f a [] es c x behind h
seen-once f a line (answered d y ∷ es) c x behind h = seen-once f a (after f a line d y) es c x behind h.1.1

opened-then : (f : ℕ) (a : Account) (l session : List ℕ) (c : Call) (x : Told) → Opened f a l session c x → (line : List Tunnel) (between : List Event) → Once f a (after f a line c x)
    → count_from opens f a l 0 between ≡ 0 → LastOrGone session (on_name l (line_from f a line (answered c x ∷ between)))
unfolding line_from
opened-then f a l session c x o line between once none =
    many-keep f l session a between (after f a line c x) 0 (λ e. opened-so f a l session c x o line once) none

-- THE NEXT CUT

first-of : (t : Table) (xs : List Operation) (a : Account) (d : Call) → Cleared t → is_of t.form (subscriber a) d ≡ true
    → (handle (from_cleared t xs).table d).reply.result.cut ≡ 1
    → take 1 (on_name (label_asked (request_in d).ask) (opened_in_order t.form a (from_cleared t xs).events))
    ≡ tunnel_cut (label_asked (request_in d).ask) (told t.form (handle (from_cleared t xs).table d).reply) ∷ []
unfolding told
first-of t xs a d z mine k =
    let u : Table = (from_cleared t xs).table in
    let g : u.form ≡ t.form = (gone t xs a [] z).same-form ∙ cleared-form t z in
    let own : is_of u.form (subscriber a) d ≡ true = ap (λ (m : ℕ). is_of m (subscriber a) d) g ∙ mine in
    ap (λ (line : List Tunnel). take 1 (on_name (label_asked (request_in d).ask) line)) (sym (order-of-opening t xs a z))
    ∙ (asked u d a).first-cut own k
    ∙ ap (λ (m : ℕ). tunnel_cut (label_asked (request_in d).ask) (told m (handle u d).reply) ∷ []) g

cut-other : (s : List ℕ) (line : List Tunnel) (z : Tunnel) → Leads z line → every (other s) line ≡ true → same s z.session ≡ false
unfolding every
cut-other s line z (leads others e) h =
    same-comm s z.session ∙ not-true (same z.session s) (and_left (other s z) _ (rw e at h))

not-cut : (t : Table) (xs : List Operation) (a : Account) (d : Call) → Cleared t → (session : List ℕ) → is_of t.form (subscriber a) d ≡ true
    → (handle (from_cleared t xs).table d).reply.result.cut ≡ 1 → eqb (limit_of (from_cleared t xs).table a (label_asked (request_in d).ask)) 1 ≡ false
    → LastOrGone session (on_name (label_asked (request_in d).ask) (opened_in_order t.form a (from_cleared t xs).events))
    → same session (tunnel_cut (label_asked (request_in d).ask) (told t.form (handle (from_cleared t xs).table d).reply)).session ≡ false
unfolding told
not-cut t xs a d z session mine k two (last-there earlier y q own h) =
    ap (λ (s : List ℕ). same s (tunnel_cut (label_asked (request_in d).ask) (told t.form (handle (from_cleared t xs).table d).reply)).session) (sym own)
    ∙ last-opened-stays t xs a d z mine k two earlier y q
not-cut t xs a d z session mine k two (not_there h) = cut-other session _ _ (first-leads _ _ (first-of t xs a d z mine k)) h

pub just-opened-stays : JustOpenedStays
unfolding told
just-opened-stays t xs a d z before c x between e session o none mine k two =
    let f : ℕ = t.form in
    let l : List ℕ = label_asked (request_in d).ask in
    let es : List Event = (from_cleared t xs).events in
    let once : Once f a (after f a (line_from f a [] before) c x) = seen-once f a [] before c x between (subst (λ (evs : List Event). CutsFirst f a [] evs) e (cuts_first t xs a z)) in
    let then : LastOrGone session (on_name l (line_from f a (line_from f a [] before) (answered c x ∷ between))) =
    opened-then f a l session c x o (line_from f a [] before) between once none in
    let now : LastOrGone session (on_name l (opened_in_order f a es)) =
    subst (λ (line : List Tunnel). LastOrGone session (on_name l line)) (sym (line-append f a [] before (answered c x ∷ between)) ∙ ap (line_from f a []) (sym e)) then in
    not-cut t xs a d z session mine k two now

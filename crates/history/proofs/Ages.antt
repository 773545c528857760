-- The proof of age, each statement of specs/ with its proof.
use mathlib.Core.Path.{◌≡◌, refl, sym, ap, ◌∙◌, subst}
use mathlib.Core.Bool.{Bool, true, ◌&&◌}
use mathlib.Core.List.{List, [], ◌∷◌, ◌++◌}
use Prim.Native.Nat.{ℕ}
use native.Mathlib.Omega.{arith}
use borrow.Author.Tests.{eqb-true}
use lib.Dec.{eqb}
use lib.ListN.{take}
use Rattle.octets.specs.Lists.{keep}
use Rattle.octets.proofs.Choice.{by-pick}
use Rattle.octets.proofs.Lists.{and_left, and_right, both, same_refl}
use Rattle.table.specs.TheTable.{Account, Table}
use Rattle.setup.specs.SetUp.{clear}
use Rattle.rules.specs.Calls.{Call}
use Rattle.order.specs.Demand2.{request_in}
use Rattle.order.specs.Demand3.{Told, is_of, subscriber}
use Rattle.order.specs.OpenedFirst.{Tunnel, label_asked}
use Rattle.history.specs.Histories.{Cleared, Event, Operation, answered, cleared, from_cleared}
use Rattle.history.specs.OrderOfOpening.{EveryCutPasses, EveryCutTookTheFirst, OrderOfOpening, is_first, line_from, on_name, same_tunnel, took_the_first, tunnel_cut}
use Rattle.history.specs.EachCounted.{EachCounted}
use Rattle.history.specs.WhatFollows.{OneRowEach, ZeroOrSound}
use Rattle.history.proofs.Going.{CutsFirst, Goes, after, goes-past}
use Rattle.history.proofs.OneRow.{rows-cleared}
use Rattle.history.proofs.SettingUp.{Fine, cleared-fine, cleared-form, cleared-line}
use Rattle.history.proofs.Taking.{Leads, first-leads, leads}

-- what a history from a cleared table makes of a subscriber and a label
pub gone : (t : Table) (xs : List Operation) (a : Account) (l : List ℕ) → Cleared t → Goes t.form a l (clear t).table (from_cleared t xs).events (from_cleared t xs).table
gone t xs a l z = goes-past a l t.form (clear t).table xs (cleared-form t z)

pub reached-fine : (t : Table) (xs : List Operation) → Cleared t → Fine (from_cleared t xs).table
reached-fine t xs z = (gone t xs (record { operator = 0; name = [] }) [] z).rows-fine (cleared-fine t z)

-- THE ORDER LINE IS THE ORDER OF OPENING
pub order-of-opening : OrderOfOpening
order-of-opening t xs a z =
    sym (gone t xs a [] z).line-is ∙ ap (λ (line : List Tunnel). line_from t.form a line (from_cleared t xs).events) (cleared-line t z a)

-- EVERY CUT TOOK THE FIRST

cut-there : (f : ℕ) (a : Account) (line : List Tunnel) (before : List Event) (c : Call) (x : Told) (behind : List Event) → CutsFirst f a line (before ++ (answered c x ∷ behind))
    → is_of f (subscriber a) c ≡ true → x.result.cut ≡ 1
    → take 1 (on_name (label_asked (request_in c).ask) (line_from f a line before)) ≡ tunnel_cut (label_asked (request_in c).ask) x ∷ []
unfolding CutsFirst line_from
cut-there f a line [] c x behind h o k = h.0 o k
cut-there f a line (cleared ∷ es) c x behind h o k = cut-there f a [] es c x behind h o k
cut-there f a line (answered d y ∷ es) c x behind h o k = cut-there f a (after f a line d y) es c x behind h.1.1 o k

pub cuts_first : (t : Table) (xs : List Operation) (a : Account) → Cleared t → CutsFirst t.form a [] (from_cleared t xs).events
cuts_first t xs a z =
    subst (λ (line : List Tunnel). CutsFirst t.form a line (from_cleared t xs).events) (cleared-line t z a) ((gone t xs a [] z).cuts_first (cleared-fine t z))

pub every-cut-took-the-first : EveryCutTookTheFirst
every-cut-took-the-first t xs a z before c x behind e o k =
    cut-there t.form a [] before c x behind (subst (λ (es : List Event). CutsFirst t.form a [] es) e (cuts_first t xs a z)) o k

tunnel-refl : (x : Tunnel) → same_tunnel x x ≡ true
unfolding same_tunnel
tunnel-refl x = both (same_refl x.session) (both (same_refl x.host) (both (same_refl x.realm) (same_refl x.label)))

leads-first : (x : Tunnel) (line : List Tunnel) → Leads x line → is_first x line ≡ true
unfolding is_first
leads-first x line (leads others e) = rw e (tunnel-refl x)

all_pass : (f : ℕ) (a : Account) (line : List Tunnel) (es : List Event) → CutsFirst f a line es → took_the_first f a line es ≡ true
unfolding CutsFirst took_the_first
all_pass f a line [] h = refl
all_pass f a line (cleared ∷ es) h = all_pass f a [] es h
all_pass f a line (answered c x ∷ es) h =
    both
    (by-pick (λ (b : Bool). b ≡ true) (is_of f (subscriber a) c && eqb x.result.cut 1)
    (λ e. leads-first (tunnel_cut (label_asked (request_in c).ask) x) (on_name (label_asked (request_in c).ask) line)
    (first-leads _ _ (h.0 (and_left (is_of f (subscriber a) c) _ e) (eqb-true _ 1 (and_right (is_of f (subscriber a) c) _ e)))))
    (λ e. refl))
    (all_pass f a (after f a line c x) es h.1.1)

pub every-cut-passes : EveryCutPasses
every-cut-passes t xs a z = all_pass t.form a [] (from_cleared t xs).events (cuts_first t xs a z)

-- EACH IS COUNTED
pub each-counted : EachCounted
unfolding on_name keep
each-counted t xs a l z =
    (gone t xs a l z).balances 0 0 0 (rw (cleared-line t z a))

-- EVERY ROW IS WHOLLY ZERO OR SOUND
pub zero-or-sound : ZeroOrSound
zero-or-sound t xs i z = reached-fine t xs z i

-- AN ACCOUNT HAS ONE ROW AT MOST
pub one-row-each : OneRowEach
one-row-each t xs a z = (gone t xs a [] z).one-row (omega (arith, rows-cleared a t z))

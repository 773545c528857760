-- What follows: no more tunnels on a name than its limit; and what is cut is not what was opened last on the name, unless the limit is 1.
use mathlib.Core.Path.{◌≡◌, refl, sym, ap, ◌∙◌}
use mathlib.Core.Bool.{true, false, not}
use mathlib.Core.List.{List, [], ◌∷◌, ◌++◌, map}
use Prim.Native.Nat.{ℕ, ◌-◌, ◌≤◌}
use native.Mathlib.Omega.{arith}
use borrow.Author.Tests.{eq-eqb, ltb-false, not-true}
use lib.Dec.{eqb, ltb}
use lib.ListN.{length, get_or, take, length-map}
use Rattle.octets.specs.Choice.{pick}
use Rattle.octets.specs.Lists.{distinct, every, keep}
use Rattle.octets.specs.Texts.{same}
use Rattle.octets.proofs.Lists.{and_left, and_right, by-test, distinct-keep, same-comm}
use Rattle.message.specs.ReadingAMessage.{Ask, tunnel, policy, termination}
use Rattle.table.specs.TheTable.{Account, Found, Subscriber, Table, lookup, nothing, read_row, row, row_at}
use Rattle.table.specs.Soundness.{limits, on_entry}
use Rattle.table.proofs.Good.{Good}
use Rattle.table.proofs.Sound.{says-good}
use Rattle.rules.specs.Deciding.{at_limit, entry_at, entry_named}
use Rattle.rules.specs.Calls.{Call, handle}
use Rattle.plans.proofs.Stay.{entry_found, limit_is, limit-most, limit-some}
use Rattle.order.specs.Demand2.{exceeds, opens, succeeds}
use Rattle.order.specs.Demand3.{Told, is_of, subscriber, told}
use Rattle.order.specs.OpenedFirst.{Tunnel, label_asked, tunnel_of, tunnels}
use Rattle.order.proofs.Checks.{Won, won}
use Rattle.order.proofs.Opening.{own-found, won-success}
use Rattle.order.proofs.Taken.{same_first}
use Rattle.history.specs.Histories.{from_cleared}
use Rattle.history.specs.OrderOfOpening.{line_at, listed, on_name, standing, tunnel_cut}
use Rattle.history.specs.WhatFollows.{LastOpenedStays, WithinLimit, limit_at, limit_of, limit_on}
use Rattle.history.proofs.Ages.{gone, order-of-opening, reached-fine}
use Rattle.history.proofs.Asking.{asked, asked-there, asks, full-there, good, once-listed, own-subject, passes, stands_at, succeeded}
use Rattle.history.proofs.Labels.{no_name, on-entry}
use Rattle.history.proofs.SettingUp.{Fine, cleared-form, found-sound, impossible}
use Rattle.history.proofs.Taking.{every-amid, many, sids}

-- WITHIN THE LIMIT

module _ {fm : ℕ} (s : Subscriber) (g : Good fm s) (l : List ℕ) where
  -- as many as stand on the entry
  many_is : eqb (entry_named l s) 0 ≡ false → many l (map listed (tunnels s)) ≡ length (on_entry (entry_named l s) s.accesses)
  many_is there =
      ap length (on-entry s g l there) ∙ length-map (map (tunnel_of s) (on_entry (entry_named l s) s.accesses)) listed
      ∙ length-map (on_entry (entry_named l s) s.accesses) (tunnel_of s)

  limit-there : eqb (entry_named l s) 0 ≡ false → limit_on l s ≡ get_or (limits s.entries) (entry_named l s - 1) 0
  unfolding limit_on pick
  limit-there there = rw there (sym (limit_is (entry_named l s) s))

  within-limit : many l (map listed (tunnels s)) ≤ limit_on l s
  within-limit =
      by-test (eqb (entry_named l s) 0)
      (λ away. omega (arith, ap length (no_name s g l away)))
      (λ there. omega (arith, many_is there, limit-there there, limit-most (entry_named l s) s g (entry_found l s there)))

module _ (t : Table) (fine : Fine t) (a : Account) (l : List ℕ) where
  within-found : (F : Found) → lookup t a ≡ F → many l (line_at t F) ≤ limit_at t l F
  unfolding line_at limit_at on_name keep
  within-found nothing e = omega arith
  within-found (row i) e = within-limit (read_row (row_at t i)) (says-good (row_at t i) (found-sound t a i fine e)) l

pub within-limits : WithinLimit
within-limits t xs a l z = within-found (from_cleared t xs).table (reached-fine t xs z) a l (lookup (from_cleared t xs).table a) refl

-- WHAT IS CUT WAS NOT OPENED LAST

-- of several, the first is not the last
first-not-last : (y : Tunnel) (more : List Tunnel) (last : Tunnel) → distinct same (sids (y ∷ more ++ (last ∷ []))) ≡ true → same last.session y.session ≡ false
unfolding distinct
first-not-last y more last d =
    same-comm last.session y.session
    ∙ not-true (same y.session last.session) (every-amid (λ z. not (same y.session z)) more [] last (and_left (every (λ z. not (same y.session z)) (sids (more ++ (last ∷ [])))) _ d))

-- at the limit there are as many as it allows
full : (q : Ask) (s : Subscriber) → exceeds q s ≡ true → (entry_at (entry_named (label_asked q) s) s).limit ≤ length (on_entry (entry_named (label_asked q) s) s.accesses)
unfolding exceeds label_asked at_limit
full (tunnel session host realm label visited) s e = ltb-false _ _ (not-true (ltb (length (on_entry (entry_named label s) s.accesses)) (entry_at (entry_named label s) s).limit) (and_right (opens (tunnel session host realm label visited) s) _ e))
full (policy session one two three) s e = impossible (sym e)
full (termination session label) s e = impossible (sym e)

module _ (line : List Tunnel) (l : List ℕ) (once : distinct same (sids line) ≡ true) (z : Tunnel) (cut : take 1 (on_name l line) ≡ z ∷ []) where
  once-on : distinct same (sids (on_name l line)) ≡ true
  unfolding on_name
  once-on = distinct-keep same (λ (x : Tunnel). x.session) _ line once

  spares-last : (earlier : List Tunnel) (last : Tunnel) → on_name l line ≡ earlier ++ (last ∷ []) → (many l line ≡ 1 → ⊥) → same last.session z.session ≡ false
  spares-last [] last e some = absurd (some (ap length e))
  spares-last (y ∷ more) last e some =
      let q : y ≡ z = same_first y z [] [] (ap (take 1) (sym e) ∙ cut) in
      ap (λ (x : Tunnel). same last.session x.session) (sym q) ∙ first-not-last y more last (ap (λ (k : List Tunnel). distinct same (sids k)) (sym e) ∙ once-on)

module _ (t : Table) (c : Call) (a : Account) (mine : is_of t.form (subscriber a) c ≡ true) (k : (handle t c).reply.result.cut ≡ 1) where
  abbrev label : List ℕ
  label = label_asked (asks c)

  abbrev was-told : Told
  was-told = told t.form (handle t c).reply

  spared : eqb (limit_of t a label) 1 ≡ false → succeeds t c ≡ true → Won t c
      → (earlier : List Tunnel) (last : Tunnel) → on_name label (standing t a) ≡ earlier ++ (last ∷ []) → same last.session (tunnel_cut label was-told).session ≡ false
  unfolding limit_at told
  spared two s (won j o n h) earlier last e =
      let u : Subscriber = read_row (row_at t j) in
      let g : Good t.form u = good t c s j o n h in
      let ex : exceeds (asks c) u ≡ true = full-there t c s j o n h k in
      let there : eqb (entry_named label u) 0 ≡ false = asked-there (asks c) c.wag u (passes t c s j o n h) ex in
      let here : lookup t a ≡ row j = sym (own-found t a c (own-subject t c a mine) (won j o n h)) ∙ o.at in
      let stood : standing t a ≡ map listed (tunnels u) = stands_at t a j here in
      let limit : limit_of t a label ≡ get_or (limits u.entries) (entry_named label u - 1) 0 = ap (limit_at t label) here ∙ limit-there u g label there in
      let count : many label (standing t a) ≡ length (on_entry (entry_named label u) u.accesses) = ap (many label) stood ∙ many_is u g label there in
      let one : limit_of t a label ≡ 1 → ⊥ = λ p. impossible (sym (eq-eqb _ 1 p) ∙ two) in
      let some : many label (standing t a) ≡ 1 → ⊥ = λ p. one (omega (arith, p, count, limit, full (asks c) u ex, limit_is (entry_named label u) u, limit-some (entry_named label u) u g (entry_found label u there))) in
      spares-last (standing t a) label (ap (λ (x : List Tunnel). distinct same (sids x)) stood ∙ once-listed u g) (tunnel_cut label was-told)
      ((asked t c a).first-cut mine k) earlier last e some

pub last-opened-stays : LastOpenedStays
unfolding told
last-opened-stays t xs a c z mine k two earlier last e =
    let u : Table = (from_cleared t xs).table in
    let f : u.form ≡ t.form = (gone t xs a [] z).same-form ∙ cleared-form t z in
    let own : is_of u.form (subscriber a) c ≡ true = ap (λ (m : ℕ). is_of m (subscriber a) c) f ∙ mine in
    let line : on_name (label_asked (asks c)) (standing u a) ≡ earlier ++ (last ∷ []) = ap (on_name (label_asked (asks c))) (order-of-opening t xs a z) ∙ e in
    let s : succeeds u c ≡ true = succeeded u c k in
    ap (λ (m : ℕ). same last.session (tunnel_cut (label_asked (asks c)) (told m (handle u c).reply)).session) (sym f)
    ∙ spared u c a own k two s (won-success u c s) earlier last line

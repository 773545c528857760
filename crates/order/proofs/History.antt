-- What a request that succeeds makes of the tunnels on the order line is what its reply shows.
use mathlib.Core.Path.{◌≡◌, refl, sym, ap, ◌∙◌}
use mathlib.Core.Bool.{Bool, true, false, ◌&&◌, not}
use mathlib.Core.List.{List, [], ◌∷◌, ◌++◌, append_assoc, map, map-append}
use Prim.Native.Nat.{ℕ, ◌≤◌}
use native.Mathlib.Omega.{arith}
use borrow.Author.Tests.{eqb-true, leb-true, ne_eqb}
use lib.Dec.{eqb}
use lib.ListN.{length, take, drop, length-append}
use lib.Seq.{take_at, drop_at, take-append-le, take-take}
use Rattle.octets.specs.Choice.{pick, within}
use Rattle.octets.specs.Lists.{every, first_or, keep}
use Rattle.octets.specs.Texts.{filled, same, zeros}
use Rattle.octets.proofs.Choice.{by-pick}
use Rattle.octets.proofs.Lists.{and_left, and_right, by-test, same-eq, within-high, within_low}
use Rattle.octets.proofs.Texts.{length-filled}
use Rattle.message.specs.TheRooms.{notice_length}
use Rattle.message.specs.Codes.{Code, plain}
use Rattle.message.specs.ReadingAMessage.{Ask, tunnel, policy, termination}
use Rattle.table.specs.TheTable.{Access, Policies, Subscriber, is_form, line}
use Rattle.table.specs.Soundness.{on_entry}
use Rattle.table.proofs.Good.{Good, Standing, by_form, good_access, spare, standing}
use Rattle.changes.specs.Changes.{Opening, freed, hold, kept_in, lowest_free, new_access, opened, routed}
use Rattle.rules.specs.Deciding.{entry_at, entry_named, none, place_of, with_session}
use Rattle.rules.specs.Calls.{Call, Reply, notice_bytes, notice_room, reply, result_of}
use Rattle.plans.proofs.Stay.{entry_found}
use Rattle.order.specs.ChecksInOrder.{check, deciding_checks, none_fails}
use Rattle.order.specs.Demand2.{afterwards, cut_for, exceeds, first_alone, on_asked, opens, place_taken, spared}
use Rattle.order.specs.OpenedFirst.{label_asked, label_in, line_after, on_label, session_cut, tunnel_cut, tunnel_of, tunnels, without}
use Rattle.order.proofs.Cuts.{cut-first, entry-there}
use Rattle.order.proofs.Decided.{storing}
use Rattle.order.proofs.Labels.{label_is, on-label}
use Rattle.order.proofs.Taken.{first-kept, keep-twice, kept-first, taken}

-- ONE CHANGE

pub data First (xs : List Access) : Type 0 where
  first : (a : Access) (others : List Access) → xs ≡ a ∷ others → First xs

pub first_alone_lem : (xs : List Access) → length (first_alone xs) ≡ 1 → First xs
unfolding first_alone
first_alone_lem [] h = absurd (omega arith)
first_alone_lem (a ∷ others) h = first a others refl

not_none : (xs : List Access) → none xs ≡ false → First xs
unfolding none
not_none [] h = let z : ◌≡◌ {A = ℕ} 0 1 = cc in absurd (omega arith)
not_none (a ∷ others) h = first a others refl

module _ {fm : ℕ} (s : Subscriber) (g : Good fm s) (f : Access → Bool) (a : Access) (others : List Access) (e : keep f s.accesses ≡ a ∷ others) where
  freed-one : tunnels (freed (place_of (keep f s.accesses)) s) ≡ without a.session (tunnels s)
  unfolding tunnels freed tunnel_of entry_at place_of line first_or
  freed-one = rw e (taken s f s.accesses a others g.accesses-good.places-once g.accesses-good.sids-once e)

  pub fitting : Standing fm (length s.entries) a
  fitting = standing _ a (first-kept f (good_access fm (length s.entries)) s.accesses a others g.accesses-good.each e)

new-last : (n : ℕ) (o : Opening) (s : Subscriber)
    → tunnels (opened n o s) ≡ tunnels s ++ (record { session = o.session; host = o.host; realm = o.realm; label = (entry_at n s).label } ∷ [])
unfolding tunnels opened new_access tunnel_of entry_at
new-last n o s = map-append _ s.accesses _

shown-held : (s : Subscriber) (k : ℕ) (route : Policies) (xs : List Access) → map (tunnel_of s) (map (hold k route) xs) ≡ map (tunnel_of s) xs
unfolding hold tunnel_of pick
shown-held s k route [] = refl
shown-held s k route (x ∷ xs) = by-test (eqb x.place k) (λ e. rw (e, shown-held s k route xs)) (λ e. rw (e, shown-held s k route xs))

line-held : (k : ℕ) (route : Policies) (s : Subscriber) → tunnels (routed k route s) ≡ tunnels s
unfolding tunnels routed tunnel_of entry_at
line-held k route s = shown-held s k route s.accesses

-- a change leaves the entries
spared-entries : (q : Ask) (s : Subscriber) → (spared q s).entries ≡ s.entries
unfolding spared freed
spared-entries q s = by-pick (λ (u : Subscriber). u.entries ≡ s.entries) _ (λ e. refl) (λ e. refl)

entry-spared : (n : ℕ) (q : Ask) (s : Subscriber) → entry_at n (spared q s) ≡ entry_at n s
unfolding entry_at
entry-spared n q s = rw (spared-entries q s)

pub same_entries : (fm : ℕ) (q : Ask) (s : Subscriber) → (afterwards fm q s).entries ≡ s.entries
unfolding afterwards opened routed freed
same_entries fm (tunnel session host realm label visited) s = by-pick (λ (u : Subscriber). u.entries ≡ s.entries) _ (λ e. spared-entries _ s) (λ e. refl)
same_entries fm (policy session one two three) s = refl
same_entries fm (termination session label) s = refl

-- THE NOTICE

text-filled : (x rest : List ℕ) → length x ≤ 128 → take (length x) (filled x 128 ++ rest) ≡ x
unfolding filled
text-filled x rest h =
    take-append-le (length x) (filled x 128) rest (rw (length-filled x 128) h)
    ∙ take-take (length x) 128 (x ++ zeros 128) h ∙ take_at x (zeros 128) (length x) refl

text-none : (x rest : List ℕ) → length x ≤ 0 → take (length x) rest ≡ x
text-none [] rest h = refl
text-none (b ∷ x) rest h = absurd (omega arith)

module _ (form : ℕ) (c : Call) (place : ℕ) (a : Access) where
  abbrev pub told : Reply
  told = reply form c (plain 2001) place (a ∷ [])

  -- what stands behind the two texts that a notice of either form has
  behind_both : List ℕ
  behind_both = pick (eqb form 2) (filled a.realm 128) [] ++ drop (notice_length form) c.notice

  room-told : told.notice ≡ filled a.session 128 ++ (filled a.host 128 ++ behind_both)
  unfolding reply notice_room notice_bytes behind_both
  room-told =
      append_assoc (filled a.session 128) _ _ ∙ ap (λ (l : List ℕ). filled a.session 128 ++ l) (append_assoc (filled a.host 128) _ _)

  host-at : drop 128 told.notice ≡ filled a.host 128 ++ behind_both
  host-at = ap (drop 128) room-told ∙ drop_at (filled a.session 128) _ 128 (length-filled a.session 128)

  realm-at : drop 256 told.notice ≡ behind_both
  realm-at =
      ap (drop 256) (room-told ∙ sym (append_assoc (filled a.session 128) (filled a.host 128) behind_both))
      ∙ drop_at (filled a.session 128 ++ filled a.host 128) behind_both 256 (simp (length-append, length-filled))

  pub session-told : {fm n : ℕ} → Standing fm n a → session_cut told ≡ a.session
  unfolding session_cut reply result_of
  session-told fits = ap (take (length a.session)) room-told ∙ text-filled a.session _ (within-high 1 128 _ fits.sid-fits)

  host-told : {fm n : ℕ} → Standing fm n a → take (length a.host) (drop 128 told.notice) ≡ a.host
  host-told fits = ap (take (length a.host)) host-at ∙ text-filled a.host _ (within-high 1 128 _ fits.host-fits)

-- a realm is told in form 2, and in form 1 there is none
realm-1 : (c : Call) (place n : ℕ) (a : Access) → Standing 1 n a → take (length a.realm) (drop 256 (told 1 c place a).notice) ≡ a.realm
unfolding spare
realm-1 c place n a fits = text-none a.realm _ (leb-true (length a.realm) 0 fits.realm-fits)

realm-2 : (c : Call) (place n : ℕ) (a : Access) → Standing 2 n a → take (length a.realm) (drop 256 (told 2 c place a).notice) ≡ a.realm
unfolding behind_both spare pick
realm-2 c place n a fits =
    ap (take (length a.realm)) (realm-at 2 c place a) ∙ text-filled a.realm _ (leb-true (length a.realm) 128 fits.realm-fits)

module _ (fm : ℕ) (is : is_form fm ≡ true) (c : Call) (place n : ℕ) (a : Access) where
  realm-told : Standing fm n a → take (length a.realm) (drop 256 (told fm c place a).notice) ≡ a.realm
  realm-told =
      by_form (λ f. Standing f n a → take (length a.realm) (drop 256 (told f c place a).notice) ≡ a.realm) fm is (realm-1 c place n a) (realm-2 c place n a)

  tunnel-told : Standing fm n a → (label : List ℕ) → tunnel_cut label (told fm c place a) ≡ record { session = a.session; host = a.host; realm = a.realm; label = label }
  unfolding tunnel_cut reply result_of
  tunnel-told fits label =
      λ i. record { session = session-told fm c place a fits i; host = host-told fm c place a fits i; realm = realm-told fits i; label = label }

pub place-told : (fm : ℕ) (c : Call) (code : Code) (place : ℕ) (cut : List Access) → (reply fm c code place cut).result.place ≡ place
unfolding reply result_of
place-told fm c code place [] = refl
place-told fm c code place (a ∷ others) = refl

-- in a row that is good afterwards an opening has a place
last-good : (f : Access → Bool) (xs : List Access) (x : Access) → every f (xs ++ (x ∷ [])) ≡ true → f x ≡ true
unfolding every
last-good f [] x h = and_left (f x) _ h
last-good f (y ∷ xs) x h = last-good f xs x (and_right (f y) _ h)

pub new-placed : (fm n : ℕ) (o : Opening) (s : Subscriber) → Good fm (opened n o s) → within 1 8 (lowest_free s.accesses) ≡ true
unfolding opened new_access good_access
new-placed fm n o s g =
    let each : every (good_access fm (length s.entries)) (s.accesses ++ (new_access s.accesses n o ∷ [])) ≡ true = g.accesses-good.each in
    and_left (within 1 8 (lowest_free s.accesses)) _ (last-good _ s.accesses _ each)

some-place : (p : ℕ) → within 1 8 p ≡ true → eqb p 0 ≡ false
some-place p h = ne_eqb p 0 (λ z. omega (arith, within_low 1 8 p h, z))

placed-tunnel : (fm : ℕ) (session host realm label : List ℕ) (visited : Bool) (s : Subscriber) → Good fm (afterwards fm (tunnel session host realm label visited) s)
    → eqb (place_taken (tunnel session host realm label visited) s) 0 ≡ not (opens (tunnel session host realm label visited) s)
unfolding place_taken afterwards pick
placed-tunnel fm session host realm label visited s g =
    by-test (opens (tunnel session host realm label visited) s)
    (λ o. rw o (some-place _ (new-placed fm (entry_named label s) (storing fm session host realm) (spared (tunnel session host realm label visited) s) (rw o at g))))
    (λ o. rw o)

pub placed : (fm : ℕ) (q : Ask) (s : Subscriber) → Good fm (afterwards fm q s) → eqb (place_taken q s) 0 ≡ not (opens q s)
unfolding place_taken opens pick
placed fm (tunnel session host realm label visited) s g = placed-tunnel fm session host realm label visited s g
placed fm (policy session one two three) s g = refl
placed fm (termination session label) s g = refl

-- A REQUEST THAT SUCCEEDS

module _ (fm : ℕ) (c : Call) (place : ℕ) (s : Subscriber) (g : Good fm s) where
  -- what was cut, if anything, and the line that is left
  module _ (session host realm label : List ℕ) (visited : Bool) where
    abbrev asked : Ask
    asked = tunnel session host realm label visited

    abbrev replied : Reply
    replied = reply fm c (plain 2001) place (cut_for asked s)

    spared-cut : exceeds asked s ≡ true → First (on_asked asked s)
        → tunnels (spared asked s) ≡ pick (eqb replied.result.cut 1) (without (session_cut replied) (tunnels s)) (tunnels s)
    unfolding spared cut_for first_alone reply result_of on_asked on_entry pick
    spared-cut e (first a others on) =
        rw (e, on) (ap tunnels (ap (λ (l : List Access). freed (place_of l) s) (sym on)) ∙ freed-one s g _ a others on
        ∙ ap (λ (x : List ℕ). without x (tunnels s)) (sym (session-told fm c place a (fitting s g _ a others on))))

    spared-all : exceeds asked s ≡ false → tunnels (spared asked s) ≡ pick (eqb replied.result.cut 1) (without (session_cut replied) (tunnels s)) (tunnels s)
    unfolding spared cut_for reply result_of pick
    spared-all e = rw e

    line-opened : (wag : Bool) → none_fails (deciding_checks asked wag s) ≡ true
        → tunnels (opened (entry_named label s) (storing fm session host realm) (spared asked s))
        ≡ pick (eqb replied.result.cut 1) (without (session_cut replied) (tunnels s)) (tunnels s)
        ++ (record { session = session; host = host; realm = kept_in fm realm; label = label_in s.entries label } ∷ [])
    line-opened wag h =
        let there : eqb (entry_named label s) 0 ≡ false = entry-there session host realm label visited wag s h in
        let left : tunnels (spared asked s) ≡ pick (eqb replied.result.cut 1) (without (session_cut replied) (tunnels s)) (tunnels s) =
        by-test (exceeds asked s) (λ e. spared-cut e (first_alone_lem _ (cut-first asked wag s g h e).some)) (λ e. spared-all e) in
        rw (label_is label s there, ← left, ← entry-spared (entry_named label s) asked s) (new-last (entry_named label s) _ (spared asked s))

    -- a place tells that something was opened
    line-tunnel : (wag : Bool) → none_fails (deciding_checks asked wag s) ≡ true → eqb place 0 ≡ not (opens asked s)
        → tunnels (afterwards fm asked s) ≡ line_after fm s.entries asked replied (tunnels s)
    unfolding afterwards line_after pick
    line-tunnel wag h p =
        let told-place : eqb replied.result.place 0 ≡ not (opens asked s) = ap (λ (n : ℕ). eqb n 0) (place-told fm c (plain 2001) place (cut_for asked s)) ∙ p in
        by-test (opens asked s)
        (λ o. let some : eqb replied.result.place 0 ≡ false = told-place ∙ ap not o in rw (some, o) (line-opened wag h))
        (λ o. let no : eqb replied.result.place 0 ≡ true = told-place ∙ ap not o in rw (no, o))

  module _ (session label : List ℕ) where
    abbrev pub ended : List Access
    ended = with_session session (on_entry (entry_named label s) s.accesses)

    line-ended : First ended → tunnels (freed (place_of ended) s) ≡ without session (tunnels s)
    unfolding with_session on_entry
    line-ended (first a others e) =
        let one : keep (λ x. eqb x.entry (entry_named label s) && same x.session session) s.accesses ≡ a ∷ others =
        sym (keep-twice _ _ s.accesses) ∙ e in
        let own : a.session ≡ session = same-eq a.session session (kept-first (λ (x : Access). same x.session session) _ a others e) in
        ap (λ (l : List Access). tunnels (freed (place_of l) s)) (keep-twice _ _ s.accesses) ∙ freed-one s g _ a others one
        ∙ ap (λ (x : List ℕ). without x (tunnels s)) own

    pub ended-one : (wag : Bool) → none_fails (deciding_checks (termination session label) wag s) ≡ true → First ended
    unfolding deciding_checks check none_fails
    ended-one wag h = not_none ended (by-test (none ended) (λ e. let z : false ≡ true = rw e at h in cc) (λ e. e))

-- what a request that succeeds leaves on the line is what its reply shows
pub line_after_lem : (fm : ℕ) (c : Call) (place : ℕ) (q : Ask) (wag : Bool) (s : Subscriber) → Good fm s → none_fails (deciding_checks q wag s) ≡ true
    → eqb place 0 ≡ not (opens q s)
    → tunnels (afterwards fm q s) ≡ line_after fm s.entries q (reply fm c (plain 2001) place (cut_for q s)) (tunnels s)
unfolding afterwards line_after
line_after_lem fm c place (tunnel session host realm label visited) wag s g h p = line-tunnel fm c place s g session host realm label visited wag h p
line_after_lem fm c place (policy session one two three) wag s g h p = line-held _ _ s
line_after_lem fm c place (termination session label) wag s g h p = line-ended fm c place s g session label (ended-one fm c place s g session label wag h)

-- THE CUT

module _ (fm : ℕ) (c : Call) (place : ℕ) (s : Subscriber) (g : Good fm s) (session host realm label : List ℕ) (visited : Bool) (there : eqb (entry_named label s) 0 ≡ false) where
  abbrev opening : Ask
  opening = tunnel session host realm label visited

  abbrev answered : Reply
  answered = reply fm c (plain 2001) place (cut_for opening s)

  first-named : exceeds opening s ≡ true → First (on_asked opening s)
      → take 1 (on_label (label_in s.entries label) (tunnels s)) ≡ tunnel_cut (label_in s.entries label) answered ∷ []
  unfolding cut_for first_alone on_asked on_entry tunnels tunnel_of pick
  first-named e (first a others on) =
      let own : a.entry ≡ entry_named label s = eqb-true _ _ (kept-first _ s.accesses a others on) in
      let line : on_label (entry_at (entry_named label s) s).label (tunnels s) ≡ map (tunnel_of s) (a ∷ others) =
      on-label s g (entry_named label s) (entry_found label s there) s.accesses g.accesses-good.each ∙ ap (map (tunnel_of s)) on in
      rw (label_is label s there, line, e, on, tunnel-told fm g.form-good c place _ a (fitting s g _ a others on) _, ← own)

-- at the limit, the first on the label that is asked for is the one that the notice names
pub cut-named : (fm : ℕ) (c : Call) (place : ℕ) (q : Ask) (wag : Bool) (s : Subscriber) → Good fm s → none_fails (deciding_checks q wag s) ≡ true → exceeds q s ≡ true
    → take 1 (on_label (label_in s.entries (label_asked q)) (tunnels s)) ≡ tunnel_cut (label_in s.entries (label_asked q)) (reply fm c (plain 2001) place (cut_for q s)) ∷ []
unfolding exceeds label_asked
cut-named fm c place (tunnel session host realm label visited) wag s g h e =
    first-named fm c place s g session host realm label visited (entry-there session host realm label visited wag s h) e (first_alone_lem _ (cut-first (tunnel session host realm label visited) wag s g h e).some)
cut-named fm c place (policy session one two three) wag s g h e = cc
cut-named fm c place (termination session label) wag s g h e = cc

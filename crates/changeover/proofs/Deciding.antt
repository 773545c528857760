-- Deciding does not look at a realm.
use mathlib.Core.Path.{◌≡◌, refl, sym, ap, ◌∙◌}
use mathlib.Core.Bool.{Bool, true, false, ◌&&◌, not}
use mathlib.Core.List.{List, [], ◌∷◌, ◌++◌, map, map-append}
use Prim.Native.Nat.{ℕ}
use lib.Dec.{eqb, ltb}
use lib.ListN.{length, length-map}
use Rattle.octets.specs.Choice.{pick}
use Rattle.octets.specs.Lists.{first_or, keep}
use Rattle.octets.specs.Texts.{same}
use Rattle.octets.proofs.Lists.{by-test, every_map}
use Rattle.message.specs.Codes.{Code, no_subscription, plain, roaming_not_allowed, unused_by_user}
use Rattle.message.specs.ReadingAMessage.{tunnel, policy, termination}
use Rattle.table.specs.Soundness.{on_entry}
use Rattle.table.specs.TheTable.{Access, Entry, Policies, Subscriber, barred, line, may_roam, places}
use Rattle.changes.specs.Changes.{Opening, freed, hold, kept_in, leave, lowest_free, new_access, opened, routed, vacant, with_accesses}
use Rattle.rules.specs.Deciding.{Verdict, admit, at_limit, at_place, decide, entry_at, entry_named, first_on, grant, held_already, none, open_on, place_of, refuse, stands_on, terminate, type0, type1, with_session}
use Rattle.changeover.specs.TheChangeOver.{DecidedAlike, decided_without, without_realm, without_realms}

-- ACCESSES

keep-without : (f : Access → Bool) → ((x : Access) → f (without_realm x) ≡ f x) → (a : List Access) → keep f (map without_realm a) ≡ map without_realm (keep f a)
unfolding keep pick
keep-without f h [] = refl
keep-without f h (x ∷ a) = by-test (f x) (λ e. rw (h x, e, keep-without f h a)) (λ e. rw (h x, e, keep-without f h a))

session-without : (q : List ℕ) (a : List Access) → with_session q (map without_realm a) ≡ map without_realm (with_session q a)
unfolding with_session without_realm
session-without q a = keep-without (λ (x : Access). same x.session q) (λ x. refl) a

on-without : (n : ℕ) (a : List Access) → on_entry n (map without_realm a) ≡ map without_realm (on_entry n a)
unfolding on_entry without_realm
on-without n a = keep-without (λ (x : Access). eqb x.entry n) (λ x. refl) a

leave-without : (k : ℕ) (a : List Access) → leave k (map without_realm a) ≡ map without_realm (leave k a)
unfolding leave without_realm
leave-without k a = keep-without (λ (x : Access). not (eqb x.place k)) (λ x. refl) a

at-without : (k : ℕ) (a : List Access) → at_place k (map without_realm a) ≡ map without_realm (at_place k a)
unfolding at_place without_realm
at-without k a = keep-without (λ (x : Access). eqb x.place k) (λ x. refl) a

line-without : (a : List Access) → line (map without_realm a) ≡ line a
unfolding line without_realm
line-without [] = refl
line-without (x ∷ a) = ap (λ (l : List ℕ). x.place ∷ l) (line-without a)

place-without : (a : List Access) → place_of (map without_realm a) ≡ place_of a
unfolding place_of
place-without a = ap (first_or 0) (line-without a)

none-without : (a : List Access) → none (map without_realm a) ≡ none a
unfolding none
none-without a = ap (λ (n : ℕ). eqb n 0) (length-map a without_realm)

vacant-without : (a : List Access) (k : ℕ) → vacant (map without_realm a) k ≡ vacant a k
unfolding vacant without_realm
vacant-without a k = every_map (λ (x : Access). not (eqb x.place k)) without_realm a

lowest-without : (a : List Access) → lowest_free (map without_realm a) ≡ lowest_free a
unfolding lowest_free
lowest-without a = λ i. first_or 0 (keep (λ k. vacant-without a k i) places)

hold-without : (k : ℕ) (p : Policies) (x : Access) → hold k p (without_realm x) ≡ without_realm (hold k p x)
unfolding hold without_realm pick
hold-without k p x = by-test (eqb x.place k) (λ e. rw e) (λ e. rw e)

held-without : (k : ℕ) (p : Policies) (a : List Access) → map (hold k p) (map without_realm a) ≡ map without_realm (map (hold k p) a)
held-without k p [] = refl
held-without k p (x ∷ a) = λ i. hold-without k p x i ∷ held-without k p a i

-- WHAT A ROW SAYS

freed-without : (k : ℕ) (s : Subscriber) → freed k (without_realms s) ≡ without_realms (freed k s)
unfolding freed without_realms
freed-without k s = ap (λ (a : List Access). with_accesses a s) (leave-without k s.accesses)

routed-without : (k : ℕ) (p : Policies) (s : Subscriber) → routed k p (without_realms s) ≡ without_realms (routed k p s)
unfolding routed without_realms
routed-without k p s = ap (λ (a : List Access). with_accesses a s) (held-without k p s.accesses)

-- what is asked of it
lowest-said : (s : Subscriber) → lowest_free (without_realms s).accesses ≡ lowest_free s.accesses
unfolding without_realms
lowest-said s = lowest-without s.accesses

first_said : (n : ℕ) (s : Subscriber) → first_on n (without_realms s).accesses ≡ first_on n s.accesses
unfolding without_realms first_on
first_said n s = ap place_of (on-without n s.accesses) ∙ place-without (on_entry n s.accesses)

at-said : (k : ℕ) (s : Subscriber) → at_place k (without_realms s).accesses ≡ map without_realm (at_place k s.accesses)
unfolding without_realms
at-said k s = at-without k s.accesses

limit-said : (n : ℕ) (s : Subscriber) → at_limit n (without_realms s) ≡ at_limit n s
unfolding without_realms at_limit entry_at
limit-said n s = ap (λ (m : ℕ). not (ltb m (entry_at n s).limit)) (ap length (on-without n s.accesses) ∙ length-map (on_entry n s.accesses) without_realm)

named-said : {A : Type 0} (l : List ℕ) (s : Subscriber) (f : ℕ → A) → f (entry_named l (without_realms s)) ≡ f (entry_named l s)
unfolding without_realms entry_named
named-said l s f = refl

entry-said : {A : Type 0} (n : ℕ) (s : Subscriber) (f : Entry → A) → f (entry_at n (without_realms s)) ≡ f (entry_at n s)
unfolding without_realms entry_at
entry-said n s f = refl

none_said : (q : List ℕ) (s : Subscriber) → none (with_session q (without_realms s).accesses) ≡ none (with_session q s.accesses)
unfolding without_realms
none_said q s = ap none (session-without q s.accesses) ∙ none-without (with_session q s.accesses)

place-said : (q : List ℕ) (s : Subscriber) → place_of (with_session q (without_realms s).accesses) ≡ place_of (with_session q s.accesses)
unfolding without_realms
place-said q s = ap place_of (session-without q s.accesses) ∙ place-without (with_session q s.accesses)

stands-said : (n : ℕ) (q : List ℕ) (s : Subscriber) → stands_on n q (without_realms s) ≡ stands_on n q s
unfolding without_realms stands_on
stands-said n q s =
    ap (λ (a : List Access). not (none (with_session q a))) (on-without n s.accesses)
    ∙ ap (λ (a : List Access). not (none a)) (session-without q (on_entry n s.accesses))
    ∙ ap not (none-without (with_session q (on_entry n s.accesses)))

mine-said : (q l : List ℕ) (s : Subscriber)
    → with_session q (on_entry (entry_named l (without_realms s)) (without_realms s).accesses) ≡ map without_realm (with_session q (on_entry (entry_named l s) s.accesses))
unfolding without_realms entry_named
mine-said q l s = ap (with_session q) (on-without (entry_named l s) s.accesses) ∙ session-without q (on_entry (entry_named l s) s.accesses)

-- a choice of what is decided
either : (b : Bool) {x y : Verdict} (u v : Verdict) → x ≡ decided_without u → y ≡ decided_without v → pick b x y ≡ decided_without (pick b u v)
unfolding pick
either true u v p q = p
either false u v p q = q

refuse-without : (c : Code) (s : Subscriber) → refuse c (without_realms s) ≡ decided_without (refuse c s)
unfolding refuse decided_without
refuse-without c s = refl

grant-without : (s : Subscriber) → grant (without_realms s) ≡ decided_without (grant s)
unfolding grant decided_without
grant-without s = refl

already-without : (n : ℕ) (session : List ℕ) (s : Subscriber) → held_already n session (without_realms s) ≡ decided_without (held_already n session s)
unfolding held_already
already-without n session s =
    ap (λ (b : Bool). pick b (grant (without_realms s)) (refuse (plain 5012) (without_realms s))) (stands-said n session s)
    ∙ either (stands_on n session s) _ _ (grant-without s) (refuse-without (plain 5012) s)

-- an opening, with the realm and without
module _ (session host realm : List ℕ) where
  abbrev new : Opening
  new = record { session = session; host = host; realm = realm }

  abbrev old : Opening
  old = record { session = session; host = host; realm = [] }

  access-without : (n : ℕ) (a : List Access) → new_access (map without_realm a) n old ≡ without_realm (new_access a n new)
  unfolding new_access without_realm
  access-without n a = λ i. record { place = lowest-without a i; entry = n; session = session; host = host; realm = []; policies = (new_access a n new).policies }

  opened-without : (n : ℕ) (s : Subscriber) → opened n old (without_realms s) ≡ without_realms (opened n new s)
  unfolding opened without_realms
  opened-without n s =
      let a : List Access = s.accesses in
      let e : map without_realm a ++ (new_access (map without_realm a) n old ∷ []) ≡ map without_realm (a ++ (new_access a n new ∷ [])) =
      ap (λ (x : Access). map without_realm a ++ (x ∷ [])) (access-without n a) ∙ sym (map-append without_realm a (new_access a n new ∷ [])) in
      ap (λ (b : List Access). with_accesses b s) e

  -- WHAT IS DECIDED

  open-without : (n : ℕ) (cut : List Access) (s : Subscriber) → open_on n old (map without_realm cut) (without_realms s) ≡ decided_without (open_on n new cut s)
  unfolding open_on decided_without
  open-without n cut s = λ i. record { code = plain 2001; place = lowest-said s i; cut = map without_realm cut; after = opened-without n s i }

  admit-without : (n : ℕ) (s : Subscriber) → admit n old (without_realms s) ≡ decided_without (admit n new s)
  unfolding admit
  admit-without n s =
      let a : List Access = s.accesses in
      let k : ℕ = first_on n a in
      let cut : open_on n old (at_place (first_on n (without_realms s).accesses) (without_realms s).accesses) (freed (first_on n (without_realms s).accesses) (without_realms s)) ≡ decided_without (open_on n new (at_place k a) (freed k s)) =
      (λ i. open_on n old (at_place (first_said n s i) (without_realms s).accesses) (freed (first_said n s i) (without_realms s)))
      ∙ (λ i. open_on n old (at-said k s i) (freed-without k s i))
      ∙ open-without n (at_place k a) (freed k s) in
      ap (λ (b : Bool). pick b (open_on n old (at_place (first_on n (without_realms s).accesses) (without_realms s).accesses) (freed (first_on n (without_realms s).accesses) (without_realms s))) (open_on n old [] (without_realms s))) (limit-said n s)
      ∙ either (at_limit n s) _ _ cut (open-without n [] s)

  type0-without : (label : List ℕ) (visited : Bool) (s : Subscriber) → type0 old label visited (without_realms s) ≡ decided_without (type0 new label visited s)
  unfolding type0
  type0-without label visited s =
      let n : ℕ = entry_named label s in
      named-said label s
      (λ (m : ℕ). pick (eqb m 0) (refuse no_subscription (without_realms s))
      (pick (barred (entry_at m (without_realms s))) (refuse (plain 5003) (without_realms s))
      (pick (visited && not (may_roam (entry_at m (without_realms s)))) (refuse roaming_not_allowed (without_realms s))
      (pick (not (none (with_session session (without_realms s).accesses))) (held_already m session (without_realms s))
      (admit m old (without_realms s))))))
      ∙ entry-said n s
      (λ (e : Entry). pick (eqb n 0) (refuse no_subscription (without_realms s))
      (pick (barred e) (refuse (plain 5003) (without_realms s))
      (pick (visited && not (may_roam e)) (refuse roaming_not_allowed (without_realms s))
      (pick (not (none (with_session session (without_realms s).accesses))) (held_already n session (without_realms s))
      (admit n old (without_realms s))))))
      ∙ either (eqb n 0) _ _ (refuse-without no_subscription s)
      (either (barred (entry_at n s)) _ _ (refuse-without (plain 5003) s)
      (either (visited && not (may_roam (entry_at n s))) _ _ (refuse-without roaming_not_allowed s)
      (ap (λ (b : Bool). pick (not b) (held_already n session (without_realms s)) (admit n old (without_realms s))) (none_said session s)
      ∙ either (not (none (with_session session s.accesses))) _ _ (already-without n session s) (admit-without n s))))

type1-without : (session : List ℕ) (p : Policies) (wag : Bool) (s : Subscriber) → type1 session p wag (without_realms s) ≡ decided_without (type1 session p wag s)
unfolding type1
type1-without session p wag s =
    let k : ℕ = place_of (with_session session s.accesses) in
    (λ i. pick (none_said session s i) (refuse (plain 5012) (without_realms s)) (pick wag (grant (routed (place-said session s i) p (without_realms s))) (refuse (plain 5012) (without_realms s))))
    ∙ either (none (with_session session s.accesses)) _ _ (refuse-without (plain 5012) s)
    (either wag _ _ (ap grant (routed-without k p s) ∙ grant-without (routed k p s)) (refuse-without (plain 5012) s))

terminate-without : (session label : List ℕ) (s : Subscriber) → terminate session label (without_realms s) ≡ decided_without (terminate session label s)
unfolding terminate
terminate-without session label s =
    let mine : List Access = with_session session (on_entry (entry_named label s) s.accesses) in
    let e : with_session session (on_entry (entry_named label (without_realms s)) (without_realms s).accesses) ≡ map without_realm mine = mine-said session label s in
    ap (λ (a : List Access). pick (none a) (refuse unused_by_user (without_realms s)) (grant (freed (place_of a) (without_realms s)))) e
    ∙ (λ i. pick (none-without mine i) (refuse unused_by_user (without_realms s)) (grant (freed (place-without mine i) (without_realms s))))
    ∙ either (none mine) _ _ (refuse-without unused_by_user s) (ap grant (freed-without (place_of mine) s) ∙ grant-without (freed (place_of mine) s))

pub decided-alike : DecidedAlike
unfolding decide kept_in pick
decided-alike (tunnel session host realm label visited) wag s = type0-without session host realm label visited s
decided-alike (policy session first second third) wag s = type1-without session (record { first = first; second = second; third = third }) wag s
decided-alike (termination session label) wag s = terminate-without session label s

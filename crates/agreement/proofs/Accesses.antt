-- What a request that succeeds makes of a row's accesses: which Session-Ids stand, and where.
use mathlib.Core.Path.{◌≡◌, refl, sym, ap, ◌∙◌}
use mathlib.Core.Bool.{Bool, true, false, ◌&&◌, ◌||◌, not}
use mathlib.Core.List.{List, [], ◌∷◌, map}
use Prim.Native.Nat.{ℕ}
use native.Mathlib.Omega.{arith}
use borrow.Author.Tests.{eqb-true, not-true}
use lib.Dec.{eqb}
use Rattle.octets.specs.Choice.{pick, within}
use Rattle.octets.specs.Lists.{first_or, keep}
use Rattle.octets.specs.Texts.{same}
use Rattle.octets.proofs.Lists.{and_left, by-test, keep-none, same-eq, same_refl}
use Rattle.message.specs.ReadingAMessage.{Ask, tunnel, policy, termination}
use Rattle.table.specs.TheTable.{Access, Policies, Subscriber, line}
use Rattle.table.specs.Soundness.{on_entry}
use Rattle.table.proofs.Good.{Good}
use Rattle.changes.specs.Changes.{Opening, freed, hold, leave, lowest_free, new_access, opened, routed}
use Rattle.rules.specs.Deciding.{entry_named, none, place_of, stands_on, with_session}
use Rattle.order.specs.ChecksInOrder.{deciding_checks, none_fails}
use Rattle.order.specs.Demand2.{afterwards, cut_for, exceeds, first_alone, on_asked, opens as is_new, place_taken, spared}
use Rattle.order.proofs.Cuts.{cut-first}
use Rattle.order.proofs.Decided.{four-pass, storing}
use Rattle.order.proofs.History.{First, first, first_alone_lem, new-placed}
use Rattle.order.proofs.Taken.{keep-twice, kept-first, leaves-own}
use Rattle.agreement.specs.TheBoardAgrees.{some}
use Rattle.agreement.proofs.Some.{below, not-both, or-false, some-append, some-gone, some-imp, some-kept, some-none, some_one}

-- an access has this Session-Id; it has it and this place
abbrev pub has : List ℕ → Access → Bool
has sid a = same a.session sid

abbrev pub at : List ℕ → ℕ → Access → Bool
at sid k a = same a.session sid && eqb a.place k

-- What became of one Session-Id: `gone`, it stood and stands no more; else it stands where it stood.
pub record Became (sid : List ℕ) (gone : Bool) (before now' : List Access) : Type 0 where
  pub stood : gone ≡ true → some (has sid) before ≡ true
  pub left : gone ≡ true → (k : ℕ) → some (at sid k) now' ≡ false
  pub rest : gone ≡ false → (k : ℕ) → some (at sid k) now' ≡ some (at sid k) before

unmoved : (sid : List ℕ) (xs ys : List Access) → ((k : ℕ) → some (at sid k) ys ≡ some (at sid k) xs) → Became sid false xs ys
unmoved sid xs ys e = record { stood = λ h. not-both false h refl; left = λ h. not-both false h refl; rest = λ h. e }

-- AN ACCESS LEAVES

some_first : {A : Type 0} (f g : A → Bool) (xs : List A) (a : A) (others : List A) → keep f xs ≡ a ∷ others → g a ≡ true → some g xs ≡ true
unfolding keep some pick
some_first f g [] a others e h = let z : ◌≡◌ {A = ℕ} 0 1 = cc in absurd (omega arith)
some_first f g (x ∷ xs) a others e h =
    by-test (f x)
    (λ t. let q : x ∷ keep f xs ≡ a ∷ others = rw t at e in let o : x ≡ a = cc in rw (o, h))
    (λ t. let q : keep f xs ≡ a ∷ others = rw t at e in
    let r : some g xs ≡ true = some_first f g xs a others q h in
    by-test (g x) (λ d. rw d) (λ d. rw (d, r)))

module _ {fm : ℕ} (s : Subscriber) (g : Good fm s) (f : Access → Bool) (a : Access) (others : List Access) (e : keep f s.accesses ≡ a ∷ others) (sid : List ℕ) where
  leaving : leave a.place s.accesses ≡ keep (λ (x : Access). not (same x.session a.session)) s.accesses
  leaving = leaves-own f s.accesses a others g.accesses-good.places-once g.accesses-good.sids-once e

  its_own : same a.session sid ≡ true → (k : ℕ) (x : Access) → at sid k x ≡ true → not (same x.session a.session) ≡ false
  its_own q k x h =
      let p : x.session ≡ sid = same-eq x.session sid (and_left (same x.session sid) _ h) in
      let o : a.session ≡ sid = same-eq a.session sid q in
      ap not (ap (λ (l : List ℕ). same l a.session) (p ∙ sym o) ∙ same_refl a.session)

  anothers : same a.session sid ≡ false → (k : ℕ) (x : Access) → at sid k x ≡ true → not (same x.session a.session) ≡ true
  anothers q k x h =
      let p : x.session ≡ sid = same-eq x.session sid (and_left (same x.session sid) _ h) in
      by-test (same x.session a.session)
      (λ t. let o : x.session ≡ a.session = same-eq x.session a.session t in
      not-both (same a.session sid) (ap (λ (l : List ℕ). same l sid) (sym o ∙ p) ∙ same_refl sid) q)
      (λ t. ap not t)

  pub one_left : Became sid (same a.session sid) s.accesses (freed a.place s).accesses
  unfolding freed
  one_left =
      record {
        stood = λ q. some_first f (has sid) s.accesses a others e q;
        left = λ q k. ap (some (at sid k)) leaving ∙ some-gone (at sid k) _ s.accesses (its_own q k);
        rest = λ q k. ap (some (at sid k)) leaving ∙ some-kept (at sid k) _ s.accesses (anothers q k);
      }

-- A POLICY

held_at : (sid : List ℕ) (k j : ℕ) (route : Policies) (xs : List Access) → some (at sid k) (map (hold j route) xs) ≡ some (at sid k) xs
unfolding some hold pick
held_at sid k j route [] = refl
held_at sid k j route (x ∷ xs) = by-test (eqb x.place j) (λ e. rw (e, held_at sid k j route xs)) (λ e. rw (e, held_at sid k j route xs))

pub routed-stays : (form : ℕ) (sid session one two three : List ℕ) (s : Subscriber) → Became sid false s.accesses (afterwards form (policy session one two three) s).accesses
unfolding afterwards routed
routed-stays form sid session one two three s = unmoved sid s.accesses _ (λ k. held_at sid k _ _ s.accesses)

-- A TERMINATION

pub ended-left : {fm : ℕ} (form : ℕ) (sid session label : List ℕ) (s : Subscriber) → Good fm s → First (with_session session (on_entry (entry_named label s) s.accesses))
    → Became sid (same session sid) s.accesses (afterwards form (termination session label) s).accesses
unfolding afterwards with_session on_entry place_of line first_or
ended-left form sid session label s g (first a others e) =
    let one : keep (λ x. eqb x.entry (entry_named label s) && same x.session session) s.accesses ≡ a ∷ others = sym (keep-twice _ _ s.accesses) ∙ e in
    let own : a.session ≡ session = same-eq a.session session (kept-first (λ (x : Access). same x.session session) _ a others e) in
    rw e (rw own at (one_left s g _ a others one sid))

-- AN OPENING

-- the Session-Id is new in the row; it stands at the place that it took; what was cut is another; and so with each other Session-Id
pub record Opened (session : List ℕ) (place : ℕ) (cut before now' : List Access) : Type 0 where
  pub fresh : some (has session) before ≡ false
  pub own : (k : ℕ) → some (at session k) now' ≡ eqb place k
  pub spared-own : some (has session) cut ≡ false
  pub others : (sid : List ℕ) → same session sid ≡ false → Became sid (some (has sid) cut) before now'

-- a tunnel that does not stand on its entry yet
module _ (session host realm label : List ℕ) (visited : Bool) (s : Subscriber) (new : is_new (tunnel session host realm label visited) s ≡ true) where
  new-after : (form : ℕ)
      → afterwards form (tunnel session host realm label visited) s ≡ opened (entry_named label s) (storing form session host realm) (spared (tunnel session host realm label visited) s)
  unfolding afterwards pick
  new-after form = rw new

  new-place : place_taken (tunnel session host realm label visited) s ≡ lowest_free (spared (tunnel session host realm label visited) s).accesses
  unfolding place_taken pick
  new-place = rw new

  nowhere-yet : stands_on (entry_named label s) session s ≡ false
  unfolding is_new
  nowhere-yet = not-true _ new

-- the new access stands behind the others
new-behind : (sid : List ℕ) (k n : ℕ) (o : Opening) (s : Subscriber)
    → some (at sid k) (opened n o s).accesses ≡ some (at sid k) s.accesses || (same o.session sid && eqb (lowest_free s.accesses) k)
unfolding opened new_access
new-behind sid k n o s = some-append (at sid k) s.accesses _ ∙ ap (λ (b : Bool). some (at sid k) s.accesses || b) (some_one (at sid k) _)

module _ {fm : ℕ} (form : ℕ) (s : Subscriber) (g : Good fm s) (session host realm label : List ℕ) (visited wag : Bool) where
  abbrev asked : Ask
  asked = tunnel session host realm label visited

  -- where it stands already, the row stays
  pub goes_on : (sid : List ℕ) → is_new asked s ≡ false → Became sid false s.accesses (afterwards form asked s).accesses
  unfolding afterwards pick
  goes_on sid old = rw old (unmoved sid s.accesses s.accesses (λ k. refl))

  module _ (new : is_new asked s ≡ true) (h : none_fails (deciding_checks asked wag s) ≡ true) where
    new-there : some (has session) s.accesses ≡ false
    unfolding deciding_checks none with_session
    new-there =
        let y : none (with_session session s.accesses) || stands_on (entry_named label s) session s ≡ true = (four-pass _ _ _ _ _ _ _ _ _ _ _ _ h).3 in
        let z : none (with_session session s.accesses) ≡ true = sym (or-false _) ∙ (rw (nowhere-yet session host realm label visited s new) at y) in
        some-none (has session) (has session) s.accesses (λ x p. p) (keep-none _ s.accesses (eqb-true _ 0 z))

    cut_left : (sid : List ℕ) → exceeds asked s ≡ true → First (on_asked asked s) → Became sid (some (has sid) (cut_for asked s)) s.accesses (spared asked s).accesses
    unfolding spared cut_for first_alone on_asked on_entry place_of line first_or pick
    cut_left sid e (first a others on) = rw (e, on, some_one (has sid) a) (one_left s g _ a others on sid)

    spared-became : (sid : List ℕ) → Became sid (some (has sid) (cut_for asked s)) s.accesses (spared asked s).accesses
    unfolding spared cut_for some pick
    spared-became sid =
        by-test (exceeds asked s)
        (λ e. cut_left sid e (first_alone_lem _ (cut-first asked wag s g h e).some))
        (λ e. rw e (unmoved sid s.accesses s.accesses (λ k. refl)))

    not-cut : some (has session) (cut_for asked s) ≡ false
    not-cut = by-test (some (has session) (cut_for asked s)) (λ e. not-both _ ((spared-became session).stood e) new-there) (λ e. e)

    none-own : (k : ℕ) → some (at session k) (spared asked s).accesses ≡ false
    none-own k =
        (spared-became session).rest not-cut k
        ∙ below _ _ (some-imp (at session k) (has session) s.accesses (λ x p. and_left (has session x) _ p)) new-there

    -- the new access stands behind those that are left
    behind : (sid : List ℕ) (k : ℕ) → some (at sid k) (afterwards form asked s).accesses ≡ some (at sid k) (spared asked s).accesses || (same session sid && eqb (place_taken asked s) k)
    behind sid k =
        ap (λ (u : Subscriber). some (at sid k) u.accesses) (new-after session host realm label visited s new form)
        ∙ new-behind sid k _ _ (spared asked s)
        ∙ ap (λ (p : ℕ). some (at sid k) (spared asked s).accesses || (same session sid && eqb p k)) (sym (new-place session host realm label visited s new))

    pub opens : Opened session (place_taken asked s) (cut_for asked s) s.accesses (afterwards form asked s).accesses
    opens =
        record {
          fresh = new-there;
          own = λ k. behind session k ∙ rw (none-own k, same_refl session);
          spared-own = not-cut;
          others = λ sid ne. with-others sid ne (spared-became sid);
        }
      where
        as-spared : (sid : List ℕ) → same session sid ≡ false → (k : ℕ) → some (at sid k) (afterwards form asked s).accesses ≡ some (at sid k) (spared asked s).accesses
        as-spared sid ne k = behind sid k ∙ rw ne (or-false _)

        with-others : (sid : List ℕ) → same session sid ≡ false → Became sid (some (has sid) (cut_for asked s)) s.accesses (spared asked s).accesses
            → Became sid (some (has sid) (cut_for asked s)) s.accesses (afterwards form asked s).accesses
        with-others sid ne b =
            record { stood = b.stood; left = λ q k. as-spared sid ne k ∙ b.left q k; rest = λ q k. as-spared sid ne k ∙ b.rest q k }

-- the place that is taken is one of the eight
pub place-taken : (form : ℕ) (session host realm label : List ℕ) (visited : Bool) (s : Subscriber) → Good form (afterwards form (tunnel session host realm label visited) s)
    → is_new (tunnel session host realm label visited) s ≡ true → within 1 8 (place_taken (tunnel session host realm label visited) s) ≡ true
place-taken form session host realm label visited s g new =
    rw (new-place session host realm label visited s new) (new-placed form _ _ _ (rw (new-after session host realm label visited s new form) at g))

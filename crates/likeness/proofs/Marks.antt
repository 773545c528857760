-- The marks: where ours has the next AVP of a name that theirs has not met.
use mathlib.Core.Path.{◌≡◌, refl, sym, ap, ◌∙◌}
use mathlib.Core.Bool.{true, false, ◌||◌, not}
use mathlib.Core.List.{List, [], ◌∷◌}
use mathlib.Core.Logic.{◌⊎◌, inl, inr, ⊎_elim}
use Prim.Native.Nat.{ℕ, zero, suc, ◌+◌, ◌-◌, ◌%◌, ◌≤◌, ◌<◌}
use native.Mathlib.Omega.{arith}
use borrow.Author.Tests.{not-true, eqb-true, eqb-false, eq-eqb, ne_eqb, leb-true, leb-false, le-leb}
use lib.Dec.{eqb, leb}
use lib.ListN.{length, get_or, drop, set, length-set, length-drop, get_or-replicate}
use lib.Seq.{drop-drop, drop-nil, get_or-set_same, get_or-set_other}
use Rattle.octets.specs.Choice.{pick}
use Rattle.octets.specs.Numbers.{net32}
use Rattle.octets.specs.Texts.{zeros}
use Rattle.octets.proofs.Lists.{by-test, both, and_left, and_right, every_of, no_length}
use Rattle.octets.proofs.Texts.{length-zeros}
use Rattle.message.specs.ReadingAMessage.{Name, base, vendor, same_name, Avp, having}
use Rattle.message.proofs.Gathering.{same-name-refl, same-name-eq}
use Rattle.likeness.specs.TheSameAnswer.{failed_avp, same_avp, first_is, fits, complete}
use Rattle.likeness.specs.Code.{avp_at, avps_from, named_from, next_at, mark_count, mark_of, leads_in, Leads, Kept, Marked, Behind, Noted}
use Rattle.likeness.proofs.Places.{inside, from-none, next-end, named-base, named-vendor}
use Rattle.likeness.proofs.Named.{having-none, having-other, having-one, count-here, count_none}
use Rattle.likeness.proofs.Fitting.{fits-failed, fits-lacking, fits-met}
use Rattle.likeness.proofs.Itself.{same-itself}

-- WHICH MARK

same-mark : (n k : Name) → same_name n k ≡ true → mark_of n ≡ mark_of k
same-mark n k e = ap mark_of (same-name-eq n k e)

other-mark : (n k : Name) → (mark_of n ≡ mark_of k → ⊥) → same_name n k ≡ false
other-mark n k f = by-test (same_name n k) (λ e. absurd (f (same-mark n k e))) (λ e. e)

mark-less : (n : Name) → mark_of n < mark_count
unfolding mark_of
mark-less (base c) = omega arith
mark-less (vendor v c) = omega arith

low_bits : (m : List ℕ) (at : ℕ) → net32 m at % 64 ≡ get_or m (at + 3) 0 % 64
unfolding net32
low_bits m at = omega arith

pub mark-at : (m : List ℕ) (at : ℕ) → mark_of (avp_at m at).name ≡ get_or m (at + 3) 0 % 64
unfolding mark_of
mark-at m at =
    by-test (leb 128 (get_or m (at + 4) 0))
    (λ t. ap mark_of (named-vendor m at (leb-true 128 (get_or m (at + 4) 0) t)) ∙ low_bits m at)
    (λ t. ap mark_of (named-base m at (leb-false 128 (get_or m (at + 4) 0) t)) ∙ low_bits m at)

-- THE WALK FROM PLACE TO PLACE

pub leads-here : (m : List ℕ) (p : ℕ) → Leads m p p
unfolding leads_in
leads-here m p = record { steps = 0; there = eq-eqb p p refl }

in_on : (n : ℕ) (m : List ℕ) (p q w : ℕ) → leads_in n m p q ≡ true → next_at m q ≡ w → (w ≡ 0 → ⊥) → leads_in (suc n) m p w ≡ true
unfolding leads_in
in_on zero m p q w h e f =
    let s : next_at m p ≡ w = ap (next_at m) (eqb-true p q h) ∙ e in
    both (ap not (ne_eqb (next_at m p) 0 (λ z. f (sym s ∙ z)))) (eq-eqb (next_at m p) w s)
in_on (suc n) m p q w h e f =
    both (and_left (not (eqb (next_at m p) 0)) (leads_in n m (next_at m p) q) h) (in_on n m (next_at m p) q w (and_right (not (eqb (next_at m p) 0)) (leads_in n m (next_at m p) q) h) e f)

pub leads-on : (m : List ℕ) (p q w : ℕ) → Leads m p q → next_at m q ≡ w → (w ≡ 0 → ⊥) → Leads m p w
leads-on m p q w l e f = record { steps = suc l.steps; there = in_on l.steps m p q w l.there e f }

first_step : (n : ℕ) (m : List ℕ) (p q : ℕ) → leads_in n m p q ≡ true → (p ≡ q) ⊎ ((next_at m p ≡ 0 → ⊥) × Leads m (next_at m p) q)
unfolding leads_in
first_step zero m p q h = inl (eqb-true p q h)
first_step (suc n) m p q h =
    let a : not (eqb (next_at m p) 0) ≡ true = and_left (not (eqb (next_at m p) 0)) (leads_in n m (next_at m p) q) h in
    inr (eqb-false (next_at m p) 0 (not-true (eqb (next_at m p) 0) a), record { steps = n; there = and_right (not (eqb (next_at m p) 0)) (leads_in n m (next_at m p) q) h })

-- THE FIRST OF EACH

-- What is marked of ours up to a place: of a name without a mark none stands before it.
pub record FirstOf (ours : List ℕ) (at : ℕ) (n : Name) (mark : ℕ) : Type 0 where
  pub inside : mark ≤ length ours
  pub none : mark ≡ 0 → having n (avps_from ours 20) ≡ having n (avps_from ours at)
  pub place : 2 ≤ mark → Leads ours 20 mark
  pub first : 2 ≤ mark → having n (avps_from ours mark) ≡ having n (avps_from ours 20)

pub record First (ours : List ℕ) (at : ℕ) (marks : List ℕ) : Type 0 where
  pub size : length marks ≡ mark_count
  pub leads : Leads ours 20 at
  pub firsts : (n : Name) → FirstOf ours at n (get_or marks (mark_of n) 0)

pub first-none : (ours marks : List ℕ) → marks ≡ zeros mark_count → First ours 20 marks
unfolding zeros
first-none ours marks z =
    record {
      size = ap length z ∙ length-zeros mark_count;
      leads = leads-here ours 20;
      firsts = λ n.
          let o : get_or marks (mark_of n) 0 ≡ 0 = ap (λ (l : List ℕ). get_or l (mark_of n) 0) z ∙ get_or-replicate mark_count (mark_of n) 0 0 (mark-less n) in
          record { inside = omega (arith, o); none = λ e. refl; place = λ g. absurd (omega (arith, o, g)); first = λ g. absurd (omega (arith, o, g)) };
    }

module _ (ours : List ℕ) (at : ℕ) (marks : List ℕ) (w : First ours at marks) where
  abbrev its : ℕ
  its = mark_of (avp_at ours at).name

  module _ (next : ℕ) (e : next_at ours at ≡ next) (f : next ≡ 0 → ⊥) where
    -- a name with another mark
    passed : (n : Name) → (mark_of n ≡ its → ⊥) → FirstOf ours at n (get_or marks (mark_of n) 0) → FirstOf ours next n (get_or marks (mark_of n) 0)
    passed n d o =
        let s : having n (avps_from ours at) ≡ having n (avps_from ours next) = having-other n ours at next e f (other-mark n (avp_at ours at).name d) in
        record { inside = o.inside; none = λ z. o.none z ∙ s; place = o.place; first = o.first }

    noted : (mark r : ℕ) → mark ≡ get_or marks its 0 → r ≡ pick (eqb mark 0) at mark → 2 ≤ at → (n : Name) → mark_of n ≡ its → FirstOf ours next n r
    unfolding pick
    noted mark r m is g n i =
        let o : FirstOf ours at n (get_or marks (mark_of n) 0) = w.firsts n in
        let s : get_or marks (mark_of n) 0 ≡ mark = ap (λ (j : ℕ). get_or marks j 0) i ∙ sym m in
        by-test (eqb mark 0)
        (λ t.
        let z : mark ≡ 0 = eqb-true mark 0 t in
        let v : r ≡ at = is ∙ rw t in
        rw v (record { inside = omega (arith, (inside ours at next e f).0, (inside ours at next e f).1); none = λ k. absurd (omega (arith, k, g)); place = λ k. w.leads; first = λ k. sym (o.none (s ∙ z)) }))
        (λ t.
        let v : r ≡ get_or marks (mark_of n) 0 = (is ∙ rw t) ∙ sym s in
        let d : mark ≡ 0 → ⊥ = eqb-false mark 0 t in
        rw v (record { inside = o.inside; none = λ k. absurd (d (sym s ∙ k)); place = o.place; first = o.first }))

    pub first_on : (mark r : ℕ) → mark ≡ get_or marks its 0 → r ≡ pick (eqb mark 0) at mark → 2 ≤ at → First ours next (set marks its r)
    first_on mark r m e' g =
        record {
          size = length-set marks its r ∙ w.size;
          leads = leads-on ours 20 at next w.leads e f;
          firsts = λ n.
              by-test (eqb (mark_of n) its)
              (λ t.
              let i : mark_of n ≡ its = eqb-true (mark_of n) its t in
              let v : get_or (set marks its r) (mark_of n) 0 ≡ r = ap (λ (k : ℕ). get_or (set marks its r) k 0) i ∙ get_or-set_same marks its r 0 (omega (arith, mark-less (avp_at ours at).name, w.size)) in
              rw v (noted mark r m e' g n i))
              (λ t.
              let d : mark_of n ≡ its → ⊥ = eqb-false (mark_of n) its t in
              rw (get_or-set_other marks its (mark_of n) r 0 d) (passed n d (w.firsts n)));
        }

  pub first-all : next_at ours at ≡ 0 → (theirs : List ℕ) → Marked ours theirs 20 marks
  first-all e theirs =
      record {
        size = w.size;
        kept = λ n.
            let o : FirstOf ours at n (get_or marks (mark_of n) 0) = w.firsts n in
            let k : named_from n theirs 20 - named_from n theirs 20 ≡ 0 = omega arith in
            record {
              inside = o.inside;
              none = λ z. o.none z ∙ ap (having n) (from-none ours at e) ∙ having-none n;
              place = o.place;
              left = λ g. o.first g ∙ ap (λ (i : ℕ). drop i (having n (avps_from ours 20))) (sym k);
            };
      }

-- ONE AVP OF THEIRS

module _ (ours theirs : List ℕ) (at : ℕ) where
  abbrev here : Avp
  here = avp_at theirs at

  abbrev named : Name
  named = here.name

  pub behind-same : (mark behind : ℕ) → 2 ≤ mark → next_at ours mark ≡ behind → avp_at ours mark ≡ here → Behind ours mark named behind
  behind-same mark behind g e s = record { marked = g; next = e; named = ap (λ (a : Avp). same_name named a.name) s ∙ same-name-refl named }

  module _ (mark : ℕ) (k : Kept ours theirs at named mark) (h : same_name failed_avp named ≡ false) where
    pub fits_next : (behind : ℕ) → Behind ours mark named behind → (behind ≡ 0 → ⊥)
        → fits (avps_from ours 20) (avps_from theirs 20) (avps_from theirs at) here ≡ same_avp (avp_at ours mark) here
    unfolding first_is
    fits_next behind b f =
        let d : ℕ = named_from named theirs 20 - named_from named theirs at in
        let all : List Avp = having named (avps_from ours 20) in
        let l : having named (avps_from ours mark) ≡ drop (named_from named theirs 20 - named_from named theirs at) (having named (avps_from ours 20)) = k.left b.marked in
        let c : having named (avps_from ours mark) ≡ avp_at ours mark ∷ having named (avps_from ours behind) = having-one named ours mark behind b.next f b.named in
        let p : length (having named (avps_from ours 20)) ≡ 0 → ⊥ = λ z. omega (arith, z, ap length (sym l ∙ c), length-drop (named_from named theirs 20 - named_from named theirs at) (having named (avps_from ours 20))) in
        fits-met (avps_from ours 20) (avps_from theirs 20) (avps_from theirs at) here h p ∙ ap (λ (s : List Avp). first_is s here) (sym l ∙ c)

    pub fits-same : (behind : ℕ) → Behind ours mark named behind → (behind ≡ 0 → ⊥) → avp_at ours mark ≡ here
        → fits (avps_from ours 20) (avps_from theirs 20) (avps_from theirs at) here ≡ true
    fits-same behind b f s = fits_next behind b f ∙ ap (λ (a : Avp). same_avp a here) s ∙ same-itself here

  -- a name that ours lacks
  pub fits-none : length (having named (avps_from ours 20)) ≡ 0 → fits (avps_from ours 20) (avps_from theirs 20) (avps_from theirs at) here ≡ same_name failed_avp named || not here.mandatory
  fits-none z =
      by-test (same_name failed_avp named)
      (λ t. rw t (fits-failed (avps_from ours 20) (avps_from theirs 20) (avps_from theirs at) here t))
      (λ t. rw t (fits-lacking (avps_from ours 20) (avps_from theirs 20) (avps_from theirs at) here t z))

  -- what is marked behind it
  module _ (marks : List ℕ) (w : Marked ours theirs at marks) (next : ℕ) (e : next_at theirs at ≡ next) (f : next ≡ 0 → ⊥) where
    kept-other : (n : Name) (mark : ℕ) → same_name n named ≡ false → Kept ours theirs at n mark → Kept ours theirs next n mark
    kept-other n mark h k =
        let c : named_from n theirs at ≡ named_from n theirs next = ap length (having-other n theirs at next e f h) in
        record {
          inside = k.inside;
          none = k.none;
          place = k.place;
          left = λ g. k.left g ∙ ap (λ (i : ℕ). drop (named_from n theirs 20 - i) (having n (avps_from ours 20))) c;
        }

    marked-set : (v : ℕ) → ((n : Name) → mark_of n ≡ mark_of named → Kept ours theirs next n v) → Marked ours theirs next (set marks (mark_of named) v)
    marked-set v own =
        record {
          size = length-set marks (mark_of named) v ∙ w.size;
          kept = λ n.
              by-test (eqb (mark_of n) (mark_of named))
              (λ t.
              let i : mark_of n ≡ mark_of named = eqb-true (mark_of n) (mark_of named) t in
              let s : get_or (set marks (mark_of named) v) (mark_of n) 0 ≡ v = ap (λ (j : ℕ). get_or (set marks (mark_of named) v) j 0) i ∙ get_or-set_same marks (mark_of named) v 0 (omega (arith, mark-less named, w.size)) in
              rw s (own n i))
              (λ t.
              let d : mark_of n ≡ mark_of named → ⊥ = eqb-false (mark_of n) (mark_of named) t in
              rw (get_or-set_other marks (mark_of named) (mark_of n) v 0 d) (kept-other n (get_or marks (mark_of n) 0) (other-mark n named d) (w.kept n)));
        }

    -- where it has the mark 0, or ours has none of the name, nothing changes
    kept_here : (mark : ℕ) → ((mark ≡ 0) ⊎ (named_from named ours 20 ≡ 0)) → Kept ours theirs at named mark → Kept ours theirs next named mark
    kept_here mark o k =
        record {
          inside = k.inside;
          none = k.none;
          place = k.place;
          left = λ g.
              ⊎_elim
              (λ z. absurd (omega (arith, z, g)))
              (λ z.
              let e : having named (avps_from ours 20) ≡ [] = no_length (having named (avps_from ours 20)) z in
              let drops : (i j : ℕ) → drop i (having named (avps_from ours 20)) ≡ drop j (having named (avps_from ours 20)) = λ i j. rw (e, drop-nil {A = Avp} i, drop-nil {A = Avp} j) in
              k.left g ∙ drops (named_from named theirs 20 - named_from named theirs at) (named_from named theirs 20 - named_from named theirs next))
              o;
        }

    mark-stays : (mark : ℕ) → mark ≡ get_or marks (mark_of named) 0 → ((mark ≡ 0) ⊎ (named_from named ours 20 ≡ 0)) → Marked ours theirs next (set marks (mark_of named) mark)
    mark-stays mark m o =
        marked-set mark
        (λ n i.
        let k : Kept ours theirs at n mark = rw (m ∙ ap (λ (j : ℕ). get_or marks j 0) (sym i)) (w.kept n) in
        by-test (same_name n named)
        (λ t. let q : n ≡ named = same-name-eq n named t in rw q (kept_here mark o (rw q at k)))
        (λ t. kept-other n mark t k))

    none-known : 1 ≤ length ours → Marked ours theirs next (set marks (mark_of named) 1)
    none-known h =
        marked-set 1
        (λ n i.
        record {
          inside = h;
          none = λ o. absurd (omega arith);
          place = λ g. absurd (omega arith);
          left = λ g. absurd (omega arith);
        })

    module _ (fewer : (n : Name) → named_from n theirs at ≤ named_from n theirs 20) (behind : ℕ) (b : Behind ours (get_or marks (mark_of named) 0) named behind) (g : behind ≡ 0 → ⊥) where
      abbrev mark : ℕ
      mark = get_or marks (mark_of named) 0

      left-own : having named (avps_from ours behind) ≡ drop (named_from named theirs 20 - named_from named theirs next) (having named (avps_from ours 20))
      left-own =
          let all : List Avp = having named (avps_from ours 20) in
          let l : having named (avps_from ours mark) ≡ drop (named_from named theirs 20 - named_from named theirs at) (having named (avps_from ours 20)) = (w.kept named).left b.marked in
          let c : having named (avps_from ours mark) ≡ avp_at ours mark ∷ having named (avps_from ours behind) = having-one named ours mark behind b.next g b.named in
          let o : named_from named theirs at ≡ suc (named_from named theirs next) = ap length (having-one named theirs at next e f (same-name-refl named)) in
          let k : (named_from named theirs 20 - named_from named theirs at) + 1 ≡ named_from named theirs 20 - named_from named theirs next = omega (arith, o, fewer named) in
          ap (λ (s : List Avp). drop 1 s) (sym c ∙ l)
          ∙ drop-drop 1 (named_from named theirs 20 - named_from named theirs at) (having named (avps_from ours 20))
          ∙ ap (λ (i : ℕ). drop i (having named (avps_from ours 20))) k

      left_other : (n : Name) → mark_of n ≡ mark_of named → same_name n named ≡ false → having n (avps_from ours behind) ≡ drop (named_from n theirs 20 - named_from n theirs next) (having n (avps_from ours 20))
      left_other n i h =
          let m : get_or marks (mark_of n) 0 ≡ mark = ap (λ (j : ℕ). get_or marks j 0) i in
          let r : named ≡ (avp_at ours mark).name = same-name-eq named (avp_at ours mark).name b.named in
          let o : same_name n (avp_at ours mark).name ≡ false = ap (λ (x : Name). same_name n x) (sym r) ∙ h in
          let k : Kept ours theirs next n mark = rw (← m) (kept-other n (get_or marks (mark_of n) 0) h (w.kept n)) in
          sym (having-other n ours mark behind b.next g o) ∙ k.left b.marked

      pub next-marked : Marked ours theirs next (set marks (mark_of named) behind)
      next-marked =
          marked-set behind
          (λ n i.
          record {
            inside = (inside ours mark behind b.next g).1;
            none = λ z. absurd (g z);
            place = λ o. leads-on ours 20 mark behind ((w.kept named).place b.marked) b.next g;
            left = λ o.
                by-test (same_name n named)
                (λ t. rw (same-name-eq n named t) left-own)
                (λ t. left_other n i t);
          })

    pub marked-on : (mark : ℕ) → mark ≡ get_or marks (mark_of named) 0 → ((n : Name) → named_from n theirs at ≤ named_from n theirs 20)
        → (r : ℕ) → Noted ours mark named r → Marked ours theirs next (set marks (mark_of named) r)
    marked-on mark m fewer r o =
        ⊎_elim
        (λ z. rw z.0 (mark-stays mark m z.1))
        (λ p. ⊎_elim (λ z. rw z.0 (none-known (omega (arith, z.1, m, (w.kept named).inside)))) (λ b. next-marked fewer r (rw m at b.1) b.0) p)
        o

  -- one that has the same bytes fits, Failed-AVP or not
  pub fits-bytes : (mark behind : ℕ) → Kept ours theirs at named mark → 2 ≤ mark → next_at ours mark ≡ behind → (behind ≡ 0 → ⊥) → avp_at ours mark ≡ here
      → fits (avps_from ours 20) (avps_from theirs 20) (avps_from theirs at) here ≡ true
  fits-bytes mark behind k g e f s =
      by-test (same_name failed_avp named)
      (λ t. fits-failed (avps_from ours 20) (avps_from theirs 20) (avps_from theirs at) here t)
      (λ t. fits-same mark k t behind (behind-same mark behind g e s) f s)

  pub fewer-on : (next : ℕ) → next_at theirs at ≡ next → (next ≡ 0 → ⊥) → (n : Name) → named_from n theirs at ≤ named_from n theirs 20 → named_from n theirs next ≤ named_from n theirs 20
  fewer-on next e f n h = omega (arith, count-here n theirs at next e f, h)

  -- where theirs ends
  pub marked-end : (marks : List ℕ) → next_at theirs at ≡ 0 → Marked ours theirs at marks → Marked ours theirs (length theirs) marks
  marked-end marks e w =
      record {
        size = w.size;
        kept = λ n.
            let k : Kept ours theirs at n (get_or marks (mark_of n) 0) = w.kept n in
            let c : named_from n theirs at ≡ named_from n theirs (length theirs) = count_none n theirs at e ∙ sym (count_none n theirs (length theirs) (next-end theirs (length theirs) (omega arith))) in
            record {
              inside = k.inside;
              none = k.none;
              place = k.place;
              left = λ g. k.left g ∙ ap (λ (i : ℕ). drop (named_from n theirs 20 - i) (having n (avps_from ours 20))) c;
            };
      }

-- ALL OF OURS

-- What is known of the AVPs of ours up to a place, each of which stands before its mark: those of a name are all met, unless the mark is further on.
pub record MetOf (ours : List ℕ) (at : ℕ) (n : Name) (mark : ℕ) : Type 0 where
  pub unmarked : mark < 2 → having n (avps_from ours 20) ≡ having n (avps_from ours at)
  pub ahead : 2 ≤ mark → Leads ours at mark ⊎ ((mark ≤ at) × (having n (avps_from ours mark) ≡ having n (avps_from ours at)))

pub met-first : (ours theirs : List ℕ) (at : ℕ) (marks : List ℕ) → Marked ours theirs at marks → (n : Name) → MetOf ours 20 n (get_or marks (mark_of n) 0)
met-first ours theirs at marks w n = record { unmarked = λ z. refl; ahead = λ g. inl ((w.kept n).place g) }

module _ (ours : List ℕ) (at : ℕ) (marks : List ℕ) (o : (n : Name) → MetOf ours at n (get_or marks (mark_of n) 0)) where
  module _ (next : ℕ) (e : next_at ours at ≡ next) (f : next ≡ 0 → ⊥) (g : 2 ≤ at) (before : at < get_or marks (mark_of (avp_at ours at).name) 0) where
    met-own : (n : Name) → same_name n (avp_at ours at).name ≡ true → MetOf ours next n (get_or marks (mark_of n) 0)
    met-own n t =
        let b : at < get_or marks (mark_of n) 0 = rw (same-mark n (avp_at ours at).name t) before in
        record {
          unmarked = λ z. absurd (omega arith);
          ahead = λ h.
              ⊎_elim
              (λ l. ⊎_elim (λ q. absurd (omega arith)) (λ r. inl (rw (← e) r.1)) (first_step l.steps ours at (get_or marks (mark_of n) 0) l.there))
              (λ r. absurd (omega (arith, r.0)))
              ((o n).ahead h);
        }

    met-other : (n : Name) → same_name n (avp_at ours at).name ≡ false → MetOf ours next n (get_or marks (mark_of n) 0)
    met-other n t =
        let s : having n (avps_from ours at) ≡ having n (avps_from ours next) = having-other n ours at next e f t in
        let i = inside ours at next e f in
        record {
          unmarked = λ z. (o n).unmarked z ∙ s;
          ahead = λ h.
              ⊎_elim
              (λ l.
              ⊎_elim
              (λ q. inr (omega (arith, q, i.0), ap (λ (p : ℕ). having n (avps_from ours p)) (sym q) ∙ s))
              (λ r. inl (rw (← e) r.1))
              (first_step l.steps ours at (get_or marks (mark_of n) 0) l.there))
              (λ r. inr (omega (arith, r.0, i.0), r.1 ∙ s))
              ((o n).ahead h);
        }

    pub met-on : (n : Name) → MetOf ours next n (get_or marks (mark_of n) 0)
    met-on n = by-test (same_name n (avp_at ours at).name) (λ t. met-own n t) (λ t. met-other n t)

  module _ (e : next_at ours at ≡ 0) where
    none_here : (n : Name) → having n (avps_from ours at) ≡ []
    none_here n = ap (having n) (from-none ours at e) ∙ having-none n

    none_left : (n : Name) → 2 ≤ get_or marks (mark_of n) 0 → having n (avps_from ours (get_or marks (mark_of n) 0)) ≡ []
    none_left n g =
        ⊎_elim
        (λ l.
        ⊎_elim
        (λ q. ap (λ (p : ℕ). having n (avps_from ours p)) (sym q) ∙ none_here n)
        (λ r. absurd (r.0 e))
        (first_step l.steps ours at (get_or marks (mark_of n) 0) l.there))
        (λ r. r.1 ∙ none_here n)
        ((o n).ahead g)

    no-fewer : (theirs : List ℕ) → Marked ours theirs (length theirs) marks → (n : Name) → length (having n (avps_from ours 20)) ≤ length (having n (avps_from theirs 20))
    no-fewer theirs w n =
        by-test (leb 2 (get_or marks (mark_of n) 0))
        (λ t.
        let g : 2 ≤ get_or marks (mark_of n) 0 = leb-true 2 (get_or marks (mark_of n) 0) t in
        let z : named_from n theirs (length theirs) ≡ 0 = count_none n theirs (length theirs) (next-end theirs (length theirs) (omega arith)) in
        let l : 0 ≡ length (drop (named_from n theirs 20 - named_from n theirs (length theirs)) (having n (avps_from ours 20))) = ap length (sym (none_left n g) ∙ (w.kept n).left g) in
        omega (arith, l, z, length-drop (named_from n theirs 20 - named_from n theirs (length theirs)) (having n (avps_from ours 20))))
        (λ t.
        let z : length (having n (avps_from ours 20)) ≡ 0 = ap length ((o n).unmarked (leb-false 2 (get_or marks (mark_of n) 0) t) ∙ none_here n) in
        omega (arith, z))

    pub all-met : (theirs : List ℕ) → Marked ours theirs (length theirs) marks → complete (avps_from ours 20) (avps_from theirs 20) ≡ true
    unfolding complete
    all-met theirs w =
        every_of (λ (a : Avp). leb (length (having a.name (avps_from ours 20))) (length (having a.name (avps_from theirs 20))))
        (λ a. le-leb (length (having a.name (avps_from ours 20))) (length (having a.name (avps_from theirs 20))) (no-fewer theirs w a.name))
        (avps_from ours 20)

-- Over rows: what a subject gets depends on its own calls alone, since a call touches only the first row that its subject
-- finds, and no change to a row changes by whom it is found.
use mathlib.Core.Path.{◌≡◌, refl, sym, ap, ◌∙◌, subst}
use mathlib.Core.Bool.{true, false}
use mathlib.Core.List.{List, [], ◌∷◌}
use Prim.Native.Nat.{ℕ}
use Rattle.octets.specs.Choice.{pick}
use Rattle.octets.specs.Lists.{keep}
use Rattle.octets.proofs.Lists.{by-test}
use Rattle.rules.specs.Calls.{Call, Reply}
use Rattle.table.specs.TheTable.{Account}
use Rattle.order.specs.Demand3.{Subject, nobody, subscriber, same_subject, subject, is_of, calls_of, replies_of, Record, absent, bytes, is_by, calls_by, replies_by}
use Rattle.order.proofs.Finding.{subject-eq, subject-refl, finds, owner_of, finds-owner}

-- in a table of a form, what a call does to its subject's row and replies there, and what it replies where there is none
module _ (fm : ℕ) (act : Call → List ℕ → List ℕ) (says : Call → List ℕ → Reply) (lost : Call → Reply) where
  unfoldable pub tab : List (List ℕ) → Call → List (List ℕ)
  tab [] c = []
  tab (r ∷ rs) c = pick (finds (subject fm c) r) (act c r ∷ rs) (r ∷ tab rs c)

  unfoldable pub ans : List (List ℕ) → Call → Reply
  ans [] c = lost c
  ans (r ∷ rs) c = pick (finds (subject fm c) r) (says c r) (ans rs c)

  unfoldable pub runs : List (List ℕ) → List Call → List (List ℕ)
  runs rs [] = rs
  runs rs (c ∷ cs) = runs (tab rs c) cs

  unfoldable pub outs : List (List ℕ) → List Call → List Reply
  outs rs [] = []
  outs rs (c ∷ cs) = ans rs c ∷ outs (tab rs c) cs

  -- the record that the subject finds
  unfoldable pub record_in : Subject → List (List ℕ) → Record
  record_in k [] = absent
  record_in k (r ∷ rs) = pick (finds k r) (bytes r) (record_in k rs)

  -- the calls that find a row, and the others
  unfoldable pub mine : List ℕ → List Call → List Call
  mine r [] = []
  mine r (c ∷ cs) = pick (finds (subject fm c) r) (c ∷ mine r cs) (mine r cs)

  unfoldable pub rest : List ℕ → List Call → List Call
  rest r [] = []
  rest r (c ∷ cs) = pick (finds (subject fm c) r) (rest r cs) (c ∷ rest r cs)

  unfoldable pub run_row : List ℕ → List Call → List ℕ
  run_row r [] = r
  run_row r (c ∷ cs) = run_row (act c r) cs

  runs_none : (cs : List Call) → runs [] cs ≡ []
  unfolding runs tab
  runs_none [] = refl
  runs_none (c ∷ cs) = runs_none cs

  module _ (stable : (k : Subject) (c : Call) (r : List ℕ) → finds k (act c r) ≡ finds k r) where
    -- ROW BY ROW

    mine-stable : (c : Call) (r : List ℕ) (cs : List Call) → mine (act c r) cs ≡ mine r cs
    unfolding mine
    mine-stable c r [] = refl
    mine-stable c r (d ∷ cs) = rw (stable (subject fm d) c r, mine-stable c r cs)

    rest_stable : (c : Call) (r : List ℕ) (cs : List Call) → rest (act c r) cs ≡ rest r cs
    unfolding rest
    rest_stable c r [] = refl
    rest_stable c r (d ∷ cs) = rw (stable (subject fm d) c r, rest_stable c r cs)

    split : (r : List ℕ) (rs : List (List ℕ)) (cs : List Call) → runs (r ∷ rs) cs ≡ run_row r (mine r cs) ∷ runs rs (rest r cs)
    unfolding runs tab mine rest run_row pick
    split r rs [] = refl
    split r rs (c ∷ cs) =
        by-test (finds (subject fm c) r)
        (λ e. rw (e, split (act c r) rs cs, mine-stable c r cs, rest_stable c r cs))
        (λ e. rw (e, split r (tab rs c) cs))

    -- a row takes its owner's calls, or none
    owner-only : (k : Subject) (r : List ℕ) → finds (owner_of r) r ≡ true → finds k r ≡ same_subject k (owner_of r)
    owner-only k r e =
        by-test (finds k r)
        (λ f. let p : k ≡ owner_of r = finds-owner k r f in rw p (e ∙ sym (subject-refl (owner_of r))))
        (λ f. by-test (same_subject k (owner_of r))
        (λ s. let p : k ≡ owner_of r = subject-eq k (owner_of r) s in let z : finds k r ≡ true = rw p e in cc)
        (λ s. f ∙ sym s))

    no-owner : (k : Subject) (r : List ℕ) → finds (owner_of r) r ≡ false → finds k r ≡ false
    no-owner k r e =
        by-test (finds k r) (λ f. let p : k ≡ owner_of r = finds-owner k r f in let z : finds k r ≡ false = rw p e in cc) (λ f. f)

    mine-owner : (r : List ℕ) (cs : List Call) → finds (owner_of r) r ≡ true → mine r cs ≡ calls_of fm (owner_of r) cs
    unfolding mine calls_of keep is_of
    mine-owner r [] e = refl
    mine-owner r (c ∷ cs) e = rw (owner-only (subject fm c) r e, mine-owner r cs e)

    mine-none : (r : List ℕ) (cs : List Call) → finds (owner_of r) r ≡ false → mine r cs ≡ []
    unfolding mine pick
    mine-none r [] e = refl
    mine-none r (c ∷ cs) e = rw (no-owner (subject fm c) r e) (mine-none r cs e)

    rest-none : (r : List ℕ) (cs : List Call) → finds (owner_of r) r ≡ false → rest r cs ≡ cs
    unfolding rest pick
    rest-none r [] e = refl
    rest-none r (c ∷ cs) e = rw (no-owner (subject fm c) r e, rest-none r cs e)

    -- of the others' calls none is missing
    other : (k : Subject) (c : Call) (r : List ℕ) → finds (subject fm c) r ≡ true → same_subject k (owner_of r) ≡ false → same_subject (subject fm c) k ≡ false
    other k c r f e =
        by-test (same_subject (subject fm c) k)
        (λ s. let p : subject fm c ≡ k = subject-eq (subject fm c) k s in
        let q : subject fm c ≡ owner_of r = finds-owner (subject fm c) r f in
        let z : same_subject k (owner_of r) ≡ true = rw (← p, q) (subject-refl (owner_of r)) in
        cc)
        (λ s. s)

    rest-other : (r : List ℕ) (k : Subject) (cs : List Call) → same_subject k (owner_of r) ≡ false → calls_of fm k (rest r cs) ≡ calls_of fm k cs
    unfolding rest calls_of keep is_of pick
    rest-other r k [] e = refl
    rest-other r k (c ∷ cs) e =
        by-test (finds (subject fm c) r)
        (λ f. rw (f, other k c r f e, rest-other r k cs e))
        (λ f. rw (f, rest-other r k cs e))

    rest-owner : (r : List ℕ) (cs : List Call) → finds (owner_of r) r ≡ true → calls_of fm (owner_of r) (rest r cs) ≡ []
    unfolding rest calls_of keep is_of pick
    rest-owner r [] e = refl
    rest-owner r (c ∷ cs) e =
        by-test (finds (subject fm c) r)
        (λ f. rw (f, rest-owner r cs e))
        (λ f. rw (f, sym (owner-only (subject fm c) r e) ∙ f, rest-owner r cs e))

    -- THE TABLE: two lists in which each subscriber's calls are the same
    abbrev pub Alike : List Call → List Call → Type 0
    Alike cs ds = (who : Account) → calls_of fm (subscriber who) cs ≡ calls_of fm (subscriber who) ds

    owner-alike : (r : List ℕ) (cs ds : List Call) → Alike cs ds → calls_of fm (owner_of r) cs ≡ calls_of fm (owner_of r) ds
    unfolding owner_of
    owner-alike r cs ds h = h _

    rest-alike : (r : List ℕ) (cs ds : List Call) → Alike cs ds → Alike (rest r cs) (rest r ds)
    rest-alike r cs ds h who =
        by-test (finds (owner_of r) r)
        (λ l. by-test (same_subject (subscriber who) (owner_of r))
        (λ e. let p : subscriber who ≡ owner_of r = subject-eq (subscriber who) (owner_of r) e in
        rw (p, rest-owner r cs l, rest-owner r ds l))
        (λ e. rest-other r (subscriber who) cs e ∙ h who ∙ sym (rest-other r (subscriber who) ds e)))
        (λ l. rw (rest-none r cs l, rest-none r ds l) (h who))

    mine-alike : (r : List ℕ) (cs ds : List Call) → Alike cs ds → mine r cs ≡ mine r ds
    mine-alike r cs ds h =
        by-test (finds (owner_of r) r)
        (λ l. mine-owner r cs l ∙ owner-alike r cs ds h ∙ sym (mine-owner r ds l))
        (λ l. mine-none r cs l ∙ sym (mine-none r ds l))

    pub same_rows : (rs : List (List ℕ)) (cs ds : List Call) → Alike cs ds → runs rs cs ≡ runs rs ds
    same_rows [] cs ds h = runs_none cs ∙ sym (runs_none ds)
    same_rows (r ∷ rs) cs ds h =
        rw (split r rs cs, split r rs ds, mine-alike r cs ds h, same_rows rs (rest r cs) (rest r ds) (rest-alike r cs ds h))

    -- ONE SUBJECT: its replies and its record

    answer_by : Call → Record → Reply
    answer_by c absent = lost c
    answer_by c (bytes r) = says c r

    acted : Call → Record → Record
    acted c absent = absent
    acted c (bytes r) = bytes (act c r)

    ans-by : (c : Call) (rs : List (List ℕ)) → ans rs c ≡ answer_by c (record_in (subject fm c) rs)
    unfolding ans record_in answer_by pick
    ans-by c [] = refl
    ans-by c (r ∷ rs) = by-test (finds (subject fm c) r) (λ e. rw e) (λ e. rw e (ans-by c rs))

    record-own : (c : Call) (rs : List (List ℕ)) → record_in (subject fm c) (tab rs c) ≡ acted c (record_in (subject fm c) rs)
    unfolding record_in tab acted pick
    record-own c [] = refl
    record-own c (r ∷ rs) =
        by-test (finds (subject fm c) r)
        (λ e. rw e (rw (stable (subject fm c) c r, e)))
        (λ e. rw e (rw e (record-own c rs)))

    apart : (k : Subject) (c : Call) (r : List ℕ) → finds (subject fm c) r ≡ true → same_subject (subject fm c) k ≡ false → finds k r ≡ false
    apart k c r f e =
        by-test (finds k r)
        (λ g. let p : k ≡ subject fm c = finds-owner k r g ∙ sym (finds-owner (subject fm c) r f) in
        let z : same_subject (subject fm c) k ≡ true = rw p (subject-refl (subject fm c)) in
        cc)
        (λ g. g)

    record-other : (k : Subject) (c : Call) (rs : List (List ℕ)) → same_subject (subject fm c) k ≡ false → record_in k (tab rs c) ≡ record_in k rs
    unfolding record_in tab pick
    record-other k c [] h = refl
    record-other k c (r ∷ rs) h =
        by-test (finds (subject fm c) r)
        (λ e. rw e (rw (stable k c r, apart k c r e h)))
        (λ e. rw (e, record-other k c rs h))

    own : (k : Subject) (c : Call) (rs ss : List (List ℕ)) → subject fm c ≡ k → record_in k rs ≡ record_in k ss → record_in k (tab rs c) ≡ record_in k (tab ss c)
    own k c rs ss p =
        subst (λ (q : Subject). record_in q rs ≡ record_in q ss → record_in q (tab rs c) ≡ record_in q (tab ss c)) p
        (λ h. record-own c rs ∙ ap (acted c) h ∙ sym (record-own c ss))

    ans-own : (k : Subject) (c : Call) (rs ss : List (List ℕ)) → subject fm c ≡ k → record_in k rs ≡ record_in k ss → ans rs c ≡ ans ss c
    ans-own k c rs ss p =
        subst (λ (q : Subject). record_in q rs ≡ record_in q ss → ans rs c ≡ ans ss c) p
        (λ h. ans-by c rs ∙ ap (answer_by c) h ∙ sym (ans-by c ss))

    pub same-answers : (k : Subject) (cs : List Call) (rs ss : List (List ℕ)) → record_in k rs ≡ record_in k ss
        → replies_of fm k cs (outs rs cs) ≡ outs ss (calls_of fm k cs)
    unfolding replies_of outs calls_of keep is_of pick
    same-answers k [] rs ss h = refl
    same-answers k (c ∷ cs) rs ss h =
        by-test (same_subject (subject fm c) k)
        (λ e. let p : subject fm c ≡ k = subject-eq (subject fm c) k e in
        rw (e, ans-own k c rs ss p h, same-answers k cs (tab rs c) (tab ss c) (own k c rs ss p h)))
        (λ e. rw (e, same-answers k cs (tab rs c) ss (record-other k c rs e ∙ h)))

    pub same-record : (k : Subject) (cs : List Call) (rs ss : List (List ℕ)) → record_in k rs ≡ record_in k ss
        → record_in k (runs rs cs) ≡ record_in k (runs ss (calls_of fm k cs))
    unfolding runs calls_of keep is_of pick
    same-record k [] rs ss h = h
    same-record k (c ∷ cs) rs ss h =
        by-test (same_subject (subject fm c) k)
        (λ e. let p : subject fm c ≡ k = subject-eq (subject fm c) k e in
        rw (e, same-record k cs (tab rs c) (tab ss c) (own k c rs ss p h)))
        (λ e. rw (e, same-record k cs (tab rs c) ss (record-other k c rs e ∙ h)))

    -- with some of nobody's calls among them
    record-nobody : (rs : List (List ℕ)) → record_in nobody rs ≡ absent
    unfolding record_in finds pick
    record-nobody [] = refl
    record-nobody (r ∷ rs) = record-nobody rs

    ans-nobody : (c : Call) (rs ss : List (List ℕ)) → subject fm c ≡ nobody → ans rs c ≡ ans ss c
    ans-nobody c rs ss h =
        ans-by c rs
        ∙ ap (answer_by c) (ap (λ (k : Subject). record_in k rs) h ∙ record-nobody rs ∙ sym (record-nobody ss) ∙ ap (λ (k : Subject). record_in k ss) (sym h))
        ∙ sym (ans-by c ss)

    module _ (k : Subject) (owner : Call → Subject) (all : (c : Call) → is_by owner k c ≡ false → same_subject (subject fm c) k ≡ false)
        (others : (c : Call) → is_by owner k c ≡ true → same_subject (subject fm c) k ≡ false → subject fm c ≡ nobody) where
      pub same-answers-by : (cs : List Call) (rs ss : List (List ℕ)) → record_in k rs ≡ record_in k ss → replies_by owner k cs (outs rs cs) ≡ outs ss (calls_by owner k cs)
      unfolding replies_by outs calls_by keep pick
      same-answers-by [] rs ss h = refl
      same-answers-by (c ∷ cs) rs ss h =
          by-test (is_by owner k c)
          (λ f. by-test (same_subject (subject fm c) k)
          (λ e. let p : subject fm c ≡ k = subject-eq (subject fm c) k e in
          rw (f, ans-own k c rs ss p h, same-answers-by cs (tab rs c) (tab ss c) (own k c rs ss p h)))
          (λ e. rw (f, ans-nobody c rs ss (others c f e), same-answers-by cs (tab rs c) (tab ss c) (record-other k c rs e ∙ h ∙ sym (record-other k c ss e)))))
          (λ f. rw (f, same-answers-by cs (tab rs c) ss (record-other k c rs (all c f) ∙ h)))

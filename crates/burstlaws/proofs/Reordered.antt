-- A reordering that keeps each subscriber's order leaves each subscriber's messages as they are, and those before each of them too.
use mathlib.Core.Path.{◌≡◌, refl, sym, ap, ◌∙◌}
use mathlib.Core.Bool.{Bool, true, false}
use mathlib.Core.List.{List, [], ◌∷◌, ◌++◌, append-nil, map}
use Prim.Native.Nat.{ℕ, zero, suc, ◌+◌, ◌≤◌, ◌<◌}
use native.Mathlib.Omega.{arith}
use borrow.Author.Tests.{eqb-true, eqb-false, leb-true, leb-false}
use lib.Dec.{eqb, leb}
use lib.ListN.{length, take}
use lib.Seq.{drop-nil, take-length}
use Rattle.octets.specs.Choice.{pick}
use Rattle.octets.specs.Lists.{keep}
use Rattle.octets.proofs.Lists.{by-test, keep_snoc}
use Rattle.table.specs.TheTable.{Account, Table}
use Rattle.table.proofs.Tests.{clash}
use Rattle.rules.specs.Calls.{Call}
use Rattle.order.specs.Demand3.{Subject, subscriber, subject, is_of, calls_of as calls_by}
use Rattle.order.proofs.Finding.{subject-eq, subject-refl}
use Rattle.burst.specs.TheBurst.{Burst, Bursted, all_told, burst, burst_number, calls_of, refused_burst, whole_messages}
use Rattle.burst.proofs.Loop.{burst-refused}
use Rattle.burstlaws.specs.AnyOrder.{Goes, TakesAll, SameSent, SentBy, SameMessage, kth, told_in, tolds, Reordered, LentAlike}
use Rattle.burstlaws.specs.AnyOrder.{ToldWhenReordered, SameWhenReordered, RoomSuffices, InAnyOrder}
use Rattle.burstlaws.proofs.ToldEach.{enough, number_is}
use Rattle.burstlaws.proofs.AnyOrder.{At, at, count-is, few-taken, many-taken, message-in-any-order, table-in-any-order}

-- ONE MORE OF A LIST

module _ {A : Type 0} where
  take_more : (l : List A) (k : ℕ) (x : A) → kth l k ≡ x ∷ [] → take (suc k) l ≡ take k l ++ (x ∷ [])
  unfolding kth
  take_more [] k x h = let z : [] ≡ x ∷ [] = sym (ap (take 1) (drop-nil k)) ∙ h in absurd (omega (arith, ap length z))
  take_more (y ∷ l) zero x h = h
  take_more (y ∷ l) (suc k) x h = ap (λ (ys : List A). y ∷ ys) (take_more l k x h)

  module _ (p : A → Bool) where
    -- the k-th of a list passes a test
    abbrev Passes : List A → ℕ → Type 0
    Passes l k = map p (kth l k) ≡ true ∷ []

    passes-it : (l : List A) (k : ℕ) (x : A) → kth l k ≡ x ∷ [] → p x ≡ true → Passes l k
    passes-it l k x h e = ap (map p) h ∙ ap (λ (b : Bool). b ∷ []) e

    it-passes : (l : List A) (k : ℕ) (x : A) → kth l k ≡ x ∷ [] → Passes l k → p x ≡ true
    it-passes l k x h e = let z : p x ∷ [] ≡ true ∷ [] = sym (ap (map p) h) ∙ e in cc

    keep-more : (l : List A) (k : ℕ) (x : A) → kth l k ≡ x ∷ [] → p x ≡ true → keep p (take (suc k) l) ≡ keep p (take k l) ++ (x ∷ [])
    unfolding pick
    keep-more l k x h e = ap (keep p) (take_more l k x h) ∙ keep_snoc p (take k l) x ∙ rw e refl

    keep-less : (l : List A) (k : ℕ) (x : A) → kth l k ≡ x ∷ [] → p x ≡ false → keep p (take (suc k) l) ≡ keep p (take k l)
    unfolding pick
    keep-less l k x h e = ap (keep p) (take_more l k x h) ∙ keep_snoc p (take k l) x ∙ rw e (append-nil (keep p (take k l)))

-- THOSE THAT PASS, where their order is kept

module _ {A : Type 0} (p : A → Bool) (cs ds : List A) (to from : ℕ → ℕ) (back-and-there : (l : ℕ) → l < length ds → to (from l) ≡ l)
    (same : (k : ℕ) → k < length cs → kth cs k ≡ kth ds (to k))
    (in_order : (j k : ℕ) → j < k → k < length cs → Passes p cs j → Passes p cs k → to j < to k) where
  goes-too : (k : ℕ) → k < length cs → Passes p cs k → Passes p ds (to k)
  goes-too k h e = ap (map p) (sym (same k h)) ∙ e

  came-too : (l : ℕ) → l < length ds → from l < length cs → Passes p ds l → Passes p cs (from l)
  came-too l h g e = ap (map p) (same (from l) g ∙ ap (kth ds) (back-and-there l h)) ∙ e

  -- those that pass among the first k of the one stand among the first l of the other, and the other way round
  record Among (k l : ℕ) : Type 0 where
    pub k-within : k ≤ length cs
    pub l-within : l ≤ length ds
    pub go : (j : ℕ) → j < k → Passes p cs j → to j < l
    pub come : (i : ℕ) → i < l → Passes p ds i → from i < k

  -- the last of the first k does not pass
  skip-k : (k l : ℕ) (x : A) → kth cs k ≡ x ∷ [] → p x ≡ false → Among (suc k) l → Among k l
  skip-k k l x h e m =
      record {
        k-within = omega (arith, m.k-within);
        l-within = m.l-within;
        go = λ j lt t. m.go j (omega (arith, lt)) t;
        come = λ i lt t.
            by-test (eqb (from i) k)
            (λ q. let at-k : from i ≡ k = eqb-true (from i) k q in
            let y : Passes p cs (from i) = came-too i (omega (arith, lt, m.l-within)) (omega (arith, m.come i lt t, m.k-within)) t in
            let z : p x ≡ true = it-passes p cs (from i) x (ap (kth cs) at-k ∙ h) y in
            absurd (clash z e))
            (λ q. omega (arith, eqb-false (from i) k q, m.come i lt t));
      }

  -- the last of the first l does not pass
  skip-l : (k l : ℕ) (x : A) → kth ds l ≡ x ∷ [] → p x ≡ false → Among k (suc l) → Among k l
  skip-l k l x h e m =
      record {
        k-within = m.k-within;
        l-within = omega (arith, m.l-within);
        go = λ j lt t.
            by-test (eqb (to j) l)
            (λ q. let at-l : to j ≡ l = eqb-true (to j) l q in
            let z : p x ≡ true = it-passes p ds (to j) x (ap (kth ds) at-l ∙ h) (goes-too j (omega (arith, lt, m.k-within)) t) in
            absurd (clash z e))
            (λ q. omega (arith, eqb-false (to j) l q, m.go j lt t));
        come = λ i lt t. m.come i (omega (arith, lt)) t;
      }

  -- both last ones pass: the one goes to the other
  meet : (k l : ℕ) → Passes p cs k → Passes p ds l → Among (suc k) (suc l) → to k ≡ l
  meet k l pk pl m =
      let f : from l < suc k = m.come l (omega arith) pl in
      let there : to (from l) ≡ l = back-and-there l (omega (arith, m.l-within)) in
      by-test (eqb (from l) k)
      (λ q. ap to (sym (eqb-true (from l) k q)) ∙ there)
      (λ q. let before : from l < k = omega (arith, eqb-false (from l) k q, f) in
      let y : Passes p cs (from l) = came-too l (omega (arith, m.l-within)) (omega (arith, f, m.k-within)) pl in
      absurd (omega (arith, there, in_order (from l) k before (omega (arith, m.k-within)) y pk, m.go k (omega arith) pk)))

  both-less : (k l : ℕ) → to k ≡ l → Passes p cs k → Among (suc k) (suc l) → Among k l
  both-less k l e pk m =
      record {
        k-within = omega (arith, m.k-within);
        l-within = omega (arith, m.l-within);
        go = λ j lt t. omega (arith, e, in_order j k lt (omega (arith, m.k-within)) t pk);
        come = λ i lt t.
            by-test (eqb (from i) k)
            (λ q. absurd (omega (arith, lt, e, back-and-there i (omega (arith, lt, m.l-within)), ap to (eqb-true (from i) k q))))
            (λ q. omega (arith, eqb-false (from i) k q, m.come i (omega (arith, lt)) t));
      }

  -- so they are the same, in the same order; counted down by both
  kept_same : (n k l : ℕ) → k + l ≤ n → Among k l → keep p (take k cs) ≡ keep p (take l ds)
  kept_same n zero zero h m = refl
  kept_same zero zero (suc l) h m = absurd (omega (arith, h))
  kept_same zero (suc k) l h m = absurd (omega (arith, h))
  kept_same (suc n) zero (suc l) h m =
      let x : At ds l = at ds l (omega (arith, m.l-within)) in
      by-test (p x.it)
      (λ e. absurd (omega (arith, m.come l (omega arith) (passes-it p ds l x.it x.is e))))
      (λ e. kept_same n zero l (omega (arith, h)) (skip-l zero l x.it x.is e m) ∙ sym (keep-less p ds l x.it x.is e))
  kept_same (suc n) (suc k) zero h m =
      let x : At cs k = at cs k (omega (arith, m.k-within)) in
      by-test (p x.it)
      (λ e. absurd (omega (arith, m.go k (omega arith) (passes-it p cs k x.it x.is e))))
      (λ e. keep-less p cs k x.it x.is e ∙ kept_same n k zero (omega (arith, h)) (skip-k k zero x.it x.is e m))
  kept_same (suc n) (suc k) (suc l) h m =
      let x : At cs k = at cs k (omega (arith, m.k-within)) in
      let y : At ds l = at ds l (omega (arith, m.l-within)) in
      by-test (p x.it)
      (λ e. by-test (p y.it)
      (λ d. let pk : Passes p cs k = passes-it p cs k x.it x.is e in
      let to_is : to k ≡ l = meet k l pk (passes-it p ds l y.it y.is d) m in
      let one : x.it ∷ [] ≡ y.it ∷ [] = sym x.is ∙ same k (omega (arith, m.k-within)) ∙ ap (kth ds) to_is ∙ y.is in
      keep-more p cs k x.it x.is e
      ∙ ap (λ (xs : List A). xs ++ (x.it ∷ [])) (kept_same n k l (omega (arith, h)) (both-less k l to_is pk m))
      ∙ ap (λ (xs : List A). keep p (take l ds) ++ xs) one
      ∙ sym (keep-more p ds l y.it y.is d))
      (λ d. kept_same n (suc k) l (omega (arith, h)) (skip-l (suc k) l y.it y.is d m) ∙ sym (keep-less p ds l y.it y.is d)))
      (λ e. keep-less p cs k x.it x.is e ∙ kept_same n k (suc l) (omega (arith, h)) (skip-k k (suc l) x.it x.is e m))

-- TWO BURSTS, one of which is the other in another order

module _ (f : ℕ) (b d : Burst) (r : Reordered f b d) (a : Account) where
  abbrev cs : List Call
  cs = calls_of f b

  abbrev ds : List Call
  ds = calls_of f d

  abbrev mine : Call → Bool
  mine = is_of f (subscriber a)

  -- the k-th is the subscriber's
  passes-sent : (k : ℕ) → k < length cs → Passes mine cs k → SentBy f a b k
  unfolding is_of
  passes-sent k h e =
      let x : At cs k = at cs k h in
      let s : subject f x.it ≡ subscriber a = subject-eq (subject f x.it) (subscriber a) (it-passes mine cs k x.it x.is e) in
      ap (map (subject f)) x.is ∙ ap (λ (who : Subject). who ∷ []) s

  sent-passes : (k : ℕ) → k < length cs → SentBy f a b k → Passes mine cs k
  unfolding is_of
  sent-passes k h e =
      let x : At cs k = at cs k h in
      let one : subject f x.it ∷ [] ≡ subscriber a ∷ [] = sym (ap (map (subject f)) x.is) ∙ e in
      let s : subject f x.it ≡ subscriber a = cc in
      passes-it mine cs k x.it x.is (rw s (subject-refl (subscriber a)))

  kept-order : (j k : ℕ) → j < k → k < length cs → Passes mine cs j → Passes mine cs k → r.to j < r.to k
  kept-order j k lt h pj pk = r.in_order a j k lt h (passes-sent j (omega (arith, lt, h)) pj) (passes-sent k h pk)

  abbrev InBoth : ℕ → ℕ → Type 0
  InBoth = Among mine cs ds r.to r.from r.back-and-there r.same-message kept-order

  in_both : (k l : ℕ) → InBoth k l → calls_by f (subscriber a) (take k cs) ≡ calls_by f (subscriber a) (take l ds)
  unfolding calls_by
  in_both k l m = kept_same mine cs ds r.to r.from r.back-and-there r.same-message kept-order (k + l) k l (omega arith) m

  -- all of the subscriber's messages
  pub same_sent : SameSent f (subscriber a) b d
  same_sent =
      let m : InBoth (length cs) (length ds) =
      record { k-within = omega arith; l-within = omega arith; go = λ j lt t. r.to-within j lt; come = λ i lt t. r.from-within i lt } in
      ap (calls_by f (subscriber a)) (sym (take-length cs)) ∙ in_both (length cs) (length ds) m ∙ ap (calls_by f (subscriber a)) (take-length ds)

  -- those before one of them
  module _ (k : ℕ) (h : k < length cs) (own : Passes mine cs k) where
    came-before : (i : ℕ) → i < r.to k → Passes mine ds i → r.from i < k
    came-before i lt t =
        let i-within : i < length ds = omega (arith, lt, r.to-within k h) in
        let there : r.to (r.from i) ≡ i = r.back-and-there i i-within in
        let y : Passes mine cs (r.from i) = came-too mine cs ds r.to r.from r.back-and-there r.same-message kept-order i i-within (r.from-within i i-within) t in
        by-test (eqb (r.from i) k)
        (λ q. absurd (omega (arith, lt, there, ap r.to (eqb-true (r.from i) k q))))
        (λ q. by-test (leb (r.from i) k)
        (λ o. omega (arith, leb-true (r.from i) k o, eqb-false (r.from i) k q))
        (λ o. absurd (omega (arith, lt, there, kept-order k (r.from i) (leb-false (r.from i) k o) (r.from-within i i-within) own y))))

    same-before : calls_by f (subscriber a) (take k cs) ≡ calls_by f (subscriber a) (take (r.to k) ds)
    same-before =
        in_both k (r.to k)
        (record {
          k-within = omega (arith, h);
          l-within = omega (arith, r.to-within k h);
          go = λ j lt t. kept-order j k lt h t own;
          come = came-before;
        })

same-one : (f : ℕ) (b d : Burst) (r : Reordered f b d) (k : ℕ) → k < length (calls_of f b) → SameMessage f b d k (r.to k)
same-one f b d r k h =
    record { message = r.same-message k h; before = λ a s. same-before f b d r a k h (sent-passes f b d r a k h s) }

pub told-when-reordered : ToldWhenReordered
told-when-reordered t b d r k g h kb kd =
    message-in-any-order t b d k (r.to k) g h kb kd (same-one t.form b d r k (omega (arith, kb, few-taken t b g)))

pub same-when-reordered : SameWhenReordered
same-when-reordered t b d r v w =
    record {
      table = table-in-any-order t b d v w (λ a. same_sent t.form b d r a);
      told = λ k h. told-when-reordered t b d r k v.goes w.goes
          (omega (arith, h, v.all, count-is t b v.goes))
          (omega (arith, r.to-within k h, w.all, count-is t d w.goes));
    }

-- ROOM FOR ALL

pub room-suffices : RoomSuffices
unfolding all_told
room-suffices t b g r =
    let cs : List Call = calls_of t.form b in
    let c : length cs ≡ length (whole_messages b.messages) = count-is t b g in
    let all : (burst t b).taken.messages ≡ length cs =
    many-taken t b g ∙ enough t cs (length b.answers) (length b.notices) (rw c r.answers) (rw c r.notices) in
    record { goes = g; all = all ∙ c }

numbers-same : (t : Table) (b d : Burst) → LentAlike b d → burst_number t b ≡ burst_number t d
unfolding burst_number
numbers-same t b d a = rw (a.operator, a.host, a.realm, a.whole, a.words, a.places)

-- a burst that is refused
module _ (t : Table) (b : Burst) (n : ℕ) (e : n ≡ burst_number t b) (some : n ≡ 0 → ⊥) where
  refused-is : burst t b ≡ refused_burst t b n
  refused-is = sym (burst-refused t b n e some)

  refused-table : (burst t b).table ≡ t
  unfolding refused_burst
  refused-table = ap (λ (x : Bursted). x.table) refused-is

  refused-messages : (burst t b).taken.messages ≡ 0
  unfolding refused_burst
  refused-messages = ap (λ (x : Bursted). x.taken.messages) refused-is

  refused-told : (f k : ℕ) → kth (tolds f (burst t b)) k ≡ []
  unfolding refused_burst tolds told_in kth
  refused-told f k = ap (λ (x : Bursted). kth (tolds f x) k) refused-is ∙ ap (take 1) (drop-nil k)

pub in-any-order : InAnyOrder
in-any-order t b d r a v w =
    let n : ℕ = burst_number t b in
    let same : n ≡ burst_number t d = numbers-same t b d a in
    let numbers : (burst t b).taken.number ≡ (burst t d).taken.number = number_is t b ∙ same ∙ sym (number_is t d) in
    by-test (eqb n 0)
    (λ e. let gb : Goes t b = number_is t b ∙ eqb-true n 0 e in
    let tb : TakesAll t b = room-suffices t b gb v in
    let td : TakesAll t d = room-suffices t d (sym numbers ∙ gb) w in
    record { number = numbers; messages = tb.all ∙ a.whole ∙ sym td.all; same = same-when-reordered t b d r tb td })
    (λ e. let some : n ≡ 0 → ⊥ = eqb-false n 0 e in
    record {
      number = numbers;
      messages = refused-messages t b n refl some ∙ sym (refused-messages t d n same some);
      same = record {
        table = refused-table t b n refl some ∙ sym (refused-table t d n same some);
        told = λ k h. refused-told t b n refl some t.form k ∙ sym (refused-told t d n same some t.form (r.to k));
      };
    })

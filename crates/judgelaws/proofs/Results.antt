-- One result: ours tells one alone, with M; what tells a result with M in an answer that is accepted is met by it.
use mathlib.Core.Path.{◌≡◌, refl, sym, ap, ◌∙◌}
use mathlib.Core.Bool.{Bool, true, false, ◌&&◌, ◌||◌, not}
use mathlib.Core.List.{List, [], ◌∷◌, ◌++◌, map}
use Prim.Native.Nat.{ℕ, zero, suc, ◌/◌, ◌%◌}
use native.Mathlib.Omega.{arith}
use borrow.Author.Tests.{eqb-true, eqb-false, eq-eqb, not-true}
use lib.Dec.{eqb}
use lib.ListN.{length, get_or, take, drop, length-map}
use Rattle.octets.specs.Choice.{pick}
use Rattle.octets.specs.Lists.{every, keep}
use Rattle.octets.specs.Numbers.{up4}
use Rattle.octets.specs.Texts.{same}
use Rattle.octets.proofs.Lists.{by-test, both, and_left, and_right, same-eq, every_append, every-imp, every-keep, every_one, keep_all, kept, no_length}
use Rattle.message.specs.ReadingAMessage.{Name, same_name, Avp, avp_length, avp_code, avp_of, behind, walk_one, walk_up_to, walk_by, having, present}
use Rattle.message.proofs.Gathering.{same-name-refl, same-name-eq}
use Rattle.rules.specs.Calls.{handle}
use Rattle.order.specs.Demand3.{Told, told, brought}
use Rattle.order.proofs.Rooms.{brought-decides}
use Rattle.likeness.specs.TheSameAnswer.{failed_avp, fault, header_due, flag_byte, same_avp, starts_like, avps_of}
use Rattle.likeness.proofs.Places.{flags-are}
use Rattle.likeness.proofs.Fitting.{mandatory-is}
use Rattle.judge.specs.TheJudge.{Case, case_number, expected, due, judged}
use Rattle.judgelaws.specs.TheJudgesRules.{one_by_one, may_stand, by_names, answer_by_names, is_result, tells_result, results, Compared, compared_of, ResultDue, OneResult, SameResult}
use Rattle.likeness.proofs.Itself.{having-append, having-own}
use Rattle.judgelaws.proofs.Names.{by_name, there-some, same-answer-by-names}
use Rattle.judgelaws.proofs.Parts.{no_failed, other, Tells, tells-answer}
use Rattle.judgelaws.proofs.Handled.{handled-by}
use Rattle.judgelaws.proofs.Accepted.{same-due}
use Rattle.judgelaws.proofs.DueByNames.{none_named, ours-has-no-failed-avp, due-by-names}

-- M IN THE FLAGS

marked : Avp → Bool
marked a = not (eqb (flag_byte a / 64 % 2) 1) || a.mandatory

or-not : (b : Bool) → not b || b ≡ true
or-not true = refl
or-not false = refl

flags-mark : (s : List ℕ) → avp_code s ≡ 0 → marked (avp_of s) ≡ true
unfolding marked
flags-mark s k =
    let e : flag_byte (avp_of s) ≡ get_or s 4 0 = flags-are s 0 k in
    let m : (avp_of s).mandatory ≡ eqb (get_or s 4 0 / 64 % 2) 1 = mandatory-is s 0 in
    rw (e, m) (or-not (eqb (get_or s 4 0 / 64 % 2) 1))

walk-marked : (k : ℕ) (s : List ℕ) → every marked (walk_up_to avp_code k s).avps ≡ true
unfolding walk_up_to walk_one pick every behind
walk-marked zero s = refl
walk-marked (suc k) s =
    by-test (eqb (length s) 0)
    (λ z. rw z)
    (λ z. by-test (eqb (avp_code s) 0)
    (λ t. rw (z, t) (both (flags-mark s (eqb-true (avp_code s) 0 t)) (walk-marked k (drop (up4 (avp_length s)) s))))
    (λ t. rw (z, t)))

answer-marked : (answer : List ℕ) → every marked (avps_of answer) ≡ true
unfolding avps_of walk_by
answer-marked answer = walk-marked (suc (length (drop 20 answer))) (drop 20 answer)

its-mark : (a : Avp) → flag_byte a ≡ 64 → marked a ≡ true → a.mandatory ≡ true
unfolding marked
its-mark a f h = rw f at h

compared_same : (a b : Avp) → a.name ≡ b.name → flag_byte a ≡ flag_byte b → a.value ≡ b.value → compared_of a ≡ compared_of b
unfolding compared_of
compared_same a b n f v = λ i. record { name = n i; flags = f i; value = v i }

-- NAMES

apart : (n k : Name) → is_result n ≡ true → other k ≡ true → not (same_name n k) ≡ true
unfolding other
apart n k e o =
    by-test (same_name n k)
    (λ s.
    let q : is_result k ≡ true = ap is_result (sym (same-name-eq n k s)) ∙ e in
    let r : is_result k ≡ false = not-true (is_result k) (and_right (no_failed k) (not (is_result k)) o) in
    let z : true ≡ false = sym q ∙ r in
    let y : ◌≡◌ {A = ℕ} 0 1 = cc in
    absurd (omega arith))
    (λ s. rw s)

failed-tells-none : is_result failed_avp ≡ false
unfolding is_result same_name
failed-tells-none = refl

no_result : (own result mandatory : Bool) → (own || not result) || not mandatory ≡ true → own ≡ false → mandatory && result ≡ false
no_result true result mandatory e f = absurd (let y : ◌≡◌ {A = ℕ} 0 1 = cc in omega arith)
no_result false true true e f = sym e
no_result false true false e f = refl
no_result false false true e f = refl
no_result false false false e f = refl

-- OURS TELLS ONE

module _ (ours : List Avp) (t : Tells ours) where
  abbrev n : Name
  n = t.result.name

  own-having : having n ours ≡ t.result ∷ []
  own-having =
      let none : (xs : List Avp) → every (λ (a : Avp). other a.name) xs ≡ true → having n xs ≡ [] =
      λ xs o. none_named n xs (every-imp (λ (a : Avp). other a.name) (λ (a : Avp). not (same_name n a.name)) (λ a h. apart n a.name t.its-name h) xs o) in
      ap (having n) t.are
      ∙ having-append n t.before (t.result ∷ t.after)
      ∙ ap (λ (l : List Avp). l ++ having n (t.result ∷ t.after)) (none t.before t.others-before)
      ∙ having-own t.result t.after
      ∙ ap (λ (l : List Avp). t.result ∷ l) (none t.after t.others-after)

  -- its name, or none of a result
  free : Name → Bool
  free k = same_name n k || not (is_result k)

  free_other : (k : Name) → is_result k ≡ false → free k ≡ true
  unfolding free
  free_other k e = by-test (same_name n k) (λ s. rw s) (λ s. rw (s, e))

  free_own : free n ≡ true
  unfolding free
  free_own = rw (same-name-refl n)

  own-free : every (λ (a : Avp). free a.name) ours ≡ true
  unfolding every
  own-free =
      let f : (xs : List Avp) → every (λ (a : Avp). other a.name) xs ≡ true → every (λ (a : Avp). free a.name) xs ≡ true =
      λ xs o.
      every-imp (λ (a : Avp). other a.name) (λ (a : Avp). free a.name)
      (λ a h. free_other a.name (not-true (is_result a.name) (and_right (no_failed a.name) (not (is_result a.name)) (unfold other in h)))) xs o in
      ap (every (λ (a : Avp). free a.name)) t.are
      ∙ every_append (λ (a : Avp). free a.name) t.before (t.result ∷ t.after) (f t.before t.others-before) (both free_own (f t.after t.others-after))

  may_free : (a : Avp) → may_stand ours a ≡ true → free a.name || not a.mandatory ≡ true
  unfolding may_stand
  may_free a e =
      by-test (same_name failed_avp a.name)
      (λ f. let g : free a.name ≡ true = free_other a.name (ap is_result (sym (same-name-eq failed_avp a.name f)) ∙ failed-tells-none) in rw g)
      (λ f. by-test (present a.name ours)
      (λ p. let g : free a.name ≡ true = by_name free a.name ours own-free (there-some a.name ours p) in rw g)
      (λ p. let m : not a.mandatory ≡ true = rw (f, p) at e in by-test (free a.name) (λ g. rw g) (λ g. rw (g, m))))

  -- of another name none tells a result; those of its name do where they have M
  tells_none : (a : Avp) → free a.name || not a.mandatory ≡ true → same_name n a.name ≡ false → tells_result a ≡ false
  unfolding free tells_result
  tells_none a e s = no_result (same_name n a.name) (is_result a.name) a.mandatory e s

  tells-own : (a : Avp) → same_name n a.name ≡ true → tells_result a ≡ a.mandatory
  unfolding tells_result
  tells-own a s =
      let q : is_result a.name ≡ true = ap is_result (sym (same-name-eq n a.name s)) ∙ t.its-name in
      by-test a.mandatory (λ m. rw (m, q)) (λ m. rw m)

  results-are : (xs : List Avp) → every (λ (a : Avp). free a.name || not a.mandatory) xs ≡ true → results xs ≡ keep (λ (a : Avp). a.mandatory) (having n xs)
  unfolding results having keep pick every
  results-are [] e = refl
  results-are (a ∷ xs) e =
      let r : results xs ≡ keep (λ (b : Avp). b.mandatory) (having n xs) = results-are xs (and_right (free a.name || not a.mandatory) _ e) in
      let h : free a.name || not a.mandatory ≡ true = and_left (free a.name || not a.mandatory) _ e in
      by-test (same_name n a.name)
      (λ s. by-test a.mandatory (λ m. rw (s, tells-own a s, m, r)) (λ m. rw (s, tells-own a s, m, r)))
      (λ s. rw (s, tells_none a h s, r))

  one-met : (l : List Avp) → one_by_one (t.result ∷ []) l ≡ true → every marked l ≡ true → every (λ (a : Avp). same_name n a.name) l ≡ true
      → map compared_of (keep (λ (a : Avp). a.mandatory) l) ≡ compared_of t.result ∷ []
  unfolding one_by_one every same_avp
  one-met [] e h k = let y : ◌≡◌ {A = ℕ} 0 1 = cc in absurd (omega arith)
  one-met (b ∷ []) e h k =
      let s : same_avp t.result b ≡ true = and_left (same_avp t.result b) true e in
      let f : flag_byte t.result ≡ flag_byte b = eqb-true (flag_byte t.result) (flag_byte b) (and_left _ (same t.result.value b.value) s) in
      let v : t.result.value ≡ b.value = same-eq t.result.value b.value (and_right (eqb (flag_byte t.result) (flag_byte b)) _ s) in
      let q : n ≡ b.name = same-name-eq n b.name (and_left (same_name n b.name) true k) in
      let m : b.mandatory ≡ true = its-mark b (sym f ∙ t.its-flags) (and_left (marked b) true h) in
      ap (map compared_of) (keep_all (λ (a : Avp). a.mandatory) (b ∷ []) (every_one (λ (a : Avp). a.mandatory) b m))
      ∙ ap (λ (x : Compared). x ∷ []) (sym (compared_same t.result b q f v))
  one-met (b ∷ c ∷ l) e h k = let z : false ≡ true = and_right (same_avp t.result b) false e in let y : ◌≡◌ {A = ℕ} 0 1 = cc in absurd (omega arith)

  result-met : (theirs : List Avp) → by_names ours theirs ≡ true → every marked theirs ≡ true → map compared_of (results theirs) ≡ compared_of t.result ∷ []
  unfolding by_names having
  result-met theirs e h =
      let o : every (λ (a : Avp). one_by_one (having a.name ours) (having a.name theirs)) ours ≡ true = and_left _ (every (may_stand ours) theirs) e in
      let s : every (may_stand ours) theirs ≡ true = and_right (every (λ (a : Avp). one_by_one (having a.name ours) (having a.name theirs)) ours) _ e in
      let m : one_by_one (t.result ∷ []) (having n theirs) ≡ true =
      ap (λ (l : List Avp). one_by_one l (having n theirs)) (sym own-having)
      ∙ by_name (λ (k : Name). one_by_one (having k ours) (having k theirs)) n ours o (λ z. omega (arith, ap length own-having, z)) in
      ap (map compared_of) (results-are theirs (every-imp (may_stand ours) (λ (a : Avp). free a.name || not a.mandatory) may_free theirs s))
      ∙ one-met (having n theirs) m (every-keep marked (λ (a : Avp). same_name n a.name) theirs h) (kept (λ (a : Avp). same_name n a.name) theirs)

-- A CASE

tells-due : (j : Case) → (length (due j).answer ≡ 0 → ⊥) → Tells (avps_of (due j).answer)
unfolding due expected told
tells-due j =
    handled-by (λ l. (length l ≡ 0 → ⊥) → Tells (avps_of l)) (λ h. absurd (h refl)) (λ m host realm room code r k h. tells-answer m host realm room code r k)
    (record { form = j.form; bytes = j.before }) j.call

module _ (ours theirs : List ℕ) (e : answer_by_names ours theirs ≡ true) where
  header_is : same (take 20 theirs) (header_due ours (length theirs)) ≡ true
  unfolding answer_by_names
  header_is = and_left (same (take 20 theirs) (header_due ours (length theirs))) _ e

  names-are : by_names (avps_of ours) (avps_of theirs) ≡ true
  unfolding answer_by_names
  names-are =
      and_right (starts_like (avps_of ours) (avps_of theirs)) _
      (and_right (eqb (fault theirs).number 0) _ (and_right (same (take 20 theirs) (header_due ours (length theirs))) _ e))

  result-is : (t : Tells (avps_of ours)) → map compared_of (results (avps_of theirs)) ≡ compared_of t.result ∷ []
  result-is t = result-met (avps_of ours) t (avps_of theirs) names-are (answer-marked theirs)

module _ (j : Case) where
  accepted-names : (judged j).number ≡ 0 → answer_by_names (due j).answer j.answer ≡ true
  accepted-names e =
      and_left (answer_by_names (due j).answer j.answer) _
      (and_right (eqb (case_number j) 0) _ (sym (due-by-names j) ∙ eq-eqb (judged j).number 0 e))

  own-names : answer_by_names (due j).answer (due j).answer ≡ true
  own-names = sym (same-answer-by-names (due j).answer (due j).answer (ours-has-no-failed-avp j)) ∙ same-due j

none-due : (theirs : List ℕ) → same (take 20 theirs) (header_due [] (length theirs)) ≡ true → theirs ≡ []
unfolding header_due same pick
none-due [] e = refl
none-due (x ∷ l) e = let y : ◌≡◌ {A = ℕ} 0 1 = cc in absurd (omega arith)

pub result-due : ResultDue
result-due j e =
    let ours : List ℕ = (due j).answer in
    by-test (eqb (length ours) 0)
    (λ z.
    let d : ours ≡ [] = no_length ours (eqb-true (length ours) 0 z) in
    let h : same (take 20 j.answer) (header_due [] (length j.answer)) ≡ true =
    ap (λ (l : List ℕ). same (take 20 j.answer) (header_due l (length j.answer))) (sym d) ∙ header_is ours j.answer (accepted-names j e) in
    ap (λ (l : List ℕ). map compared_of (results (avps_of l))) (none-due j.answer h ∙ sym d))
    (λ z.
    let t : Tells (avps_of ours) = tells-due j (eqb-false (length ours) 0 z) in
    result-is ours j.answer (accepted-names j e) t ∙ sym (result-is ours ours (own-names j) t))

pub one-result : OneResult
one-result j e h =
    sym (length-map (results (avps_of j.answer)) compared_of)
    ∙ ap length (result-is (due j).answer j.answer (accepted-names j e) (tells-due j h))

-- what is due depends on the form, the row before and what the call brings
one-due : (j k : Case) → j.form ≡ k.form → j.before ≡ k.before → brought j.form j.call ≡ brought k.form k.call → due j ≡ due k
unfolding due expected
one-due j k f b c =
    let e : brought k.form j.call ≡ brought k.form k.call = ap (λ (x : ℕ). brought x j.call) (sym f) ∙ c in
    ap (λ (x : ℕ). told x (handle (record { form = x; bytes = j.before }) j.call).reply) f
    ∙ ap (λ (x : List ℕ). told k.form (handle (record { form = k.form; bytes = x }) j.call).reply) b
    ∙ (brought-decides (record { form = k.form; bytes = k.before }) j.call k.call e).reply

pub same-result : SameResult
same-result j k f b c e g =
    result-due j e ∙ ap (λ (d : Told). map compared_of (results (avps_of d.answer))) (one-due j k f b c) ∙ sym (result-due k g)

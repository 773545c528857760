-- A burst that takes fewer messages than are whole has too little room left for one more.
use mathlib.Core.Path.{◌≡◌, refl, sym, ap, ap₂, ◌∙◌, subst}
use mathlib.Core.Bool.{Bool, false, ◌&&◌}
use mathlib.Core.List.{List, [], ◌∷◌, ◌++◌, map}
use Prim.Native.Nat.{ℕ, zero, suc, ◌+◌, ◌-◌, ◌*◌, ◌<◌}
use native.Mathlib.Nat.{sub-zero}
use native.Mathlib.Omega.{arith}
use lib.Dec.{leb}
use lib.ListN.{length, take, length-append, length-map}
use Rattle.octets.proofs.Choice.{by-pick}
use Rattle.message.specs.TheRooms.{answer_least, notice_length}
use Rattle.table.specs.TheTable.{Table}
use Rattle.rules.specs.Calls.{Call, Reply, handle, ran_first, run}
use Rattle.order.specs.Demand3.{Told, told}
use Rattle.burst.specs.TheBurst.{Burst, Bursted, all_told, burst_number, bursted, calls_of, how_many, joined, whole_messages}
use Rattle.burst.proofs.Loop.{burst-goes}
use Rattle.burst.proofs.Steps.{go_on}
use Rattle.burstlaws.specs.BurstsRules.{WhyItStopped, room_for_one}
use Rattle.burstlaws.proofs.TakenAreFirst.{all-messages}
use Rattle.burstlaws.proofs.Written.{all_told_lem, count, map-take, not-refused, notices-length, tolds, tolds-whole}

abbrev pub answers_of : List Told → List ℕ
answers_of xs = joined (map (λ (x : Told). x.answer) xs)

abbrev pub notices_of : List Told → List ℕ
notices_of xs = joined (map (λ (x : Told). x.notice) xs)

-- what is left of both rooms once the first k are told
abbrev left_for : (form : ℕ) → List Told → (answers notices k : ℕ) → Bool
left_for f xs a n k = room_for_one f (a - length (answers_of (take k xs))) (n - length (notices_of (take k xs)))

less_both : (a k j : ℕ) → a - k - j ≡ a - (k + j)
less_both a k j = omega arith

many-stop : (f : ℕ) (xs : List Told) (a n : ℕ) → how_many f xs a n < length xs → left_for f xs a n (how_many f xs a n) ≡ false
unfolding how_many joined room_for_one
many-stop f [] a n = λ h. absurd (omega (arith, h))
many-stop f (x ∷ xs) a n =
    by-pick (λ (k : ℕ). k < length (x ∷ xs) → left_for f (x ∷ xs) a n k ≡ false) (leb answer_least a && leb (notice_length f) n)
    (λ e h.
    let k : ℕ = how_many f xs (a - length x.answer) (n - length x.notice) in
    let rest : left_for f xs (a - length x.answer) (n - length x.notice) k ≡ false = many-stop f xs (a - length x.answer) (n - length x.notice) (omega (arith, h)) in
    let answers : a - length (x.answer ++ answers_of (take k xs)) ≡ a - length x.answer - length (answers_of (take k xs)) =
    ap (λ (j : ℕ). a - j) (length-append x.answer (answers_of (take k xs))) ∙ sym (less_both a (length x.answer) _) in
    let notices : n - length (x.notice ++ notices_of (take k xs)) ≡ n - length x.notice - length (notices_of (take k xs)) =
    ap (λ (j : ℕ). n - j) (length-append x.notice (notices_of (take k xs))) ∙ sym (less_both n (length x.notice) _) in
    ap₂ (λ (i j : ℕ). leb answer_least i && leb (notice_length f) j) answers notices ∙ rest)
    (λ e h. ap₂ (λ (i j : ℕ). leb answer_least i && leb (notice_length f) j) (sub-zero a) (sub-zero n) ∙ e)

-- the first k calls have the first k replies
replies-take : (t : Table) (k : ℕ) (cs : List Call) → (run t (take k cs)).replies ≡ take k (run t cs).replies
unfolding run ran_first
replies-take t zero cs = refl
replies-take t (suc k) [] = refl
replies-take t (suc k) (c ∷ cs) = ap (λ (l : List Reply). (handle t c).reply ∷ l) (replies-take (handle t c).table k cs)

module _ (t : Table) (b : Burst) (z : burst_number t b ≡ 0) where
  pub tolds-are : take (count t b) (all_told t b) ≡ tolds t b
  unfolding all_told
  tolds-are =
      sym (map-take (told t.form) (count t b) (run t (calls_of t.form b)).replies)
      ∙ ap (map (told t.form)) (sym (replies-take t (count t b) (calls_of t.form b)))

  pub all_whole : length (all_told t b) ≡ length (whole_messages b.messages)
  all_whole = all_told_lem t b ∙ sym (length-map (calls_of t.form b) (λ (c : Call). c.message)) ∙ ap length (all-messages t b z)

  abbrev Stopped : Bursted → Type 0
  Stopped x =
      x.taken.messages < length (whole_messages b.messages)
      → room_for_one t.form (length b.answers - x.taken.answers) (length b.notices - x.taken.notices * notice_length t.form) ≡ false

  goes-stopped : Stopped (go_on t b)
  unfolding go_on bursted
  goes-stopped h =
      let few : count t b < length (all_told t b) = omega (arith, h, all_whole) in
      let stop : left_for t.form (all_told t b) (length b.answers) (length b.notices) (count t b) ≡ false =
      many-stop t.form (all_told t b) (length b.answers) (length b.notices) few in
      let same : left_for t.form (all_told t b) (length b.answers) (length b.notices) (count t b)
      ≡ room_for_one t.form (length b.answers - length (answers_of (tolds t b))) (length b.notices - length (notices_of (tolds t b))) =
      ap (λ (xs : List Told). room_for_one t.form (length b.answers - length (answers_of xs)) (length b.notices - length (notices_of xs))) tolds-are in
      ap (λ (k : ℕ). room_for_one t.form (length b.answers - length (answers_of (tolds t b))) (length b.notices - k)) (sym (notices-length t.form (tolds t b) (tolds-whole t b)))
      ∙ sym same
      ∙ stop

pub why-it-stopped : WhyItStopped
why-it-stopped t b z =
    let goes : burst_number t b ≡ 0 = not-refused t b z in
    subst (Stopped t b goes) (sym (burst-goes t b goes)) (goes-stopped t b goes)

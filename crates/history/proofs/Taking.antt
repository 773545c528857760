-- A tunnel that is taken away from a line in which no Session-Id stands twice: how many are left on a name.
use mathlib.Core.Path.{◌≡◌, refl, sym, ap, ◌∙◌}
use mathlib.Core.Bool.{Bool, true, false, not}
use mathlib.Core.List.{List, [], ◌∷◌, ◌++◌, map, map-append}
use Prim.Native.Nat.{ℕ, ◌+◌}
use native.Mathlib.Omega.{arith}
use lib.ListN.{length, take, length-append}
use Rattle.octets.specs.Choice.{pick}
use Rattle.octets.specs.Lists.{distinct, every, keep}
use Rattle.octets.specs.Texts.{same}
use Rattle.octets.proofs.Lists.{and_left, and_right, by-test, every-imp, every_map, keep_all, keep_snoc, same_refl, same-comm}
use Rattle.order.specs.OpenedFirst.{Tunnel, without}
use Rattle.order.proofs.Cuts.{keep-no, keep-yes}
use Rattle.order.proofs.Taken.{no-first, same_first}
use Rattle.history.specs.OrderOfOpening.{compared, on_name}

-- ONE OF A LIST

module _ {A : Type 0} where
  pub data Among (y : A) (xs : List A) : Type 0 where
    amid : (before after : List A) → xs ≡ before ++ (y ∷ after) → Among y xs

  further : (x y : A) (xs : List A) → Among y xs → Among y (x ∷ xs)
  further x y xs (amid b a e) = amid (x ∷ b) a (ap (λ (l : List A). x ∷ l) e)

  pub kept-among : (f : A → Bool) (xs : List A) (y : A) (others : List A) → keep f xs ≡ y ∷ others → Among y xs
  kept-among f [] y others e = absurd (no-first f y others e)
  kept-among f (x ∷ xs) y others e =
      by-test (f x)
      (λ t. amid [] xs (ap (λ (z : A). z ∷ xs) (same_first x y _ _ (sym (keep-yes f x xs t) ∙ e))))
      (λ t. further x y xs (kept-among f xs y others (sym (keep-no f x xs t) ∙ e)))

pub map-among : {A B : Type 0} (g : A → B) (y : A) (xs : List A) → Among y xs → Among (g y) (map g xs)
map-among g y xs (amid b a e) = amid (map g b) (map g a) (ap (map g) e ∙ map-append g b (y ∷ a))

pub data Leads {A : Type 0} (y : A) (xs : List A) : Type 0 where
  leads : (others : List A) → xs ≡ y ∷ others → Leads y xs

-- the first, if it is there
pub first-leads : {A : Type 0} (y : A) (xs : List A) → take 1 xs ≡ y ∷ [] → Leads y xs
first-leads y [] e = let z : ◌≡◌ {A = ℕ} 0 1 = cc in absurd (omega arith)
first-leads y (x ∷ xs) e = leads xs (ap (λ z. z ∷ xs) (same_first x y [] [] e))

-- HOW MANY ON A NAME

abbrev pub is_named : (label : List ℕ) → Tunnel → Bool
is_named l x = same x.label (compared l)

abbrev pub many : (label : List ℕ) → List Tunnel → ℕ
many l line = length (on_name l line)

pub one_more : (l : List ℕ) (x : Tunnel) (line : List Tunnel) → many l (x ∷ line) ≡ pick (is_named l x) 1 0 + many l line
unfolding on_name keep pick
one_more l x line = by-test (is_named l x) (λ e. rw e (omega arith)) (λ e. rw e (omega arith))

length-one : (b : Bool) (y : Tunnel) → length (pick b (y ∷ []) []) ≡ pick b 1 0
unfolding pick
length-one true y = refl
length-one false y = refl

pub last_more : (l : List ℕ) (line : List Tunnel) (y : Tunnel) → many l (line ++ (y ∷ [])) ≡ many l line + pick (is_named l y) 1 0
unfolding on_name
last_more l line y =
    ap length (keep_snoc (is_named l) line y)
    ∙ length-append (keep (is_named l) line) _
    ∙ ap (λ (n : ℕ). length (keep (is_named l) line) + n) (length-one (is_named l y) y)

-- ONE IS TAKEN AWAY

abbrev pub sids : List Tunnel → List (List ℕ)
sids line = map (λ (x : Tunnel). x.session) line

pub every-amid : (f : List ℕ → Bool) (before after : List Tunnel) (y : Tunnel) → every f (sids (before ++ (y ∷ after))) ≡ true → f y.session ≡ true
unfolding every
every-amid f [] after y h = and_left (f y.session) _ h
every-amid f (x ∷ before) after y h = every-amid f before after y (and_right (f x.session) _ h)

module _ (l : List ℕ) (y : Tunnel) (after : List Tunnel) where
  own-goes : every (λ z. not (same y.session z)) (sids after) ≡ true → without y.session (y ∷ after) ≡ after
  unfolding without
  own-goes apart =
      keep-no _ y after (ap not (same_refl y.session))
      ∙ keep_all _ after (every-imp _ _ (λ (x : Tunnel) e. ap not (same-comm x.session y.session) ∙ e) after (rw every_map at apart))

  other-stays : (x : Tunnel) (line : List Tunnel) → not (same x.session y.session) ≡ true → without y.session (x ∷ line) ≡ x ∷ without y.session line
  unfolding without
  other-stays x line h = keep-yes _ x line h

  gone : (before : List Tunnel) → distinct same (sids (before ++ (y ∷ after))) ≡ true
      → many l (without y.session (before ++ (y ∷ after))) + pick (is_named l y) 1 0 ≡ many l (before ++ (y ∷ after))
  unfolding distinct
  gone [] d =
      rw (own-goes (and_left (every (λ z. not (same y.session z)) (sids after)) _ d), one_more l y after) (omega arith)
  gone (x ∷ before) d =
      let rest : List Tunnel = before ++ (y ∷ after) in
      let apart : every (λ z. not (same x.session z)) (sids rest) ≡ true = and_left (every (λ z. not (same x.session z)) (sids rest)) _ d in
      let other : not (same x.session y.session) ≡ true = every-amid _ before after y apart in
      let stays : without y.session (x ∷ rest) ≡ x ∷ without y.session rest = other-stays x rest other in
      rw (stays, one_more l x (without y.session rest), one_more l x rest)
      (omega (arith, gone before (and_right (every (λ z. not (same x.session z)) (sids rest)) _ d)))

pub taken-one : (l : List ℕ) (y : Tunnel) (line : List Tunnel) → Among y line → distinct same (sids line) ≡ true
    → many l (without y.session line) + pick (is_named l y) 1 0 ≡ many l line
taken-one l y line (amid before after e) d = rw e (gone l y after before (rw e at d))

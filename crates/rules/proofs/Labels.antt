-- A request answers the same whatever case its label is typed in: the entry that it names is the same, and nothing else looks at the label.
use mathlib.Core.Path.{◌≡◌, refl, ap, ◌∙◌}
use mathlib.Core.Bool.{Bool, true}
use mathlib.Core.List.{List, [], ◌∷◌}
use Prim.Native.Nat.{ℕ, suc}
use Rattle.octets.specs.Choice.{pick}
use Rattle.table.specs.Soundness.{same_label}
use Rattle.table.specs.TheTable.{Entry, Subscriber}
use Rattle.table.proofs.Labels.{label-alike}
use Rattle.changes.specs.Changes.{Opening}
use Rattle.rules.specs.Deciding.{entry_from, entry_named, terminate, type0}

same-entry-from : (a b : List ℕ) → same_label a b ≡ true → (n : ℕ) (es : List Entry) → entry_from n a es ≡ entry_from n b es
unfolding entry_from
same-entry-from a b h n [] = refl
same-entry-from a b h n (e ∷ es) =
    ap (λ (same-one : Bool). pick same-one n (entry_from (suc n) a es)) (label-alike a b e.label h)
    ∙ ap (λ (rest : ℕ). pick (same_label b e.label) n rest) (same-entry-from a b h (suc n) es)

module _ (a b : List ℕ) (h : same_label a b ≡ true) (s : Subscriber) where
  pub same-entry : entry_named a s ≡ entry_named b s
  unfolding entry_named
  same-entry = same-entry-from a b h 1 s.entries

  pub same-opening : (o : Opening) (visited : Bool) → type0 o a visited s ≡ type0 o b visited s
  unfolding type0
  same-opening o visited = rw same-entry

  pub same-ending : (session : List ℕ) → terminate session a s ≡ terminate session b s
  unfolding terminate
  same-ending session = rw same-entry

-- What each way out of an operation leaves.
use mathlib.Core.Path.{◌≡◌, refl, sym, ap, ◌∙◌}
use mathlib.Core.Bool.{true, false}
use mathlib.Core.List.{List}
use Prim.Native.Nat.{ℕ}
use Rattle.octets.specs.Choice.{pick, require, first_of}
use Rattle.std.specs.Prelude.{Option, Some, None}
use Rattle.std.specs.Option.{unwrap_or}
use Rattle.octets.specs.Lists.{every}
use Rattle.octets.proofs.Lists.{by-test}
use Rattle.report.specs.TheReport.{Told, held, with, hour_right, leaving, count, plus, add, year}
use Rattle.report.specs.Rates.{lowest, rate}
use Rattle.report.specs.Code.{leaves, totals}

module _ (r : List ℕ) (l : List Told) where
  pub wrong-hour : every hour_right l ≡ false → leaves 29 r ≡ count r l
  unfolding leaves count leaving pick require first_of
  wrong-hour e = rw e

  pub passed-bits : every hour_right l ≡ true → held (with r l) ≡ false → leaves 30 r ≡ count r l
  unfolding leaves count leaving pick require first_of
  passed-bits e h = rw (e, h)

  pub counted-all : every hour_right l ≡ true → held (with r l) ≡ true → leaves 0 (with r l) ≡ count r l
  unfolding leaves count leaving pick require first_of
  counted-all e h = rw (e, h)

module _ (r s : List ℕ) where
  pub sum-passed : held (plus r s) ≡ false → leaves 30 r ≡ add r s
  unfolding leaves add leaving pick require
  sum-passed h = rw h

  pub added-all : held (plus r s) ≡ true → leaves 0 (plus r s) ≡ add r s
  unfolding leaves add leaving pick require
  added-all h = rw h

module _ (r : List ℕ) where
  pub rate-refused : held r ≡ false → record { number = 30; cuts = 0; opened = 1 } ≡ rate r
  unfolding rate pick
  rate-refused h = rw h

  pub rate-told : held r ≡ true → lowest (year r 1) (year r 0) ≡ rate r
  unfolding rate pick
  rate-told h = rw h

  pub not_held : held r ≡ false → ◌≡◌ {A = Option (ℕ × ℕ)} None (totals r)
  unfolding totals pick
  not_held h = rw h

  pub is_held : (cuts opened : ℕ) → held r ≡ true → cuts ≡ year r 1 → opened ≡ year r 0 → ◌≡◌ {A = Option (ℕ × ℕ)} (Some (cuts, opened)) (totals r)
  unfolding totals pick
  is_held cuts opened h a b = rw (h, a, b)

  pub rate-some : (cuts opened : ℕ) → ◌≡◌ {A = Option (ℕ × ℕ)} (Some (cuts, opened)) (totals r) → lowest cuts opened ≡ rate r
  unfolding totals pick
  rate-some cuts opened e = by-test (held r)
      (λ h.
      let s : ◌≡◌ {A = Option (ℕ × ℕ)} (Some (cuts, opened)) (Some (year r 1, year r 0)) = e ∙ sym (is_held (year r 1) (year r 0) h refl refl) in
      let a : cuts ≡ year r 1 = ap (λ (o : Option (ℕ × ℕ)). (unwrap_or o (0, 0)).0) s in
      let b : opened ≡ year r 0 = ap (λ (o : Option (ℕ × ℕ)). (unwrap_or o (0, 0)).1) s in
      rw (a, b) (rate-told h))
      (λ h. let s : ◌≡◌ {A = Option (ℕ × ℕ)} (Some (cuts, opened)) None = e ∙ sym (not_held h) in absurd cc)

  pub rate-none : ◌≡◌ {A = Option (ℕ × ℕ)} None (totals r) → record { number = 30; cuts = 0; opened = 1 } ≡ rate r
  rate-none e = by-test (held r)
      (λ h. let s : ◌≡◌ {A = Option (ℕ × ℕ)} None (Some (year r 1, year r 0)) = e ∙ sym (is_held (year r 1) (year r 0) h refl refl) in absurd cc)
      (λ h. rate-refused h)

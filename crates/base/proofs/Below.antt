-- A claim that can be decided holds at every number below a bound, or there is a lowest where it fails: induction on the bound. Assumes nothing.
use mathlib.Core.Path.{subst, sym}
use mathlib.Core.Logic.{◌⊎◌, inl, inr, ⊎_elim}
use Prim.Native.Nat.{ℕ, zero, suc, ◌<◌}
use native.Mathlib.Nat.{not-suc-le-zero}
use native.Mathlib.Omega.{arith}
use Rattle.base.proofs.Cases.{eq-or}

pub all-below : (P : ℕ → Type 0) → ((i : ℕ) → Dec (P i)) → (n : ℕ)
    → ((i : ℕ) → i < n → P i) ⊎ ((j : ℕ) × (j < n) × (P j → ⊥) × ((i : ℕ) → i < j → P i))
all-below P dec zero = inl (λ i h. absurd (not-suc-le-zero h))
all-below P dec (suc n) = go (all-below P dec n) (dec n)
  where
    go : ((i : ℕ) → i < n → P i) ⊎ ((j : ℕ) × (j < n) × (P j → ⊥) × ((i : ℕ) → i < j → P i)) → Dec (P n)
        → ((i : ℕ) → i < suc n → P i) ⊎ ((j : ℕ) × (j < suc n) × (P j → ⊥) × ((i : ℕ) → i < j → P i))
    go (inl all) (yes h) = inl (λ i hi. ⊎_elim (λ e. subst P (sym e) h) (λ ne. all i (omega arith)) (eq-or i n))
    go (inl all) (no h) = inr (n, omega arith, h, all)
    go (inr f) d = inr (f.0, omega (arith, f.1), f.2, f.3)

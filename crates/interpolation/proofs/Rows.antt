-- Two rows of coefficients in one: x 0 .. x (e - 1), then v 0, v 1, .. Induction on e. Assumes nothing.
use mathlib.Core.Path.{◌≡◌, refl, ap, ◌∙◌}
use Prim.Native.Nat.{ℕ, zero, suc, ◌+◌, ◌<◌}
use native.Mathlib.Nat.{not-suc-le-zero, le_of_suc-le-suc, zero-add, suc-add}
use Rattle.field.specs.Field.{IsByte}

pub join : ℕ → (ℕ → ℕ) → (ℕ → ℕ) → ℕ → ℕ
join zero x v j = v j
join (suc e) x v zero = x 0
join (suc e) x v (suc j) = join e (λ i. x (suc i)) v j

pub join-left : (e : ℕ) (x v : ℕ → ℕ) (j : ℕ) → j < e → join e x v j ≡ x j
unfolding join
join-left zero x v j h = absurd (not-suc-le-zero h)
join-left (suc e) x v zero h = refl
join-left (suc e) x v (suc j) h = join-left e (λ i. x (suc i)) v j (le_of_suc-le-suc h)

pub join-right : (e : ℕ) (x v : ℕ → ℕ) (j : ℕ) → join e x v (e + j) ≡ v j
unfolding join
join-right zero x v j = ap v (zero-add j)
join-right (suc e) x v j = ap (join (suc e) x v) (suc-add e j) ∙ join-right e (λ i. x (suc i)) v j

pub join-byte : (e : ℕ) (x v : ℕ → ℕ) → ((j : ℕ) → IsByte (x j)) → ((j : ℕ) → IsByte (v j)) → (j : ℕ) → IsByte (join e x v j)
unfolding join
join-byte zero x v hx hv j = hv j
join-byte (suc e) x v hx hv zero = hx 0
join-byte (suc e) x v hx hv (suc j) = join-byte e (λ i. x (suc i)) v (λ i. hx (suc i)) hv j

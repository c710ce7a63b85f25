-- Where of each node one of two claims holds, some set of nodes of 1..n has the first at its nodes and the second at all others: node 1's bit, and above it the bits
-- of the others' set. Assumes nothing.
use mathlib.Core.Path.{◌≡◌, refl, sym, ap, ◌∙◌}
use mathlib.Core.Logic.{◌⊎◌, inl, inr}
use mathlib.Core.Bool.{Bool, true, false, true≢false}
use Prim.Native.Nat.{ℕ, zero, suc, ◌+◌, ◌*◌, ◌/◌, ◌%◌, ◌^◌, ◌<◌}
use native.Mathlib.Nat.{not-suc-le-zero, div-one, pow-suc}
use native.Mathlib.Numerals.{one-add}
use native.Mathlib.Omega.{arith}
use borrow.Author.Tests.{lt-ltb, ltb-true}
use lib.Dec.{eqb}
use lib.Pow.{shr-shr}
use Rattle.base.specs.Seq.{one}
use Rattle.params.specs.Nodes.{has, within}

-- ---- a bit below a set's bits

has_first : (b : Bool) (t : ℕ) → has (one b + t * 2) 1 ≡ b
unfolding has
has_first b t = ap (λ (x : ℕ). eqb (x % 2) 1) (div-one (one b + t * 2)) ∙ ap (λ (x : ℕ). eqb x 1) (low b) ∙ bit b
  where
    low : (b : Bool) → (one b + t * 2) % 2 ≡ one b
    low true = omega arith
    low false = omega arith

    bit : (b : Bool) → eqb (one b) 1 ≡ b
    bit true = refl
    bit false = refl

has-later : (b : Bool) (t j : ℕ) → has (one b + t * 2) (suc (suc j)) ≡ has t (suc j)
unfolding has
has-later b t j =
    ap (λ (x : ℕ). eqb (x % 2) 1)
    (ap (λ (e : ℕ). (one b + t * 2) / 2 ^ e) (sym (one-add j)) ∙ sym (shr-shr (one b + t * 2) 1 j) ∙ ap (λ (x : ℕ). x / 2 ^ j) (half b))
  where
    half : (b : Bool) → (one b + t * 2) / 2 ≡ t
    half true = omega arith
    half false = omega arith

within_more : (b : Bool) (n t : ℕ) → within n t ≡ true → within (suc n) (one b + t * 2) ≡ true
unfolding within
within_more b n t w = lt-ltb (one b + t * 2) (2 ^ suc n) (less b)
  where
    less : (b : Bool) → one b + t * 2 < 2 ^ suc n
    less true = omega (arith, ltb-true t (2 ^ n) w, pow-suc 2 n)
    less false = omega (arith, ltb-true t (2 ^ n) w, pow-suc 2 n)

-- ---- the set of those nodes

-- Of each node suc j of 1..n: P j holds if the set has it, and Q j if it has not.
abbrev pub Divides : (P Q : ℕ → Type 0) → ℕ → ℕ → Type 0
Divides P Q n s = (j : ℕ) → j < n → (has s (suc j) ≡ true → P j) × (has s (suc j) ≡ false → Q j)

pub set-of : (P Q : ℕ → Type 0) → ((j : ℕ) → P j ⊎ Q j) → (n : ℕ) → (s : ℕ) × (within n s ≡ true) × Divides P Q n s
unfolding within
set-of P Q told zero = (0, refl, λ j hj. absurd (not-suc-le-zero hj))
set-of P Q told (suc n) = go (told 0) (set-of (λ j. P (suc j)) (λ j. Q (suc j)) (λ j. told (suc j)) n)
  where
    further : (b : Bool) (t : ℕ) → ((b ≡ true → P 0) × (b ≡ false → Q 0)) → Divides (λ j. P (suc j)) (λ j. Q (suc j)) n t → Divides P Q (suc n) (one b + t * 2)
    further b t first rest zero hj = (λ e. first.0 (sym (has_first b t) ∙ e), λ e. first.1 (sym (has_first b t) ∙ e))
    further b t first rest (suc j) hj =
        let r = rest j (omega arith) in (λ e. r.0 (sym (has-later b t j) ∙ e), λ e. r.1 (sym (has-later b t j) ∙ e))

    go : P 0 ⊎ Q 0 → (t : ℕ) × (within n t ≡ true) × Divides (λ j. P (suc j)) (λ j. Q (suc j)) n t → (s : ℕ) × (within (suc n) s ≡ true) × Divides P Q (suc n) s
    go (inl p) r = (1 + r.0 * 2, within_more true n r.0 r.1, further true r.0 (λ e. p, λ e. absurd (true≢false e)) r.2)
    go (inr q) r = (0 + r.0 * 2, within_more false n r.0 r.1, further false r.0 (λ e. absurd (true≢false (sym e)), λ e. q) r.2)

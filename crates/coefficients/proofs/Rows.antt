-- Rows of powers as the code writes them, one after the other. Assumes nothing.
use mathlib.Core.Path.{◌≡◌, sym, ap, ap₂, ◌∙◌}
use mathlib.Core.List.{List}
use Prim.Native.Nat.{ℕ, zero, suc, ◌*◌, ◌≤◌, ◌<◌}
use native.Mathlib.Nat.{zero-lt-suc}
use native.Mathlib.Omega.{arith}
use lib.ListN.{length, get_or, replicate}
use lib.Seq.{ext_get_or}
use Rattle.base.specs.Seq.{tabulate, blocks}
use Rattle.base.proofs.Seq.{length-tabulate, get_d_tabulate, tabulate-ext, tabulate-zeros, length-blocks}
use Rattle.base.specs.Parts.{Blocked}
use Rattle.base.proofs.Parts.{blocked-all}
use Rattle.field.specs.Field.{mul, pow}
use Rattle.field.proofs.Multiplication.{mul_comm, mul-zero-left}
use Rattle.field.proofs.Exponents.{pow-suc}
use Rattle.coefficients.specs.Working.{powers_of}

-- a list that was told by its entries
pub tabulated : (n : ℕ) (f : ℕ → ℕ) (l : List ℕ) → l ≡ tabulate n f → (length l ≡ n) × ((j : ℕ) → j < n → get_or l j 0 ≡ f j)
tabulated n f l h = (
  ap length h ∙ length-tabulate n f,
  λ j hj. ap (λ (k : List ℕ). get_or k j 0) h ∙ get_d_tabulate n f j hj,
)

pub row-powers : (c m : ℕ) (lent new : List ℕ) → length lent ≡ m → new ≡ powers_of c (length lent)
    → (length new ≡ m) × ((j : ℕ) → j < m → get_or new j 0 ≡ pow c (suc j))
unfolding powers_of
row-powers c m lent new h q =
    let w = tabulated (length lent) _ new q in (
      w.0 ∙ h,
      λ j hj. w.1 j (omega arith),
    )

-- ---- powers by exponents

-- one more power of c, which is 02^l
pub step-on : (c x l next j : ℕ) → pow 2 l ≡ c → pow 2 x ≡ pow c j → pow 2 next ≡ mul (pow 2 x) (pow 2 l) → pow 2 next ≡ pow c (suc j)
step-on c x l next j e h g = g ∙ ap₂ mul h e ∙ mul_comm _ c ∙ sym (pow-suc c j)

-- the powers of 00
pub zero-powers : (c : ℕ) (new lent : List ℕ) → c ≡ 0 → new ≡ replicate (length lent) 0 → new ≡ powers_of c (length lent)
unfolding powers_of
zero-powers c new lent z h =
    h ∙ sym (tabulate-zeros (length lent))
    ∙ tabulate-ext (length lent) _ _ (λ j hj. sym (ap (λ (x : ℕ). pow x (suc j)) z ∙ pow-suc 0 j ∙ mul-zero-left (pow 0 j)))

-- ---- rows

-- all rows are written; rows of no entry too
pub blocked-whole : (b n : ℕ) (f : ℕ → ℕ → ℕ) (t : ℕ) (old new : List ℕ) → length old ≡ n * b → n ≤ t → Blocked b n f t old new
    → new ≡ blocks b n f
blocked-whole zero n f t old new ho ht s =
    ext_get_or 0 new (blocks 0 n f) (s.same ∙ ho ∙ sym (length-blocks 0 n f)) (λ i hi. absurd (omega (arith, s.same)))
blocked-whole (suc b) n f t old new ho ht s = blocked-all (suc b) n f t old new (zero-lt-suc b) ho ht s

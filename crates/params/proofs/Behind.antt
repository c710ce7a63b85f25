-- The nodes q+1..n are those of 1..n outside 1..q, so just one set has them: all the ones of n bits less the ones of q. Assumes nothing.
use mathlib.Core.Path.{◌≡◌, sym, ap, ◌∙◌, subst}
use mathlib.Core.Logic.{⊎_elim}
use mathlib.Core.Bool.{Bool, true, not, ◌&&◌, and-true, and-false}
use Prim.Native.Nat.{ℕ, zero, suc, ◌-◌, ◌^◌, ◌≤◌, ◌<◌}
use native.Mathlib.Nat.{le_trans}
use native.Mathlib.Omega.{arith}
use borrow.Author.Tests.{lt-ltb, le-ltb, le-leb}
use lib.Dec.{leb, ltb}
use lib.Pow.{pow_pos, pow_mono}
use Rattle.base.proofs.Cases.{lt-or}
use Rattle.params.specs.Nodes.{has, size, within, count}
use Rattle.params.proofs.Sets.{range-yes, range-no, count-ext, count-not, count-range, within-size, has-none, same_nodes}
use Rattle.params.proofs.Words.{has-not, has-ones}
use Rattle.params.proofs.Outside.{Outside, outside-has}

-- the set's nodes are q+1..n
abbrev pub Behind : ℕ → ℕ → ℕ → Type 0
Behind q n s = (i : ℕ) → has s i ≡ (ltb q i && leb i n)

module _ (q n : ℕ) (low : q ≤ n) where
  behind : (i : ℕ) → ((leb 1 i && leb i n) && not (leb 1 i && leb i q)) ≡ (ltb q i && leb i n)
  behind zero = sym (ap (λ (b : Bool). b && leb 0 n) (le-ltb q 0 (omega arith)))
  behind (suc j) =
      ⊎_elim
      (λ (l : j < q).
      ap (λ (b : Bool). (leb 1 (suc j) && leb (suc j) n) && not b) (range-yes q j l) ∙ and-false (leb 1 (suc j) && leb (suc j) n)
      ∙ sym (ap (λ (b : Bool). b && leb (suc j) n) (le-ltb q (suc j) l)))
      (λ (g : q ≤ j).
      ap (λ (b : Bool). (leb 1 (suc j) && leb (suc j) n) && not b) (range-no q j g) ∙ and-true (leb 1 (suc j) && leb (suc j) n)
      ∙ ap (λ (b : Bool). b && leb (suc j) n) (le-leb 1 (suc j) (omega arith) ∙ sym (lt-ltb q (suc j) (omega arith))))
      (lt-or j q)

  pub behind-exists : (s : ℕ) × (within n s ≡ true) × Behind q n s
  unfolding within
  behind-exists = (
    (2 ^ n - 1) - (2 ^ q - 1),
    lt-ltb _ (2 ^ n) (omega (arith, pow_pos n)),
    λ i.
        has-not n (2 ^ q - 1) i (omega (arith, pow_pos q, pow_mono low)) ∙ ap (λ (b : Bool). (leb 1 i && leb i n) && not b) (has-ones q i)
        ∙ behind i,
  )

  pub behind-within : (s : ℕ) → Behind q n s → within n s ≡ true
  behind-within s h =
      let g = behind-exists in subst (λ (t : ℕ). within n t ≡ true) (same_nodes g.0 s (λ i. g.2 i ∙ sym (h i))) g.1

  pub behind-size : (s : ℕ) → Behind q n s → size s ≡ n - q
  behind-size s h =
      let same : count (has s) n ≡ count (λ i. not (leb 1 i && leb i q)) n =
      count-ext _ _ n (λ j hj. h (suc j) ∙ sym (behind (suc j)) ∙ ap (λ (b : Bool). b && not (leb 1 (suc j) && leb (suc j) q)) (range-yes n j hj)) in
      omega (arith, within-size n s (behind-within s h), same, count-not (λ i. leb 1 i && leb i q) n, count-range q n low)

-- as NodeSet::outside finds them: outside 1..q, up to n
pub behind-outside : (q n first s : ℕ) → q ≤ n → n ≤ 32 → Outside q 0 first → Outside n first s → Behind q n s
behind-outside q n first s low small told told' i =
    outside-has n first s small told' i
    ∙ ap (λ (b : Bool). (leb 1 i && leb i n) && not b)
    (outside-has q 0 first (le_trans low small) told i ∙ ap (λ (b : Bool). (leb 1 i && leb i q) && not b) (has-none i) ∙ and-true (leb 1 i && leb i q))
    ∙ behind q n low i

-- The nodes of 1..n outside a set, as NodeSet::outside finds them. Assumes nothing.
use mathlib.Core.Path.{◌≡◌, refl, sym, ap, ◌∙◌}
use mathlib.Core.Bool.{Bool, true, false, not, ◌&&◌, and-true}
use Prim.Native.Nat.{ℕ, suc, ◌-◌, ◌^◌, ◌≤◌, ◌<◌}
use native.Mathlib.Nat.{le_trans}
use borrow.Author.Tests.{leb-true, le-leb, not-true}
use lib.Dec.{leb}
use Rattle.base.proofs.Questions.{both-known, both-le}
use Rattle.params.specs.Nodes.{has, size, within, outside}
use Rattle.params.proofs.Sets.{count-ext, count-outside, within_has, within-size}

-- what NodeSet::outside answers
abbrev pub Outside : ℕ → ℕ → ℕ → Type 0
Outside n s rest = (i : ℕ) → has rest i ≡ (outside n s i && leb i 32)

module _ (n s rest : ℕ) (small : n ≤ 32) (told : Outside n s rest) where
  pub outside-has : (i : ℕ) → has rest i ≡ outside n s i
  outside-has i =
      told i ∙ narrow (leb 1 i) (leb i n) (not (has s i)) (leb i 32) (λ e. le-leb i 32 (le_trans (leb-true i n e) small))
    where
      narrow : (a b c d : Bool) → (b ≡ true → d ≡ true) → (((a && b) && c) && d) ≡ ((a && b) && c)
      narrow false b c d h = refl
      narrow true false c d h = refl
      narrow true true c d h = ap (λ (x : Bool). c && x) (h refl) ∙ and-true c

  -- such a set has nodes up to n only, ..
  pub outside-le : (i : ℕ) → has rest i ≡ true → i ≤ n
  outside-le i e = (both-le 1 i i n (both-known (leb 1 i && leb i n) (not (has s i)) (sym (outside-has i) ∙ e)).0).1

  -- .. they are not in the other, ..
  pub outside-node : (j : ℕ) → has rest (suc j) ≡ true → (j < n) × (has s (suc j) ≡ false)
  outside-node j e =
      let both = both-known (leb 1 (suc j) && leb (suc j) n) (not (has s (suc j))) (sym (outside-has (suc j)) ∙ e) in
      (outside-le (suc j) e, not-true (has s (suc j)) both.1)

  -- .. and it has all the nodes that the other has not
  pub outside-size : rest < 2 ^ 32 → within n s ≡ true → size rest ≡ n - size s
  outside-size word e =
      within-size n rest ((within_has n rest word).1 outside-le) ∙ count-ext (has rest) (outside n s) n (λ j hj. outside-has (suc j)) ∙ count-outside n s
      ∙ ap (λ (m : ℕ). n - m) (sym (within-size n s e))

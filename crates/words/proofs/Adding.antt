-- Blocks added part by part: a part may be a word, or the bytes that are left. Assumes nothing.
use mathlib.Core.Path.{◌≡◌, ap, ap₂, ◌∙◌}
use mathlib.Core.List.{List}
use Prim.Native.Nat.{ℕ, ◌+◌, ◌≤◌}
use native.Mathlib.Omega.{arith}
use borrow.Rule.Slice.PartMut.{put_mid}
use lib.ListN.{length, get_or, take, drop}
use Rattle.base.specs.Parts.{Filled}
use Rattle.base.proofs.Parts.{length-lent, lent_at, filled-part}
use Rattle.field.specs.Field.{add, plus}
use Rattle.blocks.proofs.Laws.{plus-length, plus-at}

pub added-part : (xs ys : List ℕ) (t k n : ℕ) (new part : List ℕ) → t + k ≡ n → n ≤ length xs → n ≤ length ys
    → part ≡ plus (take k (drop t new)) (take k (drop t ys)) → Filled (λ q. add (get_or xs q 0) (get_or ys q 0)) t xs new
    → Filled (λ q. add (get_or xs q 0) (get_or ys q 0)) n xs (put_mid t k new part)
added-part xs ys t k n new part e hx hy sum s =
    filled-part _ t k n xs new part e (omega (arith, s.same)) (ap length sum ∙ plus-length _ _ ∙ full)
    (λ q h.
    ap (λ (l : List ℕ). get_or l q 0) sum ∙ plus-at (take k (drop t new)) (take k (drop t ys)) q (omega (arith, full))
    ∙ ap₂ add (lent_at t k new q h ∙ s.rest (t + q) (omega arith)) (lent_at t k ys q h)) s
  where
    full : length (take k (drop t new)) ≡ k
    full = length-lent t k new (omega (arith, s.same))

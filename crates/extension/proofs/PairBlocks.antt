-- The blocks of a pair, from those of q nodes: at one byte place the pair is one list of coefficients, none of them leading, and these blocks are its values.
-- Assumes nothing.
use mathlib.Core.Path.{◌≡◌, refl, sym, ap, ap₂, ◌∙◌, subst⁻¹}
use mathlib.Core.List.{List}
use Prim.Native.Nat.{ℕ, suc, ◌+◌, ◌*◌, ◌^◌, ◌≤◌, ◌<◌}
use native.Mathlib.Nat.{zero-add}
use native.Mathlib.Omega.{arith}
use lib.ListN.{length, get_or, take, replicate}
use Rattle.base.specs.Seq.{cell}
use Rattle.base.proofs.Seq.{zeros-at}
use Rattle.field.specs.Field.{add}
use Rattle.field.proofs.Addition.{add-zero-left}
use Rattle.field.proofs.Bytes.{cell-byte}
use Rattle.interpolation.specs.Polynomial.{evaluate}
use Rattle.interpolation.proofs.Evaluate.{evaluate-join}
use Rattle.interpolation.proofs.Rows.{join, join-left, join-right, join-byte}
use Rattle.params.specs.Nodes.{has, size, count, listed, places_of, in_order}
use Rattle.params.specs.Params.{slack_parts, working}
use Rattle.params.specs.declared.Params.{Params}
use Rattle.params.proofs.Sets.{size-most}
use Rattle.params.proofs.Placing.{placed-length, placed-node}
use Rattle.code.specs.Code.{point, block}
use Rattle.products.proofs.Laws.{block_inside}
use Rattle.coefficients.proofs.Laws.{first-length, first-inside}
use Rattle.node_rows.proofs.Targets.{arriving-ordered}
use Rattle.extension.specs.Blocks.{Recomputable, RecomputePost}
use Rattle.extension.specs.Extending.{Extendable, Extended}

-- the pair's coefficients at byte place p, message before slack
coeff_at : Params → List ℕ → List ℕ → ℕ → ℕ → ℕ
coeff_at a x v p = join a.k (λ j. cell a.b x j p) (λ j. cell a.b v j p)

-- a block is the value of the polynomial with these coefficients (y stands for no coefficient)
block-value : (a : Params) (x v : List ℕ) (i p m : ℕ) (y : ℕ → ℕ) → m ≡ working a
    → evaluate 0 m y (coeff_at a x v p) (point i) ≡ block a x v i p
unfolding block working coeff_at
block-value a x v i p m y e =
    evaluate-join 0 m y _ (coeff_at a x v p) y (point i) (λ j hj. absurd (omega arith)) (λ j hj. ap (coeff_at a x v p) (zero-add j))
    ∙ ap (λ (k : ℕ). evaluate k 0 (coeff_at a x v p) y (point i)) (zero-add m ∙ e)
    ∙ sym (evaluate-join a.k (slack_parts a) _ _ (coeff_at a x v p) y (point i) (join-left a.k _ _) (λ j hj. join-right a.k _ _ j))

pub recompute-idle : (a : Params) (from targets : ℕ) (codeword l : List ℕ) → (Recomputable a from targets (length codeword) (length l) → ⊥)
    → RecomputePost a from targets codeword l l
recompute-idle a from targets codeword l none = record { same = refl; written = λ ok. absurd (none ok); kept = λ _. refl }

-- the blocks of from at the places that the code lends, and the targets' blocks one after the other
module _ (from targets q rows : ℕ) (places order : List ℕ) (word : from < 2 ^ 32) (word' : targets < 2 ^ 32) (hq : q ≡ size from) (hr : rows ≡ size targets)
    (told : places ≡ places_of from) (ordered : order ≡ in_order) where
  few : rows ≤ 32
  few = omega (arith, size-most targets word')

  module _ (a : Params) (codeword old : List ℕ) (ok : Recomputable a from targets (length codeword) (length old)) where
    -- what the extension asks
    pub recompute-asks : (fresh : ℕ) → fresh ≡ length old → Extendable a.b 0 from targets (take q places) (take rows order) 0 (length codeword) fresh
    recompute-asks fresh same =
        record {
          most = omega arith;
          parts = omega arith;
          count_is = placed-length from word places told q hq ∙ hq;
          block = λ o ho.
              let g = placed-node from word places told q hq o (omega arith) in
              subst⁻¹ (λ (j : ℕ). suc j * a.b ≤ length codeword) g.3
              (block_inside a.b a.n g.0 (length codeword) (ok.inside (suc g.0) g.1) (omega (arith, ok.codeword_length)));
          to_count = first-length order ordered rows few ∙ hr;
          target = first-inside order ordered rows few a.b (size targets) fresh (omega arith) (omega (arith, ok.room));
        }

    pub recomputed : (message zeros new : List ℕ) → zeros ≡ replicate (length old) 0 → length zeros ≡ length old
        → Extended a.b 0 from targets message codeword (take q places) (take rows order) zeros new → RecomputePost a from targets codeword old new
    unfolding coeff_at cell
    recomputed message zeros new cleared same c =
        record {
          same = c.same ∙ same;
          written = λ _ x v gives j p e hp.
              c.added p (coeff_at a x v p) hp
              (join-byte a.k _ _ (λ j. cell-byte a.b x j p gives.pair.message.bytes)
              (λ j. cell-byte a.b v j p gives.pair.slack.bytes))
              (λ o ho.
              let g = placed-node from word places told q hq o (omega arith) in
              block-value a x v (get_or (listed from) o 0) p (size from) _ ok.full
              ∙ ap (λ (i : ℕ). block a x v i p) g.2 ∙ gives.equal g.0 p (omega (arith, ok.inside (suc g.0) g.1)) g.1 hp
              ∙ ap (λ (i : ℕ). cell a.b codeword i p) (sym g.3))
              (count (has targets) j)
              ∙ ap₂ add
              (ap (λ (l : List ℕ). get_or l (count (has targets) j * a.b + p) 0) cleared ∙ zeros-at (length old) (count (has targets) j * a.b + p))
              (arriving-ordered targets word' rows hr (λ i. evaluate 0 (size from) (λ t. cell a.b message t p) (coeff_at a x v p) (point i)) j order ordered e)
              ∙ add-zero-left _
              ∙ block-value a x v (suc j) p (size from) _ ok.full;
          kept = λ none. absurd (none ok);
        }

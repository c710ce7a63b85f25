-- A completion's targets, each in its node's own block. Assumes nothing.
use mathlib.Core.Path.{◌≡◌, refl, sym, ap, ap₂, ◌∙◌, subst⁻¹}
use mathlib.Core.List.{List}
use Prim.Native.Nat.{ℕ, suc, ◌*◌, ◌^◌, ◌≤◌, ◌<◌}
use native.Mathlib.Nat.{suc-mul}
use native.Mathlib.Omega.{arith}
use lib.ListN.{length, take}
use Rattle.base.specs.Seq.{cell}
use Rattle.field.specs.Field.{add}
use Rattle.field.proofs.Addition.{add-zero-left}
use Rattle.interpolation.specs.Polynomial.{evaluate}
use Rattle.params.specs.Nodes.{has, size, in_order, places_of}
use Rattle.params.proofs.Sets.{size-most, size-count, entry}
use Rattle.params.proofs.Placing.{placed-length, placed-node, not-placed}
use Rattle.code.specs.Code.{point}
use Rattle.coefficients.proofs.Laws.{first-length, first-at, first-inside}
use Rattle.node_rows.proofs.Targets.{arriving-placed}
use Rattle.placing.specs.Placed.{ClearPost}
use Rattle.extension.specs.Blocks.{CompleteAsks, CompletePost}
use Rattle.extension.specs.Extending.{Extendable, Extended}

pub complete-idle : (b e at targets : ℕ) (message z l : List ℕ) → (CompleteAsks b e at targets (length message) (length z) (length l) → ⊥)
    → CompletePost b e at targets message z l l
complete-idle b e at targets message z l none =
    record { same = refl; written = λ ok. absurd (none ok); others = λ j p h hp. refl; kept = λ _. refl }

-- the blocks of z one after the other, and the targets' own blocks
module _ (b e at targets q rows : ℕ) (places order message z old : List ℕ) (word : at < 2 ^ 32) (word' : targets < 2 ^ 32) (hq : q ≡ size at)
    (hr : rows ≡ size targets) (told : places ≡ places_of targets) (ordered : order ≡ in_order)
    (ok : CompleteAsks b e at targets (length message) (length z) (length old)) where
  few : q ≤ 32
  few = omega (arith, size-most at word)

  pub complete-asks : (out : ℕ) → out ≡ length old → Extendable b e at targets (take q order) (take rows places) (length message) (length z) out
  complete-asks out same =
      record {
        most = ok.most;
        parts = omega (arith, ok.parts);
        count_is = first-length order ordered q few ∙ hq;
        block = λ o ho. first-inside order ordered q few b (size at) (length z) (omega arith) (omega (arith, ok.values)) o (omega (arith, first-length order ordered q few));
        to_count = placed-length targets word' places told rows hr ∙ hr;
        target = λ t ht.
            let g = placed-node targets word' places told rows hr t (omega (arith, placed-length targets word' places told rows hr)) in
            subst⁻¹ (λ (j : ℕ). suc j * b ≤ out) g.3 (omega (arith, ok.inside.1 g.0 g.1, suc-mul g.0 b));
      }

  pub completed : (mid new : List ℕ) → ClearPost b targets old mid → Extended b e at targets message z (take q order) (take rows places) mid new
      → CompletePost b e at targets message z old new
  completed mid new clear c =
      record {
        same = c.same ∙ clear.same;
        written = λ _ p v hp hv values j h.
            let value : ℕ → ℕ = λ i. evaluate e (size at) (λ j. cell b message j p) v (point i) in
            c.added p v hp hv
            (λ o ho.
            let g = entry (has at) 32 o (omega (arith, size-count 32 at word)) in
            ap value g.3 ∙ values g.0 g.2 ∙ ap (λ (i : ℕ). cell b z i p) (g.4 ∙ sym (first-at order ordered q few o (omega arith)))) j
            ∙ ap₂ add (clear.cleared ok.inside j p h hp) (arriving-placed targets word' rows hr value j places told h)
            ∙ add-zero-left _;
        others = λ j p h hp. c.others j p hp (not-placed targets word' places told rows hr j h) ∙ clear.others j p h hp;
        kept = λ none. absurd (none ok);
      }

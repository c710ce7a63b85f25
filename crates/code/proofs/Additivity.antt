-- A block respects sums, as the polynomial of each byte place does. Assumes nothing.
use mathlib.Core.Path.{◌≡◌, ◌∙◌}
use mathlib.Core.List.{List}
use Prim.Native.Nat.{ℕ, ◌*◌, ◌<◌}
use lib.ListN.{length}
use Rattle.base.specs.Seq.{cell}
use Rattle.base.proofs.Seq.{length-tabulate, get_d_tabulate, cell-lt}
use Rattle.field.specs.Field.{IsByte, add, plus}
use Rattle.field.proofs.Addition.{add-byte}
use Rattle.field.proofs.Bytes.{bytes-tabulate}
use Rattle.interpolation.proofs.Evaluate.{evaluate-byte, evaluate-ext, evaluate-add}
use Rattle.params.specs.Params.{slack_parts}
use Rattle.params.specs.declared.Params.{Params}
use Rattle.code.specs.Code.{point, Parts, block, Pair}

pub block-byte : (a : Params) (x v : List ℕ) (i p : ℕ) → IsByte (block a x v i p)
unfolding block
block-byte a x v i p = evaluate-byte a.k (slack_parts a) _ _ (point i)

-- ---- sums byte by byte

module _ (b count : ℕ) (x d : List ℕ) where
  pub plus-parts : Parts b count x → Parts b count d → Parts b count (plus x d)
  unfolding plus
  plus-parts h h' =
      record {
        length_is = length-tabulate (length x) _ ∙ h.length_is;
        bytes = bytes-tabulate (length x) _ (λ i hi. add-byte _ _ (h.bytes i) (h'.bytes i));
      }

  pub cell-plus : length x ≡ count * b → (j p : ℕ) → j < count → p < b → cell b (plus x d) j p ≡ add (cell b x j p) (cell b d j p)
  unfolding plus cell
  cell-plus e j p hj hp = get_d_tabulate (length x) _ _ (rw e (cell-lt b count j p hj hp))

-- The sum of two pairs is a pair, ..
pub pair-plus : (a : Params) (x x' v v' : List ℕ) → Pair a x v → Pair a x' v' → Pair a (plus x x') (plus v v')
pair-plus a x x' v v' h h' =
    record {
      message = plus-parts a.b a.k x x' h.message h'.message;
      slack = plus-parts a.b (slack_parts a) v v' h.slack h'.slack;
    }

-- .. and its blocks are the sums of theirs.
pub block-add : (a : Params) (x x' v v' : List ℕ) → Pair a x v → (i p : ℕ) → p < a.b
    → block a (plus x x') (plus v v') i p ≡ add (block a x v i p) (block a x' v' i p)
unfolding block
block-add a x x' v v' h i p hp =
    evaluate-ext a.k (slack_parts a) _ _ _ _ (point i) (λ j hj. cell-plus a.b a.k x x' h.message.length_is j p hj hp)
    (λ j hj. cell-plus a.b (slack_parts a) v v' h.slack.length_is j p hj hp)
    ∙ evaluate-add a.k (slack_parts a) _ _ _ _ (point i)

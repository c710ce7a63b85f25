-- Blocks compared one after the other with those at the places of a set's nodes. Assumes nothing.
use mathlib.Core.Path.{◌≡◌, sym, ap, ◌∙◌, subst⁻¹}
use mathlib.Core.Logic.{⊎_elim}
use mathlib.Core.Bool.{true}
use mathlib.Core.List.{List}
use Prim.Native.Nat.{ℕ, suc, ◌+◌, ◌≤◌, ◌<◌}
use native.Mathlib.Omega.{arith}
use lib.ListN.{length, get_or}
use lib.Seq.{ext_get_or}
use Rattle.base.specs.Seq.{cell}
use Rattle.base.proofs.Cases.{eq-or}
use Rattle.base.specs.Parts.{part_of}
use Rattle.base.proofs.Parts.{length-part_of, part_of-at}
use Rattle.params.specs.Nodes.{has, count}
use Rattle.params.proofs.Sets.{rank_lt, same_rank, rank-inside}
use Rattle.std.specs.Prelude.{Some, None}
use Rattle.params.specs.declared.Node.{Node}
use Rattle.placing.specs.Placed.{Alike, ComparePost}
use Rattle.placing.proofs.Turns.{Placeable, Turn, at, ends, long}

-- the first t nodes' blocks are fresh's
pub record Passed (b set : ℕ) (codeword fresh : List ℕ) (t : ℕ) : Type 0 where
  pub alike : (j : ℕ) → has set (suc j) ≡ true → count (has set) j < t → Alike b set codeword fresh j

pub passed_none : (b set : ℕ) (codeword fresh : List ℕ) → Passed b set codeword fresh 0
passed_none b set codeword fresh = record { alike = λ j e h. absurd (omega arith) }

pub passed-all : {b set t number : ℕ} {codeword fresh places : List ℕ} → Placeable b set number places (length codeword) (length fresh) → number ≤ t
    → Passed b set codeword fresh t → ComparePost b set codeword fresh None
passed-all {set = set} k h s ok j e = s.alike j e (omega (arith, rank-inside set j k.listed.word e, k.listed.count_is))

-- one comparison: block i of fresh with that of the node with place w
module _ {b set number i w : ℕ} {codeword fresh block : List ℕ} (t : Turn b set number (length codeword) fresh i w block) (s : Passed b set codeword fresh i) where
  block_at : (p : ℕ) → p < b → get_or block p 0 ≡ cell b fresh (count (has set) w) p
  block_at p hp =
      ap (λ (l : List ℕ). get_or l p 0) t.is ∙ part_of-at b i fresh p hp ∙ ap (λ (r : ℕ). cell b fresh r p) (sym (at t).1)

  -- equal blocks are passed ..
  pub passed-more : block ≡ part_of b w codeword → Passed b set codeword fresh (i + 1)
  passed-more e =
      record {
        alike = λ j ej hj.
            ⊎_elim
            (λ (q : j ≡ w).
            subst⁻¹ (Alike b set codeword fresh) q
            (λ p hp. sym (block_at p hp) ∙ ap (λ (l : List ℕ). get_or l p 0) e ∙ part_of-at b w codeword p hp))
            (λ (ne : j ≡ w → ⊥). s.alike j ej (below j hj (λ q. ne (same_rank (has set) j w ej (at t).0 (q ∙ sym (at t).1)))))
            (eq-or j w);
      }
    where
      below : (j : ℕ) → count (has set) j < i + 1 → (count (has set) j ≡ i → ⊥) → count (has set) j < i
      below j hj ne = omega (arith, ne)

  -- .. and other blocks are the answer
  pub found : (node : Node) → node.0 ≡ w + 1 → (block ≡ part_of b w codeword → ⊥) → ComparePost b set codeword fresh (Some node)
  found node is ne = (
    t.fit.fits,
    record {
      j = w;
      is = omega (arith, is);
      inside = (at t).0;
      unlike = unlike;
      lower = λ k ek lt. s.alike k ek (omega (arith, rank_lt (has set) w k lt ek, (at t).1));
    },
  )
    where
      unlike : Alike b set codeword fresh w → ⊥
      unlike like =
          let lc : length (part_of b w codeword) ≡ b = length-part_of b w codeword (ends t) in
          ne (ext_get_or 0 _ _ (long t ∙ sym lc)
          (λ p hp. let h : p < b = omega (arith, long t) in block_at p h ∙ like p h ∙ sym (part_of-at b w codeword p h)))

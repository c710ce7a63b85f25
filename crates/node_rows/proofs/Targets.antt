-- What a block gets of the rows of a set's nodes, where they go one after the other, or each to its node's own block. Assumes nothing.
use mathlib.Core.Path.{◌≡◌, sym, ap, ◌∙◌}
use mathlib.Core.Bool.{true, false}
use mathlib.Core.List.{List}
use Prim.Native.Nat.{ℕ, suc, ◌^◌, ◌≤◌, ◌<◌}
use native.Mathlib.Omega.{arith}
use lib.ListN.{length, get_or, take}
use Rattle.params.specs.Nodes.{has, size, count, listed, in_order, places_of}
use Rattle.params.proofs.Sets.{has-le, node-at-rank, rank-inside, same_rank, size-most}
use Rattle.params.proofs.Placing.{placed-length, placed-node, not-placed}
use Rattle.products.specs.Blocks.{arriving}
use Rattle.products.proofs.Arriving.{arriving-none, arriving-one}
use Rattle.coefficients.proofs.Laws.{first-length, first-at}

-- f says what the row of a node brings; rows is the number of the set's nodes, as the code counts it
module _ (s : ℕ) (word : s < 2 ^ 32) (rows : ℕ) (all : rows ≡ size s) (f : ℕ → ℕ) (j : ℕ) where
  of_node : has s (suc j) ≡ true → f (get_or (listed s) (count (has s) j) 0) ≡ f (suc j)
  of_node h = ap f (node-at-rank (has s) 32 j (has-le 32 s (suc j) word h) h)

  -- one after the other: that of node suc j goes to the block at its rank
  pub arriving-ordered : (order : List ℕ) → order ≡ in_order → has s (suc j) ≡ true
      → arriving (length (take rows order)) (take rows order) (λ t. f (get_or (listed s) t 0)) (count (has s) j) ≡ f (suc j)
  arriving-ordered order ordered h =
      let t = count (has s) j in
      let few : rows ≤ 32 = omega (arith, size-most s word) in
      let many = first-length order ordered rows few in
      let rank : t < rows = omega (arith, rank-inside s j word h) in
      arriving-one (take rows order) _ t (length (take rows order)) t (omega (arith, many)) (first-at order ordered rows few t rank)
      (λ i hi ne x. ne (sym (first-at order ordered rows few i (omega (arith, many))) ∙ x))
      ∙ of_node h

  -- to the nodes' own blocks: that of node suc j gets its row, ..
  pub arriving-placed : (places : List ℕ) → places ≡ places_of s → has s (suc j) ≡ true
      → arriving (length (take rows places)) (take rows places) (λ t. f (get_or (listed s) t 0)) j ≡ f (suc j)
  arriving-placed places told h =
      let many = placed-length s word places told rows all in
      let k = count (has s) j in
      let g = placed-node s word places told rows all k (omega (arith, rank-inside s j word h)) in
      arriving-one (take rows places) _ j (length (take rows places)) k (omega (arith, many, rank-inside s j word h))
      (g.3 ∙ same_rank (has s) g.0 j g.1 h g.4)
      (λ i hi ne x.
      let q = placed-node s word places told rows all i (omega (arith, many)) in
      ne (sym q.4 ∙ ap (count (has s)) (sym q.3 ∙ x)))
      ∙ of_node h

  -- .. and the block of a node outside the set nothing
  pub arriving-outside : (places : List ℕ) → places ≡ places_of s → has s (suc j) ≡ false
      → arriving (length (take rows places)) (take rows places) (λ t. f (get_or (listed s) t 0)) j ≡ 0
  arriving-outside places told h = arriving-none (take rows places) _ j (length (take rows places)) (not-placed s word places told rows all j h)

-- The targets' blocks are cleared, and their values added; what is asked is tested first. Assumes nothing.
use mathlib.Core.Path.{◌≡◌, sym, ap, ◌∙◌}
use mathlib.Core.Bool.{not}
use mathlib.Core.List.{List}
use Prim.Native.Nat.{ℕ, ◌*◌, ◌^◌, ◌<◌}
use native.Mathlib.Omega.{arith}
use lib.ListN.{length}
use Rattle.base.proofs.Decisions.{told-equal}
use Rattle.params.specs.Nodes.{size, places_of, in_order}
use Rattle.params.proofs.Sets.{size-most}
use Rattle.params.proofs.Placing.{length-places, length-in-order, placing-zeros, placed-length}
use Rattle.coefficients.proofs.Laws.{first-length}
use Rattle.extension.specs.Blocks.{CompleteAsks}
use Rattle.extension.proofs.Completing.{complete-asks, completed}
use Rattle.extension.proofs.complete.Goals as goal
use Rattle.extension.proofs.complete.Goals.{After-in_order-order}

-- the lists that are lent, and the call's own arguments
record Lists (at targets q rows : ℕ) (places order : List ℕ) : Type 0 where
  at_word : at < 2 ^ 32
  targets_word : targets < 2 ^ 32
  at_count : q ≡ size at
  targets_count : rows ≡ size targets
  placed : places ≡ places_of targets
  ordered : order ≡ in_order

lists : (c : After-in_order-order)
    → Lists c.args.at.0 c.args.targets.0 c.size-q.result c.size-rows.result c.places_of.new.out c.in_order-order.result
lists c =
    let word : c.args.targets.0 < 2 ^ 32 = omega arith in
    record {
      at_word = omega arith;
      targets_word = word;
      at_count = c.size-q.ensures;
      targets_count = c.size-rows.ensures;
      placed = placing-zeros _ _ word c.places_of.ensures;
      ordered = c.in_order-order.ensures;
    }

-- what was tested
asked : (c : After-in_order-order)
    → CompleteAsks c.args.b c.args.e c.args.at.0 c.args.targets.0 (length c.args.message.now) (length c.args.z.now) (length c.args.out.now)
asked c =
    record {
      most = c.if-e-gt32.false;
      parts = told-equal _ _ _ c.is_product.ensures (ap not c.if-not-is_product.false);
      values = told-equal _ _ _ c.is_product-2.ensures (ap not c.if-not-is_product-2.false) ∙ ap (λ (k : ℕ). k * c.args.b) c.size-q.ensures;
      inside = c.has_blocks.ensures.holds c.if-not-has_blocks.false;
    }

pub slice_bounds-order-end : goal.slice_bounds-order-end
slice_bounds-order-end c =
    let l = lists (goal.at.slice_bounds-order-end c).After-in_order-order in
    omega (arith, size-most _ l.at_word, l.at_count, ap length l.ordered ∙ length-in-order)

pub slice_bounds-wanted-end : goal.slice_bounds-wanted-end
slice_bounds-wanted-end c =
    let l = lists (goal.at.slice_bounds-wanted-end c).After-in_order-order in
    sym (first-length _ l.ordered _ (omega (arith, size-most _ l.at_word, l.at_count)))

pub slice_bounds-places-end : goal.slice_bounds-places-end
slice_bounds-places-end c =
    let l = lists (goal.at.slice_bounds-places-end c).After-in_order-order in
    omega (arith, size-most _ l.targets_word, l.targets_count, ap length l.placed ∙ length-places _)

pub slice_bounds-wanted-end-2 : goal.slice_bounds-wanted-end-2
slice_bounds-wanted-end-2 c =
    let l = lists (goal.at.slice_bounds-wanted-end-2 c).After-in_order-order in
    sym (placed-length _ l.targets_word _ l.placed _ l.targets_count)

pub add_to-requires-clause-asks : goal.add_to-requires-clause-asks
add_to-requires-clause-asks c =
    let e = (goal.at.add_to-requires-clause-asks c).After-in_order-order in
    let l = lists e in
    let s = c.args in
    complete-asks _ _ _ _ _ _ _ _ s.message.now s.z.now s.out.now l.at_word l.targets_word l.at_count l.targets_count l.placed l.ordered (asked e) _
    c.clear_blocks.auto.codeword

pub returns : goal.returns
returns c =
    let e = (goal.at.returns c).After-in_order-order in
    let l = lists e in
    let s = c.args in
    completed _ _ _ _ _ _ _ _ s.message.now s.z.now s.out.now l.at_word l.targets_word l.at_count l.targets_count l.placed l.ordered (asked e) _ _
    c.clear_blocks.ensures c.add_to.ensures

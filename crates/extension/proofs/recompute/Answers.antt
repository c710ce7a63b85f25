-- The blocks given are the values of polynomials without leading parts; what is asked is tested first. Assumes nothing.
use mathlib.Core.Path.{◌≡◌, sym, ap, ◌∙◌}
use mathlib.Core.Bool.{not, true≢false}
use mathlib.Core.List.{List}
use Prim.Native.Nat.{ℕ, ◌-◌, ◌*◌, ◌^◌, min, ◌≤◌, ◌<◌}
use native.Mathlib.Omega.{arith}
use lib.ListN.{length}
use Rattle.base.proofs.Decisions.{told-equal}
use Rattle.params.specs.Nodes.{size, places_of, in_order}
use Rattle.params.proofs.Sets.{size-most, within_has}
use Rattle.params.proofs.Placing.{length-places, length-in-order, placing-zeros, placed-length}
use Rattle.coefficients.proofs.Laws.{first-length}
use Rattle.extension.specs.Blocks.{Recomputable}
use Rattle.extension.proofs.PairBlocks.{recompute-idle, recompute-asks, recomputed}
use Rattle.extension.proofs.recompute.Goals as goal
use Rattle.extension.proofs.recompute.Goals.{After-in_order-order}

pub returns-then-not-within : goal.returns-then-not-within
returns-then-not-within c =
    recompute-idle _ _ _ _ _ (λ ok. true≢false (sym ((within_has _ _ (omega arith)).1 ok.inside) ∙ sym c.within.ensures ∙ c.if-not-within.true))

-- the lists that are lent, and the call's own arguments
record Lists (from targets q rows : ℕ) (places order : List ℕ) : Type 0 where
  from_word : from < 2 ^ 32
  targets_word : targets < 2 ^ 32
  from_count : q ≡ size from
  targets_count : rows ≡ size targets
  placed : places ≡ places_of from
  ordered : order ≡ in_order

lists : (c : After-in_order-order)
    → Lists c.args.from.0 c.args.targets.0 c.size-q.result c.size-rows.result c.places_of.new.out c.in_order-order.result
lists c =
    let word : c.args.from.0 < 2 ^ 32 = omega arith in
    record {
      from_word = word;
      targets_word = omega arith;
      from_count = c.size-q.ensures;
      targets_count = c.size-rows.ensures;
      placed = placing-zeros _ _ word c.places_of.ensures;
      ordered = c.in_order-order.ensures;
    }

-- what was tested
asked : (c : After-in_order-order) → Recomputable c.args.a c.args.from.0 c.args.targets.0 (length c.args.codeword.now) (length c.args.fresh.now)
asked c =
    record {
      full = exact _ _ _ (size-most _ (omega arith)) c.size-q.ensures (c.if-q-working.false ∙ c.working.ensures);
      inside = (within_has _ _ (omega arith)).0 (sym c.within.ensures ∙ c.if-not-within.false);
      codeword_length = told-equal _ _ _ c.is_product.ensures (ap not c.if-not-is_product.false);
      room = told-equal _ _ _ c.is_product-2.ensures (ap not c.if-not-is_product-2.false) ∙ ap (λ (m : ℕ). m * c.args.a.b) c.size-rows.ensures;
    }
  where
    exact : (q s w : ℕ) → s ≤ 32 → q ≡ s → q ≡ min w (2 ^ 64 - 1) → s ≡ w
    exact q s w few e told = omega arith

pub slice_bounds-places-end : goal.slice_bounds-places-end
slice_bounds-places-end c =
    let l = lists (goal.at.slice_bounds-places-end c).After-in_order-order in
    omega (arith, size-most _ l.from_word, l.from_count, ap length l.placed ∙ length-places _)

pub slice_bounds-wanted-end-2 : goal.slice_bounds-wanted-end-2
slice_bounds-wanted-end-2 c =
    let l = lists (goal.at.slice_bounds-wanted-end-2 c).After-in_order-order in
    sym (placed-length _ l.from_word _ l.placed _ l.from_count)

pub slice_bounds-order-end : goal.slice_bounds-order-end
slice_bounds-order-end c =
    let l = lists (goal.at.slice_bounds-order-end c).After-in_order-order in
    omega (arith, size-most _ l.targets_word, l.targets_count, ap length l.ordered ∙ length-in-order)

pub slice_bounds-wanted-end-3 : goal.slice_bounds-wanted-end-3
slice_bounds-wanted-end-3 c =
    let l = lists (goal.at.slice_bounds-wanted-end-3 c).After-in_order-order in
    sym (first-length _ l.ordered _ (omega (arith, size-most _ l.targets_word, l.targets_count)))

pub add_to-requires-clause-asks : goal.add_to-requires-clause-asks
add_to-requires-clause-asks c =
    let e = (goal.at.add_to-requires-clause-asks c).After-in_order-order in
    let l = lists e in
    recompute-asks _ _ _ _ _ _ l.from_word l.targets_word l.from_count l.targets_count l.placed l.ordered c.args.a c.args.codeword.now
    c.args.fresh.now (asked e) _ c.clear.auto.dst

pub returns : goal.returns
returns c =
    let e = (goal.at.returns c).After-in_order-order in
    let l = lists e in
    recomputed _ _ _ _ _ _ l.from_word l.targets_word l.from_count l.targets_count l.placed l.ordered c.args.a c.args.codeword.now
    c.args.fresh.now (asked e) _ _ _ c.clear.ensures c.clear.auto.dst c.add_to.ensures

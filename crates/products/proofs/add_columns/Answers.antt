use mathlib.Core.Path.{◌≡◌, refl, sym, ap, ◌∙◌, subst}
use Prim.Native.Nat.{ℕ, ◌+◌, ◌*◌, ◌≤◌, ◌<◌}
use native.Mathlib.Omega.{arith}
use borrow.Author.Rules.{rules}
use lib.ListN.{length, get_or, length-append}
use Rattle.std.proofs.lemmas.Slice.Zip.{zip_turn, zip_end}
use Rattle.base.specs.Seq.{cell}
use Rattle.products.specs.Blocks.{plus_multiple}
use Rattle.products.proofs.Stretches.{stretch, stretch-cell, stretch-ends}
use Rattle.products.proofs.Summing.{Summed, summed-none, summed-more, summed-all}
use Rattle.products.proofs.add_columns.Goals.{After-from}
use Rattle.products.proofs.add_columns.Goals as goal

pub loop-place-init : goal.loop-place-init
loop-place-init c = summed-none _ _ _ _ _ _

module _ (c : After-from) where
  -- this turn's place and coefficient
  turn :
      let n = length c.loop-place.yielded in
      let s = c.args in (
      (n < length s.places.now) × (n < length s.coeffs.now) × ((d : ℕ) → c.in-Some.place.now ≡ get_or s.places.now n d)
      × ((d : ℕ) → c.in-Some.c.now ≡ get_or s.coeffs.now n d)
      )
  turn =
      let l = c.loop-place in
      zip_turn c.args.places.now c.args.coeffs.now l.yielded c.into_iter-place-iterator.result l.place-iterator c.next.new.self c.next.result
      (search rules) (search rules) l.yielded_by _ c.in-Some.is c.next.ensures.steps

  place : c.from.result ≡ get_or c.args.places.now (length c.loop-place.yielded) 0
  place = c.from.ensures ∙ turn.2 0

  -- the bytes of the block end within src
  inside : let s = c.args in c.from.result * s.b + s.at + length c.loop-place.sum ≤ length s.src.now
  inside =
      let s = c.args in
      let l = c.loop-place in
      omega (arith, l.invariant.same, stretch-ends s.b s.at (length s.sum.now) s.places.now place refl c.requires.sum_bound turn.0 c.requires.inside)

pub overflow_mul-start : goal.overflow_mul-start
overflow_mul-start c = omega (arith, inside c)

pub overflow_add-start : goal.overflow_add-start
overflow_add-start c = omega (arith, inside c)

pub overflow_add-end : goal.overflow_add-end
overflow_add-end c = omega (arith, inside c)

pub slice_bounds-add_multiple-end : goal.slice_bounds-add_multiple-end
slice_bounds-add_multiple-end c = inside (goal.at.slice_bounds-add_multiple-end c).After-from

pub loop-place-preserved : goal.loop-place-preserved
loop-place-preserved c =
    let a = (goal.at.loop-place-preserved c).After-from in
    let l = c.loop-place in
    let s = c.args in
    let n = length l.yielded in
    let k = c.from.result in
    subst (λ (m : ℕ). Summed s.b s.at s.src.now s.places.now s.coeffs.now m s.sum.now c.add_multiple.new.dst) (sym (length-append l.yielded _))
    (summed-more _ _ _ _ _ n s.sum.now l.sum _ _ (turn a).0
    (λ p h. stretch-cell s.b s.at (length l.sum) k s.src.now p (omega (arith, l.invariant.same)) ∙ ap (λ (q : ℕ). cell s.b s.src.now q (s.at + p)) (place a))
    (c.add_multiple.ensures ∙ ap (λ (x : ℕ). plus_multiple l.sum x (stretch (k * s.b + s.at) (length l.sum) s.src.now)) ((turn a).3 0)) l.invariant)

pub returns : goal.returns
returns c =
    let l = c.loop-place in
    let s = c.args in
    let all = zip_end s.places.now s.coeffs.now l.yielded c.into_iter-place-iterator.result l.place-iterator c.next.new.self c.next.result
    (search rules) (search rules) l.yielded_by c.in-None.is c.next.ensures.steps in
    summed-all _ _ _ _ _ _ _ _ (omega (arith, all, c.requires.places_in_bounds)) l.invariant

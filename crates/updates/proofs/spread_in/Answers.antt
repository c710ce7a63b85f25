-- The leading rows take the change to what it makes of the takers' blocks. Assumes nothing.
use mathlib.Core.Path.{◌∙◌}
use Prim.Native.Nat.{ℕ, ◌*◌, ◌≤◌}
use native.Mathlib.Nat.{le_refl, mul-le-mul}
use native.Mathlib.Omega.{arith}
use lib.ListN.{length, replicate, length-replicate}
use lib.Seq.{length-take-le}
use Rattle.base.proofs.Buffers.{areas-fit}
use Rattle.params.specs.Params.{slack_parts}
use Rattle.params.proofs.Sets.{size-most}
use Rattle.updates.proofs.Vanishing.{roomy, spread}
use Rattle.updates.proofs.spread_in.Goals as goal
use Rattle.updates.proofs.spread_in.Given.{Over}
use Rattle.updates.proofs.spread_in.Goals.{After-slack_parts-l}

-- there is room for the rows of at most 32 takers
module _ (g : Over) (c : After-slack_parts-l g) where
  slack-most : c.slack_parts-l.result ≤ c.args.a.n
  unfolding slack_parts
  slack-most = omega (arith, c.slack_parts-l.ensures)

  takers-most : length c.args.targets.now ≤ 32
  takers-most = omega (arith, c.requires.spreadable.count, size-most c.args.takers.0 (omega arith))

  -- as many rows of at most n
  rows-fit : (m : ℕ) → m ≤ c.args.a.n → length c.args.targets.now * m ≤ g.row.ROOM
  rows-fit m few = omega (arith, mul-le-mul (le_refl (length c.args.targets.now)) few, c.requires.room)

pub overflow_mul-gains_area : goal.overflow_mul-gains_area
overflow_mul-gains_area g c =
    let z = (goal.at.overflow_mul-gains_area g c).After-slack_parts-l in
    omega (
      arith,
      areas-fit (length c.args.targets.now) c.slack_parts-l.result (takers-most g z) (omega (arith, slack-most g z, c.requires.spreadable.n_high)),
    )

pub whole_as_front-extending_rows-2 : goal.whole_as_front-extending_rows-2
whole_as_front-extending_rows-2 g c =
    let z = (goal.at.whole_as_front-extending_rows-2 g c).After-slack_parts-l in
    (rows-fit g z c.slack_parts-l.result (slack-most g z), omega (arith, c.requires.small))

pub returns : goal.returns
returns g c =
    let z = (goal.at.returns g c).After-slack_parts-l in
    let s = c.args in
    let ok = c.requires.spreadable in
    let room = replicate {A = ℕ} g.row.ROOM 0 in
    let full = length-take-le _ room (omega (arith, length-replicate {A = ℕ} g.row.ROOM 0, rows-fit g z s.a.k ok.k_le_n)) in
    let rest = length-take-le _ room (omega (arith, length-replicate {A = ℕ} g.row.ROOM 0, rows-fit g z c.slack_parts-l.result (slack-most g z))) in
    spread s.a s.change.now s.targets.now s.out.now s.to.0 s.takers.0 c.outside-outside.result.0 (omega arith) ok
    c.outside-outside.ensures c.extending_rows.new.leading c.extending_rows.new.gains _ c.in_order-order.result _
    (c.extending_rows.ensures.same_leading ∙ full)
    (c.extending_rows.ensures.written
    (roomy s.a s.change.now s.targets.now s.out.now s.to.0 s.takers.0 c.outside-outside.result.0 (omega arith) ok c.outside-outside.ensures (omega arith) _ _ _
    c.slack_parts-l.ensures full rest))
    (λ i. omega (arith, c.type_inv.change i)) c.in_order-order.ensures c.add_product.ensures

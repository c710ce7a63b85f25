-- The lost blocks are recomputed, and then put in their places. Assumes nothing.
use mathlib.Core.Path.{◌≡◌, ap, ◌∙◌, subst, subst⁻¹}
use mathlib.Core.List.{List}
use Prim.Native.Nat.{ℕ, ◌*◌, ◌≤◌}
use native.Mathlib.Omega.{arith}
use lib.ListN.{length, replicate, length-replicate}
use lib.Seq.{length-take-le}
use Rattle.base.proofs.Buffers.{buffer-front}
use Rattle.placing.specs.Placed.{PutPost}
use Rattle.maintenance.proofs.Rebuilding.{rebuilt}
use Rattle.maintenance.proofs.repairing.repair_in.Goals as goal

pub returns : goal.returns
returns g c =
    let s = c.args in
    let room = replicate {A = ℕ} g.row.ROOM 0 in
    -- the part of it that is used
    let fits : c.size.result * s.a.b ≤ length room = omega (
      arith,
      length-replicate {A = ℕ} g.row.ROOM 0,
      subst⁻¹ (λ (m : ℕ). m * s.a.b ≤ g.row.ROOM) c.size.ensures c.requires.room,
    ) in
    -- it comes back as long as it was
    let back : length c.recompute.new.fresh ≡ c.size.result * s.a.b = c.recompute.auto.fresh ∙ length-take-le _ _ fits in
    rebuilt s.a s.from.0 s.lost.0 s.codeword.now c.requires.rebuildable _ _ _
    (length-take-le _ _ fits ∙ ap (λ (m : ℕ). m * s.a.b) c.size.ensures) c.recompute.ensures
    (subst (λ (l : List ℕ). PutPost s.a.b s.lost.0 l s.codeword.now c.put_blocks.new.codeword) (buffer-front _ _ _ back) c.put_blocks.ensures)

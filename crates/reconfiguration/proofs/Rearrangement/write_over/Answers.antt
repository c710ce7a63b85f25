-- The old pair's blocks outside W', then the new pair's blocks over a copy of the old record. Assumes nothing.
use mathlib.Core.Path.{◌≡◌, sym, ap, ◌∙◌, subst, subst⁻¹}
use mathlib.Core.List.{List}
use Prim.Native.Nat.{ℕ, ◌*◌, ◌^◌, ◌≤◌, ◌<◌}
use native.Mathlib.Omega.{arith}
use lib.ListN.{length}
use lib.Seq.{length-take-le}
use Rattle.base.proofs.Buffers.{buffer-front, buffer-fits, buffer-count}
use Rattle.params.specs.Nodes.{size}
use Rattle.params.specs.Params.{slack_parts, reshaped}
use Rattle.params.specs.declared.Params.{Params}
use Rattle.params.specs.declared.Shape.{Shape}
use Rattle.params.proofs.Sets.{size-most}
use Rattle.params.proofs.Outside.{Outside}
use Rattle.gates.proofs.Valid.{blocks-most}
use Rattle.extension.specs.Blocks.{CompletePost}
use Rattle.reconfiguration.specs.Core.{Reconfigurable}
use Rattle.reconfiguration.proofs.Rewriting.{slack-count, rewritten}
use Rattle.reconfiguration.proofs.Rearrangement.write_over.Goals as goal

-- the nodes outside W', m in number, and the part of z that is used
part-fits : (a : Params) (t : Shape) (from to rest old new message m : ℕ) (z : List ℕ) → Reconfigurable a t old new message from to → Outside t.n to rest
    → rest < 2 ^ 32 → m ≡ size rest → slack_parts (reshaped a t) * a.b ≤ length z → m * a.b ≤ length z
part-fits a t from to rest old new message m z ok free word e room =
    subst⁻¹ (λ (x : ℕ). x * a.b ≤ length z) (slack-count a t from to rest old new message m ok free word e) room

pub overflow_mul-old : goal.overflow_mul-old
overflow_mul-old c =
    record {
      fits =
          omega (
            arith,
            blocks-most c.size.result c.args.self.now.a.b (omega (arith, c.size.ensures, size-most c.outside-free.result.0 (omega arith))) c.requires.asks.b_high,
          );
    }

pub slice_bounds-recompute-end : goal.slice_bounds-recompute-end
slice_bounds-recompute-end c =
    part-fits _ _ _ _ _ _ _ _ _ _ c.requires.asks c.outside-free.ensures (omega arith) c.size.ensures c.requires.b_in_bounds

pub slice_bounds-recompute-end-2 : goal.slice_bounds-recompute-end-2
slice_bounds-recompute-end-2 c =
    sym (length-take-le _ _
    (part-fits _ _ _ _ _ _ _ _ _ _ c.requires.asks c.outside-free.ensures (omega arith) c.size.ensures c.requires.b_in_bounds))

pub slice_bounds-complete-end : goal.slice_bounds-complete-end
slice_bounds-complete-end c =
    let fits = part-fits _ _ _ _ _ _ _ _ _ c.args.z.now c.requires.asks c.outside-free.ensures (omega arith) c.size.ensures c.requires.b_in_bounds in
    buffer-fits _ c.recompute.new.fresh _ (c.recompute.auto.fresh ∙ length-take-le _ _ fits)

pub slice_bounds-complete-end-2 : goal.slice_bounds-complete-end-2
slice_bounds-complete-end-2 c =
    let fits = part-fits _ _ _ _ _ _ _ _ _ c.args.z.now c.requires.asks c.outside-free.ensures (omega arith) c.size.ensures c.requires.b_in_bounds in
    buffer-count _ c.recompute.new.fresh _ (c.recompute.auto.fresh ∙ length-take-le _ _ fits)

pub returns : goal.returns
returns c =
    let s = c.args.self.now in
    let fits = part-fits _ _ _ _ _ _ _ _ _ c.args.z.now c.requires.asks c.outside-free.ensures (omega arith) c.size.ensures c.requires.b_in_bounds in
    -- it comes back as long as it was
    let back : length c.recompute.new.fresh ≡ c.size.result * s.a.b = c.recompute.auto.fresh ∙ length-take-le _ _ fits in
    rewritten s.a s.shape s.from.0 s.to.0 _ _ c.outside-made.result.0 s.codeword.now s.message.now c.args.out.now (omega arith) c.requires.asks
    c.outside-free.ensures c.outside-kept.ensures c.outside-made.ensures _ c.recompute.new.fresh c.copy_block.new.dst _
    (length-take-le _ _ fits ∙ ap (λ (m : ℕ). m * s.a.b) c.size.ensures) c.recompute.ensures c.copy_block.ensures
    (subst
    (λ (l : List ℕ). CompletePost s.a.b s.shape.k c.outside-free.result.0 c.outside-made.result.0 s.message.now l c.copy_block.new.dst c.complete.new.out)
    (buffer-front _ _ _ back) c.complete.ensures)

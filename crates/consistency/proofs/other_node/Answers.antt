-- The further nodes' blocks are recomputed from the q lowest outside the set, and compared. Assumes nothing.
use mathlib.Core.Path.{◌≡◌, refl, sym, ap, ◌∙◌, subst}
use mathlib.Core.List.{List}
use Prim.Native.Nat.{ℕ, ◌*◌, ◌^◌, ◌≤◌, ◌<◌}
use native.Mathlib.Nat.{lt_of_le_of_lt}
use native.Mathlib.Omega.{arith}
use lib.Bits.{bit_and, and_le_l}
use lib.ListN.{length}
use lib.Seq.{length-take-le}
use Rattle.base.proofs.Buffers.{buffer-front}
use Rattle.params.specs.Nodes.{size}
use Rattle.params.specs.Params.{working}
use Rattle.params.proofs.Sets.{size-most}
use Rattle.gates.proofs.Valid.{working-known, blocks-most}
use Rattle.placing.specs.Placed.{ComparePost}
use Rattle.consistency.proofs.Serving.{others-room, tested}
use Rattle.consistency.proofs.other_node.Goals as goal

pub overflow_mul-used : goal.overflow_mul-used
overflow_mul-used c =
    record { fits = omega (arith, blocks-most c.size.result c.args.a.b (omega (arith, c.size.ensures, size-most c.lowest-others.result.0 (omega arith))) (omega arith)) }

pub returns-then-fresh-used : goal.returns-then-fresh-used
returns-then-fresh-used c ok =
    let s = c.args in
    let exact : c.working.result ≡ working s.a = working-known _ ok.check.valid _ c.working.ensures in
    let both_word : bit_and c.outside.result.0 c.outside-rest.result.0 < 2 ^ 32 = lt_of_le_of_lt (and_le_l c.outside.result.0 c.outside-rest.result.0) (omega arith) in
    let fits : size c.lowest-others.result.0 * s.a.b ≤ length s.fresh.now =
    others-room s.a _ _ _ _ _ c.outside-rest.result.0 c.lowest-chosen.result.0 c.outside.result.0 _ ok exact (omega arith) (omega arith) both_word (omega arith)
    (omega arith) c.outside-rest.ensures c.lowest-chosen.ensures c.outside.ensures c.lowest-others.ensures in
    absurd (omega (arith, c.if-fresh-used.true, subst (λ (m : ℕ). m * s.a.b ≤ length s.fresh.now) (sym c.size.ensures) fits))

pub returns : goal.returns
returns c ok =
    let s = c.args in
    let exact : c.working.result ≡ working s.a = working-known _ ok.check.valid _ c.working.ensures in
    let both_word : bit_and c.outside.result.0 c.outside-rest.result.0 < 2 ^ 32 = lt_of_le_of_lt (and_le_l c.outside.result.0 c.outside-rest.result.0) (omega arith) in
    -- there is room for the blocks that are compared
    let room : c.size.result * s.a.b ≤ length s.fresh.now = omega (arith, c.if-fresh-used.false) in
    -- it comes back as long as it was
    let back : length c.recompute.new.fresh ≡ c.size.result * s.a.b = c.recompute.auto.fresh ∙ length-take-le _ _ room in
    tested s.a _ _ _ _ _ c.outside-rest.result.0 c.lowest-chosen.result.0 c.outside.result.0 _ ok exact (omega arith) (omega arith) both_word (omega arith)
    (omega arith) c.outside-rest.ensures c.lowest-chosen.ensures c.outside.ensures c.lowest-others.ensures
    s.codeword.now (λ i. omega (arith, c.type_inv.codeword i)) _ _ refl
    (length-take-le _ _ room ∙ ap (λ (m : ℕ). m * s.a.b) c.size.ensures) c.recompute.ensures c.first_other.result
    (subst (λ (t : List ℕ). ComparePost s.a.b c.lowest-others.result.0 s.codeword.now t c.first_other.result)
    (buffer-front _ _ _ back) c.first_other.ensures)

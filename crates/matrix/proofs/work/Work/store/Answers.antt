use mathlib.Core.Path.{◌∙◌, ap}
use Rattle.std.proofs.Common.{arith, List, ℕ, [], ◌-◌, ◌*◌, drop, get_or}
use lib.Seq.{get_or-take, get_or-drop}
use Rattle.matrix.proofs.Loading.{stored_more, length-line}
use Rattle.matrix.proofs.work.Work.store.Goals as goal

pub loop-i-preserved : goal.loop-i-preserved
loop-i-preserved c =
    let e = c.copy_from_slice.ensures in
    let s = c.args.self.now.side in
    let row = get_or c.args.self.now.rows c.loop-i.i [] in
    stored_more _ _ _ _ _ (omega arith) (omega arith) (e.len ∙ length-line s c.loop-i.i c.loop-i.out (omega arith) (omega arith))
    (λ k hk. ap (λ (x : List ℕ). get_or x k 0) e.after ∙ get_or-take (2 * s - s) (drop s row) k 0 (omega arith) ∙ get_or-drop s row k 0) c.loop-i.invariant

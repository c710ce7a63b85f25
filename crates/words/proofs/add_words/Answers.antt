use mathlib.Core.Path.{◌≡◌}
use Prim.Native.Nat.{◌+◌, ◌-◌, ◌*◌, ◌/◌}
use native.Mathlib.Omega.{arith}
use Rattle.blocks.proofs.Overlap.{filled-plus}
use Rattle.words.proofs.Adding.{added-part}
use Rattle.words.proofs.add_words.Goals as goal

pub loop-word-preserved : goal.loop-word-preserved
loop-word-preserved c =
    let l = c.loop-word in
    let s = c.args in
    let p = 8 * l.word in
    added-part s.dst.now s.src.now p (p + 8 - p) (8 * (l.word + 1)) l.dst _ (omega arith) (omega arith) (omega arith) c.add_word.ensures l.invariant

-- with what is left, the sums of all bytes that both have
pub returns : goal.returns
returns c =
    let s = c.args in
    let l = c.loop-word in
    let n = c.min-count.result in
    let p = 8 * (n / 8) in
    let all : l.word ≡ n / 8 = omega arith in
    filled-plus s.dst.now s.src.now _ n (λ h. omega arith)
    (added-part s.dst.now s.src.now p (n - p) n l.dst _ (omega arith) (omega arith) (omega arith) c.add_tail.ensures (rw all at l.invariant))

use mathlib.Core.Path.{ap, ◌∙◌}
use Prim.Native.Nat.{ℕ, ◌/◌, ◌%◌}
use native.Mathlib.Omega.{arith}
use Rattle.base.proofs.Filled.{filled_more, filled-all}
use Rattle.words.specs.Words.{low_bytes}
use Rattle.words.proofs.Words.{next-byte}
use Rattle.words.proofs.put_word.Goals as goal

pub loop-byte-preserved : goal.loop-byte-preserved
loop-byte-preserved c =
    let l = c.loop-byte in
    let s = l.byte-index in
    let e = l.invariant.1 in
    (filled_more _ s _ l.bytes _ (omega (arith, l.invariant.0.same)) (ap (λ (k : ℕ). k % 256) e) l.invariant.0, ap (λ (k : ℕ). k / 256) e ∙ next-byte _ s)

pub returns : goal.returns
unfolding low_bytes
returns c = filled-all _ _ _ _ (omega arith) c.loop-byte.invariant.0

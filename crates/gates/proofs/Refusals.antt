-- No refusal's number is 0, so a result is Ok exactly where its answer is 0. Assumes nothing.
use mathlib.Core.Path.{refl, sym}
use mathlib.Core.Bool.{true≢false}
use native.Mathlib.Omega.{arith}
use Rattle.std.specs.Prelude.{◌≡◌, true, false, Result, Ok, Err, is_err}
use Rattle.gates.specs.declared.Refusal.{Refusal}
use Rattle.gates.specs.declared.Refusal.TheVariants.{NodeCount, ReadOrWriteCount, MessageParts, SharedNodes, BlockSize, Length, NodeAboveN, SetSize, LostIsRead, NodeNumber, NewNodeCount, NewReadOrWriteCount, NewMessageParts, NewSharedNodes, SerialZero}
use Rattle.gates.specs.Refusals.{number, answer}

pub number-not-0 : (q : Refusal) → number q ≡ 0 → ⊥
number-not-0 NodeCount e = omega (arith, e)
number-not-0 ReadOrWriteCount e = omega (arith, e)
number-not-0 MessageParts e = omega (arith, e)
number-not-0 SharedNodes e = omega (arith, e)
number-not-0 BlockSize e = omega (arith, e)
number-not-0 Length e = omega (arith, e)
number-not-0 NodeAboveN e = omega (arith, e)
number-not-0 SetSize e = omega (arith, e)
number-not-0 LostIsRead e = omega (arith, e)
number-not-0 NodeNumber e = omega (arith, e)
number-not-0 NewNodeCount e = omega (arith, e)
number-not-0 NewReadOrWriteCount e = omega (arith, e)
number-not-0 NewMessageParts e = omega (arith, e)
number-not-0 NewSharedNodes e = omega (arith, e)
number-not-0 SerialZero e = omega (arith, e)

pub ok-is-0 : {A : Type 0} (r : Result A Refusal) → is_err r ≡ false → answer r ≡ 0
ok-is-0 (Ok x) e = refl
ok-is-0 (Err q) e = absurd (true≢false e)

pub err-not-0 : {A : Type 0} (r : Result A Refusal) → is_err r ≡ true → answer r ≡ 0 → ⊥
err-not-0 (Ok x) e = absurd (true≢false (sym e))
err-not-0 (Err q) e = number-not-0 q

-- By the two numbers. Assumes nothing.
use mathlib.Core.Path.{◌≡◌, ap}
use Prim.Native.Nat.{ℕ, ◌+◌}
use native.Mathlib.Omega.{arith}
use lib.ListN.{get_or}
use Rattle.season_file.specs.File.{choice_at}
use Rattle.season_file.proofs.parsing.set_at.Goals as goal

pub returns : goal.returns
unfolding choice_at
returns c =
    let last : c.args.at + 2 + 1 ≡ c.args.at + 3 = omega arith in
    omega (arith, c.from_be_bytes.ensures, ap (λ (p : ℕ). get_or c.args.input.now p 0) last)

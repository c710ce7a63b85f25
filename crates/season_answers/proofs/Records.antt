-- Parameters have a record exactly where a set-up accepts them. Assumes nothing.
use mathlib.Core.Path.{◌≡◌, sym}
use mathlib.Core.Bool.{true, false, true≢false}
use Prim.Native.Nat.{ℕ}
use Rattle.std.specs.Prelude.{Option, None, Some, is_some}
use Rattle.gates.specs.Valid.{Valid}
use Rattle.params.specs.declared.Params.{Params}
use Rattle.season_answers.specs.Records.{RecordLength}

pub no_record : (a : Params) (length : Option ℕ) → RecordLength a length → is_some length ≡ false → Valid a → ⊥
no_record a None r e = r
no_record a (Some length) r e = absurd (true≢false e)

pub some-record : (a : Params) (length : Option ℕ) → RecordLength a length → is_some length ≡ true → Valid a
some-record a None r e = absurd (true≢false (sym e))
some-record a (Some length) r e = r.0

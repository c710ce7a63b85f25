-- How long the record in force is. Assumes nothing.
use Rattle.std.specs.Prelude.{◌≡◌, ℕ, ◌*◌, Option, MatchOption}
use Rattle.gates.specs.Valid.{Valid}
use Rattle.params.specs.declared.Params.{Params}

-- the length of a record; none for parameters that no set-up accepts
abbrev pub RecordLength : Params → Option ℕ → Type 0
RecordLength a length = MatchOption length (Valid a → ⊥) (λ length. Valid a × (length ≡ a.n * a.b))

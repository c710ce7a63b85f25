-- Code parameters (document 01, "The arrangement and the record"; document 02, 2026-01). Assumes nothing.
use Rattle.std.specs.Prelude.{ℕ, ◌+◌, ◌-◌}
use Rattle.params.specs.declared.Params.{Params}
use Rattle.params.specs.declared.Shape.{Shape}

-- "The slack is now l = n − w parts, no longer r − k" (document 02, 2026-01).
unfoldable pub slack_parts : Params → ℕ
slack_parts a = a.n - a.w

-- "The working number is q = k + l, never above r" (gates/proofs/Valid.antt): so many nodes' blocks determine message and slack.
unfoldable pub working : Params → ℕ
unfolding slack_parts
working a = a.k + slack_parts a

abbrev pub shape_of : Params → Shape
shape_of a = record { k = a.k; r = a.r; w = a.w; n = a.n }

-- The parameters of another shape "with the same B".
abbrev pub reshaped : Params → Shape → Params
reshaped a t = record { k = t.k; r = t.r; w = t.w; n = t.n; b = a.b }

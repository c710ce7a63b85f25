-- The answer to an event of a season file (document 01, "Questions at the gate"): the gate that the call's contract cites, on the lengths that a run lends:
-- the record and the serials in force, and blocks as long as the file's fields. "In a season file the event's number serves as the serial" (document 02,
-- 2026-03). Assumes nothing.
use Rattle.std.specs.Prelude.{ℕ, ◌*◌}
use Rattle.gates.specs.Gates.{update_gate, repair_gate, damage_gate, decode_gate, reconfigure_gate}
use Rattle.params.specs.declared.Params.{Params}
use Rattle.season_file.specs.declared.Event.{Event}
use Rattle.season_file.specs.declared.Event.TheVariants.{Update, Repair, Damage, Decode, Reconfigure}

unfoldable pub answer_of : Params → (serial : ℕ) → Event → ℕ
answer_of a serial (Update f) = update_gate a (a.n * a.b) a.n (a.k * a.b) f.to.0 serial
answer_of a serial (Repair f) = repair_gate a (a.n * a.b) a.n f.from.0 f.lost.0
answer_of a serial (Damage f) = damage_gate a.n f.nodes.0
answer_of a serial (Decode f) = decode_gate a (a.n * a.b) (a.k * a.b) f.from.0
answer_of a serial (Reconfigure f) =
    reconfigure_gate a f.shape (a.n * a.b) a.n (f.shape.n * a.b) f.shape.n (f.shape.k * a.b) f.from.0 f.to.0

-- An event of a season file (document 01, "The season program") as one of a list of the ledger machine (ledger/specs/Ledger.antt), and the message that it
-- prints. The record and the serials in force stand at the front of a buffer each. Assumes nothing.
use Rattle.std.specs.Prelude.{◌≡◌, List, [], ℕ, ◌*◌, take, replicate}
use Rattle.params.specs.declared.Params.{Params}
use Rattle.code.specs.Calls.{Decoded}
use Rattle.ledger.specs.Ledger.{Held, update, repair, decode, reconfigure, call, damage, in_force}
use Rattle.ledger.specs.Ledger as ledger
use Rattle.season_file.specs.File.{bytes_of}
use Rattle.season_answers.specs.Answers.{answer_of}
use Rattle.season_file.specs.declared.Event.{Event}
use Rattle.season_file.specs.declared.Event.TheVariants.{Update, Repair, Damage, Decode, Reconfigure}

-- The file's event as one of a list of the ledger machine: a call is given what is in force, its blocks are the input's bytes, and a buffer that it fills held
-- zeros. "In a season file the event's number serves as the serial and all of W is reached" (document 02, 2026-03).
abbrev pub listed : Held → List ℕ → (serial : ℕ) → Event → ledger.Event
listed h input serial (Update f) = call (in_force h) (update (bytes_of input f.change) f.to.0 serial f.to.0)
listed h input serial (Repair f) = call (in_force h) (repair f.from.0 f.lost.0)
listed h input serial (Damage f) = damage f.nodes.0 (bytes_of input f.blocks)
listed h input serial (Decode f) = call (in_force h) (decode (replicate (h.params.k * h.params.b) 0) f.from.0)
listed h input serial (Reconfigure f) =
    call (in_force h)
    (reconfigure f.shape (replicate (f.shape.n * h.params.b) 0) (replicate f.shape.n 0) (bytes_of input f.message) f.from.0 f.to.0)

-- an accepted reading's message
pub record Read (h : Held) (answer from : ℕ) (message : List ℕ) : Type 0 where
  pub served : answer ≡ 0 → Decoded h.params h.codeword from message
  pub refused : (answer ≡ 0 → ⊥) → message ≡ []

-- "after an accepted reading the message": what the event's line ends with
abbrev pub Prints : Held → (serial : ℕ) → Event → List ℕ → Type 0
Prints h serial (Decode f) message = Read h (answer_of h.params serial (Decode f)) f.from.0 message
Prints h serial (Update _) message = message ≡ []
Prints h serial (Repair _) message = message ≡ []
Prints h serial (Damage _) message = message ≡ []
Prints h serial (Reconfigure _) message = message ≡ []

-- The record in force stands at the front of a buffer with room for any, and so do the serials.
abbrev pub held_in : Params → List ℕ → List ℕ → Held
held_in a buffer serials = record { params = a; codeword = take (a.n * a.b) buffer; serials = take a.n serials }

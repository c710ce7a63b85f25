-- A run of the season program (document 01): what each turn prints and leaves, and the whole run's output for an input. An event does to the record what
-- the one that stands for it (season_effects/specs/Events.antt) does in a list of the ledger machine (ledger/specs/Ledger.antt): the post-condition of its call.
-- Assumes nothing.
use Rattle.std.specs.Prelude.{◌≡◌, List, [], ◌++◌, ℕ, suc, ◌*◌, ◌≤◌, ◌<◌, length, take, drop, replicate, Option, None, Some, Ok, Err}
use Rattle.gates.specs.Gates.{encode_gate}
use Rattle.gates.specs.Valid.{Valid}
use Rattle.code.specs.Calls.{EncodePost}
use Rattle.ledger.specs.Ledger.{Held, begun, Step}
use Rattle.season_file.specs.File.{bytes_of, opening_of, item_at, kind_of, number_of}
use Rattle.season_lines.specs.Lines.{line_of, Wrote}
use Rattle.season_answers.specs.Answers.{answer_of}
use Rattle.season_effects.specs.Events.{listed, Prints, held_in}
use Rattle.season_file.specs.declared.Event.{Event}
use Rattle.season_file.specs.declared.Header.{Header}
use Rattle.season_file.specs.declared.Fault.{Fault}
use Rattle.season_file.specs.declared.Found.{Found}
use Rattle.season_file.specs.declared.FileFault.{FileFault}
use Rattle.season_run.specs.declared.State.{State}
use Rattle.season_run.specs.declared.Turn.{Turn}

-- ---- one event

-- One event is tried: its line, and what is then held. Its number is the serial. The answer printed is that of the step.
pub record Tried (input : List ℕ) (h : Held) (number : ℕ) (e : Event) (line : List ℕ) (h' : Held) : Type 0 where
  pub message : List ℕ
  pub prints : Prints h number e message
  pub line_is : line ≡ line_of number (kind_of e) (answer_of h.params number e) message
  pub step : Step h (listed h input number e) (answer_of h.params number e) h'

-- ---- one turn

-- Where a run stands: what is held, the next event's number, how many events are left by the count, and where the next one begins.
pub record Place : Type 0 where
  pub stands : Held
  pub number : ℕ
  pub left : ℕ
  pub at : ℕ

pub data Outcome : Type 0 where
  ended : Outcome
  on : Place → Outcome

-- "File faults end the run after a line with that event's number, its kind (0 if unread) and: .. 23 bytes left over (number: events + 1, kind 0)."
pub data Goes (input : List ℕ) (here : Place) : List ℕ → Outcome → Type 0 where
  over : here.left ≡ 0 → length input ≤ here.at → Goes input here [] ended
  leftover : here.left ≡ 0 → here.at < length input → Goes input here (line_of here.number 0 23 []) ended
  faulty : (more : ℕ) (f : Fault) → here.left ≡ suc more → item_at here.stands.params input here.at ≡ Err f
      → Goes input here (line_of here.number f.kind (number_of f.fault) []) ended
  tried : (more : ℕ) (f : Found) (line : List ℕ) (h' : Held) → here.left ≡ suc more
      → item_at here.stands.params input here.at ≡ Ok f
      → Tried input here.stands here.number f.event line h'
      → Goes input here line (on (record { stands = h'; number = suc here.number; left = more; at = f.next }))

-- "The set-up prints first, as event 0, kind 0; if refused, the run ends."
abbrev pub set_up_answer : List ℕ → Header → ℕ
set_up_answer input hd =
    encode_gate hd.params (length (bytes_of input hd.message)) (length (bytes_of input hd.slack)) (hd.params.n * hd.params.b) hd.params.n

pub data Opens (input : List ℕ) : List ℕ → Outcome → Type 0 where
  faulty : (fault : FileFault) → opening_of input ≡ Err fault → Opens input (line_of 0 0 (number_of fault) []) ended
  refused : (hd : Header) → opening_of input ≡ Ok hd → (set_up_answer input hd ≡ 0 → ⊥)
      → Opens input (line_of 0 0 (set_up_answer input hd) []) ended
  opened : (hd : Header) (codeword serials : List ℕ) → opening_of input ≡ Ok hd
      → EncodePost hd.params (bytes_of input hd.message) (bytes_of input hd.slack) (replicate (hd.params.n * hd.params.b) 0)
      (replicate hd.params.n 0) 0 codeword serials
      → Opens input (line_of 0 0 0 [])
      (on
      (record {
        stands = begun hd.params codeword serials;
        number = 1;
        left = hd.events;
        at = hd.at;
      }))

-- ---- the whole run: the turns' lines, one after the other

pub data Runs (input : List ℕ) : Outcome → List ℕ → Type 0 where
  done : Runs input ended []
  turn : {here : Place} {outcome : Outcome} {line rest : List ℕ} → Goes input here line outcome → Runs input outcome rest
      → Runs input (on here) (line ++ rest)

-- The output for an input.
pub data Season (input : List ℕ) : List ℕ → Type 0 where
  season : {outcome : Outcome} {line rest : List ℕ} → Opens input line outcome → Runs input outcome rest → Season input (line ++ rest)

-- "season" reads standard input, "at most 65,535 bytes (later bytes are not read)": the output for a whole file.
abbrev pub FileOutput : List ℕ → List ℕ → Type 0
FileOutput file output = Season (take 65535 file) output

-- ---- the contracts of the two functions

abbrev pub place_of : State → List ℕ → List ℕ → Place
place_of s buffer serials = record { stands = held_in s.params buffer serials; number = s.number; left = s.left; at = s.at }

abbrev pub outcome_of : Option State → List ℕ → List ℕ → Outcome
outcome_of None buffer serials = ended
outcome_of (Some s) buffer serials = on (place_of s buffer serials)

-- where the record in force ends, and where the serials do
abbrev pub record_end : Option State → ℕ
record_end None = 0
record_end (Some s) = s.params.n * s.params.b

abbrev pub serials_end : Option State → ℕ
serials_end None = 0
serials_end (Some s) = s.params.n

-- room for the largest record, for the serials of as many nodes, and for the longest line
pub record Room (buffer serials line : List ℕ) : Type 0 where
  pub record_room : length buffer ≡ 32768
  pub serials_room : length serials ≡ 32
  pub line_room : length line ≡ 65600

-- a turn with the given line and outcome, in the buffers: behind record, serials and line they are as they were, and at the run's end the first two are as they
-- were
pub record Turned (Result : List ℕ → Outcome → Type 0) (buffer serials line : List ℕ) (t : Turn) (buffer' serials' line' : List ℕ) : Type 0 where
  pub text : List ℕ
  pub result : Result text (outcome_of t.next buffer' serials')
  pub wrote : Wrote text line t.written line'
  pub length_is : length buffer' ≡ length buffer
  pub rest : drop (record_end t.next) buffer' ≡ drop (record_end t.next) buffer
  pub serials_length : length serials' ≡ length serials
  pub serials_rest : drop (serials_end t.next) serials' ≡ drop (serials_end t.next) serials

-- nothing is done with buffers of other lengths, or from a state with parameters that no set-up accepts or a number above 65,536
pub record Idle (buffer serials line : List ℕ) (t : Turn) (buffer' serials' line' : List ℕ) : Type 0 where
  pub ends : t ≡ record { written = 0; next = None }
  pub buffer_kept : buffer' ≡ buffer
  pub serials_kept : serials' ≡ serials
  pub line_kept : line' ≡ line

pub record BeginPost (input buffer serials line : List ℕ) (t : Turn) (buffer' serials' line' : List ℕ) : Type 0 where
  pub served : Room buffer serials line → Turned (Opens input) buffer serials line t buffer' serials' line'
  pub refused : (Room buffer serials line → ⊥) → Idle buffer serials line t buffer' serials' line'

-- what a turn can start from: valid parameters in force, and an event number that can be counted on
pub record Standing (s : State) : Type 0 where
  pub valid : Valid s.params
  pub countable : s.number ≤ 65536

pub record TurnPost (input : List ℕ) (s : State) (buffer serials line : List ℕ) (t : Turn) (buffer' serials' line' : List ℕ) : Type 0 where
  pub served
      : Room buffer serials line × Standing s → Turned (Goes input (place_of s buffer serials)) buffer serials line t buffer' serials' line'
  pub refused : (Room buffer serials line × Standing s → ⊥) → Idle buffer serials line t buffer' serials' line'

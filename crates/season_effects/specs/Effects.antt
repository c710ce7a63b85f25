-- What the functions that take an event's effect promise. Assumes nothing.
use Rattle.std.specs.Prelude.{◌≡◌, List, [], ◌++◌, ℕ, zero, suc, ◌+◌, ◌*◌, ◌≤◌, length, take, drop, Result, Ok, Err}
use Rattle.gates.specs.Valid.{Valid}
use Rattle.gates.specs.Refusals.{answer}
use Rattle.gates.specs.declared.Refusal.{Refusal}
use Rattle.params.specs.Nodes.{size}
use Rattle.params.specs.declared.Params.{Params}
use Rattle.ledger.specs.Ledger.{Step}
use Rattle.season_answers.specs.Answers.{answer_of}
use Rattle.season_file.specs.declared.Span.{Span}
use Rattle.season_file.specs.declared.Event.{Event}
use Rattle.season_file.specs.declared.Event.TheVariants.{Update, Repair, Damage, Decode, Reconfigure}
use Rattle.season_effects.specs.Events.{listed, Prints, held_in}
use Rattle.season_effects.specs.declared.Effect.{Effect}

-- ---- what an event's effect is given; the input and the three buffers by their lengths

-- a stretch of so many bytes, all within the input
pub record Stretch (input : ℕ) (s : Span) (count : ℕ) : Type 0 where
  pub inside : s.at + s.count ≤ input
  pub counted : s.count ≡ count

-- the event's blocks stand within the input and are as long as the parameters in force and its fields say
abbrev pub InFull : Params → ℕ → Event → Type 0
InFull a input (Update f) = Stretch input f.change (a.k * a.b)
InFull a input (Repair f) = Unit {0}
InFull a input (Damage f) = Stretch input f.blocks (size f.nodes.0 * a.b)
InFull a input (Decode f) = Unit {0}
InFull a input (Reconfigure f) = Stretch input f.message (f.shape.k * a.b)

-- the event is accepted, with some serial: only a change's answer depends on it
abbrev pub Accepted : Params → Event → Type 0
Accepted a e = (serial : ℕ) × (answer_of a serial e ≡ 0)

-- a record of valid parameters in a buffer with room for any, serials alike, an event that was read in full, and room for a message or a new record
pub record Ready (a : Params) (input : ℕ) (e : Event) (buffer serials room : ℕ) : Type 0 where
  pub valid : Valid a
  pub found : InFull a input e
  pub record_room : buffer ≡ 32768
  pub serials_room : serials ≡ 32
  pub work_room : room ≡ 32768

-- ---- what it leaves

-- the parameters then in force, the message printed, and the record and the serials at the front of their buffers
pub record Effected (a : Params) (input : List ℕ) (serial : ℕ) (e : Event) (buffer serials : List ℕ) (params : Params)
    (message buffer' serials' : List ℕ) : Type 0 where
  pub prints : Prints (held_in a buffer serials) serial e message
  pub step
      : Step (held_in a buffer serials) (listed (held_in a buffer serials) input serial e) (answer_of a serial e) (held_in params buffer' serials')
  pub length_is : length buffer' ≡ length buffer
  pub rest : drop (params.n * params.b) buffer' ≡ drop (params.n * params.b) buffer
  pub serials_length : length serials' ≡ length serials
  pub serials_rest : drop params.n serials' ≡ drop params.n serials

-- what an event with an answer puts at the front of the room: an accepted reading the message, an accepted rearrangement the new record
abbrev pub laid : ℕ → Event → List ℕ → List ℕ → List ℕ
laid zero (Update _) message codeword = []
laid zero (Repair _) message codeword = []
laid zero (Damage _) message codeword = []
laid zero (Decode _) message codeword = message
laid zero (Reconfigure _) message codeword = codeword
laid (suc _) e message codeword = []

-- with the answer q: the message is the room's front, of as many bytes as the effect says
pub record Taken (a : Params) (input : List ℕ) (serial : ℕ) (e : Event) (buffer serials room : List ℕ) (q : ℕ) (r : Effect)
    (buffer' serials' room' : List ℕ) : Type 0 where
  pub effected : Effected a input serial e buffer serials r.params (take r.printed room') buffer' serials'
  pub printed_fits : r.printed ≤ 32768
  pub work : List ℕ
  pub work_is : work ≡ laid q e (take r.printed room') (held_in r.params buffer' serials').codeword
  pub room_is : room' ≡ work ++ drop (length work) room

-- nothing is done: all is as it was
pub record Still (a : Params) (buffer serials room : List ℕ) (r : Effect) (buffer' serials' room' : List ℕ) : Type 0 where
  pub params_kept : r.params ≡ a
  pub nothing_printed : r.printed ≡ 0
  pub buffer_kept : buffer' ≡ buffer
  pub serials_kept : serials' ≡ serials
  pub room_kept : room' ≡ room

-- what is left, of a refused event too: nothing is printed, and the parameters stay in force
abbrev pub effect_of : Params → Result Effect Refusal → Effect
effect_of a (Ok r) = r
effect_of a (Err _) = record { params = a; printed = 0 }

-- Where the event is ready its effect is taken, which for a refused one is none; otherwise nothing is done. The answer is told in either case.
pub record EffectPost (a : Params) (input : List ℕ) (serial : ℕ) (e : Event) (buffer serials room : List ℕ) (r : Result Effect Refusal)
    (buffer' serials' room' : List ℕ) : Type 0 where
  pub answer_is : answer r ≡ answer_of a serial e
  pub served
      : Ready a (length input) e (length buffer) (length serials) (length room) → Taken a input serial e buffer serials room (answer r) (effect_of a r) buffer' serials' room'
  pub refused
      : (Ready a (length input) e (length buffer) (length serials) (length room) → ⊥) → Still a buffer serials room (effect_of a r) buffer' serials' room'

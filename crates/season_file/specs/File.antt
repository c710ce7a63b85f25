-- The bytes of a season file (document 01, "The season program"; document 02, 2026-04). A byte that the input does not have counts as 00 here; the definitions ask for the
-- length before they use it. Assumes nothing.
use Rattle.std.specs.Prelude.{Bool, true, cond, ◌||◌, List, ℕ, ◌+◌, ◌*◌, ltb, eqb, length, get_or, take, drop, ◌≡◌, Result, Ok, Err, MatchResult}
use Rattle.params.specs.Nodes.{size}
use Rattle.params.specs.declared.Params.{Params}
use Rattle.params.specs.declared.NodeSet.{NodeSet}
use Rattle.season_file.specs.declared.Span.{Span}
use Rattle.season_file.specs.declared.Event.{Event}
use Rattle.season_file.specs.declared.Event.TheVariants.{Update, Repair, Damage, Decode, Reconfigure}
use Rattle.season_file.specs.declared.Kind.{Kind}
use Rattle.season_file.specs.declared.Kind.TheVariants as kind
use Rattle.season_file.specs.declared.UnknownKind.{UnknownKind}
use Rattle.season_file.specs.declared.Header.{Header}
use Rattle.season_file.specs.declared.Found.{Found}
use Rattle.season_file.specs.declared.Fault.{Fault}
use Rattle.season_file.specs.declared.FileFault.{FileFault}
use Rattle.season_file.specs.declared.FileFault.TheVariants.{FirstCount, EndsEarly, KindUnknown, LeftOver}

-- "Numbers have two bytes, choices four, highest byte first."
unfoldable pub number_at : List ℕ → ℕ → ℕ
number_at input at = get_or input at 0 * 256 + get_or input (at + 1) 0

unfoldable pub choice_at : List ℕ → ℕ → ℕ
unfolding number_at
choice_at input at = number_at input at * 65536 + number_at input (at + 2)

-- the bytes of a stretch of the input
abbrev pub bytes_of : List ℕ → Span → List ℕ
bytes_of input s = take s.count (drop s.at input)

abbrev pub set : List ℕ → ℕ → NodeSet
set input at = record { 0 = choice_at input at }

-- the numbers of the file faults: "20 first count is not 5; 21 bytes end early; 22 kind unknown; 23 bytes left over"
abbrev pub number_of : FileFault → ℕ
number_of FirstCount = 20
number_of EndsEarly = 21
number_of KindUnknown = 22
number_of LeftOver = 23

-- ---- the sections before the events

-- "Sections in order, each after its two-byte count: arrangement (count 5: k, r, w, n, B), message (count in bytes), slack (count in bytes), events."
-- The arrangement, ..
abbrev pub params_of : List ℕ → Params
params_of input =
    record {
      k = number_at input 2;
      r = number_at input 4;
      w = number_at input 6;
      n = number_at input 8;
      b = number_at input 10;
    }

-- .. where the slack's count stands, behind the message, ..
abbrev pub slack_count_at : List ℕ → ℕ
slack_count_at input = 14 + number_at input 12

-- .. and where the events' count stands, behind the slack
abbrev pub events_count_at : List ℕ → ℕ
events_count_at input = slack_count_at input + 2 + number_at input (slack_count_at input)

-- "All four counts, and the bytes of the first three sections, are read before the set-up is tried, and a fault among them is event 0's; the first count is
-- tested before anything after it is read." "20 first count is not 5; 21 bytes end early".
unfoldable pub opening_of : List ℕ → Result Header FileFault
opening_of input =
    cond (ltb (length input) 2) (Err EndsEarly)
    (cond (eqb (number_at input 0) 5)
    (cond (ltb (length input) (events_count_at input + 2)) (Err EndsEarly)
    (Ok
    (record {
      params = params_of input;
      message = record { at = 14; count = number_at input 12 };
      slack = record { at = slack_count_at input + 2; count = number_at input (slack_count_at input) };
      events = number_at input (events_count_at input);
      at = events_count_at input + 2;
    })))
    (Err FirstCount))

-- ---- events

-- "An event has a kind 1 to 5, each with its own fields: 1 change; 2 rebuild; 3 damage; 4 reading; 5 rearrangement": what each kind has.
abbrev pub by_kind : {A : Type 0} → ℕ → A → A → A → A → A → A
by_kind kind change rebuild damage reading rearrangement =
    cond (eqb kind 1) change (cond (eqb kind 2) rebuild (cond (eqb kind 3) damage (cond (eqb kind 4) reading rearrangement)))

-- "1 change: W, k·B bytes; 2 rebuild: R, L; .. 4 reading: R; 5 rearrangement: R, k', r', w', n', W', k'·B bytes." "Season event 3 takes a choice in place of one
-- trap, then B bytes for each of its one bits, in rising order, even for bits above n" (document 02, 2026-04).
-- How many bytes the fields before the block bytes have, ..
abbrev pub fixed : ℕ → ℕ
fixed kind = by_kind kind 4 8 4 4 16

-- .. and how many block bytes follow them: "Lengths use the arrangement in force", and B stays in a rearrangement. `at` is where the fields begin.
abbrev pub following : Params → List ℕ → ℕ → ℕ → ℕ
following a input at kind = by_kind kind (a.k * a.b) 0 (size (choice_at input at) * a.b) 0 (number_at input (at + 4) * a.b)

-- the event of a kind from 1 to 5 whose fields begin at `at`
abbrev pub event_at : Params → List ℕ → ℕ → ℕ → Event
event_at a input at kind =
    by_kind kind (Update (record { to = set input at; change = record { at = at + 4; count = following a input at 1 } }))
    (Repair (record { from = set input at; lost = set input (at + 4) }))
    (Damage (record { nodes = set input at; blocks = record { at = at + 4; count = following a input at 3 } }))
    (Decode (record { from = set input at }))
    (Reconfigure
    (record {
      from = set input at;
      shape =
          record {
            k = number_at input (at + 4);
            r = number_at input (at + 6);
            w = number_at input (at + 8);
            n = number_at input (at + 10);
          };
      to = set input (at + 12);
      message = record { at = at + 16; count = following a input at 5 };
    }))

-- the event's kind
abbrev pub kind_of : Event → ℕ
kind_of (Update _) = 1
kind_of (Repair _) = 2
kind_of (Damage _) = 3
kind_of (Decode _) = 4
kind_of (Reconfigure _) = 5

-- where an event whose fields begin at `at` ends
abbrev pub end_of : Params → List ℕ → ℕ → ℕ → ℕ
end_of a input at kind = at + fixed kind + following a input at kind

-- "An event has a kind 1 to 5": any other is unknown
abbrev pub unknown : ℕ → Bool
unknown kind = eqb kind 0 || ltb 5 kind

-- the byte that stands for a kind
abbrev pub code_of : Kind → ℕ
code_of kind.Update = 1
code_of kind.Repair = 2
code_of kind.Damage = 3
code_of kind.Decode = 4
code_of kind.Reconfigure = 5

-- a byte is read as the kind for which it stands, or as unknown
abbrev pub Decodes : ℕ → Result Kind UnknownKind → Type 0
Decodes byte r = MatchResult r (λ kind. code_of kind ≡ byte) (λ e. (e.0 ≡ byte) × (unknown byte ≡ true))

-- a fault, and the kind that its line tells
abbrev pub fault_of : ℕ → FileFault → Fault
fault_of kind fault = record { kind = kind; fault = fault }

-- "All of an event's fields are read before it is tried." "21 bytes end early": what stands behind a known kind, whose fields begin at `at`
unfoldable pub fields_at : Params → List ℕ → ℕ → ℕ → Result Found Fault
fields_at a input at kind =
    cond (ltb (length input) (end_of a input at kind)) (Err (fault_of kind EndsEarly))
    (Ok (record { event = event_at a input at kind; next = end_of a input at kind }))

-- "22 kind unknown", with "its kind (0 if unread)".
unfoldable pub item_at : Params → List ℕ → ℕ → Result Found Fault
unfolding fields_at
item_at a input at =
    cond (ltb at (length input))
    (cond (unknown (get_or input at 0)) (Err (fault_of (get_or input at 0) KindUnknown)) (fields_at a input (at + 1) (get_or input at 0)))
    (Err (fault_of 0 EndsEarly))

-- What the program's calls print is the output of its input: no call is idle, since the buffers keep their room, the parameters in force stay valid, and an event's
-- number and the count of those left never add up to more than 65,536. By induction over the calls. Assumes nothing.
use mathlib.Core.Path.{◌≡◌, refl, sym, ap, ◌∙◌, subst, subst₂}
use mathlib.Core.Logic.{⊎_elim}
use mathlib.Core.List.{List, [], ◌++◌, append_assoc, append-nil}
use Prim.Native.Nat.{ℕ, zero, suc, ◌*◌, ◌≤◌, ◌<◌}
use native.Mathlib.Omega.{arith}
use lib.ListN.{length, take, drop, length-append, length-drop}
use lib.Seq.{take_at}
use Rattle.base.proofs.Cases.{eq-or}
use Rattle.field.specs.Field.{Bytes}
use Rattle.field.proofs.Bytes.{bytes_take}
use Rattle.gates.specs.Valid.{Valid}
use Rattle.ledger.specs.Ledger.{Held, begun}
use Rattle.std.specs.Prelude.{Option, None, Some}
use Rattle.season_lines.specs.Lines.{line_of, Wrote}
use Rattle.season_answers.specs.Answers.{answer_of}
use Rattle.season_file.specs.declared.Event.{Event}
use Rattle.season_file.specs.declared.Event.TheVariants.{Update, Repair, Damage, Decode, Reconfigure}
use Rattle.season_lines.proofs.Decimal.{decimal-short}
use Rattle.season_lines.proofs.Hexadecimal.{message-short}
use Rattle.season_effects.specs.Events.{Prints}
use Rattle.season_run.specs.Season.{Place, Outcome, ended, on, Goes, over, leftover, faulty, tried, Opens, refused, opened, Runs, done, turn}
use Rattle.season_run.specs.Season.{Season, season, FileOutput, place_of, outcome_of, Room, Turned, Standing}
use Rattle.season_run.specs.Program.{Calls, began, turned, Ran}
use Rattle.season_run.specs.declared.State.{State}
use Rattle.season_run.specs.declared.Turn.{Turn}
use Rattle.season_effects.proofs.Fronts.{blocks-room, front-take, front-drop, front_length}
use Rattle.season_run.proofs.Output.{Stands, opens-stands, goes-stands, runs-exist, opens-exist, output-unique}

-- ---- every line has its room

line-fits : (number kind answer : ℕ) (message : List ℕ) → length message ≤ 32768 → length (line_of number kind answer message) ≤ 65600
unfolding line_of
line-fits number kind answer message h =
    simp length-append (omega (arith, decimal-short number, decimal-short kind, decimal-short answer, message-short message))

message-fits : (h : Held) (serial : ℕ) (e : Event) (message : List ℕ) → Valid h.params → Prints h serial e message → length message ≤ 32768
message-fits h serial (Update f) message v p = omega (arith, ap length p)
message-fits h serial (Repair f) message v p = omega (arith, ap length p)
message-fits h serial (Damage f) message v p = omega (arith, ap length p)
message-fits h serial (Decode f) message v p =
    ⊎_elim
    (λ z. omega (arith, (p.served z).gives.pair.message.length_is, blocks-room h.params h.params.k v (omega (arith, v.shape.k_le_r, v.shape.r_le_n))))
    (λ ne. omega (arith, ap length (p.refused ne))) (eq-or (answer_of h.params serial (Decode f)) 0)
message-fits h serial (Reconfigure f) message v p = omega (arith, ap length p)

opens-fits : {input line : List ℕ} {outcome : Outcome} → Opens input line outcome → length line ≤ 65600
opens-fits (faulty fault i) = line-fits 0 0 _ [] (omega arith)
opens-fits (refused hd i ne) = line-fits 0 0 _ [] (omega arith)
opens-fits (opened hd codeword serials i post) = line-fits 0 0 0 [] (omega arith)

goes-fits : {input : List ℕ} {here : Place} {line : List ℕ} {outcome : Outcome} → Valid here.stands.params → Goes input here line outcome → length line ≤ 65600
goes-fits v (over z p) = omega arith
goes-fits v (leftover z p) = line-fits _ 0 23 [] (omega arith)
goes-fits v (faulty more f z i) = line-fits _ f.kind _ [] (omega arith)
goes-fits {here = here} v (tried more f line h' z i t) =
    subst (λ (l : List ℕ). length l ≤ 65600) (sym t.line_is)
    (line-fits _ _ _ t.message (message-fits here.stands here.number f.event t.message v t.prints))

-- what was written is the text, and the line's buffer keeps its length
wrote-text : (text line : List ℕ) (written : ℕ) (line' : List ℕ) → Wrote text line written line' → length line ≡ 65600 → length text ≤ 65600
    → (take written line' ≡ text) × (length line' ≡ 65600)
wrote-text text line written line' w room fits = (
  ap (take written) w.bytes ∙ take_at text (drop (length text) line) written (sym w.count),
  omega (arith, simp length-append at (ap length w.bytes), length-drop (length text) line),
)

-- ---- the count of events

pub goes-next : {input : List ℕ} {here : Place} {line : List ℕ} {here' : Place} → Goes input here line (on here')
    → (here'.number ≡ suc here.number) × (here.left ≡ suc here'.left)
goes-next (tried more f line h' z i t) = (omega arith, z)

-- ---- a turn in the buffers

-- how a run that goes on stands
abbrev StandsAt : Outcome → Type 0
StandsAt ended = Unit {0}
StandsAt (on here) = Stands here

-- a line and an outcome can be laid in them
laid : (Result : List ℕ → Outcome → Type 0) (text : List ℕ) (o : Outcome) (buffer serials line : List ℕ) → Room buffer serials line → Result text o
    → StandsAt o
    → (t : Turn) × (buffer' : List ℕ) × (serials' : List ℕ) × (line' : List ℕ) × Turned Result buffer serials line t buffer' serials' line'
laid Result text ended buffer serials line room r w = (
  record { written = length text; next = None },
  buffer,
  serials,
  text ++ drop (length text) line,
  record {
    text = text;
    result = r;
    wrote = record { count = refl; bytes = refl };
    length_is = refl;
    rest = refl;
    serials_length = refl;
    serials_rest = refl;
  },
)
laid Result text (on here) buffer serials line room r (w, _) =
    let a = here.stands.params in
    let new = here.stands.codeword in
    let numbers = here.stands.serials in
    let fits : a.n * a.b ≤ length buffer = omega (arith, room.record_room, blocks-room a a.n w.valid (omega arith)) in
    let few : a.n ≤ length serials = omega (arith, room.serials_room, w.valid.shape.n_high) in (
      record { written = length text; next = Some (record { params = a; number = here.number; left = here.left; at = here.at }) },
      new ++ drop (a.n * a.b) buffer,
      numbers ++ drop a.n serials,
      text ++ drop (length text) line,
      record {
        text = text;
        result =
            subst₂
            (λ (l k : List ℕ). Result text (on (record { stands = begun a l k; number = here.number; left = here.left; at = here.at })))
            (sym (front-take (a.n * a.b) buffer new fits w.length_is)) (sym (front-take a.n serials numbers few w.serials_length)) r;
        wrote = record { count = refl; bytes = refl };
        length_is = front_length (a.n * a.b) buffer new fits w.length_is;
        rest = front-drop (a.n * a.b) buffer new fits w.length_is;
        serials_length = front_length a.n serials numbers few w.serials_length;
        serials_rest = front-drop a.n serials numbers few w.serials_length;
      },
    )

first-turn : {input rest : List ℕ} {here : Place} → Runs input (on here) rest → (line : List ℕ) × (outcome : Outcome) × Goes input here line outcome
first-turn (turn g r) = (_, _, g)

-- ---- along the calls

standing : (s : State) (buffer serials : List ℕ) → Stands (place_of s buffer serials) → Standing s
standing s buffer serials (w, c) = record { valid = w.valid; countable = omega arith }

module _ (input : List ℕ) (bytes : Bytes input) where
  opens-to : {line : List ℕ} (o : Outcome) → Opens input line o → StandsAt o
  opens-to ended h = tt
  opens-to (on here) h = opens-stands input bytes h

  goes_to : {line : List ℕ} {here : Place} (o : Outcome) → Stands here → Goes input here line o → StandsAt o
  goes_to ended w g = tt
  goes_to (on here) w g = goes-stands input bytes w g

  stands-runs : (o : Outcome) → StandsAt o → (rest : List ℕ) × Runs input o rest
  stands-runs ended h = ([], done)
  stands-runs (on here) h = runs-exist input bytes here.left here refl h

  -- the room is there, the run stands well, and what is printed goes on to an output by every run from here
  record Along (printed : List ℕ) (n : Option State) (buffer serials line : List ℕ) : Type 0 where
    room : Room buffer serials line
    stands : StandsAt (outcome_of n buffer serials)
    goes_on : (rest : List ℕ) → Runs input (outcome_of n buffer serials) rest → Season input (printed ++ rest)

  along : {buffer serials line printed : List ℕ} {n : Option State} {buffer' serials' line' : List ℕ} → Room buffer serials line
      → Calls input buffer serials line printed n buffer' serials' line' → Along printed n buffer' serials' line'
  along {line = line} room (began {t} {line' = line'} post) =
      let r = post.served room in
      let w = wrote-text r.text line t.written line' r.wrote room.line_room (opens-fits r.result) in
      record {
        room = record { record_room = r.length_is ∙ room.record_room; serials_room = r.serials_length ∙ room.serials_room; line_room = w.1 };
        stands = opens-to _ r.result;
        goes_on = λ rest runs. subst (λ (l : List ℕ). Season input (l ++ rest)) (sym w.0) (season r.result runs);
      }
  along room (turned {printed = printed} {s = s} {buffer' = old} {serials' = serials} {line' = line} {t = t} {line'' = line'} calls post) =
      let a = along room calls in
      let r = post.served (a.room, standing s old serials a.stands) in
      let w = wrote-text r.text line t.written line' r.wrote a.room.line_room (goes-fits a.stands.0.valid r.result) in
      record {
        room =
            record { record_room = r.length_is ∙ a.room.record_room; serials_room = r.serials_length ∙ a.room.serials_room; line_room = w.1 };
        stands = goes_to _ a.stands r.result;
        goes_on =
            λ rest runs.
            subst (λ (l : List ℕ). Season input ((printed ++ l) ++ rest)) (sym w.0)
            (subst (Season input) (sym (append_assoc printed r.text rest)) (a.goes_on (r.text ++ rest) (turn r.result runs)));
      }

  module _ {buffer serials line : List ℕ} (room : Room buffer serials line) where
    -- No call is idle: wherever the calls get, the buffers have their room and a turn can start.
    pub program-stands : {printed : List ℕ} {s : State} {buffer' serials' line' : List ℕ}
        → Calls input buffer serials line printed (Some s) buffer' serials' line' → Room buffer' serials' line' × Standing s
    program-stands {s = s} {buffer' = buffer'} {serials' = serials'} calls =
        let a = along room calls in (a.room, standing s buffer' serials' a.stands)

    -- What the calls have printed is the front of the output, ..
    pub program-prefix : {printed : List ℕ} {n : Option State} {buffer' serials' line' : List ℕ}
        → Calls input buffer serials line printed n buffer' serials' line' → (rest : List ℕ) × Season input (printed ++ rest)
    program-prefix {n = n} {buffer' = buffer'} {serials' = serials'} calls =
        let a = along room calls in let r = stands-runs (outcome_of n buffer' serials') a.stands in (r.0, a.goes_on r.0 r.1)

    -- .. and when the run ends, the output.
    pub program-output : {output : List ℕ} → Ran input buffer serials line output → Season input output
    program-output {output} ran = subst (Season input) (append-nil output) ((along room ran.calls).goes_on [] done)

    -- ---- there is such a run

    -- from a place with fewer than so many events left
    abbrev Below : Option State → ℕ → Type 0
    Below None n = Unit {0}
    Below (Some s) n = s.left < n

    fewer : {text : List ℕ} (here : Place) (m : Option State) (buffer' serials' : List ℕ) (n : ℕ) → here.left < suc n
        → Goes input here text (outcome_of m buffer' serials') → Below m n
    fewer here None buffer' serials' n h g = tt
    fewer here (Some s') buffer' serials' n h g = omega (arith, (goes-next g).1)

    abbrev Ends : Option State → Type 0
    Ends m = (printed buffer' serials' line' : List ℕ) → Calls input buffer serials line printed m buffer' serials' line'
        → (output : List ℕ) × Ran input buffer serials line output

    ends_now : Ends None
    ends_now printed buffer' serials' line' calls =
        (printed, record { buffer_left = buffer'; serials_left = serials'; line_left = line'; calls = calls })

    -- one turn more, whatever it leaves
    ends-after : (n : ℕ) → ((m : Option State) → Below m n → Ends m) → {printed : List ℕ} {s : State} {buffer' serials' line' : List ℕ} → s.left < suc n
        → Calls input buffer serials line printed (Some s) buffer' serials' line' → (t : Turn) (buffer'' serials'' line'' : List ℕ)
        → Turned (Goes input (place_of s buffer' serials')) buffer' serials' line' t buffer'' serials'' line''
        → (output : List ℕ) × Ran input buffer serials line output
    ends-after n again {s = s} {buffer' = buffer'} {serials' = serials'} h calls t buffer'' serials'' line'' r =
        again t.next (fewer (place_of s buffer' serials') t.next buffer'' serials'' n h r.result) _ buffer'' serials'' line''
        (turned {t = t} calls (record { served = λ _. r; refused = λ ne. absurd (ne (program-stands calls)) }))

    ends_more : (n : ℕ) → ((m : Option State) → Below m n → Ends m) → (m : Option State) → Below m (suc n) → Ends m
    ends_more n again None h printed buffer' serials' line' calls = ends_now printed buffer' serials' line' calls
    ends_more n again (Some s) h printed buffer' serials' line' calls =
        let a = along room calls in
        let here = place_of s buffer' serials' in
        let g = first-turn (stands-runs (on here) a.stands).1 in
        let r = laid (Goes input here) g.0 g.1 buffer' serials' line' a.room g.2 (goes_to g.1 a.stands g.2) in
        ends-after n again h calls r.0 r.1 r.2 r.3 r.4

    ends-below : (n : ℕ) (m : Option State) → Below m n → Ends m
    ends-below zero None h = ends_now
    ends-below zero (Some s) h = absurd (omega arith)
    ends-below (suc n) m h = ends_more n (ends-below n) m h

    ends-from : (m : Option State) → Ends m
    ends-from None = ends_now
    ends-from (Some s) = ends-below (suc s.left) (Some s) (omega arith)

    -- There are calls that meet the contracts and lead to the end.
    pub program-ends : (output : List ℕ) × Ran input buffer serials line output
    program-ends =
        let o = opens-exist input bytes in
        let r = laid (Opens input) o.0 o.1 buffer serials line room o.2 (opens-to o.1 o.2) in
        ends-from r.0.next _ r.1 r.2 r.3 (began {t = r.0} (record { served = λ _. r.4; refused = λ ne. absurd (ne room) }))

-- The program on a file of any length, of which it reads 65,535 bytes: it prints the one output.
pub file-printed : (file : List ℕ) → Bytes file → {buffer serials line output : List ℕ} → Room buffer serials line
    → Ran (take 65535 file) buffer serials line output → FileOutput file output × ((other : List ℕ) → FileOutput file other → other ≡ output)
file-printed file bytes room ran =
    let o = program-output (take 65535 file) (bytes_take 65535 file bytes) room ran in (o, λ other h. output-unique h o)

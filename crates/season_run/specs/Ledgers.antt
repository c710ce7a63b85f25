-- The ledger machine along a season's run (document 01, "The ledger machine"): the list of the events so far, what the machine then holds, and what demand 3
-- asks of such a list. What document 02, 2026-03, asks of the serials of a list is not asked here: it holds of every run (proofs/LedgerRun.antt). Assumes nothing.
use Rattle.std.specs.Prelude.{◌≡◌, List, [], ◌∷◌, ◌++◌, ℕ, Ok}
use Rattle.ledger.specs.Ledger.{Machine, encode, update, repair, reconfigure, decode, delta, check, view, Event, call, damage, stepped, Undamaged}
use Rattle.ledger.specs.Ledger as ledger
use Rattle.season_file.specs.File.{bytes_of, opening_of, item_at}
use Rattle.season_answers.specs.Answers.{answer_of}
use Rattle.season_file.specs.declared.Header.{Header}
use Rattle.season_file.specs.declared.Found.{Found}
use Rattle.season_effects.specs.Events.{listed}
use Rattle.season_run.specs.Season.{Place, on, Opens, Goes}

-- the event found at a place, as one of the list
abbrev pub listed_at : List ℕ → Place → Found → Event
listed_at input here f = listed here.stands input here.number f.event

-- .. and the answer that it prints
abbrev pub answer_at : Place → Found → ℕ
answer_at here f = answer_of here.stands.params here.number f.event

-- The run of the input got to a place: the list of the events tried so far, in order, and what the machine holds after them. The opening set-up, which puts
-- the message in the ledger, stands before the list.
pub data Reached (input : List ℕ) : List Event → Place → Machine → Type 0 where
  opened : {line : List ℕ} {here : Place} (hd : Header) → opening_of input ≡ Ok hd → Opens input line (on here)
      → Reached input [] here (ledger.opened hd.params (bytes_of input hd.message))
  tried : {events : List Event} {here here' : Place} {m : Machine} {line : List ℕ} (f : Found) → Reached input events here m
      → item_at here.stands.params input here.at ≡ Ok f → Goes input here line (on here')
      → Reached input (events ++ listed_at input here f ∷ []) here' (stepped (answer_at here f) m (listed_at input here f))

-- "Accepted rebuilds and rearrangements read undamaged traps only": R holds no damaged node of the machine, which has not yet taken the event.
abbrev pub FromUndamaged : Machine → Event → Type 0
FromUndamaged m (call g (repair from lost)) = Undamaged m from
FromUndamaged m (call g (reconfigure t buffer numbers x from to)) = Undamaged m from
FromUndamaged m (call g (encode x v)) = Unit {0}
FromUndamaged m (call g (update d to serial reached)) = Unit {0}
FromUndamaged m (call g (decode buffer from)) = Unit {0}
FromUndamaged m (call g (delta d buffer to)) = Unit {0}
FromUndamaged m (call g (check budget)) = Unit {0}
FromUndamaged m (call g (view node)) = Unit {0}
FromUndamaged m (damage nodes bytes) = Unit {0}

-- .. at each event of the run so far
abbrev pub ReadsUndamaged : {input : List ℕ} {events : List Event} {here : Place} {m : Machine} → Reached input events here m → Type 0
ReadsUndamaged (opened hd e o) = Unit {0}
ReadsUndamaged {input} (tried {here = here} {m = m} f r e g) =
    ReadsUndamaged r × (answer_at here f ≡ 0 → FromUndamaged m (listed_at input here f))

-- Wherever the program's calls get, the ledger machine has followed: each call's result is a turn of the run, and a turn that goes on is an event tried. So what is
-- proved of a run's places (LedgerRun.antt, WholeChanges.antt) is said of the program. Assumes nothing.
use mathlib.Core.List.{List, []}
use Prim.Native.Nat.{ℕ}
use Rattle.field.specs.Field.{Bytes}
use Rattle.ledger.specs.Ledger.{Machine, Event}
use Rattle.std.specs.Prelude.{Option, None, Some}
use Rattle.season_run.specs.declared.State.{State}
use Rattle.season_run.specs.Season.{Place, on, Goes, Opens, place_of, outcome_of, Room}
use Rattle.season_run.specs.Season as season
use Rattle.season_run.specs.Ledgers.{Reached, opened, tried}
use Rattle.season_run.specs.Program.{Calls, began, turned}
use Rattle.season_run.proofs.Program.{program-stands}

module _ (input : List ℕ) (bytes : Bytes input) where
  opens-reached : {line : List ℕ} {here : Place} → Opens input line (on here) → (m : Machine) × Reached input [] here m
  opens-reached (season.opened hd codeword serials i post) = (_, opened hd i (season.opened hd codeword serials i post))

  goes-reached : {here : Place} {line : List ℕ} {here' : Place} {events : List Event} {m : Machine} → Reached input events here m → Goes input here line (on here')
      → (events' : List Event) × (m' : Machine) × Reached input events' here' m'
  goes-reached r (season.tried more f line h' z i t) = (_, _, tried f r i (season.tried more f line h' z i t))

  -- where a call says that the run goes on, it has got to that place, by some list of events
  abbrev pub ReachedAt : Option State → List ℕ → List ℕ → Type 0
  ReachedAt None buffer serials = Unit {0}
  ReachedAt (Some s) buffer serials = (events : List Event) × (m : Machine) × Reached input events (place_of s buffer serials) m

  by-opens : (n : Option State) (buffer serials : List ℕ) {line : List ℕ} → Opens input line (outcome_of n buffer serials) → ReachedAt n buffer serials
  by-opens None buffer serials o = tt
  by-opens (Some s) buffer serials o = let r = opens-reached o in ([], r.0, r.1)

  by-goes : (n : Option State) (buffer serials : List ℕ) {line : List ℕ} {here : Place} {events : List Event} {m : Machine} → Reached input events here m
      → Goes input here line (outcome_of n buffer serials) → ReachedAt n buffer serials
  by-goes None buffer serials r g = tt
  by-goes (Some s) buffer serials r g = goes-reached r g

  module _ {buffer serials line : List ℕ} (room : Room buffer serials line) where
    pub program-reached : {printed : List ℕ} {n : Option State} {buffer' serials' line' : List ℕ} → Calls input buffer serials line printed n buffer' serials' line'
        → ReachedAt n buffer' serials'
    program-reached {n = n} {buffer' = buffer'} {serials' = serials'} (began post) = by-opens n buffer' serials' (post.served room).result
    program-reached {n = n} {buffer' = buffer'} {serials' = serials'} (turned calls post) =
        by-goes n buffer' serials' (program-reached calls).2 (post.served (program-stands input bytes room calls)).result

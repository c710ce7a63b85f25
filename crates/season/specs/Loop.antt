-- What the program's loop promises. Assumes nothing.
use Rattle.std.specs.Prelude.{◌≡◌, Bool, true, Option, List, ◌++◌, ℕ}
use Rattle.std.specs.Io.KnownBytes.{Appends}
use Rattle.season_run.specs.Season.{Season}
use Rattle.season_run.specs.Program.{Calls}
use Rattle.season_run.specs.declared.State.{State}

-- The program's calls were made one after the other in the buffers. What their lines hold is the front of the input's output; all of it, if they were written.
-- That they were not only after a write that failed is not said. The gate runs the program.
pub record Printed (input buffer serials line : List ℕ) (written : Bool) (buffer' serials' line' : List ℕ) : Type 0 where
  pub lines : List ℕ
  pub next : Option State
  pub calls : Calls input buffer serials line lines next buffer' serials' line'
  pub front : (rest : List ℕ) × Season input (lines ++ rest)
  pub all : written ≡ true → Season input lines

-- The writer was given the input's whole output: what it holds, where it says what that is, went on by that. (Standard output does not say.)
pub record HandedOver (input : List ℕ) (old new : Option (List ℕ)) : Type 0 where
  pub output : List ℕ
  pub season : Season input output
  pub appended : Appends old new output

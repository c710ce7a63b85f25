-- The season program (document 01): its calls, one after the other, and what they print. Assumes nothing.
use Rattle.std.specs.Prelude.{List, ◌++◌, take, ℕ, Option, None, Some}
use Rattle.season_run.specs.Season.{BeginPost, TurnPost}
use Rattle.season_run.specs.declared.State.{State}
use Rattle.season_run.specs.declared.Turn.{Turn}

-- `begin`, and then `turn` as long as the call before says that the run goes on, each in the buffers as the call before left them: what they printed, how the
-- run goes on, and the buffers. A call prints as many bytes from the front of the line's buffer as it says that it wrote.
pub data Calls (input buffer serials line : List ℕ) : List ℕ → Option State → List ℕ → List ℕ → List ℕ → Type 0 where
  began : {t : Turn} {buffer' serials' line' : List ℕ} → BeginPost input buffer serials line t buffer' serials' line'
      → Calls input buffer serials line (take t.written line') t.next buffer' serials' line'
  turned : {printed : List ℕ} {s : State} {buffer' serials' line' : List ℕ} {t : Turn} {buffer'' serials'' line'' : List ℕ}
      → Calls input buffer serials line printed (Some s) buffer' serials' line' → TurnPost input s buffer' serials' line' t buffer'' serials'' line''
      → Calls input buffer serials line (printed ++ take t.written line'') t.next buffer'' serials'' line''

-- The whole run: the last call said that it ends.
pub record Ran (input buffer serials line output : List ℕ) : Type 0 where
  pub buffer_left : List ℕ
  pub serials_left : List ℕ
  pub line_left : List ℕ
  pub calls : Calls input buffer serials line output None buffer_left serials_left line_left

-- The program's calls one by one: the bytes to write lie within the line, each turn leaves fewer events, and what the calls gave to be written is the front of
-- the output, and all of it at the end. Assumes nothing.
use mathlib.Core.Path.{◌≡◌, sym, ap, subst}
use mathlib.Core.Bool.{Bool, true, false, true≢false}
use mathlib.Core.List.{List}
use Prim.Native.Nat.{ℕ, suc, ◌≤◌}
use native.Mathlib.Omega.{arith}
use lib.ListN.{length, length-append}
use Rattle.field.specs.Field.{Bytes}
use Rattle.season_lines.specs.Lines.{Wrote}
use Rattle.season_run.specs.Season.{Season, Goes, place_of, outcome_of, Room, BeginPost, TurnPost}
use Rattle.season_run.specs.Program.{Calls}
use Rattle.season_run.specs.declared.State.{State}
use Rattle.season_run.specs.declared.Turn.{Turn}
use Rattle.season_run.proofs.Program.{goes-next, program-stands, program-prefix, program-output}
use Rattle.std.specs.Prelude.{Option, None, Some, Result, Ok, Err, IsErr, is_ok}
use Rattle.std.specs.Io.KnownBytes.{Appends}
use Rattle.season.specs.Loop.{Printed, HandedOver}

wrote-within : (text old : List ℕ) (written : ℕ) (new : List ℕ) → Wrote text old written new → written ≤ length new
wrote-within text old written new w = omega (arith, w.count, simp length-append at (ap length w.bytes))

-- the turns that are left at most: one more than the events
abbrev pub left : Option State → ℕ
left None = 0
left (Some s) = suc s.left

-- how the run goes on, by another name
pub onto : {input buffer serials line lines : List ℕ} {n n' : Option State} {buffer' serials' line' : List ℕ} → n ≡ n'
    → Calls input buffer serials line lines n buffer' serials' line' → Calls input buffer serials line lines n' buffer' serials' line'
onto {input} {buffer} {serials} {line} {lines} {buffer' = buffer'} {serials' = serials'} {line' = line'} e =
    subst (λ (n : Option State). Calls input buffer serials line lines n buffer' serials' line') e

module _ (input buffer serials line : List ℕ) (bytes : Bytes input) (room : Room buffer serials line) where
  pub begin-within : (t : Turn) (buffer' serials' line' : List ℕ) → BeginPost input buffer serials line t buffer' serials' line' → t.written ≤ length line'
  begin-within t buffer' serials' line' post = let r = post.served room in wrote-within r.text line t.written line' r.wrote

  module _ (s : State) (lines buffer' serials' line' : List ℕ) (calls : Calls input buffer serials line lines (Some s) buffer' serials' line') (t : Turn)
      (buffer'' serials'' line'' : List ℕ) (post : TurnPost input s buffer' serials' line' t buffer'' serials'' line'') where
    pub turn-within : t.written ≤ length line''
    turn-within = let r = post.served (program-stands input bytes room calls) in wrote-within r.text line' t.written line'' r.wrote

    pub turn-fewer : left t.next ≤ s.left
    turn-fewer = let r = post.served (program-stands input bytes room calls) in fewer t.next r.text r.result
      where
        fewer : (n : Option State) (text : List ℕ) → Goes input (place_of s buffer' serials') text (outcome_of n buffer'' serials'') → left n ≤ s.left
        fewer None text g = omega arith
        fewer (Some s') text g = omega (arith, (goes-next g).1)

  module _ (n : Option State) (lines buffer' serials' line' : List ℕ) (calls : Calls input buffer serials line lines n buffer' serials' line') where
    printed : (all : Bool) → (all ≡ true → Season input lines) → Printed input buffer serials line all buffer' serials' line'
    printed all whole = record { lines = lines; next = n; calls = calls; front = program-prefix input bytes room calls; all = whole }

    -- the run stops here with an error, ..
    pub stopped : {A E : Type 0} (r : Result A E) → IsErr r → Printed input buffer serials line (is_ok r) buffer' serials' line'
    stopped (Ok x) e = absurd (true≢false (sym e))
    stopped (Err x) e = printed false (λ e. absurd (true≢false (sym e)))

    -- .. or ends here
    pub finished : n ≡ None → Printed input buffer serials line true buffer' serials' line'
    finished e =
        printed true
        (λ _.
        program-output input bytes room
        (record { buffer_left = buffer'; serials_left = serials'; line_left = line'; calls = onto e calls }))

    -- .. its lines given to a writer
    pub handed : n ≡ None → {old new : Option (List ℕ)} → Appends old new lines → HandedOver input old new
    handed e a =
        record {
          output = lines;
          season =
              program-output input bytes room
              (record { buffer_left = buffer'; serials_left = serials'; line_left = line'; calls = onto e calls });
          appended = a;
        }

-- A kind that is none of 1 to 4 has what the last case says, by the tests. Assumes nothing.
use mathlib.Core.Path.{◌≡◌}
use Prim.Native.Nat.{ℕ}
use borrow.Author.Tests.{ne_eqb}
use Rattle.season_file.specs.File.{by_kind}

-- none of 1 to 4, as a match tells it
abbrev pub Last : ℕ → Type 0
Last kind = (((Unit {0} × (kind ≡ 1 → ⊥)) × (kind ≡ 2 → ⊥)) × (kind ≡ 3 → ⊥)) × (kind ≡ 4 → ⊥)

pub last-kind : {A : Type 0} (kind : ℕ) (change rebuild damage reading rearrangement : A) → Last kind
    → by_kind kind change rebuild damage reading rearrangement ≡ rearrangement
last-kind kind change rebuild damage reading rearrangement h =
    simp (ne_eqb kind 1 h.0.0.0.1, ne_eqb kind 2 h.0.0.1, ne_eqb kind 3 h.0.1, ne_eqb kind 4 h.1)

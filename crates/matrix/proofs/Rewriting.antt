-- A row is rewritten, and its entries are bytes. Assumes nothing.
use mathlib.Core.Path.{◌≡◌, sym, ap, ◌∙◌, subst}
use mathlib.Core.List.{List}
use mathlib.Core.Logic.{⊎_elim}
use Prim.Native.Nat.{ℕ, ◌+◌, ◌<◌}
use lib.ListN.{length, get_or, set}
use lib.Seq.{get_or-set_same, get_or-set_other}
use Rattle.base.proofs.Cases.{eq-or}
use Rattle.field.specs.Field.{IsByte, Bytes, add, mul}
use Rattle.matrix.specs.Working.{grid, row_plus, Rewritten}

-- c times the copy of a row is c times the row
pub by_copy : (s i c p : ℕ) (old new : List (List ℕ)) (row : ℕ → ℕ) → ((k : ℕ) → k < s + s → row k ≡ grid old p k)
    → Rewritten s i old new (row_plus old i c row) → Rewritten s i old new (row_plus old i c (grid old p))
by_copy s i c p old new row e r =
    record { done = λ k hk. r.done k hk ∙ ap (λ (x : ℕ). add (grid old i k) (mul c x)) (e k hk); others = r.others }

pub bytes-set : (xs : List ℕ) (i v : ℕ) → i < length xs → IsByte v → Bytes xs → Bytes (set xs i v)
bytes-set xs i v hi hv known k =
    ⊎_elim (λ q. subst IsByte (sym (ap (λ (x : ℕ). get_or (set xs i v) x 0) q ∙ get_or-set_same xs i v 0 hi)) hv)
    (λ ne. subst IsByte (sym (get_or-set_other xs i k v 0 ne)) (known k))
    (eq-or k i)

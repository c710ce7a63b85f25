-- Lists of bytes: what is put together of bytes, or cut off a list of them, has bytes for its entries. Assumes nothing.
use mathlib.Core.Path.{◌≡◌, sym, subst}
use mathlib.Core.List.{List}
use mathlib.Core.Logic.{⊎_elim}
use Prim.Native.Nat.{ℕ, ◌+◌, ◌*◌, ◌/◌, ◌%◌, ◌≤◌, ◌<◌}
use native.Mathlib.Omega.{arith}
use lib.ListN.{get_or, take, drop, length-take, get_or-eq_default}
use lib.Seq.{get_or-take, get_or-drop}
use Rattle.base.specs.Seq.{tabulate, cell, blocks}
use Rattle.base.proofs.Seq.{get_d_tabulate, get_or-tabulate-past}
use Rattle.base.proofs.Cases.{lt-or}
use Rattle.field.specs.Field.{IsByte, Bytes}

pub bytes-tabulate : (n : ℕ) (f : ℕ → ℕ) → ((i : ℕ) → i < n → IsByte (f i)) → Bytes (tabulate n f)
bytes-tabulate n f h i =
    ⊎_elim (λ hi. subst IsByte (sym (get_d_tabulate n f i hi)) (h i hi))
    (λ hi. subst IsByte (sym (get_or-tabulate-past n f i hi)) (omega arith)) (lt-or i n)

pub bytes-blocks : (b n : ℕ) (f : ℕ → ℕ → ℕ) → ((j p : ℕ) → IsByte (f j p)) → Bytes (blocks b n f)
unfolding blocks
bytes-blocks b n f h = bytes-tabulate (n * b) (λ i. f (i / b) (i % b)) (λ i hi. h (i / b) (i % b))

pub bytes_take : (n : ℕ) (l : List ℕ) → Bytes l → Bytes (take n l)
bytes_take n l h i =
    ⊎_elim (λ hi. subst IsByte (sym (get_or-take n l i 0 hi)) (h i)) (λ hi. subst IsByte (sym (past hi)) (omega arith)) (lt-or i n)
  where
    past : n ≤ i → get_or (take n l) i 0 ≡ 0
    past hi = get_or-eq_default (take n l) 0 (omega (arith, length-take n l))

pub bytes_drop : (n : ℕ) (l : List ℕ) → Bytes l → Bytes (drop n l)
bytes_drop n l h i = subst IsByte (sym (get_or-drop n l i 0)) (h (n + i))

pub cell-byte : (b : ℕ) (l : List ℕ) (j p : ℕ) → Bytes l → IsByte (cell b l j p)
unfolding cell
cell-byte b l j p h = h (j * b + p)

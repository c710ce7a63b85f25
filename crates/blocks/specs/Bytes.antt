-- What adding, copying and comparing blocks computes, for slices of any lengths. Assumes nothing.
use Rattle.std.specs.Prelude.{◌≡◌, Bool, true, false, List, ℕ, length, get_or}
use Rattle.base.specs.Seq.{tabulate}

-- ys laid over xs: byte p is that of ys, or that of xs where ys has none
unfoldable pub over : List ℕ → List ℕ → List ℕ
over xs ys = tabulate (length xs) (λ p. get_or ys p (get_or xs p 0))

-- whether two blocks differ, as a test
pub record Compared (xs ys : List ℕ) (answer : Bool) : Type 0 where
  pub same : answer ≡ false → xs ≡ ys
  pub other : answer ≡ true → xs ≡ ys → ⊥

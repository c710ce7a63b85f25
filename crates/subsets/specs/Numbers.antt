-- The next number with as many one bits. Assumes nothing.
use Rattle.std.specs.Prelude.{◌≡◌, ℕ, ◌<◌}
use Rattle.params.specs.Nodes.{size}

-- Of the numbers of s's size, t is the first above s.
pub record Above (s t : ℕ) : Type 0 where
  pub more : s < t
  pub same_size : size t ≡ size s
  pub none_between : (u : ℕ) → s < u → u < t → size u ≡ size s → ⊥

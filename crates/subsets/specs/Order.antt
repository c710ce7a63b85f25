-- The order in which node sets are tried (document 02, 2026-06), and how many come before one. Assumes nothing.
use Rattle.std.specs.Prelude.{◌≡◌, Bool, true, ◌&&◌, ◌||◌, ℕ, zero, suc, ◌+◌, ◌^◌, ◌≤◌, ◌<◌, ltb, eqb}
use Rattle.base.specs.Seq.{one}
use Rattle.params.specs.Nodes.{size, within}

-- "It tries sets by size from 0, within a size by lowest choice number": whether s comes before t.
unfoldable pub before : ℕ → ℕ → Bool
before s t = ltb (size s) (size t) || (eqb (size s) (size t) && ltb s t)

-- How many of the numbers below m pass the test.
unfoldable pub how_many : (ℕ → Bool) → ℕ → ℕ
how_many f zero = 0
how_many f (suc m) = how_many f m + one (f m)

-- How many of the sets of nodes of 1..n come before s.
unfoldable pub earlier : ℕ → ℕ → ℕ
earlier n s = how_many (λ t. before t s) (2 ^ n)

-- Of the sets of nodes of 1..n, t is the first behind s.
pub record Next (n s t : ℕ) : Type 0 where
  pub inside : within n t ≡ true
  pub behind : before s t ≡ true
  pub none_between : (u : ℕ) → within n u ≡ true → before s u ≡ true → before u t ≡ true → ⊥

-- Where n is at most 32, and s has only nodes of 1..n and not all of them, some set comes behind it.
pub record Passable (n s : ℕ) : Type 0 where
  pub n_high : n ≤ 32
  pub inside : within n s ≡ true
  pub not_all : size s < n

-- The first set behind s; s itself where there is none.
pub record NextPost (n s t : ℕ) : Type 0 where
  pub next : Passable n s → Next n s t
  pub kept : (Passable n s → ⊥) → t ≡ s

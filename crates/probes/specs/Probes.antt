-- Byte places at which sets failed, and the bytes there, for contracts of functions inside the library: no post-condition of a call rests on these names.
-- Assumes nothing.
use Rattle.std.specs.Prelude.{◌≡◌, true, List, ℕ, ◌+◌, ◌-◌, ◌*◌, ◌/◌, ◌%◌, ◌≤◌, ◌<◌, length, get_or}
use Rattle.base.specs.Seq.{cell}
use Rattle.params.specs.Nodes.{size, within}
use Rattle.params.specs.Params.{working}
use Rattle.params.specs.declared.Params.{Params}
use Rattle.gates.specs.Valid.{Valid}
use Rattle.code.specs.Calls.{Serves}
use Rattle.probes.specs.declared.Outcome.{Outcome}
use Rattle.probes.specs.declared.Outcome.TheVariants as outcome

-- the code for blocks of so many bytes
abbrev pub probe : Params → ℕ → Params
probe a probes = record { k = a.k; r = a.r; w = a.w; n = a.n; b = probes }

-- what trying a set at probes asks: the set leaves q nodes, and fresh has room for the blocks of the nodes behind the first q, which have a byte for each probe
pub record Probeable (a : Params) (s probes fresh : ℕ) : Type 0 where
  pub valid : Valid a
  pub most : probes ≤ a.b
  pub inside : within a.n s ≡ true
  pub few : size s + working a ≤ a.n
  pub room : (a.n - working a) * a.b ≤ fresh

-- the places, and the byte of each node's block at each of them
pub record Probed (a : Params) (codeword : List ℕ) (probes : ℕ) (places picked : List ℕ) : Type 0 where
  pub most : probes ≤ a.b
  pub inside : (i : ℕ) → i < probes → get_or places i 0 < a.b
  pub holds : (j i : ℕ) → j < a.n → i < probes → cell probes picked j i ≡ cell a.b codeword j (get_or places i 0)

-- what trying a set tells
abbrev pub Trial : Params → ℕ → List ℕ → List ℕ → List ℕ → Outcome → Type 0
Trial a s codeword places picked outcome.Serves = Serves a codeword s
Trial a s codeword places picked (outcome.Fails probes) = (Serves a codeword s → ⊥) × Probed a codeword probes places picked

-- how many probes there are once a set was tried
abbrev pub probes_then : ℕ → Outcome → ℕ
probes_then probes outcome.Serves = probes
probes_then probes (outcome.Fails count) = count

-- what picking bytes asks of the lengths: codeword has n blocks, and picked has room
pub record PickAsks (a : Params) (codeword places picked : ℕ) : Type 0 where
  pub codeword_length : codeword ≡ a.n * a.b
  pub n_high : a.n ≤ 32
  pub most : places ≤ 32
  pub room : picked ≡ 1024

-- each is the place of a byte of a block
abbrev pub PlacesIn : ℕ → List ℕ → Type 0
PlacesIn b places = (i : ℕ) → i < length places → get_or places i 0 < b

-- the bytes at the places of each node's block, one node after the other
abbrev pub picked_byte : Params → List ℕ → List ℕ → ℕ → ℕ
picked_byte a codeword places t = cell a.b codeword (t / length places) (get_or places (t % length places) 0)

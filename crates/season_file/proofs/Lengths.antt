-- Where an event ends is told by k, B and its own bytes; n has no part in it, and is asked only when the event is tried. Assumes nothing.
use mathlib.Core.Path.{◌≡◌, ap, ap₂, ◌∙◌}
use mathlib.Core.List.{List}
use Prim.Native.Nat.{ℕ, ◌-◌, ◌*◌, ◌^◌}
use lib.Count.{ones-ones}
use Rattle.params.specs.Nodes.{size}
use Rattle.params.specs.declared.Params.{Params}
use Rattle.season_file.specs.File.{choice_at, following, fields_at, item_at}

pub item-by-k-and-b : (a a' : Params) → a.k ≡ a'.k → a.b ≡ a'.b → (input : List ℕ) (at : ℕ) → item_at a input at ≡ item_at a' input at
unfolding item_at fields_at
item-by-k-and-b a a' k b input at = ap₂ (λ (x y : ℕ). item_at (record { k = x; r = 0; w = 0; n = 0; b = y }) input at) k b

-- So FFFFFFFF has 32 blocks behind it, whatever n.
pub full-box : (a : Params) (input : List ℕ) (at : ℕ) → choice_at input at ≡ 2 ^ 32 - 1 → following a input at 3 ≡ 32 * a.b
unfolding size
full-box a input at e = ap (λ (m : ℕ). m * a.b) (ap size e ∙ ones-ones 32)

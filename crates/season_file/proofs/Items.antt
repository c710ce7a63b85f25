-- What stands at a place of the input, case by case: the tests decide which case of the definition holds. Assumes nothing.
use mathlib.Core.Path.{◌≡◌, refl, sym, ap₂, ◌∙◌}
use mathlib.Core.Bool.{true, false}
use mathlib.Core.List.{List}
use Prim.Native.Nat.{ℕ, ◌+◌, ◌-◌, ◌≤◌, ◌<◌}
use native.Mathlib.Omega.{arith}
use lib.ListN.{length, get_or}
use borrow.Author.Tests.{lt-ltb, le-ltb}
use Rattle.std.specs.Prelude.{Ok, Err}
use Rattle.params.specs.declared.Params.{Params}
use Rattle.season_file.specs.File.{fixed, following, event_at, end_of, unknown, code_of, fault_of, fields_at, item_at}
use Rattle.season_file.specs.Lengths.{capped}
use Rattle.season_file.specs.declared.Event.{Event}
use Rattle.season_file.specs.declared.Kind.{Kind}
use Rattle.season_file.specs.declared.Kind.TheVariants as kind
use Rattle.season_file.specs.declared.FileFault.TheVariants.{EndsEarly, KindUnknown}
use Rattle.season_file.proofs.Capped.{capped-over}

-- the byte of a kind is not unknown
pub kind-known : (k : Kind) → unknown (code_of k) ≡ false
kind-known kind.Update = refl
kind-known kind.Repair = refl
kind-known kind.Damage = refl
kind-known kind.Decode = refl
kind-known kind.Reconfigure = refl

module _ (a : Params) (input : List ℕ) (at kind : ℕ) where
  pub early : at ≤ length input → length input - at < fixed kind → Err (fault_of kind EndsEarly) ≡ fields_at a input at kind
  unfolding fields_at
  early i h = simp (lt-ltb (length input) (end_of a input at kind) (omega arith))

  pub late : at + fixed kind ≤ length input → length input - (at + fixed kind) < capped (following a input at kind)
      → Err (fault_of kind EndsEarly) ≡ fields_at a input at kind
  unfolding fields_at
  late i h = simp (lt-ltb (length input) (end_of a input at kind) (omega (arith, capped-over (following a input at kind) _ h)))

  pub whole : (e : Event) (next : ℕ) → e ≡ event_at a input at kind → next ≡ end_of a input at kind → next ≤ length input
      → Ok (record { event = e; next = next }) ≡ fields_at a input at kind
  unfolding fields_at
  whole e next f g h =
      ap₂ (λ (x : Event) (n : ℕ). Ok (record { event = x; next = n })) f g
      ∙ sym (simp (le-ltb (length input) (end_of a input at kind) (omega arith)))

module _ (a : Params) (input : List ℕ) (at : ℕ) where
  pub unread : length input ≤ at → Err (fault_of 0 EndsEarly) ≡ item_at a input at
  unfolding item_at
  unread h = simp (le-ltb at (length input) h)

  pub strange : at < length input → unknown (get_or input at 0) ≡ true → Err (fault_of (get_or input at 0) KindUnknown) ≡ item_at a input at
  unfolding item_at
  strange h u = simp (lt-ltb at (length input) h, u)

  pub known : at < length input → unknown (get_or input at 0) ≡ false → fields_at a input (at + 1) (get_or input at 0) ≡ item_at a input at
  unfolding item_at fields_at
  known h u = simp (lt-ltb at (length input) h, u)

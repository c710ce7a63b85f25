-- Each answer of the tests decides whether an accepted event can take effect. Assumes nothing.
use mathlib.Core.Path.{◌≡◌, subst, subst⁻¹}
use mathlib.Core.Bool.{Bool, false}
use Prim.Native.Nat.{ℕ, ◌-◌, ◌*◌, ◌≤◌, ◌<◌}
use native.Mathlib.Omega.{arith}
use lib.Dec.{leb}
use mir.Syntax.{w64}
use mir.Val.{Fits}
use borrow.Author.Tests.{leb-true, leb-false}
use Rattle.base.specs.Decided.{Decided}
use Rattle.base.proofs.Decisions.{decided-false}
use Rattle.gates.specs.Valid.{Valid}
use Rattle.params.specs.Nodes.{has, size}
use Rattle.params.specs.declared.Params.{Params}
use Rattle.params.proofs.Sets.{count-le, within-size}
use Rattle.gates.proofs.Valid.{damage-accepted}
use Rattle.season_answers.specs.Answers.{answer_of}
use Rattle.season_file.specs.declared.Event.{Event}
use Rattle.season_file.specs.declared.Event.TheVariants.{Damage}
use Rattle.season_file.specs.declared.DamageFields.{DamageFields}
use Rattle.season_file.specs.declared.Span.{Span}
use Rattle.season_effects.specs.Effects.{Stretch, InFull, Accepted, Ready}
use Rattle.season_effects.proofs.Fronts.{blocks-room}

module _ (input : ℕ) (s : Span) (count : ℕ) where
  pub other-count : (s.count ≡ count → ⊥) → Decided (Stretch input s count) false
  other-count ne = decided-false _ (λ h. ne h.counted)

  pub too_many : input < count → Decided (Stretch input s count) false
  too_many lt = decided-false _ (λ h. omega (arith, h.counted, h.inside))

  pub ends_by : s.count ≡ count → count ≤ input → Decided (Stretch input s count) (leb s.at (input - count))
  ends_by e le =
      record {
        holds = λ t. record { inside = omega (arith, leb-true s.at (input - count) t); counted = e };
        fails = λ t h. omega (arith, leb-false s.at (input - count) t, h.inside);
      }

module _ (a : Params) (input : ℕ) (e : Event) (buffer serials room : ℕ) where
  pub not-ready : (Ready a input e buffer serials room → ⊥) → Decided (Ready a input e buffer serials room) false
  not-ready = decided-false _

  -- all else is in place: the event's blocks decide
  pub ready_by : (t : Bool) (e' : Event) → e ≡ e' → Valid a → buffer ≡ 32768 → serials ≡ 32 → room ≡ 32768 → Decided (InFull a input e') t
      → Decided (Ready a input e buffer serials room) t
  ready_by t e' is v hb hs hr d =
      subst⁻¹ (λ (e : Event). Decided (Ready a input e buffer serials room) t) is
      (record {
        holds = λ h. record { valid = v; found = d.holds h; record_room = hb; serials_room = hs; work_room = hr };
        fails = λ h r. d.fails h r.found;
      })

-- the blocks of an accepted damage event are no more than a record has
pub box-fits : (a : Params) (f : DamageFields) → Valid a → Accepted a (Damage f) → (m : ℕ) → m ≡ size f.nodes.0 → Fits w64 (m * a.b)
unfolding answer_of
box-fits a f v (_, z) m e =
    let inside = within-size a.n f.nodes.0 ((damage-accepted a.n f.nodes.0).0 z) in
    omega (arith, blocks-room a m v (omega (arith, e, inside, count-le (has f.nodes.0) a.n)))

-- they stand in the input in full where as many bytes do as the set's size says
pub box-decided : (a : Params) (input : ℕ) (f : DamageFields) (m : ℕ) (t : Bool) → m ≡ size f.nodes.0
    → Decided (Stretch input f.blocks (m * a.b)) t → Decided (InFull a input (Damage f)) t
box-decided a input f m t e = subst (λ (m : ℕ). Decided (Stretch input f.blocks (m * a.b)) t) e

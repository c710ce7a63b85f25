-- Where an event cannot take effect, all is settled: the answer is told, and nothing is done. Assumes nothing.
use mathlib.Core.Path.{◌≡◌, refl, sym, ap, ap₂, ◌∙◌}
use mathlib.Core.Bool.{cond}
use mathlib.Core.List.{List}
use Prim.Native.Nat.{ℕ}
use lib.Dec.{eqb}
use lib.ListN.{length}
use Rattle.std.specs.Prelude.{Result, Ok, Err}
use Rattle.gates.specs.Refusals.{number, answer}
use Rattle.gates.specs.declared.Refusal.{Refusal}
use Rattle.gates.specs.declared.Refusal.TheVariants.{NodeCount, ReadOrWriteCount, MessageParts, SharedNodes, BlockSize, Length, NodeAboveN, SetSize, LostIsRead, NodeNumber, NewNodeCount, NewReadOrWriteCount, NewMessageParts, NewSharedNodes, SerialZero}
use Rattle.gates.proofs.Refusals.{number-not-0}
use Rattle.params.specs.declared.Params.{Params}
use Rattle.season_file.specs.declared.Event.{Event}
use Rattle.season_effects.specs.Effects.{effect_of, Ready, EffectPost}
use Rattle.season_effects.specs.declared.Effect.{Effect}

abbrev made : Params → ℕ → Effect
made params printed = record { params = params; printed = printed }

-- the refusal with a number
abbrev refusal : ℕ → Refusal
refusal n =
    cond (eqb n 1) NodeCount
    (cond (eqb n 2) ReadOrWriteCount
    (cond (eqb n 3) MessageParts
    (cond (eqb n 4) SharedNodes
    (cond (eqb n 5) BlockSize
    (cond (eqb n 6) Length
    (cond (eqb n 7) NodeAboveN
    (cond (eqb n 8) SetSize
    (cond (eqb n 9) LostIsRead
    (cond (eqb n 10) NodeNumber
    (cond (eqb n 11) NewNodeCount
    (cond (eqb n 12) NewReadOrWriteCount
    (cond (eqb n 13) NewMessageParts (cond (eqb n 14) NewSharedNodes SerialZero)))))))))))))

refusal-is : (q : Refusal) → refusal (number q) ≡ q
refusal-is NodeCount = refl
refusal-is ReadOrWriteCount = refl
refusal-is MessageParts = refl
refusal-is SharedNodes = refl
refusal-is BlockSize = refl
refusal-is Length = refl
refusal-is NodeAboveN = refl
refusal-is SetSize = refl
refusal-is LostIsRead = refl
refusal-is NodeNumber = refl
refusal-is NewNodeCount = refl
refusal-is NewReadOrWriteCount = refl
refusal-is NewMessageParts = refl
refusal-is NewSharedNodes = refl
refusal-is SerialZero = refl

-- a result is known from its answer and from what it leaves
result-once : (a : Params) (r r' : Result Effect Refusal) → answer r ≡ answer r' → effect_of a r ≡ effect_of a r' → r ≡ r'
result-once a (Ok x) (Ok y) q e = ap (λ (x : Effect). Ok x) e
result-once a (Ok x) (Err p) q e = absurd (number-not-0 p (sym q))
result-once a (Err p) (Ok y) q e = absurd (number-not-0 p q)
result-once a (Err p) (Err p') q e = ap (λ (p : Refusal). Err p) (sym (refusal-is p) ∙ ap refusal q ∙ refusal-is p')

module _ (a : Params) (input : List ℕ) (serial : ℕ) (e : Event) (buffer serials room : List ℕ)
    (none : Ready a (length input) e (length buffer) (length serials) (length room) → ⊥) where
  pub idle-once : (r r' : Result Effect Refusal) (buffer' buffer'' serials' serials'' room' room'' : List ℕ)
      → EffectPost a input serial e buffer serials room r buffer' serials' room'
      → EffectPost a input serial e buffer serials room r' buffer'' serials'' room''
      → (r ≡ r') × (buffer' ≡ buffer'') × (serials' ≡ serials'') × (room' ≡ room'')
  idle-once r r' buffer' buffer'' serials' serials'' room' room'' x y =
      let s = x.refused none in
      let t = y.refused none in (
        result-once a r r' (x.answer_is ∙ sym y.answer_is) (ap₂ made (s.params_kept ∙ sym t.params_kept) (s.nothing_printed ∙ sym t.nothing_printed)),
        s.buffer_kept ∙ sym t.buffer_kept,
        s.serials_kept ∙ sym t.serials_kept,
        s.room_kept ∙ sym t.room_kept,
      )

-- The record at the front of a larger buffer: what is lent, and what the buffer is when the part comes back. Assumes nothing.
use mathlib.Core.Path.{◌≡◌, sym, ap, ◌∙◌}
use mathlib.Core.List.{List, ◌++◌}
use mathlib.Core.Logic.{⊎_elim}
use Prim.Native.Nat.{ℕ, ◌+◌, ◌-◌, ◌*◌, ◌≤◌, ◌<◌}
use native.Mathlib.Nat.{le_trans}
use native.Mathlib.Omega.{arith}
use lib.ListN.{length, get_or, take, drop, get_or-append}
use lib.Seq.{length-take-le, length_front, take_at, drop_at, ext_get_or, get_or-drop, get_or-append-add}
use Rattle.base.proofs.Cases.{lt-or}
use Rattle.gates.specs.Valid.{Valid}
use Rattle.params.specs.declared.Params.{Params}
use Rattle.season_file.specs.File.{bytes_of}
use Rattle.season_file.specs.declared.Span.{Span}
use Rattle.gates.proofs.Valid.{blocks-most}
use Rattle.blocks.specs.Bytes.{over}
use Rattle.blocks.proofs.Laws.{over-length, over-at, over-past}

-- a record of valid parameters fits, and so does a message
pub blocks-room : (a : Params) (x : ℕ) → Valid a → x ≤ a.n → x * a.b ≤ 32768
blocks-room a x v h = blocks-most x a.b (le_trans h v.shape.n_high) v.b_high

module _ (m : ℕ) (buffer new : List ℕ) (fits : m ≤ length buffer) (full : length new ≡ m) where
  pub front-take : take m (new ++ drop m buffer) ≡ new
  front-take = take_at new (drop m buffer) m full

  pub front-drop : drop m (new ++ drop m buffer) ≡ drop m buffer
  front-drop = drop_at new (drop m buffer) m full

  pub front_length : length (new ++ drop m buffer) ≡ length buffer
  front_length = length_front buffer new m (full ∙ sym (length-take-le m buffer fits))

  -- what is laid over the buffer is its front
  pub over-front : over buffer new ≡ new ++ drop m buffer
  over-front =
      ext_get_or 0 _ _ (over-length buffer new ∙ sym front_length)
      (λ p h.
      let hp : p < length buffer = omega (arith, over-length buffer new) in
      ⊎_elim (λ (lt : p < m). over-at buffer new p hp (omega arith) ∙ sym (get_or-append new (drop m buffer) 0 p (omega arith)))
      (λ (le : m ≤ p). over-past buffer new p hp (omega arith) ∙ sym (behind p le)) (lt-or p m))
    where
      behind : (p : ℕ) → m ≤ p → get_or (new ++ drop m buffer) p 0 ≡ get_or buffer p 0
      behind p le =
          let e : length new + (p - m) ≡ p = omega arith in
          let e' : m + (p - m) ≡ p = omega arith in
          ap (λ (q : ℕ). get_or (new ++ drop m buffer) q 0) (sym e) ∙ get_or-append-add new (drop m buffer) (p - m) 0 ∙ get_or-drop m buffer (p - m) 0
          ∙ ap (λ (q : ℕ). get_or buffer q 0) e'

-- a stretch of the input as the code lends it
pub part-is : (input : List ℕ) (s : Span) → take (s.at + s.count - s.at) (drop s.at input) ≡ bytes_of input s
part-is input s = let e : s.at + s.count - s.at ≡ s.count = omega arith in ap (λ (q : ℕ). take q (drop s.at input)) e

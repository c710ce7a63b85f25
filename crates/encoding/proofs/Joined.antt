-- Message and slack, copied side by side into a longer buffer, are the parts that one product takes. Assumes nothing.
use mathlib.Core.Path.{◌≡◌, sym, ap, ap₂, ◌∙◌, subst₂}
use mathlib.Core.List.{List, ◌++◌, append_assoc}
use Prim.Native.Nat.{ℕ, ◌+◌, ◌-◌, ◌*◌, ◌≤◌}
use native.Mathlib.Omega.{arith}
use borrow.Rule.Slice.PartMut.{put_mid, post_of}
use lib.ListN.{length, take, drop, length-append, length-drop}
use lib.Seq.{length-take-le, take_at, drop_at}
use Rattle.params.specs.declared.Params.{Params}
use Rattle.code.specs.Calls.{Encoded}
use Rattle.blocks.specs.Bytes.{over}
use Rattle.blocks.proofs.Laws.{over-same}
use Rattle.encoding.specs.Cores.{Encodable}

-- ---- two copies

-- the front of a buffer, once mid is back at its beginning and then last behind it, as the code lends it
abbrev pub front : List ℕ → List ℕ → List ℕ → List ℕ → List ℕ → List ℕ
front message slack room mid last =
    take (length message + length slack)
    (put_mid (length message) (length message + length slack - length message) (mid ++ drop (length message) room) last)

module _ (message slack room mid last : List ℕ) (fits : length message + length slack ≤ length room)
    (first : mid ≡ over (take (length message) room) message)
    (second : last ≡ over (take (length message + length slack - length message) (drop (length message) (mid ++ drop (length message) room))) slack) where
  copied : mid ≡ message
  copied = first ∙ over-same _ message (sym (length-take-le (length message) room (omega arith)))

  copied_behind : last ≡ slack
  copied_behind =
      let rest : drop (length message) (mid ++ drop (length message) room) ≡ drop (length message) room = drop_at mid _ (length message) (ap length copied) in
      second ∙ over-same _ slack
      (sym (length-take-le (length message + length slack - length message) _ (omega (arith, ap length rest, length-drop (length message) room)) ∙ omega arith))

  pub joined : front message slack room mid last ≡ message ++ slack
  joined =
      let behind = post_of (length message) (length message + length slack - length message) (mid ++ drop (length message) room) in
      ap (take (length message + length slack))
      (ap₂ (λ (x y : List ℕ). x ++ (y ++ behind)) (take_at mid _ (length message) (ap length copied) ∙ copied) copied_behind
      ∙ sym (append_assoc message slack behind))
      ∙ take_at (message ++ slack) behind (length message + length slack) (length-append message slack)

-- ---- and their lengths

module _ (a : Params) (message slack : List ℕ) (codeword : ℕ) (ok : Encodable a (length message) (length slack) codeword) where
  -- of the parts side by side, the first k are the message
  pub apart : (parts new : List ℕ) → parts ≡ message ++ slack → Encoded a (take (a.k * a.b) parts) (drop (a.k * a.b) parts) new
      → Encoded a message slack new
  apart parts new e =
      subst₂ (λ (x v : List ℕ). Encoded a x v new) (ap (take (a.k * a.b)) e ∙ take_at message slack (a.k * a.b) ok.message_length)
      (ap (drop (a.k * a.b)) e ∙ drop_at message slack (a.k * a.b) ok.message_length)

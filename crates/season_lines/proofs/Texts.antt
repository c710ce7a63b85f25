-- Texts put into a buffer one after the other are put as one text: the lists' algebra. Assumes nothing.
use mathlib.Core.Path.{◌≡◌, refl, sym, ap, ap₂, ◌∙◌}
use mathlib.Core.List.{List, [], ◌∷◌, ◌++◌, append_assoc, append-nil}
use Prim.Native.Nat.{ℕ, suc, ◌+◌, ◌*◌, ◌/◌, ◌%◌, ◌≤◌, ◌<◌}
use native.Mathlib.Nat.{add-zero}
use native.Mathlib.Numerals.{add-one}
use native.Mathlib.Omega.{arith}
use lib.ListN.{length, get_or, take, drop, set, length-append, length-set, take-append-drop}
use lib.Seq.{length-take-le, take_at, drop_at, drop-drop, set_split, append_snoc, take-suc}
use Rattle.season_lines.specs.Lines.{hex_digit, hex, message_field}
use Rattle.season_lines.specs.Writing.{TextAt}
use Rattle.season_lines.proofs.Hexadecimal.{hex-append}

pub put-none : (at : ℕ) (l : List ℕ) → TextAt [] at l at l
put-none at l =
    record {
      ends = omega arith;
      bytes =
          sym
          (ap (λ (r : List ℕ). r ++ drop (at + 0) l) (append-nil (take at l)) ∙ ap (λ (k : ℕ). take at l ++ drop k l) (add-zero at)
          ∙ take-append-drop at l);
    }

pub put_one : (at : ℕ) (l : List ℕ) (x : ℕ) → at < length l → TextAt (x ∷ []) at l (at + 1) (set l at x)
put_one at l x h =
    record {
      ends = refl;
      bytes =
          set_split l at x h ∙ sym (append_snoc (take at l) x (drop (suc at) l))
          ∙ ap (λ (k : ℕ). take at l ++ (x ∷ []) ++ drop k l) (sym (add-one at));
    }

-- the text s, and then t behind it
pub put_then : (s t : List ℕ) (at : ℕ) (old : List ℕ) (m : ℕ) (mid : List ℕ) (next : ℕ) (new : List ℕ) → at ≤ length old
    → TextAt s at old m mid → TextAt t m mid next new → TextAt (s ++ t) at old next new
put_then s t at old m mid next new h p q =
    let front : length (take at old ++ s) ≡ m
    = length-append (take at old) s ∙ ap (λ (k : ℕ). k + length s) (length-take-le at old h) ∙ sym p.ends in
    let first : take m mid ≡ take at old ++ s
    = ap (take m) p.bytes ∙ take_at (take at old ++ s) (drop (at + length s) old) m front in
    let total : at + length s + length t ≡ at + length (s ++ t) = omega (arith, length-append s t) in
    let behind : drop (m + length t) mid ≡ drop (at + length (s ++ t)) old
    = sym (drop-drop (length t) m mid)
    ∙ ap (drop (length t)) (ap (drop m) p.bytes ∙ drop_at (take at old ++ s) (drop (at + length s) old) m front)
    ∙ drop-drop (length t) (at + length s) old
    ∙ ap (λ (k : ℕ). drop k old) total in
    record {
      ends = omega (arith, p.ends, q.ends, length-append s t);
      bytes =
          q.bytes ∙ ap (λ (r : List ℕ). r ++ t ++ drop (m + length t) mid) first
          ∙ ap (λ (r : List ℕ). take at old ++ s ++ t ++ r) behind
          ∙ ap (λ (r : List ℕ). r ++ drop (at + length (s ++ t)) old) (append_assoc (take at old) s t);
    }

-- one byte behind a text
pub put-more : (s : List ℕ) (at : ℕ) (old : List ℕ) (m : ℕ) (mid : List ℕ) (x : ℕ) → at ≤ length old → m < length mid → TextAt s at old m mid
    → TextAt (s ++ (x ∷ [])) at old (m + 1) (set mid m x)
put-more s at old m mid x h k p = put_then s (x ∷ []) at old m mid (m + 1) (set mid m x) h p (put_one m mid x k)

-- ---- a message in hexadecimal, byte by byte

pub hex-start : (message : List ℕ) (at : ℕ) (l : List ℕ) → TextAt (hex (take 0 message)) at l at l
unfolding hex
hex-start message at l = put-none at l

pub hex-next : (message : List ℕ) (at : ℕ) (old : List ℕ) (i m : ℕ) (mid : List ℕ) (x y : ℕ) → m ≡ at + 2 * i → at ≤ length old → m + 1 < length mid → i < length message
    → x ≡ hex_digit (get_or message i 0 / 16) → y ≡ hex_digit (get_or message i 0 % 16) → TextAt (hex (take i message)) at old m mid
    → TextAt (hex (take (i + 1) message)) at old (at + 2 * (i + 1)) (set (set mid m x) (m + 1) y)
hex-next message at old i m mid x y is h k j ex ey p =
    let e : take (i + 1) message ≡ take i message ++ (get_or message i 0 ∷ []) = ap (λ (n : ℕ). take n message) (add-one i) ∙ take-suc message i 0 j in
    let f : hex (take (i + 1) message) ≡ hex (take i message) ++ (x ∷ []) ++ (y ∷ [])
    = ap hex e ∙ hex-append (take i message) (get_or message i 0)
    ∙ ap₂ (λ (x y : ℕ). hex (take i message) ++ (x ∷ []) ++ (y ∷ [])) (sym ex) (sym ey) in
    let n : at + 2 * (i + 1) ≡ m + 1 + 1 = omega arith in
    rw (f, n)
    (put-more (hex (take i message) ++ (x ∷ [])) at old (m + 1) (set mid m x) y h (simp length-set k)
    (put-more (hex (take i message)) at old m mid x h (omega arith) p))

-- ---- the message's field

pub no-message : (message : List ℕ) (at : ℕ) (l : List ℕ) → length message ≡ 0 → TextAt (message_field message) at l at l
unfolding message_field
no-message [] at l h = put-none at l
no-message (x ∷ xs) at l h = absurd (omega arith)

pub message-put : (message : List ℕ) (at : ℕ) (old : List ℕ) (m : ℕ) (mid : List ℕ) (next : ℕ) (new : List ℕ) → (length message ≡ 0 → ⊥)
    → at ≤ length old → TextAt (32 ∷ []) at old m mid → TextAt (hex message) m mid next new → TextAt (message_field message) at old next new
unfolding message_field
message-put [] at old m mid next new ne h p q = absurd (ne refl)
message-put (x ∷ xs) at old m mid next new ne h p q = put_then (32 ∷ []) (hex (x ∷ xs)) at old m mid next new h p q

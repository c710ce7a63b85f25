-- The bytes of a word, and of the sum of two: a sum by bits has no carry, so the sum of two words is that of their bytes. Assumes nothing.
use mathlib.Core.Path.{◌≡◌, refl, sym, ap, ap₂, ◌∙◌}
use mathlib.Core.List.{List}
use Prim.Native.Nat.{ℕ, zero, suc, ◌+◌, ◌-◌, ◌*◌, ◌/◌, ◌%◌, ◌^◌, ◌≤◌, ◌<◌}
use native.Mathlib.Nat.{not-suc-le-zero, le_of_suc-le-suc, pow-suc, pow-succ', pow-le-pow_right, div-div-eq-div-mul}
use native.Mathlib.Numerals.{add-one}
use native.Mathlib.Omega.{arith}
use lib.Bits.{bit_xor, xor_block}
use lib.ListN.{length, get_or}
use Rattle.base.specs.Seq.{tabulate}
use Rattle.base.proofs.Seq.{tabulate-ext}
use Rattle.field.specs.Field.{IsByte, Bytes, add, plus}
use Rattle.field.proofs.Addition.{add-byte}
use Rattle.words.specs.Words.{word, word_of, low_bytes}

pub word_lt : (m : ℕ) (f : ℕ → ℕ) → ((s : ℕ) → IsByte (f s)) → word m f < 256 ^ m
unfolding word
word_lt zero f h = omega arith
word_lt (suc m) f h = omega (arith, h 0, word_lt m (λ s. f (suc s)) (λ s. h (suc s)), pow-suc 256 m)

word-ext : (m : ℕ) (f g : ℕ → ℕ) → ((s : ℕ) → f s ≡ g s) → word m f ≡ word m g
unfolding word
word-ext zero f g h = refl
word-ext (suc m) f g h = ap₂ (λ (x y : ℕ). x + 256 * y) (h 0) (word-ext m (λ s. f (suc s)) (λ s. g (suc s)) (λ s. h (suc s)))

-- one byte less
pub next-byte : (w s : ℕ) → w / 256 ^ s / 256 ≡ w / 256 ^ (s + 1)
next-byte w s = div-div-eq-div-mul w (256 ^ s) 256 ∙ ap (λ (k : ℕ). w / k) (sym (pow-suc 256 s)) ∙ ap (λ (k : ℕ). w / 256 ^ k) (sym (add-one s))

word_byte : (m : ℕ) (f : ℕ → ℕ) (s : ℕ) → ((s : ℕ) → IsByte (f s)) → s < m → word m f / 256 ^ s % 256 ≡ f s
unfolding word
word_byte zero f s h lt = absurd (not-suc-le-zero lt)
word_byte (suc m) f zero h lt = omega (arith, h 0)
word_byte (suc m) f (suc s) h lt =
    let rest : (f 0 + 256 * word m (λ s. f (suc s))) / 256 ≡ word m (λ s. f (suc s)) = omega (arith, h 0) in
    ap (λ (k : ℕ). (f 0 + 256 * word m (λ s. f (suc s))) / k % 256) (pow-succ' 256 s)
    ∙ ap (λ (k : ℕ). k % 256) (sym (div-div-eq-div-mul (f 0 + 256 * word m (λ s. f (suc s))) 256 (256 ^ s)) ∙ ap (λ (k : ℕ). k / 256 ^ s) rest)
    ∙ word_byte m (λ s. f (suc s)) s (λ s. h (suc s)) (le_of_suc-le-suc lt)

-- a word has the bytes that it was made of
pub low-bytes-word : (m : ℕ) (f : ℕ → ℕ) → ((s : ℕ) → IsByte (f s)) → low_bytes m (word m f) ≡ tabulate m f
unfolding low_bytes
low-bytes-word m f h = tabulate-ext m _ _ (λ s hs. word_byte m f s h hs)

word_sum : (m : ℕ) (f g : ℕ → ℕ) → ((s : ℕ) → IsByte (f s)) → ((s : ℕ) → IsByte (g s)) → add (word m f) (word m g) ≡ word m (λ s. add (f s) (g s))
unfolding word add
word_sum zero f g hf hg = refl
word_sum (suc m) f g hf hg =
    let x : f 0 + 256 * word m (λ s. f (suc s)) ≡ word m (λ s. f (suc s)) * 2 ^ 8 + f 0 = omega arith in
    let y : g 0 + 256 * word m (λ s. g (suc s)) ≡ word m (λ s. g (suc s)) * 2 ^ 8 + g 0 = omega arith in
    ap₂ bit_xor x y ∙ xor_block 8 (word m (λ s. f (suc s))) (word m (λ s. g (suc s))) (f 0) (g 0) (hf 0) (hg 0)
    ∙ ap (λ (w : ℕ). w * 2 ^ 8 + bit_xor (f 0) (g 0)) (word_sum m (λ s. f (suc s)) (λ s. g (suc s)) (λ s. hf (suc s)) (λ s. hg (suc s)))
    ∙ omega arith

-- Document 02, 2026-02: "for any sixteen bytes, the sum of their two words holds the eight byte sums". For as many bytes as there are.
pub sum-holds : (xs ys : List ℕ) → Bytes xs → Bytes ys → length ys ≡ length xs → low_bytes (length xs) (add (word_of xs) (word_of ys)) ≡ plus xs ys
unfolding word_of plus
sum-holds xs ys hx hy e =
    ap (low_bytes (length xs))
    (ap (λ (m : ℕ). add (word (length xs) (λ s. get_or xs s 0)) (word m (λ s. get_or ys s 0))) e ∙ word_sum (length xs) (λ s. get_or xs s 0) (λ s. get_or ys s 0) hx hy)
    ∙ low-bytes-word (length xs) (λ s. add (get_or xs s 0) (get_or ys s 0)) (λ s. add-byte _ _ (hx s) (hy s))

-- ---- read from the last byte to the first

-- the last s bytes of n
abbrev pub last : ℕ → List ℕ → ℕ → ℕ → ℕ
last n xs s t = get_or xs (n - s + t) 0

pub word_none : (n : ℕ) (xs : List ℕ) → 0 ≡ word 0 (last n xs 0)
unfolding word
word_none n xs = refl

-- g has one byte more than f, in front
front : (m x : ℕ) (f g : ℕ → ℕ) → x ≡ g 0 → ((t : ℕ) → f t ≡ g (suc t)) → word m f * 256 + x ≡ word (suc m) g
unfolding word
front m x f g e h = omega (arith, e, word-ext m f (λ t. g (suc t)) h)

pub word_more : (n s : ℕ) (xs : List ℕ) → s < n → word s (last n xs s) * 256 + get_or xs (n - 1 - s) 0 ≡ word (s + 1) (last n xs (s + 1))
word_more n s xs h =
    front s (get_or xs (n - 1 - s) 0) (last n xs s) (last n xs (s + 1)) (ap (λ (q : ℕ). get_or xs q 0) (omega arith)) (λ t. ap (λ (q : ℕ). get_or xs q 0) (omega arith))
    ∙ ap (λ (m : ℕ). word m (last n xs (s + 1))) (sym (add-one s))

pub word-all : (n : ℕ) (xs : List ℕ) → length xs ≡ n → word n (last n xs n) ≡ word_of xs
unfolding word_of
word-all n xs e = ap (λ (m : ℕ). word m (last n xs n)) (sym e) ∙ word-ext (length xs) _ _ (λ t. ap (λ (q : ℕ). get_or xs q 0) (omega arith))

-- a word of fewer than n bytes, as one of n, has room for one byte more
pub word_room : (n s : ℕ) (xs : List ℕ) → Bytes xs → s < n → word s (last n xs s) * 256 + 256 ≤ 256 ^ n
word_room n s xs h lt = omega (arith, word_lt s (last n xs s) (λ t. h (n - s + t)), pow-suc 256 s, below)
  where
    below : 256 ^ suc s ≤ 256 ^ n
    below = pow-le-pow_right (omega arith) lt

-- Picks are found eight together, as the bytes of one word: a digit is appended to all by doubling the word, and no byte runs over into the next. Assumes nothing.
use mathlib.Core.Path.{◌≡◌, refl, sym, ap, ap₂, ◌∙◌}
use mathlib.Core.List.{List}
use Prim.Native.Nat.{ℕ, zero, suc, ◌+◌, ◌*◌, ◌/◌, ◌%◌, ◌^◌, ◌≤◌, ◌<◌}
use native.Mathlib.Numerals.{add-one}
use native.Mathlib.Omega.{arith}
use lib.Bits.{bit_and}
use lib.Dec.{T, eqb, eqb→eq}
use lib.ListN.{length, get_or}
use Rattle.base.specs.Seq.{tabulate}
use Rattle.base.proofs.Test.{all_below, below}
use Rattle.field.specs.Field.{IsByte}
use Rattle.words.specs.Words.{word, low_bytes}
use Rattle.words.proofs.Words.{word_lt, low-bytes-word}
use Rattle.picks.specs.Picks.{bit, number, pick_of}
use Rattle.picks.proofs.Digits.{bit-lt, number-below}

-- ---- words

word-twice : (m : ℕ) (f g : ℕ → ℕ) → word m f * 2 + word m g ≡ word m (λ s. f s * 2 + g s)
unfolding word
word-twice zero f g = omega arith
word-twice (suc m) f g = omega (arith, word-twice m (λ s. f (suc s)) (λ s. g (suc s)))

-- ---- the bits of a coefficient, spread over a word

-- by numbers that pass the test
pub spread-by : (low k mask high c : ℕ) → IsByte c → T (all_below 256 (λ c. eqb (bit_and (c % low * k) mask + c / high) (word 8 (λ s. bit s c))))
    → bit_and (c % low * k) mask + c / high ≡ word 8 (λ s. bit s c)
spread-by low k mask high c h t = eqb→eq _ _ (below 256 (λ c. eqb (bit_and (c % low * k) mask + c / high) (word 8 (λ s. bit s c))) t c h)

-- ---- the picks of some coefficients

-- those of the first k
abbrev pub first_picks : List ℕ → ℕ → ℕ → ℕ
first_picks coeffs k s = number k (λ j. bit s (get_or coeffs j 0))

number-byte : (m : ℕ) (d : ℕ → ℕ) → ((k : ℕ) → d k < 2) → m ≤ 8 → number m d < 256
number-byte m d h le = omega (arith, number-below m 8 d h le)

pub picks-none : (coeffs : List ℕ) → 0 ≡ word 8 (first_picks coeffs 0)
unfolding word number
picks-none coeffs = refl

pub picks_more : (coeffs : List ℕ) (k : ℕ) → word 8 (first_picks coeffs k) * 2 + word 8 (λ s. bit s (get_or coeffs k 0)) ≡ word 8 (first_picks coeffs (k + 1))
unfolding number
picks_more coeffs k = word-twice 8 _ _ ∙ ap (λ (n : ℕ). word 8 (first_picks coeffs n)) (sym (add-one k))

pub picks-fit : (coeffs : List ℕ) (k : ℕ) → k ≤ 8 → word 8 (first_picks coeffs k) < 2 ^ 64
picks-fit coeffs k h = word_lt 8 (first_picks coeffs k) (λ s. number-byte k _ (λ j. bit-lt s _) h)

-- the bytes of such a word
pub picks-are : (coeffs : List ℕ) (m w : ℕ) → m ≡ 8 → length coeffs ≤ 8 → w ≡ word 8 (pick_of coeffs) → low_bytes m w ≡ tabulate 8 (pick_of coeffs)
unfolding pick_of
picks-are coeffs m w e h ew = ap₂ low_bytes e ew ∙ low-bytes-word 8 (first_picks coeffs (length coeffs)) (λ s. number-byte (length coeffs) _ (λ k. bit-lt s _) h)

-- Words: numbers by their bytes, the first the lowest. Assumes nothing.
use Rattle.std.specs.Prelude.{List, ℕ, zero, suc, ◌+◌, ◌*◌, ◌/◌, ◌%◌, ◌^◌, length, get_or}
use Rattle.base.specs.Seq.{tabulate}

-- the number with the digits f 0 to f (m - 1) to base 256, the first the lowest
unfoldable pub word : ℕ → (ℕ → ℕ) → ℕ
word zero f = 0
word (suc m) f = f 0 + 256 * word m (λ s. f (suc s))

-- the word of a list of bytes
unfoldable pub word_of : List ℕ → ℕ
word_of xs = word (length xs) (λ s. get_or xs s 0)

-- the lowest m bytes of a word
unfoldable pub low_bytes : ℕ → ℕ → List ℕ
low_bytes m w = tabulate m (λ s. w / 256 ^ s % 256)

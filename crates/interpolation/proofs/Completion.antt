-- The completion theorem: whatever the leading parts and the wanted values, exactly one list of as many remaining parts as points gives these
-- values. At each byte place, move the leading parts to the other side, divide by c^(e+1) and interpolate. Assumes nothing.
use mathlib.Core.Path.{◌≡◌, sym, ap, ◌∙◌}
use mathlib.Core.List.{List}
use Prim.Native.Nat.{ℕ, suc, ◌%◌, ◌<◌}
use native.Mathlib.Nat.{mod-lt, mod-eq_of_lt, zero-lt-suc}
use lib.ListN.{length, get_or}
use Rattle.base.specs.Seq.{cell, blocks}
use Rattle.base.proofs.Seq.{cell-blocks, length-blocks, cells_ext}
use Rattle.field.specs.Field.{IsByte, Inverse, add, mul, pow}
use Rattle.field.specs.FiniteSum.{sum}
use Rattle.field.proofs.Addition.{add-byte, add_comm, add-cancel}
use Rattle.field.proofs.Multiplication.{mul-byte}
use Rattle.field.proofs.Exponents.{pow-byte, pow-nonzero, inverse-exists}
use Rattle.field.proofs.FiniteSum.{sum-byte}
use Rattle.field.proofs.Bytes.{bytes-blocks, cell-byte}
use Rattle.interpolation.specs.Polynomial.{evaluate, Points, Completes}
use Rattle.interpolation.proofs.Horner.{sum-value, undo, Interpolates, interpolant}
use Rattle.interpolation.proofs.Uniqueness.{rest-unique}

-- ---- one byte place

module _ (e : ℕ) (ps : List ℕ) (x w : ℕ → ℕ) where
  -- what the leading coefficients give at point i
  leading : ℕ → ℕ
  leading i = sum e (λ j. mul (x j) (pow (get_or ps i 0) (suc j)))

  factor-inverse : (i : ℕ) → (d : ℕ) × Inverse (pow (get_or ps i 0) (suc e)) d
  factor-inverse i = inverse-exists (pow (get_or ps i 0) (suc e)) (pow-byte (get_or ps i 0) (suc e))

  -- what is left for the polynomial of the remaining coefficients to take there
  left : ℕ → ℕ
  left i = mul (add (w i) (leading i)) (factor-inverse i).0

  rest : Points ps → (q : List ℕ) × Interpolates ps left q
  unfolding left
  rest h = interpolant ps h left (λ i hi. mul-byte _ (factor-inverse i).0)

  rest-takes : (h : Points ps) → ((i : ℕ) → i < length ps → IsByte (w i)) → (v : ℕ → ℕ)
      → ((j : ℕ) → j < length ps → get_or (rest h).0 j 0 ≡ v j)
      → (i : ℕ) → i < length ps → evaluate e (length ps) x v (get_or ps i 0) ≡ w i
  unfolding evaluate leading left
  rest-takes h hw v same i hi =
      ap (add (leading i))
      (sum-value e (length ps) v (rest h).0 (get_or ps i 0) (rest h).1.count same
      ∙ ap (mul (pow (get_or ps i 0) (suc e))) ((rest h).1.takes i hi)
      ∙ undo _ (factor-inverse i).0 _ ((factor-inverse i).1.product (pow-nonzero _ (suc e) (h.bytes i) (h.nonzero i hi)))
      (add-byte _ _ (hw i hi) (sum-byte e _ (λ j hj. mul-byte (x j) _))))
      ∙ add_comm (leading i) (add (w i) (leading i)) ∙ add-cancel (w i) (leading i)

-- ---- all byte places

-- There are remaining parts that give the wanted values, whatever the leading parts, ..
pub completion-exists : (b e : ℕ) (x ps : List ℕ) (wanted : ℕ → ℕ → ℕ) → Points ps
    → ((i p : ℕ) → i < length ps → p < b → IsByte (wanted i p))
    → (v : List ℕ) × Completes b e x ps wanted v
completion-exists b e x ps wanted h hw = (
  v,
  record {
    count = length-blocks b (length ps) part;
    bytes = bytes-blocks b (length ps) part (λ j p. (place p).1.bytes j);
    takes = λ i p hi hp.
        rest-takes e ps (λ j. cell b x j p) (low p) h (λ i hi. mod-lt (wanted i p) (zero-lt-suc 255)) (λ j. cell b v j p)
        (λ j hj. sym (cell-blocks b (length ps) part j p hj hp)) i hi
        ∙ mod-eq_of_lt (hw i p hi hp);
  },
)
  where
    -- the wanted bytes; past the last byte place anything may be wanted
    low : ℕ → ℕ → ℕ
    low p i = wanted i p % 256

    place : (p : ℕ) → (q : List ℕ) × Interpolates ps (left e ps (λ j. cell b x j p) (low p)) q
    place p = rest e ps (λ j. cell b x j p) (low p) h

    part : ℕ → ℕ → ℕ
    part j p = get_or (place p).0 j 0

    v : List ℕ
    v = blocks b (length ps) part

-- .. and only one list of them.
pub completion-unique : (b e : ℕ) (x ps : List ℕ) (wanted : ℕ → ℕ → ℕ) (v v' : List ℕ) → Points ps → 0 < b
    → Completes b e x ps wanted v → Completes b e x ps wanted v'
    → v ≡ v'
completion-unique b e x ps wanted v v' h hb g g' =
    cells_ext b (length ps) v v' hb g.count g'.count
    (λ j p hj hp.
    rest-unique e ps (λ j. cell b x j p) (λ j. cell b v j p) (λ j. cell b v' j p) h (λ j hj. cell-byte b v j p g.bytes)
    (λ j hj. cell-byte b v' j p g'.bytes) (λ i hi. g.takes i p hi hp ∙ sym (g'.takes i p hi hp)) j hj)

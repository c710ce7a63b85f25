-- A square matrix of bytes, of any side, has an inverse or a first dependent column: so one that takes no vector but 00 to 00 has an inverse, and `invert` has an
-- answer to everything. Induction on the columns that are not yet the identity's. Let d be the first of them, column t. Where d is zero from row t on, it is the sum of
-- the columns before it, each times d's entry, and none of these is such a sum. Else a linear form f that is 0 on the columns before, not 0 on e, column t of the
-- identity, and 1 on d makes a map x ↦ x + f(x)·(d + e): it keeps the columns before, takes d to e, and is one to one, since f takes its value to f(e)·f(x).
-- Assumes nothing.
use mathlib.Core.Path.{◌≡◌, refl, sym, ap, ap₂, ◌∙◌, subst}
use mathlib.Core.List.{List}
use mathlib.Core.Logic.{◌⊎◌, inl, inr, ⊎_elim}
use Prim.Native.Nat.{ℕ, zero, suc, ◌+◌, ◌*◌, ◌-◌, ◌≤◌, ◌<◌}
use native.Mathlib.Nat.{not-suc-le-zero}
use native.Mathlib.Omega.{arith}
use native.Mathlib.Decide.{ℕ_discrete}
use lib.ListN.{length, get_or}
use borrow.Author.Tests.{le-leb, lt-leb, eq-eqb, ne_eqb}
use Rattle.base.specs.Seq.{cell, blocks}
use Rattle.base.proofs.Below.{all-below}
use Rattle.base.proofs.Cases.{lt-or, eq-or}
use Rattle.base.proofs.Seq.{cell-blocks, get_or-tabulate-past}
use Rattle.field.specs.Field.{IsByte, Bytes, add, mul}
use Rattle.field.specs.FiniteSum.{sum}
use Rattle.field.proofs.Addition.{add_assoc, add-byte, add_comm, add-cancel, add-self, add-zero-left, add-zero-right}
use Rattle.field.proofs.Multiplication.{mul-add-left, mul-add-right, mul_assoc, mul-byte, mul_comm, mul-one-left, mul-one-right, mul-zero-left, mul-zero-right}
use Rattle.field.proofs.Exponents.{invertible, mul-cancel}
use Rattle.field.proofs.FiniteSum.{sum-add, sum-byte, sum-ext, sum-mul, mul-sum}
use Rattle.matrix.specs.Matrix.{Vector, entry, apply, column, IsInverse, Singular, Dependent, FirstDependent}
use Rattle.matrix.specs.Invert.{InvertPost}
use Rattle.matrix.specs.Product.{unit, identity, product}
use Rattle.matrix.specs.Inversion.{Inversion}
use Rattle.matrix.specs.Inversion.{Inverted, Singular as SingularAt, Refused}
use Rattle.matrix.proofs.Identity.{unit-same, unit-other, unit-byte, unit-sum, sum-unit, sum-plus-unit, unit-sum-before}
use Rattle.matrix.proofs.Laws as L
use Rattle.matrix.proofs.Answers.{refused-side, refused-lengths, answered-inverse, answered-singular}

-- the linear form f at z
abbrev form : ℕ → (ℕ → ℕ) → (ℕ → ℕ) → ℕ
form s f z = sum s (λ k. mul (f k) (z k))

form-byte : (s : ℕ) (f z : ℕ → ℕ) → IsByte (form s f z)
form-byte s f z = sum-byte s _ (λ k hk. mul-byte (f k) (z k))

twice : (a b : ℕ) → add a (add a b) ≡ b
twice a b = sym (add_assoc a a b) ∙ ap (λ (x : ℕ). add x b) (add-self a) ∙ add-zero-left b

-- ---- x ↦ x + f(x)·(d + e)

-- d + e
rise : ℕ → (ℕ → ℕ) → ℕ → ℕ
rise t d i = add (d i) (unit i t)

module _ (s t : ℕ) (d f : ℕ → ℕ) where
  step : List ℕ
  step = blocks s s (λ i k. add (unit i k) (mul (rise t d i) (f k)))

  step-entry : (i k : ℕ) → i < s → k < s → entry s step i k ≡ add (unit i k) (mul (rise t d i) (f k))
  unfolding step entry cell
  step-entry i k hi hk = cell-blocks s s (λ i k. add (unit i k) (mul (rise t d i) (f k))) i k hi hk

  step_row : (z : ℕ → ℕ) (i : ℕ) → i < s → IsByte (z i) → form s (entry s step i) z ≡ add (z i) (mul (rise t d i) (form s f z))
  step_row z i hi byte =
      sum-ext s (λ k. mul (entry s step i k) (z k)) (λ k. add (mul (unit i k) (z k)) (mul (rise t d i) (mul (f k) (z k))))
      (λ k hk.
      ap (λ (x : ℕ). mul x (z k)) (step-entry i k hi hk) ∙ mul-add-left (unit i k) (mul (rise t d i) (f k)) (z k)
      ∙ ap (add (mul (unit i k) (z k))) (mul_assoc (rise t d i) (f k) (z k)))
      ∙ sum-add s (λ k. mul (unit i k) (z k)) (λ k. mul (rise t d i) (mul (f k) (z k)))
      ∙ ap₂ add (unit-sum s i z hi byte) (sym (mul-sum s (rise t d i) (λ k. mul (f k) (z k))))

-- what f must be
record Form (s t : ℕ) (d f : ℕ → ℕ) : Type 0 where
  within : t < s
  bytes : (k : ℕ) → IsByte (f k)
  before : (k : ℕ) → k < t → f k ≡ 0
  here : f t ≡ 0 → ⊥
  one : form s f d ≡ 1

module _ (s t : ℕ) (d f : ℕ → ℕ) (h : Form s t d f) where
  form-rise : form s f (rise t d) ≡ add 1 (f t)
  unfolding rise
  form-rise = sum-plus-unit s t f d h.within (h.bytes t) ∙ ap (λ (x : ℕ). add x (f t)) h.one

  form-step : (z : ℕ → ℕ) → form s f (λ k. add (z k) (mul (rise t d k) (form s f z))) ≡ mul (f t) (form s f z)
  form-step z =
      sum-ext s (λ k. mul (f k) (add (z k) (mul (rise t d k) c))) (λ k. add (mul (f k) (z k)) (mul (mul (f k) (rise t d k)) c))
      (λ k hk. mul-add-right (f k) (z k) (mul (rise t d k) c) ∙ ap (add (mul (f k) (z k))) (sym (mul_assoc (f k) (rise t d k) c)))
      ∙ sum-add s (λ k. mul (f k) (z k)) (λ k. mul (mul (f k) (rise t d k)) c)
      ∙ ap (add c)
      (sym (sum-mul s c (λ k. mul (f k) (rise t d k))) ∙ ap (λ (x : ℕ). mul x c) form-rise ∙ mul-add-left 1 (f t) c
      ∙ ap (λ (x : ℕ). add x (mul (f t) c)) (mul-one-left c (form-byte s f z)))
      ∙ twice c (mul (f t) c)
    where
      c : ℕ
      c = form s f z

  one-to-one : (v w : List ℕ) → Vector s v → Vector s w → apply s (step s t d f) v ≡ apply s (step s t d f) w → v ≡ w
  one-to-one v w hv hw e =
      L.vector-ext s v w hv.count hw.count
      (λ i hi.
      sym (add-cancel (get_or v i 0) (mul (u i) (c v)))
      ∙ ap (λ (x : ℕ). add x (mul (u i) (c v))) (moved i hi ∙ ap (λ (x : ℕ). add (get_or w i 0) (mul (u i) x)) (sym alike))
      ∙ add-cancel (get_or w i 0) (mul (u i) (c v)))
    where
      u : ℕ → ℕ
      u = rise t d

      c : List ℕ → ℕ
      c x = form s f (λ k. get_or x k 0)

      moved : (i : ℕ) → i < s → add (get_or v i 0) (mul (u i) (c v)) ≡ add (get_or w i 0) (mul (u i) (c w))
      moved i hi =
          sym (step_row s t d f (λ k. get_or v k 0) i hi (hv.bytes i))
          ∙ L.apply_at s (step s t d f) v (apply s (step s t d f) w) e i hi
          ∙ L.apply-entry s (step s t d f) w i hi
          ∙ step_row s t d f (λ k. get_or w k 0) i hi (hw.bytes i)

      alike : c v ≡ c w
      alike =
          mul-cancel (f t) (c v) (c w) (h.bytes t) h.here (form-byte s f _) (form-byte s f _)
          (sym (form-step (λ k. get_or v k 0))
          ∙ sum-ext s (λ k. mul (f k) (add (get_or v k 0) (mul (u k) (c v)))) (λ k. mul (f k) (add (get_or w k 0) (mul (u k) (c w))))
          (λ k hk. ap (mul (f k)) (moved k hk))
          ∙ form-step (λ k. get_or w k 0))

-- ---- the form, from an entry of d that is not zero, at row t or below: f(x) = x_t + x_p·(1 + d_t)/d_p

module _ (s t p : ℕ) (d : ℕ → ℕ) (bytes : (k : ℕ) → IsByte (d k)) (low : t ≤ p) (high : p < s) (some : d p ≡ 0 → ⊥) where
  ratio : ℕ
  ratio = mul (add 1 (d t)) (invertible (d p) (bytes p) some).0

  ratio-times : mul ratio (d p) ≡ add 1 (d t)
  unfolding ratio
  ratio-times =
      let i = invertible (d p) (bytes p) some in
      mul_assoc (add 1 (d t)) i.0 (d p) ∙ ap (mul (add 1 (d t))) (mul_comm i.0 (d p) ∙ i.2)
      ∙ mul-one-right (add 1 (d t)) (add-byte 1 (d t) (omega arith) (bytes t))

  ratio-byte : IsByte ratio
  unfolding ratio
  ratio-byte = mul-byte (add 1 (d t)) (invertible (d p) (bytes p) some).0

  chosen : ℕ → ℕ
  chosen k = add (unit t k) (mul ratio (unit p k))

  at-d : form s chosen d ≡ 1
  unfolding chosen
  at-d =
      sum-ext s (λ k. mul (chosen k) (d k)) (λ k. add (mul (unit t k) (d k)) (mul ratio (mul (unit p k) (d k))))
      (λ k hk.
      mul-add-left (unit t k) (mul ratio (unit p k)) (d k) ∙ ap (add (mul (unit t k) (d k))) (mul_assoc ratio (unit p k) (d k)))
      ∙ sum-add s (λ k. mul (unit t k) (d k)) (λ k. mul ratio (mul (unit p k) (d k)))
      ∙ ap₂ add (unit-sum s t d (omega arith) (bytes t))
      (sym (mul-sum s ratio (λ k. mul (unit p k) (d k))) ∙ ap (mul ratio) (unit-sum s p d high (bytes p)) ∙ ratio-times ∙ add_comm 1 (d t))
      ∙ twice (d t) 1

  not-here : chosen t ≡ 0 → ⊥
  unfolding chosen
  not-here z = ⊎_elim same other (eq-or p t)
    where
      same : p ≡ t → ⊥
      same e =
          let none : ◌≡◌ {A = ℕ} 0 1 =
          sym (mul-zero-left (d t)) ∙ ap (λ (x : ℕ). mul x (d t)) (sym z) ∙ mul-add-left (unit t t) (mul ratio (unit p t)) (d t)
          ∙ ap₂ add (ap (λ (x : ℕ). mul x (d t)) (unit-same t) ∙ mul-one-left (d t) (bytes t))
          (ap (λ (x : ℕ). mul (mul ratio x) (d t)) (ap (λ (q : ℕ). unit q t) e ∙ unit-same t)
          ∙ ap (λ (x : ℕ). mul x (d t)) (mul-one-right ratio ratio-byte) ∙ ap (λ (q : ℕ). mul ratio (d q)) (sym e) ∙ ratio-times ∙ add_comm 1 (d t))
          ∙ twice (d t) 1 in
          omega arith

      other : (p ≡ t → ⊥) → ⊥
      other ne =
          let none : ◌≡◌ {A = ℕ} 0 1 =
          sym z ∙ ap₂ add (unit-same t) (ap (mul ratio) (unit-other p t ne) ∙ mul-zero-right ratio) ∙ add-zero-right 1 in
          omega arith

  chosen-form : Form s t d chosen
  unfolding chosen
  chosen-form =
      record {
        within = omega arith;
        bytes = λ k. add-byte (unit t k) (mul ratio (unit p k)) (unit-byte t k) (mul-byte ratio (unit p k));
        before =
            λ k hk.
            ap₂ add (unit-other t k (λ e. omega arith)) (ap (mul ratio) (unit-other p k (λ e. omega arith)) ∙ mul-zero-right ratio) ∙ add-zero-left 0;
        here = not-here;
        one = at-d;
      }

-- ---- one column more

-- the first t columns are those of the identity
abbrev First : ℕ → ℕ → List ℕ → Type 0
First s t m = (i k : ℕ) → i < s → k < t → entry s m i k ≡ unit i k

-- an inverse, or a first column that is a sum of multiples of those before it; not both, by `not-singular` and `dependent-singular`
abbrev pub Alternative : ℕ → List ℕ → Type 0
Alternative s m = ((n : List ℕ) × IsInverse s m n) ⊎ ((c : ℕ) × FirstDependent s m c)

module _ (s t : ℕ) (m : List ℕ) (hm : Bytes m) (first : First s t m) where
  d : ℕ → ℕ
  d k = entry s m k t

  entry-byte : (i k : ℕ) → IsByte (entry s m i k)
  entry-byte i k = L.entry-byte s m i k hm

  -- a column that is zero from row t on
  no-pivot : ((k : ℕ) → k < s → t ≤ k → d k ≡ 0) → Dependent s m t
  unfolding d column
  no-pivot none =
      record {
        multiples = column s m t;
        sized = L.column-vector s m t hm;
        before = zeros;
        combined =
            L.apply-is s m (column s m t) (column s m t) (L.length-column s m t)
            (λ i hi.
            unit-sum-before s t i (entry s m i) (λ k. get_or (column s m t) k 0) (λ k low. first i k hi low) zeros hi ((L.column-vector s m t hm).bytes i));
      }
    where
      zeros : (k : ℕ) → t ≤ k → get_or (column s m t) k 0 ≡ 0
      zeros k high = ⊎_elim (λ hk. L.column-at s m t k hk ∙ none k hk high) (get_or-tabulate-past s _ k) (lt-or k s)

  module _ (f : ℕ → ℕ) (h : Form s t d f) where
    next : List ℕ
    next = product s (step s t d f) m

    next-entry : (i k : ℕ) → i < s → k < s → entry s next i k ≡ add (entry s m i k) (mul (rise t d i) (form s f (λ j. entry s m j k)))
    unfolding next
    next-entry i k hi hk = L.product-entry s (step s t d f) m i k hi hk ∙ step_row s t d f (λ j. entry s m j k) i hi (entry-byte i k)

    next-bytes : Bytes next
    unfolding next
    next-bytes = L.product-bytes s (step s t d f) m

    next-first : First s (suc t) next
    unfolding d rise
    next-first i k hi hk = next-entry i k hi (omega (arith, h.within)) ∙ ⊎_elim kept taken (lt-or k t)
      where
        kept : k < t → add (entry s m i k) (mul (rise t d i) (form s f (λ j. entry s m j k))) ≡ unit i k
        kept low =
            ap (λ (x : ℕ). add (entry s m i k) (mul (rise t d i) x))
            (sum-ext s (λ j. mul (f j) (entry s m j k)) (λ j. mul (f j) (unit j k)) (λ j hj. ap (mul (f j)) (first j k hj low))
            ∙ sum-unit s k f (omega (arith, h.within)) (h.bytes k) ∙ h.before k low)
            ∙ ap (add (entry s m i k)) (mul-zero-right (rise t d i)) ∙ add-zero-right (entry s m i k) ∙ first i k hi low

        taken : t ≤ k → add (entry s m i k) (mul (rise t d i) (form s f (λ j. entry s m j k))) ≡ unit i k
        taken high =
            let same : t ≡ k = omega arith in
            subst (λ (k : ℕ). add (entry s m i k) (mul (rise t d i) (form s f (λ j. entry s m j k))) ≡ unit i k) same
            (ap (λ (x : ℕ). add (d i) (mul (rise t d i) x)) h.one
            ∙ ap (add (d i)) (mul-one-right (rise t d i) (add-byte (d i) (unit i t) (entry-byte i t) (unit-byte i t)))
            ∙ twice (d i) (unit i t))

    -- what the next matrix has, this one has
    back-inverse : (n : List ℕ) → IsInverse s next n → IsInverse s m (product s n (step s t d f))
    unfolding next
    back-inverse n inv =
        record {
          count = L.length-product s n (step s t d f);
          bytes = L.product-bytes s n (step s t d f);
          solves =
              λ x y hx hy.
              let e = step s t d f in (
                λ eq.
                    (inv.solves x (apply s e y) hx (L.apply-vector s e y)).0 (L.apply-product s e m x ∙ ap (apply s e) eq)
                    ∙ sym (L.apply-product s n e y),
                λ eq.
                    one-to-one s t d f h (apply s m x) y (L.apply-vector s m x) hy
                    (sym (L.apply-product s e m x)
                    ∙ (inv.solves x (apply s e y) hx (L.apply-vector s e y)).1 (eq ∙ L.apply-product s n e y)),
              );
        }

    back-dependent : (j : ℕ) → j < s → Dependent s next j → Dependent s m j
    unfolding next
    back-dependent j hj p =
        record {
          multiples = p.multiples;
          sized = p.sized;
          before = p.before;
          combined =
              one-to-one s t d f h (apply s m p.multiples) (column s m j) (L.apply-vector s m p.multiples) (L.column-vector s m j hm)
              (sym (L.apply-product s (step s t d f) m p.multiples) ∙ p.combined ∙ sym (L.apply-column s (step s t d f) m j hj));
        }

    -- and this one has no dependent column before the next's
    back-first-dependent : (c : ℕ) → FirstDependent s next c → FirstDependent s m c
    unfolding next
    back-first-dependent c p =
        record {
          place = p.place;
          counted = p.counted;
          within = p.within;
          here = back-dependent p.place p.within p.here;
          none_before = λ j hj d'. p.none_before j hj (L.product-dependent s (step s t d f) m j (omega (arith, p.within)) d');
        }

  one-column : t < s → ((m' : List ℕ) → Bytes m' → First s (suc t) m' → Alternative s m') → Alternative s m
  unfolding d
  one-column ht onward = ⊎_elim (λ none. inr (suc t, at_once none)) pivot (all-below (λ i. d (t + i) ≡ 0) (λ i. ℕ_discrete _ 0) (s - t))
    where
      zero-from : ((i : ℕ) → i < s - t → d (t + i) ≡ 0) → (k : ℕ) → k < s → t ≤ k → d k ≡ 0
      zero-from none k hk low =
          let same : t + (k - t) ≡ k = omega arith in
          subst (λ (q : ℕ). d q ≡ 0) same (none (k - t) (omega arith))

      at_once : ((i : ℕ) → i < s - t → d (t + i) ≡ 0) → FirstDependent s m (suc t)
      at_once none =
          record { place = t; counted = refl; within = ht; here = no-pivot (zero-from none); none_before = L.units-free s t m (omega arith) first }

      pivot : (j : ℕ) × (j < s - t) × (d (t + j) ≡ 0 → ⊥) × ((i : ℕ) → i < j → d (t + i) ≡ 0) → Alternative s m
      pivot (j, below, some, _) =
          let f = chosen-form s t (t + j) d (λ k. entry-byte k t) (omega arith) (omega arith) some in
          ⊎_elim (λ n. inl (_, back-inverse _ f n.0 n.1)) (λ c. inr (c.0, back-first-dependent _ f c.0 c.1))
          (onward (next _ f) (next-bytes _ f) (next-first _ f))

-- ---- all columns

-- all are the identity's
identity-inverse : (s : ℕ) (m : List ℕ) → First s s m → IsInverse s m (identity s)
identity-inverse s m first =
    record {
      count = L.length-identity s;
      bytes = L.identity-bytes s;
      solves = λ x y hx hy. (
        λ e. sym (L.apply-units s m x first hx) ∙ e ∙ sym (L.apply-identity s y hy),
        λ e. L.apply-units s m x first hx ∙ e ∙ L.apply-identity s y hy,
      );
    }

-- induction on how many are left
by-columns : (left s t : ℕ) (m : List ℕ) → t + left ≡ s → Bytes m → First s t m → Alternative s m
by-columns zero s t m e hm first = inl (identity s, identity-inverse s m (λ i k hi hk. first i k hi (omega arith)))
by-columns (suc left) s t m e hm first =
    one-column s t m hm first (omega arith) (λ m' hm' first'. by-columns left s (suc t) m' (omega arith) hm' first')

pub alternative : (s : ℕ) (m : List ℕ) → Bytes m → Alternative s m
alternative s m hm = by-columns s s 0 m (omega arith) hm (λ i k hi hk. absurd (not-suc-le-zero hk))

-- a matrix that takes no vector but 00 to 00 has an inverse
pub nonsingular-inverse : (s : ℕ) (m : List ℕ) → Bytes m → (Singular s m → ⊥) → (n : List ℕ) × IsInverse s m n
nonsingular-inverse s m hm none = ⊎_elim (λ n. n) (λ c. absurd (none (L.dependent-singular s m c.1.place c.1.within c.1.here))) (alternative s m hm)

-- any other has a first column that is a sum of multiples of those before it
pub singular-dependent : (s : ℕ) (m : List ℕ) → Bytes m → Singular s m → (c : ℕ) × FirstDependent s m c
singular-dependent s m hm g = ⊎_elim (λ n. absurd (L.not-singular s m n.0 n.1 g)) (λ c. c) (alternative s m hm)

-- ---- `invert`'s post-condition is met by some answer and buffer, whatever it is given

pub invert-met : (s : ℕ) (m old : List ℕ) → Bytes m → (answer : Inversion) × (new : List ℕ) × InvertPost s m old answer new
invert-met s m old hm = go (lt-or s 1) (lt-or 32 s) (eq-or (length m) (s * s)) (eq-or (length old) (s * s)) (alternative s m hm)
  where
    go : (s < 1) ⊎ (1 ≤ s) → (32 < s) ⊎ (s ≤ 32) → (length m ≡ s * s) ⊎ (length m ≡ s * s → ⊥) → (length old ≡ s * s) ⊎ (length old ≡ s * s → ⊥)
        → Alternative s m → (answer : Inversion) × (new : List ℕ) × InvertPost s m old answer new
    go (inl low) _ _ _ _ = (Refused 16, old, refused-side s m old (simp (lt-leb 1 s low)))
    go (inr low) (inl high) _ _ _ = (Refused 16, old, refused-side s m old (simp (le-leb 1 s low, lt-leb s 32 high)))
    go (inr low) (inr high) (inr ne) _ _ = (Refused 6, old, refused-lengths s m old low high (simp (ne_eqb (length m) (s * s) ne)))
    go (inr low) (inr high) (inl e) (inr ne) _ =
        (Refused 6, old, refused-lengths s m old low high (simp (eq-eqb (length m) (s * s) e, ne_eqb (length old) (s * s) ne)))
    go (inr low) (inr high) (inl e) (inl e') (inl n) =
        (Inverted, n.0, answered-inverse s m old (record { low = low; high = high; matrix = e; buffer = e' }) n.0 n.1)
    go (inr low) (inr high) (inl e) (inl e') (inr c) =
        (SingularAt c.0, old, answered-singular s m old (record { low = low; high = high; matrix = e; buffer = e' }) c.0 c.1)

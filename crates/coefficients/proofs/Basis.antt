-- The lowest coefficients of the basis polynomials of Lagrange. The product of all z - x is (z - c) times a quotient, for a point c; so each of its
-- coefficients is one of the quotient less c times the next one, and from the lowest up the quotient's follow. Assumes nothing.
use mathlib.Core.Path.{◌≡◌, refl, sym, ap, ap₂, ◌∙◌, subst, subst⁻¹}
use mathlib.Core.List.{List}
use mathlib.Core.Logic.{⊎_elim}
use Prim.Native.Nat.{ℕ, zero, suc, ◌+◌, ◌-◌, ◌*◌, ◌/◌, ◌%◌, ◌≤◌, ◌<◌}
use native.Mathlib.Nat.{le_refl}
use native.Mathlib.Numerals.{add-one}
use native.Mathlib.Omega.{arith}
use lib.Arith.{digits_div, digits_mod}
use lib.ListN.{length, get_or, set, length-set}
use lib.Seq.{get_or-set_same, get_or-set_other}
use Rattle.base.specs.Seq.{cell}
use Rattle.base.proofs.Cases.{eq-or}
use Rattle.base.proofs.Seq.{cell-lt}
use Rattle.field.specs.Field.{IsByte, add, mul, pow}
use Rattle.field.proofs.Addition.{add_assoc, add-self, add-zero-left}
use Rattle.field.proofs.Multiplication.{mul-byte, mul_comm, mul_assoc, mul-add-left, mul-one-left, mul-one-right}
use Rattle.field.proofs.Exponents.{pow-byte, mul-nonzero, quotient-unique}
use Rattle.interpolation.specs.Polynomial.{Points}
use Rattle.interpolation.specs.Lagrange.{coefs, apart}
use Rattle.interpolation.proofs.Lagrange.{apart-byte, apart-nonzero, coefs-first, coefs-next, whole-first, whole-next}
use Rattle.coefficients.specs.Working.{product_at, basis, Widened, Lowest, BasisPut}

-- ---- multiplying by z - x, from the top down

-- the entries above j are those of the product, the others as they were
pub record Widening (x j : ℕ) (old new : List ℕ) : Type 0 where
  pub same : length new ≡ length old
  pub done : (i : ℕ) → j ≤ i → suc i < length old → get_or new (suc i) 0 ≡ add (get_or old i 0) (mul x (get_or old (suc i) 0))
  pub rest : (i : ℕ) → i ≤ j → get_or new i 0 ≡ get_or old i 0

pub widening-none : (x : ℕ) (p : List ℕ) → 0 < length p → Widening x (length p - 1) p p
widening-none x p some = record { same = refl; done = λ i h l. absurd (omega arith); rest = λ i h. refl }

pub widening-more : (x j : ℕ) (old new : List ℕ) (v : ℕ) → 0 < j → j < length new → v ≡ add (get_or new (j - 1) 0) (mul (get_or new j 0) x)
    → Widening x j old new → Widening x (j - 1) old (set new j v)
widening-more x j old new v low high e w =
    let k = j - 1 in
    let top : j ≡ suc k = omega arith in
    record {
      same = simp length-set w.same;
      done = λ i h l.
          ⊎_elim
          (λ (q : i ≡ k).
          ap (λ (m : ℕ). get_or (set new j v) (suc m) 0) q ∙ ap (λ (m : ℕ). get_or (set new j v) m 0) (sym top) ∙ get_or-set_same new j v 0 high ∙ e
          ∙ ap₂ add (w.rest k (omega arith) ∙ ap (λ (m : ℕ). get_or old m 0) (sym q))
          (mul_comm _ x ∙ ap (mul x) (w.rest j (omega arith) ∙ ap (λ (m : ℕ). get_or old m 0) (top ∙ ap suc (sym q)))))
          (λ ne. get_or-set_other new j (suc i) v 0 (λ q. omega (arith, ne)) ∙ w.done i (omega (arith, ne)) l)
          (eq-or i k);
      rest = λ i h. get_or-set_other new j i v 0 (λ q. omega arith) ∙ w.rest i (omega arith);
    }

pub widened : (x j : ℕ) (old new : List ℕ) (v : ℕ) → j ≡ 0 → 0 < length new → v ≡ mul (get_or new 0 0) x → Widening x j old new
    → Widened x old (set new 0 v)
widened x j old new v end some e w =
    record {
      first = get_or-set_same new 0 v 0 some ∙ e ∙ mul_comm _ x ∙ ap (mul x) (w.rest 0 (omega arith));
      next = λ i h. get_or-set_other new 0 (suc i) v 0 (λ q. omega arith) ∙ w.done i (omega arith) h;
    }

-- ---- the product of all z - x

pub lowest-none : (points p : List ℕ) → 0 < length p → ((j : ℕ) → get_or p j 0 ≡ 0) → Lowest points 0 (set p 0 1)
unfolding coefs
lowest-none points p some z zero h = get_or-set_same p 0 1 0 some
lowest-none points p some z (suc j) h = get_or-set_other p 0 (suc j) 1 0 (λ q. omega arith) ∙ z (suc j)

module _ (points : List ℕ) (tell : Points points) (d : ℕ) (hd : d < length points) where
  product-first : product_at points (suc d) 0 ≡ mul (get_or points d 0) (product_at points d 0)
  product-first = coefs-first points 0 d (tell.nonzero d hd)

  product-next : (j : ℕ) → product_at points (suc d) (suc j) ≡ add (product_at points d j) (mul (get_or points d 0) (product_at points d (suc j)))
  product-next j = coefs-next points 0 d (tell.nonzero d hd) j

  pub lowest-more : (x : ℕ) (old new : List ℕ) → x ≡ get_or points d 0 → length new ≡ length old → Widened x old new → Lowest points d old
      → Lowest points (d + 1) new
  lowest-more x old new e same w p j hj = go j hj ∙ ap (λ (k : ℕ). product_at points k j) (sym (add-one d))
    where
      go : (j : ℕ) → j < length new → get_or new j 0 ≡ product_at points (suc d) j
      go zero h = w.first ∙ ap₂ mul e (p 0 (omega arith)) ∙ sym product-first
      go (suc j) h =
          w.next j (omega arith) ∙ ap₂ add (p j (omega arith)) (ap₂ mul e (p (suc j) (omega arith))) ∙ sym (product-next j)

-- its lowest coefficient is the product of the points, none of which is 00
module _ (points : List ℕ) (tell : Points points) where
  first_byte : (d : ℕ) → d ≤ length points → IsByte (product_at points d 0)
  unfolding coefs
  first_byte zero h = omega arith
  first_byte (suc d) h = subst⁻¹ IsByte (product-first points tell d (omega arith)) (mul-byte _ _)

  pub first-nonzero : (d : ℕ) → d ≤ length points → product_at points d 0 ≡ 0 → ⊥
  unfolding coefs
  first-nonzero zero h e = omega arith
  first-nonzero (suc d) h e =
      mul-nonzero _ _ (tell.bytes d) (first_byte d (omega arith)) (tell.nonzero d (omega arith))
      (first-nonzero d (omega arith)) (sym (product-first points tell d (omega arith)) ∙ e)

-- ---- the coefficients of one basis polynomial

module _ (points : List ℕ) (tell : Points points) (i : ℕ) (hi : i < length points) (back scale : ℕ)
    (inverse : mul (get_or points i 0) (pow 2 back) ≡ 1)
    (weight : mul (apart 0 points (get_or points i 0) (get_or points i 0)) (pow 2 scale) ≡ 1) where
  abbrev x : ℕ
  x = get_or points i 0

  -- the quotient's coefficients
  abbrev quotient : ℕ → ℕ
  quotient j = get_or (coefs points x (length points)) j 0

  basis-is : (j : ℕ) → basis points i j ≡ mul (quotient j) (pow 2 scale)
  unfolding basis
  basis-is j =
      let D = apart 0 points x x in
      ap (mul (quotient j))
      (sym
      (quotient-unique D (pow 2 scale) 1 (apart-byte 0 points x x)
      (apart-nonzero 0 points x tell.bytes (tell.bytes i) (tell.nonzero i hi)) (pow-byte 2 scale)
      (mul_comm _ _ ∙ weight)
      ∙ mul-one-left _ (pow-byte D 254)))

  first-is : product_at points (length points) 0 ≡ mul x (quotient 0)
  first-is = whole-first points tell i (length points) hi (le_refl _)

  next-is : (j : ℕ) → product_at points (length points) (suc j) ≡ add (quotient j) (mul x (quotient (suc j)))
  next-is j = whole-next points tell i (length points) hi (le_refl _) j

  -- x times a coefficient, scaled, and divided by x
  divided : (j : ℕ) → mul (mul (mul x (quotient j)) (pow 2 scale)) (pow 2 back) ≡ basis points i j
  divided j =
      ap (λ (k : ℕ). mul k (pow 2 back)) (mul_assoc x (quotient j) (pow 2 scale)) ∙ ap (λ (k : ℕ). mul k (pow 2 back)) (mul_comm x _)
      ∙ mul_assoc (mul (quotient j) (pow 2 scale)) x (pow 2 back) ∙ ap (mul (mul (quotient j) (pow 2 scale))) inverse
      ∙ mul-one-right _ (mul-byte (quotient j) (pow 2 scale)) ∙ sym (basis-is j)

  -- the lowest, by exponents
  pub lead-first : (first r s : ℕ) → pow 2 first ≡ product_at points (length points) 0 → pow 2 r ≡ mul (pow 2 first) (pow 2 scale) → pow 2 s ≡ mul (pow 2 r) (pow 2 back)
      → pow 2 s ≡ basis points i 0
  lead-first first r s hf hr hs =
      hs ∙ ap (λ (k : ℕ). mul k (pow 2 back)) (hr ∙ ap (λ (k : ℕ). mul k (pow 2 scale)) (hf ∙ first-is)) ∙ divided 0

  -- and each from the one below
  pub lead-next : (j lead above : ℕ) → lead ≡ basis points i j → above ≡ product_at points (length points) (suc j)
      → mul (add lead (mul above (pow 2 scale))) (pow 2 back) ≡ basis points i (suc j)
  lead-next j lead above hl ha =
      let S = pow 2 scale in
      let B = mul (quotient j) S in
      let C = mul (mul x (quotient (suc j))) S in
      ap (λ (k : ℕ). mul k (pow 2 back))
      (ap₂ add (hl ∙ basis-is j) (ap (λ (k : ℕ). mul k S) (ha ∙ next-is j) ∙ mul-add-left (quotient j) _ S)
      ∙ sym (add_assoc B B C) ∙ ap (λ (k : ℕ). add k C) (add-self B) ∙ add-zero-left C)
      ∙ divided (suc j)

-- ---- a column, entry by entry

-- the first t of its entries are written
pub record Climbed (points : List ℕ) (i t : ℕ) (old new : List ℕ) : Type 0 where
  pub same : length new ≡ length old
  pub done : (j : ℕ) → j < t → cell (length points) new j i ≡ basis points i j
  pub kept : (j k : ℕ) → k < length points → (k ≡ i → ⊥) → cell (length points) new j k ≡ cell (length points) old j k

pub climbed-none : (points : List ℕ) (i : ℕ) (rows : List ℕ) → Climbed points i 0 rows rows
climbed-none points i rows = record { same = refl; done = λ j h. absurd (omega arith); kept = λ j k h ne. refl }

pub climbed-here : (points : List ℕ) (i t : ℕ) (old new : List ℕ) → Climbed points i t old new → Climbed points i t new new
climbed-here points i t old new c = record { same = refl; done = c.done; kept = λ j k h ne. refl }

pub climbed-more : (count : ℕ) (points : List ℕ) (i t place : ℕ) (old new : List ℕ) (v : ℕ) → i < length points → t < count
    → length old ≡ count * length points → place ≡ t * length points + i → v ≡ basis points i t → Climbed points i t old new
    → Climbed points i (t + 1) old (set new place v)
unfolding cell
climbed-more count points i t place old new v hi ht room at e c =
    let q = length points in
    record {
      same = simp length-set c.same;
      done = λ j h.
          ⊎_elim
          (λ (p : j ≡ t).
          ap (λ (k : ℕ). get_or (set new place v) (k * q + i) 0) p ∙ ap (λ (k : ℕ). get_or (set new place v) k 0) (sym at)
          ∙ get_or-set_same new place v 0 (subst (λ (k : ℕ). k < length new) (sym at) (subst (λ (k : ℕ). t * q + i < k) (sym (c.same ∙ room)) (cell-lt q count t i ht hi)))
          ∙ e ∙ ap (basis points i) (sym p))
          (λ ne.
          get_or-set_other new place (j * q + i) v 0 (λ p. ne (sym (digits_div j hi) ∙ ap (λ (k : ℕ). k / q) (p ∙ at) ∙ digits_div t hi))
          ∙ c.done j (omega (arith, ne)))
          (eq-or j t);
      kept = λ j k h ne.
          get_or-set_other new place (j * q + k) v 0 (λ p. ne (sym (digits_mod j h) ∙ ap (λ (l : ℕ). l % q) (p ∙ at) ∙ digits_mod t hi))
          ∙ c.kept j k h ne;
    }

-- from the first entry on
pub climbed-on : (points : List ℕ) (i s t : ℕ) (old mid new : List ℕ) → Climbed points i s old mid → Climbed points i t mid new → Climbed points i t old new
climbed-on points i s t old mid new c d = record { same = d.same ∙ c.same; done = d.done; kept = λ j k h ne. d.kept j k h ne ∙ c.kept j k h ne }

pub climbed-all : (count : ℕ) (points : List ℕ) (i t : ℕ) (old new : List ℕ) → count ≤ t → Climbed points i t old new → BasisPut count points i old new
climbed-all count points i t old new h c = record { put = λ j hj. c.done j (omega arith); kept = c.kept }

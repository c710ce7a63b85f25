-- Lagrange's formula as the code finds it: products by the sums of exponents, quotients by their differences, and the rows that come of it.
-- Assumes nothing.
use mathlib.Core.Bool.{Bool, true, false}
use mathlib.Core.Path.{◌≡◌, refl, sym, ap, ap₂, ◌∙◌}
use mathlib.Core.List.{List}
use mathlib.Core.Logic.{⊎_elim}
use Prim.Native.Nat.{ℕ, suc, ◌+◌, ◌*◌, ◌≤◌, ◌<◌}
use native.Mathlib.Nat.{mul-le-mul}
use native.Mathlib.Numerals.{add-one}
use native.Mathlib.Omega.{arith}
use borrow.Author.Tests.{eq-eqb, ne_eqb}
use lib.Dec.{eqb}
use Rattle.std.specs.Int.{from_bool}
use lib.ListN.{length, get_or}
use Rattle.base.specs.Seq.{one, cell}
use Rattle.base.proofs.Cases.{eq-or}
use Rattle.base.proofs.Seq.{tabulate-ext, cell-blocks}
use Rattle.field.specs.Field.{IsByte, add, mul, pow}
use Rattle.field.proofs.Addition.{add-byte, add-zero-eq}
use Rattle.field.proofs.Multiplication.{mul-byte, mul_comm, mul_assoc, mul-zero-left, mul-one-right}
use Rattle.field.proofs.Exponents.{pow-byte, pow-add, pow-pow, mul-cancel, inverse-power, quotient-unique}
use Rattle.field.proofs.FiniteSum.{sum-ext}
use Rattle.interpolation.specs.Polynomial.{Points}
use Rattle.interpolation.specs.Lagrange.{product, factor, apart, basis_value}
use Rattle.interpolation.proofs.Lagrange.{apart-byte, apart-elsewhere, apart-nonzero, apart-whole, lagrange}
use Rattle.points.specs.Lists.{Among}
use Rattle.coefficients.specs.Working.{same, unit_row, basis_values, basis_value_rows, Weighable, Carries, remaining}
use Rattle.coefficients.proofs.Rows.{tabulated}

-- ---- products by the sums of exponents

pub power_small : (l e : ℕ) → l < 255 → e ≤ 32 → l * (e + 1) ≤ 254 * 33
power_small l e hl he =
    let small : l ≤ 254 = omega arith in
    let few : e + 1 ≤ 33 = omega arith in
    mul-le-mul small few

-- no factor yet
pub apart_none : (e x l : ℕ) (f : ℕ → ℕ) → pow 2 l ≡ x → pow 2 (l * (e + 1)) ≡ mul (pow x (suc e)) (product 0 f)
unfolding product
apart_none e x l f h =
    ap (λ (k : ℕ). pow 2 (l * k)) (add-one e) ∙ sym (pow-pow 2 l (suc e)) ∙ ap (λ (k : ℕ). pow k (suc e)) h
    ∙ sym (mul-one-right (pow x (suc e)) (pow-byte x (suc e)))

-- one more
pub apart_more : (p n d j : ℕ) (f : ℕ → ℕ) → pow 2 n ≡ mul p (product j f) → pow 2 d ≡ f j → pow 2 (n + d) ≡ mul p (product (j + 1) f)
unfolding product
apart_more p n d j f h k =
    pow-add 2 n d ∙ ap₂ mul h k ∙ mul_assoc p (product j f) (f j) ∙ ap (λ (i : ℕ). mul p (product i f)) (sym (add-one j))

-- all
pub apart-all : (e : ℕ) (at : List ℕ) (x n j : ℕ) → j ≡ length at → pow 2 n ≡ mul (pow x (suc e)) (product j (λ k. factor x x (get_or at k 0)))
    → pow 2 n ≡ apart e at x x
unfolding apart
apart-all e at x n j whole h = h ∙ ap (λ (i : ℕ). mul (pow x (suc e)) (product i (λ k. factor x x (get_or at k 0)))) whole

-- ---- a target that is none of the points

module _ (e : ℕ) (at : List ℕ) (target : ℕ) (can : Weighable e at) (byte : IsByte target) (out : Among (length at) at target → ⊥) (o : ℕ) (ho : o < length at) where
  abbrev x : ℕ
  x = get_or at o 0

  pub gap-nonzero : add target (get_or at o 0) ≡ 0 → ⊥
  gap-nonzero z = out (o, ho, sym (add-zero-eq target x z))

  pub gain-found : (weight gap parts back whole g : ℕ) → pow 2 weight ≡ apart e at (get_or at o 0) (get_or at o 0)
      → pow 2 gap ≡ add target (get_or at o 0) → pow 2 parts ≡ mul (pow 2 weight) (pow 2 gap) → mul (pow 2 parts) (pow 2 back) ≡ 1
      → pow 2 whole ≡ apart e at target target → pow 2 g ≡ mul (pow 2 whole) (pow 2 back)
      → pow 2 g ≡ basis_value e at (get_or at o 0) target
  unfolding basis_value
  gain-found weight gap parts back whole g hw hg hp hb hz h =
      quotient-unique W (pow 2 g) N (apart-byte e at x x)
      (apart-nonzero e at x can.tell.bytes (can.tell.bytes o) (can.tell.nonzero o ho)) (pow-byte 2 g)
      (mul-cancel D (mul (pow 2 g) W) N (add-byte target x byte (can.tell.bytes o)) gap-nonzero (mul-byte _ _) (apart-byte e at x target)
      (ap (λ (k : ℕ). mul D (mul k W)) h ∙ mul_comm D _ ∙ mul_assoc _ W D
      ∙ ap (mul (mul (pow 2 whole) (pow 2 back))) (sym product_is) ∙ mul_assoc (pow 2 whole) (pow 2 back) (pow 2 parts)
      ∙ ap (mul (pow 2 whole)) (mul_comm _ _ ∙ hb) ∙ mul-one-right _ (pow-byte 2 whole) ∙ hz ∙ apart-whole e at target o can.tell ho (λ i hi q. out (i, hi, q)) ∙ mul_comm N D))
    where
      W : ℕ
      W = apart e at x x

      N : ℕ
      N = apart e at x target

      D : ℕ
      D = add target x

      product_is : pow 2 parts ≡ mul W D
      product_is = hp ∙ ap₂ mul hw hg

-- ---- a target that is one

-- as the code finds it
pub same-told : (x y : ℕ) → from_bool (eqb x y) ≡ same x y
unfolding same
same-told x y = elim (eqb x y) as (λ (b : Bool). from_bool b ≡ one b) [ true ↦ refl | false ↦ refl ]

pub same-equal : (x y : ℕ) → x ≡ y → same x y ≡ 1
unfolding same
same-equal x y e = ap one (eq-eqb x y e)

pub same-other : (x y : ℕ) → (x ≡ y → ⊥) → same x y ≡ 0
unfolding same
same-other x y n = ap one (ne_eqb x y n)

pub unit-gains : (e : ℕ) (at : List ℕ) (target i : ℕ) → Weighable e at → i < length at → get_or at i 0 ≡ target → unit_row at target ≡ basis_values e at target
unfolding unit_row basis_values basis_value
unit-gains e at target i can hi here =
    tabulate-ext (length at) _ _
    (λ o ho.
    let x = get_or at o 0 in
    ⊎_elim
    (λ (q : x ≡ target).
    same-equal x target q
    ∙ sym
    (ap (λ (z : ℕ). mul (apart e at x z) (pow (apart e at x x) 254)) (sym q)
    ∙ inverse-power (apart e at x x) (apart-byte e at x x) (apart-nonzero e at x can.tell.bytes (can.tell.bytes o) (can.tell.nonzero o ho))))
    (λ ne.
    same-other x target ne
    ∙ sym
    (ap (λ (n : ℕ). mul n (pow (apart e at x x) 254)) (ap (apart e at x) (sym here) ∙ apart-elsewhere e at x i hi (λ q. ne (sym q ∙ here)))
    ∙ mul-zero-left (pow (apart e at x x) 254)))
    (eq-or x target))

-- ---- rows

pub row-gains : (e : ℕ) (at : List ℕ) (target : ℕ) (new : List ℕ) → new ≡ basis_values e at target
    → (length new ≡ length at) × ((o : ℕ) → o < length at → get_or new o 0 ≡ basis_value e at (get_or at o 0) target)
unfolding basis_values
row-gains e at target new h = tabulated (length at) _ new h

-- the rows of gains take values to values
pub carries : (e : ℕ) (at targets gains : List ℕ) → Points at → gains ≡ basis_value_rows e at targets → Carries e at targets gains
unfolding basis_value_rows
carries e at targets gains points h =
    record {
      takes = λ v hv t ht.
          lagrange e at points v (λ j hj. hv j) (get_or targets t 0)
          ∙ sum-ext (length at) _ _
          (λ o ho.
          ap (λ (g : ℕ). mul g (remaining e (length at) v (get_or at o 0)))
          (sym (ap (λ (l : List ℕ). cell (length at) l t o) h ∙ cell-blocks (length at) (length targets) _ t o ht ho)));
    }

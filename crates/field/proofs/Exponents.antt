-- Powers, the table of the powers of 02, inverses and division by what is not 0. Each exponent is put in a list at the place that its power says: one
-- computed test, that no place but that of 00 stays empty, shows that 02 gives every nonzero byte. The laws of exponents and inverses follow. Assumes nothing.
use mathlib.Core.Path.{◌≡◌, refl, sym, ap, ap₂, ◌∙◌, subst}
use mathlib.Core.Bool.{Bool, true}
use mathlib.Core.List.{List, [], ◌∷◌}
use mathlib.Core.Logic.{⊎_elim}
use Prim.Native.Nat.{ℕ, zero, suc, ◌+◌, ◌-◌, ◌*◌, ◌/◌, ◌%◌, ◌<◌}
use native.Mathlib.Nat.{not-suc-le-zero, le_of_suc-le-suc, lt_irrefl, zero-add, suc-add, div-add-mod'}
use native.Mathlib.Numerals.{add-one}
use native.Mathlib.Omega.{arith}
use lib.Dec.{T, ltb, ltb→lt}
use lib.ListN.{length, get_or, set, replicate, length-set, get_or-replicate}
use lib.Seq.{get_or-set_same, get_or-set_other}
use Rattle.base.proofs.Test.{both, both_left, both_right}
use Rattle.base.proofs.Cases.{lt-or, eq-or}
use Rattle.field.specs.Field.{IsByte, mul, pow, Inverse, PowerTable, LogTable}
use Rattle.field.proofs.Multiplication.{mul_comm, mul_assoc, mul-byte, mul-one-left, mul-one-right, mul-zero-right}
use Rattle.field.proofs.Doubling.{twice, twice-is, twice-byte}

-- ---- exponents

pub pow-zero : (a : ℕ) → pow a 0 ≡ 1
unfolding pow
pow-zero a = refl

pub pow-suc : (a e : ℕ) → pow a (suc e) ≡ mul a (pow a e)
unfolding pow
pow-suc a e = refl

pub pow-byte : (a e : ℕ) → IsByte (pow a e)
unfolding pow
pow-byte a zero = omega arith
pow-byte a (suc e) = mul-byte a (pow a e)

pow-one : (a : ℕ) → IsByte a → pow a 1 ≡ a
pow-one a ha = pow-suc a 0 ∙ ap (mul a) (pow-zero a) ∙ mul-one-right a ha

pub pow-add : (a d e : ℕ) → pow a (d + e) ≡ mul (pow a d) (pow a e)
pow-add a zero e =
    ap (pow a) (zero-add e) ∙ sym (mul-one-left (pow a e) (pow-byte a e)) ∙ ap (λ (x : ℕ). mul x (pow a e)) (sym (pow-zero a))
pow-add a (suc d) e =
    ap (pow a) (suc-add d e) ∙ pow-suc a (d + e) ∙ ap (mul a) (pow-add a d e) ∙ sym (mul_assoc a (pow a d) (pow a e))
    ∙ ap (λ (x : ℕ). mul x (pow a e)) (sym (pow-suc a d))

pub pow-pow : (a l e : ℕ) → pow (pow a l) e ≡ pow a (l * e)
pow-pow a l zero = pow-zero (pow a l) ∙ sym (pow-zero a) ∙ ap (pow a) none
  where
    none : 0 ≡ l * 0
    none = omega arith
pow-pow a l (suc e) = pow-suc (pow a l) e ∙ ap (mul (pow a l)) (pow-pow a l e) ∙ sym (pow-add a l (l * e)) ∙ ap (pow a) more
  where
    more : l + l * e ≡ l * suc e
    more = omega arith

-- ---- the table of powers of 02

-- n entries from x on, each 02 times the one before
unfoldable pub doublings : ℕ → ℕ → List ℕ
unfolding twice
doublings zero x = []
doublings (suc n) x = x ∷ doublings n (twice x)

length-doublings : (n x : ℕ) → length (doublings n x) ≡ n
unfolding doublings
length-doublings zero x = refl
length-doublings (suc n) x = ap suc (length-doublings n (twice x))

doublings-next : (n x k : ℕ) → IsByte x → suc k < n → get_or (doublings n x) (suc k) 0 ≡ mul 2 (get_or (doublings n x) k 0)
unfolding doublings
doublings-next zero x k hx h = absurd (not-suc-le-zero h)
doublings-next (suc zero) x k hx h = absurd (not-suc-le-zero (le_of_suc-le-suc h))
doublings-next (suc (suc n)) x zero hx h = twice-is x hx
doublings-next (suc (suc n)) x (suc k) hx h = doublings-next (suc n) (twice x) k (twice-byte x hx) (le_of_suc-le-suc h)

-- The code's table is compared with this list entry by entry, by computation: that is the doubling rule over all entries.
pub power-table : PowerTable (doublings 255 1)
unfolding doublings mul
power-table =
    record {
      count = length-doublings 255 1;
      first = refl;
      next = λ k h.
          ap (λ (j : ℕ). get_or (doublings 255 1) j 0) (add-one k)
          ∙ doublings-next 255 1 k (omega arith) (subst (λ (j : ℕ). j < 255) (add-one k) h);
      wrap = refl;
    }

module _ (t : List ℕ) (table : PowerTable t) where
  pub power_at : (k : ℕ) → k < 255 → get_or t k 0 ≡ pow 2 k
  power_at zero h = table.first ∙ sym (pow-zero 2)
  power_at (suc k) h =
      ap (λ (j : ℕ). get_or t j 0) (sym (add-one k)) ∙ table.next k (subst (λ (j : ℕ). j < 255) (sym (add-one k)) h)
      ∙ ap (mul 2) (power_at k (omega arith)) ∙ sym (pow-suc 2 k)

-- after the last power comes 01 again
pub pow-order : pow 2 255 ≡ 1
pow-order =
    pow-suc 2 254 ∙ ap (mul 2) (sym (power_at (doublings 255 1) power-table 254 (omega arith))) ∙ power-table.wrap

pow-order-times : (q : ℕ) → pow 2 (q * 255) ≡ 1
pow-order-times zero = pow-zero 2
pow-order-times (suc q) =
    ap (pow 2) e ∙ pow-add 2 255 (q * 255) ∙ ap₂ mul pow-order (pow-order-times q) ∙ mul-one-left 1 (omega arith)
  where
    e : suc q * 255 ≡ 255 + q * 255
    e = omega arith

-- exponents count modulo 255
pub pow-mod : (e : ℕ) → pow 2 (e % 255) ≡ pow 2 e
pow-mod e =
    sym (mul-one-left _ (pow-byte 2 (e % 255))) ∙ ap (λ (x : ℕ). mul x (pow 2 (e % 255))) (sym (pow-order-times (e / 255)))
    ∙ sym (pow-add 2 (e / 255 * 255) (e % 255)) ∙ ap (pow 2) (div-add-mod' e 255)

-- ---- every nonzero byte is a power of 02

-- the exponents of a list of powers from k on, each put where its power says
unfoldable pub exponents : List ℕ → ℕ → List ℕ → List ℕ
exponents [] k l = l
exponents (x ∷ xs) k l = exponents xs (suc k) (set l x k)

-- 255, which is no exponent, wherever none is put yet; at 00 none ever is
unfoldable pub logs : List ℕ
unfolding doublings exponents
logs = exponents (doublings 255 1) 0 (0 ∷ replicate 255 255)

-- the exponents in the list stand where their powers say
record Placed (l : List ℕ) : Type 0 where
  count : length l ≡ 256
  right : (a : ℕ) → IsByte a → (a ≡ 0 → ⊥) → get_or l a 0 < 255 → pow 2 (get_or l a 0) ≡ a

placed-none : Placed (0 ∷ replicate 255 255)
placed-none = record { count = refl; right = none }
  where
    none : (a : ℕ) → IsByte a → (a ≡ 0 → ⊥) → get_or (0 ∷ replicate 255 255) a 0 < 255 → pow 2 (get_or (0 ∷ replicate 255 255) a 0) ≡ a
    none zero h n s = absurd (n refl)
    none (suc a) h n s = absurd (lt_irrefl 255 (subst (λ (v : ℕ). v < 255) (get_or-replicate 255 a 255 0 (le_of_suc-le-suc h)) s))

placed-set : (l : List ℕ) (x k : ℕ) → IsByte x → x ≡ pow 2 k → Placed l → Placed (set l x k)
placed-set l x k hx e p =
    record {
      count = length-set l x k ∙ p.count;
      right = λ a h n s. ⊎_elim (here a) (λ o. other a o h n s) (eq-or a x);
    }
  where
    here : (a : ℕ) → a ≡ x → pow 2 (get_or (set l x k) a 0) ≡ a
    here a same =
        ap (λ (i : ℕ). pow 2 (get_or (set l x k) i 0)) same
        ∙ ap (pow 2) (get_or-set_same l x k 0 (subst (λ (m : ℕ). x < m) (sym p.count) hx)) ∙ sym e ∙ sym same

    other : (a : ℕ) → (a ≡ x → ⊥) → IsByte a → (a ≡ 0 → ⊥) → get_or (set l x k) a 0 < 255 → pow 2 (get_or (set l x k) a 0) ≡ a
    other a o h n s =
        let kept = get_or-set_other l x a k 0 o in
        ap (pow 2) kept ∙ p.right a h n (subst (λ (v : ℕ). v < 255) kept s)

placed-all : (n x k : ℕ) (l : List ℕ) → IsByte x → x ≡ pow 2 k → Placed l → Placed (exponents (doublings n x) k l)
unfolding doublings exponents
placed-all zero x k l hx e p = p
placed-all (suc n) x k l hx e p =
    placed-all n (twice x) (suc k) (set l x k) (twice-byte x hx) (twice-is x hx ∙ ap (mul 2) e ∙ sym (pow-suc 2 k)) (placed-set l x k hx e p)

logs-placed : Placed logs
unfolding logs
logs-placed = placed-all 255 1 0 (0 ∷ replicate 255 255) (omega arith) (sym (pow-zero 2)) placed-none

-- a test of each entry of a list
all_in : (ℕ → Bool) → List ℕ → Bool
all_in f [] = true
all_in f (x ∷ l) = both (f x) (all_in f l)

in-at : (f : ℕ → Bool) (l : List ℕ) → T (all_in f l) → (i : ℕ) → i < length l → T (f (get_or l i 0))
unfolding all_in
in-at f [] t i h = absurd (not-suc-le-zero h)
in-at f (x ∷ l) t zero h = both_left (f x) (all_in f l) t
in-at f (x ∷ l) t (suc i) h = in-at f l (both_right (f x) (all_in f l) t) i (le_of_suc-le-suc h)

-- an exponent was put everywhere
log-tests : T (all_in (λ v. ltb v 255) logs)
unfolding all_in logs
log-tests = tt

pub log-table : LogTable logs
log-table =
    record { count = logs-placed.count; small = λ a h n. small a h; power = λ a h n. logs-placed.right a h n (small a h) }
  where
    small : (a : ℕ) → IsByte a → get_or logs a 0 < 255
    small a h = ltb→lt _ _ (in-at (λ v. ltb v 255) logs log-tests a (subst (λ (m : ℕ). a < m) (sym logs-placed.count) h))

pub generated : (a : ℕ) → IsByte a → (a ≡ 0 → ⊥) → (e : ℕ) × (e < 255) × (pow 2 e ≡ a)
generated a h n = (get_or logs a 0, log-table.small a h n, log-table.power a h n)

-- ---- inverses

pub inverse-of-power : (e : ℕ) → e < 255 → mul (pow 2 e) (pow 2 ((255 - e) % 255)) ≡ 1
inverse-of-power e h =
    ap (mul (pow 2 e)) (pow-mod (255 - e)) ∙ sym (pow-add 2 e (255 - e)) ∙ ap (pow 2) whole ∙ pow-order
  where
    whole : e + (255 - e) ≡ 255
    whole = omega arith

-- every nonzero byte has an inverse
pub invertible : (a : ℕ) → IsByte a → (a ≡ 0 → ⊥) → (b : ℕ) × IsByte b × (mul a b ≡ 1)
invertible a h n =
    let g = generated a h n in (
      pow 2 ((255 - g.0) % 255),
      pow-byte 2 ((255 - g.0) % 255),
      ap (λ (x : ℕ). mul x (pow 2 ((255 - g.0) % 255))) (sym g.2) ∙ inverse-of-power g.0 g.1,
    )

-- a nonzero factor can be taken away
pub mul-cancel : (a b c : ℕ) → IsByte a → (a ≡ 0 → ⊥) → IsByte b → IsByte c → mul a b ≡ mul a c → b ≡ c
mul-cancel a b c ha n hb hc p =
    let i = invertible a ha n in
    let back : (x : ℕ) → IsByte x → mul i.0 (mul a x) ≡ x =
    λ x hx. sym (mul_assoc i.0 a x) ∙ ap (λ (y : ℕ). mul y x) (mul_comm i.0 a ∙ i.2) ∙ mul-one-left x hx in
    sym (back b hb) ∙ ap (mul i.0) p ∙ back c hc

-- no zero divisors
pub mul-nonzero : (a b : ℕ) → IsByte a → IsByte b → (a ≡ 0 → ⊥) → (b ≡ 0 → ⊥) → mul a b ≡ 0 → ⊥
mul-nonzero a b ha hb na nb p = nb (mul-cancel a b 0 ha na hb (omega arith) (p ∙ sym (mul-zero-right a)))

pub pow-nonzero : (a e : ℕ) → IsByte a → (a ≡ 0 → ⊥) → pow a e ≡ 0 → ⊥
pow-nonzero a zero ha n p = omega (arith, pow-zero a)
pow-nonzero a (suc e) ha n p = mul-nonzero a (pow a e) ha (pow-byte a e) n (pow-nonzero a e ha n) (sym (pow-suc a e) ∙ p)

-- ---- exactly once

-- no power with an exponent from 1 to 254 is 01
later-tests : T (all_in (ltb 1) (doublings 254 (twice 1)))
unfolding all_in doublings
later-tests = tt

doublings-rest : (n x k : ℕ) → get_or (doublings (suc n) x) (suc k) 0 ≡ get_or (doublings n (twice x)) k 0
unfolding doublings
doublings-rest n x k = refl

later : (k : ℕ) → k < 254 → 1 < pow 2 (suc k)
later k h =
    subst (λ (v : ℕ). 1 < v) (sym (doublings-rest 254 1 k) ∙ power_at (doublings 255 1) power-table (suc k) (omega arith))
    (ltb→lt _ _ (in-at (ltb 1) (doublings 254 (twice 1)) later-tests k (subst (λ (m : ℕ). k < m) (sym (length-doublings 254 (twice 1))) h)))

rises : (d k : ℕ) → k < 254 → pow 2 d ≡ pow 2 (d + suc k) → ⊥
rises d k h p = lt_irrefl 1 (subst (λ (v : ℕ). 1 < v) (sym one) (later k h))
  where
    one : 1 ≡ pow 2 (suc k)
    one =
        mul-cancel (pow 2 d) 1 (pow 2 (suc k)) (pow-byte 2 d) (pow-nonzero 2 d (omega arith) (λ z. omega arith)) (omega arith) (pow-byte 2 (suc k))
        (mul-one-right (pow 2 d) (pow-byte 2 d) ∙ p ∙ pow-add 2 d (suc k))

pub generated-once : (d e : ℕ) → d < 255 → e < 255 → pow 2 d ≡ pow 2 e → d ≡ e
generated-once d e hd he p =
    ⊎_elim (λ h. absurd (rises d (e - suc d) (omega arith) (p ∙ ap (pow 2) (omega arith))))
    (λ h. ⊎_elim (λ k. absurd (rises e (d - suc e) (omega arith) (sym p ∙ ap (pow 2) (omega arith)))) (λ k. omega arith) (lt-or e d)) (lt-or d e)

-- ---- division

-- the inverse as a power: a · a^254 = a^255 = 01
pub inverse-power : (a : ℕ) → IsByte a → (a ≡ 0 → ⊥) → mul a (pow a 254) ≡ 1
inverse-power a ha n =
    let g = generated a ha n in
    sym (pow-suc a 254) ∙ ap (λ (b : ℕ). pow b 255) (sym g.2) ∙ pow-pow 2 g.0 255 ∙ pow-order-times g.0

-- what is multiplied by a nonzero a is what comes out, times this inverse
pub quotient-unique : (a b c : ℕ) → IsByte a → (a ≡ 0 → ⊥) → IsByte b → mul b a ≡ c → b ≡ mul c (pow a 254)
quotient-unique a b c ha n hb p =
    sym (mul-one-right b hb) ∙ ap (mul b) (sym (inverse-power a ha n)) ∙ sym (mul_assoc b a (pow a 254))
    ∙ ap (λ (k : ℕ). mul k (pow a 254)) p

-- the inverse is determined
pub inverse-unique : (a b c : ℕ) → IsByte a → Inverse a b → Inverse a c → b ≡ c
inverse-unique a b c ha hb hc =
    ⊎_elim (λ z. hb.of_zero z ∙ sym (hc.of_zero z))
    (λ n. mul-cancel a b c ha n hb.byte hc.byte (hb.product n ∙ sym (hc.product n))) (eq-or a 0)

-- and there is one
pub inverse-exists : (a : ℕ) → IsByte a → (b : ℕ) × Inverse a b
inverse-exists a ha =
    ⊎_elim (λ z. (0, record { byte = omega arith; of_zero = λ _. refl; product = λ n. absurd (n z) }))
    (λ n. let i = invertible a ha n in (i.0, record { byte = i.1; of_zero = λ z. absurd (n z); product = λ _. i.2 })) (eq-or a 0)

-- ---- what the code does with exponents

-- the exponents of a product add up, modulo 255
pub mul-by-exponents : (a b i j : ℕ) → pow 2 i ≡ a → pow 2 j ≡ b → pow 2 ((i + j) % 255) ≡ mul a b
mul-by-exponents a b i j p q = pow-mod (i + j) ∙ pow-add 2 i j ∙ ap₂ mul p q

pub inverse-by-exponent : (a i : ℕ) → (a ≡ 0 → ⊥) → i < 255 → pow 2 i ≡ a → Inverse a (pow 2 ((255 - i) % 255))
inverse-by-exponent a i n h p =
    record {
      byte = pow-byte 2 ((255 - i) % 255);
      of_zero = λ z. absurd (n z);
      product = λ _. ap (λ (x : ℕ). mul x (pow 2 ((255 - i) % 255))) (sym p) ∙ inverse-of-power i h;
    }

-- squaring: an even exponent is twice its half, an odd one is one more
pub pow_even : (a e : ℕ) → e % 2 ≡ 0 → mul (pow a (e / 2)) (pow a (e / 2)) ≡ pow a e
pow_even a e h = sym (pow-add a (e / 2) (e / 2)) ∙ ap (pow a) (omega arith)

pub pow-odd : (a e : ℕ) → IsByte a → (e % 2 ≡ 0 → ⊥) → mul (mul (pow a (e / 2)) (pow a (e / 2))) a ≡ pow a e
pow-odd a e ha h =
    ap₂ mul (sym (pow-add a (e / 2) (e / 2))) (sym (pow-one a ha)) ∙ sym (pow-add a (e / 2 + e / 2) 1) ∙ ap (pow a) whole
  where
    whole : e / 2 + e / 2 + 1 ≡ e
    whole = omega arith

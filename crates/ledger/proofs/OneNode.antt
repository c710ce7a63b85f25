-- Damage to the nodes of a set (document 02, 2026-04), and document 01's to one node, which is that to the set of this node alone. Assumes nothing.
use mathlib.Core.Path.{◌≡◌, sym, ap, ◌∙◌}
use mathlib.Core.Logic.{◌↔◌, ⊎_elim}
use mathlib.Core.Bool.{Bool, ◌||◌, cond, or-false}
use mathlib.Core.List.{List}
use Prim.Native.Nat.{ℕ, zero, suc, ◌+◌, ◌-◌, ◌*◌, ◌/◌, ◌%◌, ◌^◌, ◌≤◌, ◌<◌}
use native.Mathlib.Nat.{pow-suc}
use native.Mathlib.Omega.{arith}
use lib.Dec.{eqb}
use lib.ListN.{length, get_or}
use lib.Pow.{pow_pos, pow-add, pow-lt, pow_mono, shl-shr}
use borrow.Author.Tests.{eq-eqb, ne_eqb, lt-ltb, ltb-true}
use Rattle.base.specs.Seq.{cell, blocks}
use Rattle.base.proofs.Cases.{eq-or, lt-or}
use Rattle.base.proofs.Seq.{tabulate-ext, cells_ext, length-blocks}
use Rattle.params.specs.Nodes.{has, within, count}
use Rattle.params.specs.declared.Params.{Params}
use Rattle.params.proofs.Sets.{has-past, has-none, count-stop}
use Rattle.gates.specs.Gates.{damage_gate}
use Rattle.gates.proofs.Valid.{damage-accepted}
use Rattle.ledger.specs.Ledger.{Machine, damage, damaged_word, effect}
use Rattle.ledger.proofs.Sound.{damaged-other}

-- ---- one node

-- "trap i is worth 2^(i−1)": the set of that worth has this node alone
pub has_one : (j i : ℕ) → has (2 ^ j) i ≡ eqb i (suc j)
unfolding has
has_one j zero = sym (ne_eqb 0 (suc j) (λ e. omega arith))
has_one j (suc i) = ⊎_elim above (λ (le : i ≤ j). ⊎_elim here (below le) (eq-or i j)) (lt-or j i)
  where
    above : j < i → has (2 ^ j) (suc i) ≡ eqb (suc i) (suc j)
    above lt = has-past (suc j) (2 ^ j) i (pow-lt (omega arith)) lt ∙ sym (ne_eqb (suc i) (suc j) (omega arith))

    shifted : i ≤ j → 2 ^ j / 2 ^ i ≡ 2 ^ (j - i)
    shifted le =
        let e : (j - i) + i ≡ j = omega arith in
        ap (λ (k : ℕ). 2 ^ k / 2 ^ i) (sym e) ∙ ap (λ (x : ℕ). x / 2 ^ i) (pow-add 2 (j - i) i) ∙ shl-shr (2 ^ (j - i)) i

    here : i ≡ j → has (2 ^ j) (suc i) ≡ eqb (suc i) (suc j)
    here e =
        let d : j - i ≡ 0 = omega arith in
        ap (λ (x : ℕ). eqb (x % 2) 1) (shifted (omega arith) ∙ ap (λ (k : ℕ). 2 ^ k) d) ∙ sym (eq-eqb (suc i) (suc j) (ap suc e))

    below : i ≤ j → (i ≡ j → ⊥) → has (2 ^ j) (suc i) ≡ eqb (suc i) (suc j)
    below le ne =
        let d : j - i ≡ suc (j - suc i) = omega (arith, ne) in
        let even : 2 ^ (j - i) % 2 ≡ 0 = omega (arith, ap (λ (k : ℕ). 2 ^ k) d ∙ pow-suc 2 (j - suc i)) in
        ap (λ (x : ℕ). eqb (x % 2) 1) (shifted le) ∙ ap (λ (x : ℕ). eqb x 1) even ∙ sym (ne_eqb (suc i) (suc j) (λ e. ne (omega arith)))

-- so its block is the first of those given
none_below : (j : ℕ) → count (has (2 ^ j)) j ≡ 0
unfolding count
none_below j =
    count-stop (has (2 ^ j)) 0 j (omega arith) (λ i _ lt. has_one j (suc i) ∙ ne_eqb (suc i) (suc j) (λ e. omega arith))

front : (b : ℕ) (bytes : List ℕ) (p : ℕ) → cell b bytes 0 p ≡ get_or bytes p 0
unfolding cell
front b bytes p = let e : 0 * b + p ≡ p = omega arith in ap (λ (q : ℕ). get_or bytes q 0) e

-- "Damage to trap i replaces its block by given bytes": byte p of the block becomes byte p given, ..
pub damaged-one : (a : Params) (codeword bytes : List ℕ) (j : ℕ)
    → damaged_word a codeword (2 ^ j) bytes ≡ blocks a.b a.n (λ i p. cond (eqb i j) (get_or bytes p 0) (cell a.b codeword i p))
unfolding damaged_word blocks
damaged-one a codeword bytes j = tabulate-ext (a.n * a.b) _ _ (λ i h. at (i / a.b) (i % a.b))
  where
    s : ℕ
    s = 2 ^ j

    first : count (has s) j ≡ 0
    first = none_below j

    at : (i p : ℕ) → cond (has s (suc i)) (cell a.b bytes (count (has s) i) p) (cell a.b codeword i p)
        ≡ cond (eqb i j) (get_or bytes p 0) (cell a.b codeword i p)
    at i p =
        ⊎_elim
        (λ (e : i ≡ j).
        ap (λ (t : Bool). cond t (cell a.b bytes (count (has s) i) p) (cell a.b codeword i p)) (has_one j (suc i) ∙ eq-eqb (suc i) (suc j) (ap suc e))
        ∙ ap (λ (r : ℕ). cell a.b bytes r p) (ap (count (has s)) e ∙ first) ∙ front a.b bytes p
        ∙ sym (ap (λ (t : Bool). cond t (get_or bytes p 0) (cell a.b codeword i p)) (eq-eqb i j e)))
        (λ (ne : i ≡ j → ⊥).
        ap (λ (t : Bool). cond t (cell a.b bytes (count (has s) i) p) (cell a.b codeword i p))
        (has_one j (suc i) ∙ ne_eqb (suc i) (suc j) (λ e. ne (omega arith)))
        ∙ sym (ap (λ (t : Bool). cond t (get_or bytes p 0) (cell a.b codeword i p)) (ne_eqb i j ne)))
        (eq-or i j)

-- .. "and puts i in the set", ..
pub effect-one : (m : Machine) (j : ℕ) (bytes : List ℕ) (i : ℕ) → (effect m (damage (2 ^ j) bytes)).damaged i ≡ (m.damaged i || eqb i (suc j))
effect-one m j bytes i = ap (λ (t : Bool). m.damaged i || t) (has_one j i)

-- .. where the node is one of 1..n.
pub accepted-one : (n j : ℕ) → (damage_gate n (2 ^ j) ≡ 0) ↔ (suc j ≤ n)
unfolding within
accepted-one n j = (
  λ e. ⊎_elim (λ (lt : j < n). lt) (λ (le : n ≤ j). absurd (omega (arith, ltb-true (2 ^ j) (2 ^ n) ((damage-accepted n (2 ^ j)).0 e), pow_mono le))) (lt-or j n),
  λ h. (damage-accepted n (2 ^ j)).1 (lt-ltb (2 ^ j) (2 ^ n) (pow-lt h)),
)

-- ---- none: that is accepted, and alters nothing

pub damaged-none : (a : Params) (codeword bytes : List ℕ) → 0 < a.b → length codeword ≡ a.n * a.b → damaged_word a codeword 0 bytes ≡ codeword
unfolding damaged_word
damaged-none a codeword bytes pos full =
    cells_ext a.b a.n _ _ pos (length-blocks a.b a.n _) full (λ j p hj hp. damaged-other a codeword bytes 0 j p hj hp (has-none (suc j)))

pub effect-none : (m : Machine) (bytes : List ℕ) (i : ℕ) → (effect m (damage 0 bytes)).damaged i ≡ m.damaged i
effect-none m bytes i = ap (λ (t : Bool). m.damaged i || t) (has-none i) ∙ or-false (m.damaged i)

pub accepted-none : (n : ℕ) → damage_gate n 0 ≡ 0
unfolding within
accepted-none n = (damage-accepted n 0).1 (lt-ltb 0 (2 ^ n) (pow_pos n))

-- Where a set comes behind, it is the one of proofs/Successor.antt; otherwise a test has found that none does. Assumes nothing.
use mathlib.Core.Path.{◌≡◌, sym, ap, ◌∙◌, subst}
use Prim.Native.Nat.{ℕ, suc, ◌+◌, ◌-◌, ◌*◌, ◌%◌, ◌^◌, ◌≤◌, ◌<◌}
use native.Mathlib.Omega.{arith}
use mathlib.Core.Bool.{Bool, true}
use Rattle.params.specs.Nodes.{size, within}
use Rattle.subsets.specs.Order.{Next, Passable}
use Rattle.subsets.proofs.Numbers.{wide-shifted}
use Rattle.subsets.proofs.Successor.{next-same, next_last, next-none, moved}
use Rattle.subsets.proofs.next.Goals as goal

passable : (n s k : ℕ) (w : Bool) → n ≤ 32 → w ≡ within n s → w ≡ true → k ≡ size s → k < n → Passable n s
passable n s k w h is inside count less = record { n_high = h; inside = sym is ∙ inside; not_all = omega arith }

pub returns-then-set-eq0 : goal.returns-then-set-eq0
returns-then-set-eq0 c =
    let a = c.args in
    let p = passable a.n a.set.0 _ _ c.if-n-gt32.false c.within.ensures c.if-not-within.false c.size-size.ensures c.if-n-size.false in
    moved a.n a.set.0 1 p (next-none a.n a.set.0 c.if-set-eq0.true p.not_all)

pub returns-then-above-n : goal.returns-then-above-n
returns-then-above-n c =
    let a = c.args in
    let p = passable a.n a.set.0 _ _ c.if-n-gt32.false c.within.ensures c.if-not-within.false c.size-size.ensures c.if-n-size.false in
    let r = c.next_number-above in
    moved a.n a.set.0 r.result p
    (next-same a.n a.set.0 r.result (omega (arith, c.if-above-n.true, wide-shifted a.n (omega (arith, p.n_high)))) r.ensures)

-- the size above
module _ (k : ℕ) (h : k < 32) where
  abbrev more : ℕ
  more = k + 1

  more-le : more ≤ 32
  more-le = omega arith

  more-shifted : 1 * 2 ^ more % 2 ^ 64 ≡ 2 ^ more
  more-shifted = wide-shifted more (omega (arith, more-le))

pub returns : goal.returns
returns c =
    let a = c.args in
    let p = passable a.n a.set.0 _ _ c.if-n-gt32.false c.within.ensures c.if-not-within.false c.size-size.ensures c.if-n-size.false in
    let r = c.next_number-above in
    let s = a.set.0 in
    let k = c.size-size.result in
    let h : k < 32 = omega (arith, c.if-n-gt32.false, c.if-n-size.false) in
    let is : 1 * 2 ^ more k h % 2 ^ 64 ≡ 2 ^ suc (size s) =
    more-shifted k h ∙ ap (λ (k : ℕ). 2 ^ k) (omega (arith, c.size-size.ensures)) in
    moved a.n s (1 * 2 ^ more k h % 2 ^ 64 - 1) p
    (subst (λ (x : ℕ). Next a.n s (x - 1)) (sym is)
    (next_last a.n s r.result p.not_all r.ensures (omega (arith, c.if-above-n.false, wide-shifted a.n (omega (arith, p.n_high))))))

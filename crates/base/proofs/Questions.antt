-- The first no of a list of questions, by induction on the list; then the tests that questions are made of. Assumes nothing.
use mathlib.Core.Path.{◌≡◌, refl, sym, ap, ◌∙◌, subst}
use mathlib.Core.Logic.{◌⊎◌, inl, inr}
use mathlib.Core.Bool.{Bool, true, false, not, ◌&&◌, true≢false, cond}
use mathlib.Core.List.Memᴰ
use mathlib.Core.List.{List, [], ◌∷◌, ◌++◌, map, Memᴰ}
use Prim.Native.Nat.{ℕ, ◌≤◌}
use lib.Dec.{T, leb, eqb}
use borrow.Author.Tests.{leb-true, eqb-true, eqb-false}
use Rattle.base.specs.Gate.{Question, ask, first_no}

-- each answer is yes, and R besides
abbrev pub YesAnd : List Question → Type 0 → Type 0
YesAnd [] R = R
YesAnd (q ∷ qs) R = (q.answer ≡ true) × YesAnd qs R

abbrev pub AllYes : List Question → Type 0
AllYes qs = YesAnd qs Unit

-- no question has the number 0
abbrev pub numbered : List Question → Bool
numbered [] = true
numbered (q ∷ qs) = not (eqb q.number 0) && numbered qs

pub all_yes : (qs : List Question) → T (numbered qs) → first_no qs ≡ 0 → AllYes qs
unfolding first_no
all_yes [] t e = tt
all_yes (q ∷ qs) t e = go q.answer refl (eqb q.number 0) refl t (all_yes qs) e
  where
    go : (b : Bool) → q.answer ≡ b → (z : Bool) → eqb q.number 0 ≡ z → T (not z && numbered qs)
        → (T (numbered qs) → first_no qs ≡ 0 → AllYes qs) → cond b (first_no qs) q.number ≡ 0 → (q.answer ≡ true) × AllYes qs
    go b a true n t rest e = absurd t
    go true a false n t rest e = (a, rest t e)
    go false a false n t rest e = absurd (eqb-false q.number 0 n e)

pub first-zero : (qs : List Question) → AllYes qs → first_no qs ≡ 0
unfolding first_no
first-zero [] y = refl
first-zero (q ∷ qs) y = ap (λ (b : Bool). cond b (first_no qs) q.number) y.0 ∙ first-zero qs y.1

-- the number is 0, or that of a question
pub among : (qs : List Question) → Memᴰ (first_no qs) (0 ∷ map (λ (q : Question). q.number) qs)
unfolding first_no
among [] = Memᴰ.head refl
among (q ∷ qs) = go q.answer (Memᴰ.cases_cons (among qs))
  where
    go : (b : Bool) → (first_no qs ≡ 0) ⊎ Memᴰ (first_no qs) (map (λ (q : Question). q.number) qs)
        → Memᴰ (cond b (first_no qs) q.number) (0 ∷ q.number ∷ map (λ (q : Question). q.number) qs)
    go true (inl e) = Memᴰ.head e
    go true (inr m) = Memᴰ.tail (Memᴰ.tail m)
    go false m = Memᴰ.tail (Memᴰ.head refl)

-- a last question whose answer is yes does not count
pub last-yes : (qs : List Question) (n : ℕ) → first_no (qs ++ ask true n ∷ []) ≡ first_no qs
unfolding first_no
last-yes [] n = refl
last-yes (q ∷ qs) n = ap (λ (m : ℕ). cond q.answer m q.number) (last-yes qs n)

-- ---- a gate's exits: the questions one after the other, up to the first whose answer is no

pub data First : List Question → ℕ → Type 0 where
  over : First [] 0
  nay : {b : Bool} {n : ℕ} {qs : List Question} → b ≡ false → First (ask b n ∷ qs) n
  yea : {b : Bool} {n m : ℕ} {qs : List Question} → b ≡ true → First qs m → First (ask b n ∷ qs) m

pub first : (qs : List Question) {m : ℕ} → First qs m → m ≡ first_no qs
unfolding first_no
first [] over = refl
first (q ∷ qs) (nay e) = sym (ap (λ (b : Bool). cond b (first_no qs) q.number) e)
first (q ∷ qs) (yea e f) = first qs f ∙ sym (ap (λ (b : Bool). cond b (first_no qs) q.number) e)

-- what another gate has found of these questions
pub known : (qs : List Question) {g : ℕ} → g ≡ first_no qs → First qs g
unfolding first_no
known [] e = subst (First []) (sym e) over
known (q ∷ qs) {g} e = go q.answer refl (λ h. known qs h) e
  where
    go : (b : Bool) → q.answer ≡ b → (g ≡ first_no qs → First qs g) → g ≡ cond b (first_no qs) q.number → First (q ∷ qs) g
    go true a rest e = yea a (rest e)
    go false a rest e = subst (First (q ∷ qs)) (sym e) (nay a)

-- where it found a no, that stands
pub stopped : (qs rest : List Question) {g : ℕ} → g ≡ first_no qs → (g ≡ 0 → ⊥) → First (qs ++ rest) g
unfolding first_no
stopped qs rest {g} e ne = go qs (known qs e)
  where
    go : (qs : List Question) → First qs g → First (qs ++ rest) g
    go [] f = absurd (ne (first [] f))
    go (q ∷ qs) (nay a) = nay a
    go (q ∷ qs) (yea a f) = yea a (go qs f)

-- where it found none, the rest decide
pub past : (qs : List Question) {rest : List Question} {g m : ℕ} → T (numbered qs) → g ≡ first_no qs → g ≡ 0 → First rest m
    → First (qs ++ rest) m
past qs {rest} {g} {m} t e z h = go qs (all_yes qs t (sym e ∙ z))
  where
    go : (qs : List Question) → AllYes qs → First (qs ++ rest) m
    go [] y = h
    go (q ∷ qs) y = yea y.0 (go qs y.1)

-- ---- tests

pub both-known : (a b : Bool) → (a && b) ≡ true → (a ≡ true) × (b ≡ true)
both-known true b e = (refl, e)
both-known false b e = absurd (true≢false (sym e))

pub both-le : (a b c d : ℕ) → (leb a b && leb c d) ≡ true → (a ≤ b) × (c ≤ d)
both-le a b c d e = let y = both-known (leb a b) (leb c d) e in (leb-true a b y.0, leb-true c d y.1)

pub both-eq : (a b c d : ℕ) → (eqb a b && eqb c d) ≡ true → (a ≡ b) × (c ≡ d)
both-eq a b c d e = let y = both-known (eqb a b) (eqb c d) e in (eqb-true a b y.0, eqb-true c d y.1)

-- Laws of lists given by their entries: induction on the count. Assumes nothing.
use mathlib.Core.Path.{◌≡◌, refl, sym, ap, ap₂, ◌∙◌, subst}
use mathlib.Core.List.{List, ◌∷◌}
use mathlib.Core.Logic.{⊎_elim}
use Prim.Native.Nat.{ℕ, zero, suc, ◌+◌, ◌*◌, ◌/◌, ◌%◌, ◌≤◌, ◌<◌}
use native.Mathlib.Nat.{not-suc-le-zero, le_of_suc-le-suc, zero-lt-suc, div-add-mod', div-lt_iff_lt-mul, mod-lt}
use native.Mathlib.Omega.{arith}
use lib.Arith.{digits_lt, digits_div, digits_mod}
use lib.ListN.{length, get_or, take, drop, replicate, length-replicate, get_or-replicate, get_or-eq_default}
use lib.Seq.{ext_get_or, get_or-take, get_or-drop}
use Rattle.base.specs.Seq.{tabulate, cell, blocks}
use Rattle.base.proofs.Cases.{lt-or}

pub length-tabulate : (n : ℕ) (f : ℕ → ℕ) → length (tabulate n f) ≡ n
unfolding tabulate
length-tabulate zero f = refl
length-tabulate (suc n) f = ap suc (length-tabulate n (λ i. f (suc i)))

pub get_d_tabulate : (n : ℕ) (f : ℕ → ℕ) (i : ℕ) → i < n → get_or (tabulate n f) i 0 ≡ f i
unfolding tabulate
get_d_tabulate zero f i h = absurd (not-suc-le-zero h)
get_d_tabulate (suc n) f zero h = refl
get_d_tabulate (suc n) f (suc i) h = get_d_tabulate n (λ i. f (suc i)) i (le_of_suc-le-suc h)

-- past the end stands 0
pub get_or-tabulate-past : (n : ℕ) (f : ℕ → ℕ) (i : ℕ) → n ≤ i → get_or (tabulate n f) i 0 ≡ 0
unfolding tabulate
get_or-tabulate-past zero f i h = refl
get_or-tabulate-past (suc n) f zero h = absurd (not-suc-le-zero h)
get_or-tabulate-past (suc n) f (suc i) h = get_or-tabulate-past n (λ i. f (suc i)) i (le_of_suc-le-suc h)

pub tabulate-ext : (n : ℕ) (f g : ℕ → ℕ) → ((i : ℕ) → i < n → f i ≡ g i) → tabulate n f ≡ tabulate n g
unfolding tabulate
tabulate-ext zero f g h = refl
tabulate-ext (suc n) f g h =
    ap₂ ◌∷◌ (h 0 (zero-lt-suc n)) (tabulate-ext n (λ i. f (suc i)) (λ i. g (suc i)) (λ i hi. h (suc i) (omega arith)))

-- a list of n entries is the list of its entries
pub tabulate-get_or : (n : ℕ) (l : List ℕ) → length l ≡ n → tabulate n (λ i. get_or l i 0) ≡ l
tabulate-get_or n l e =
    ext_get_or 0 _ _ (length-tabulate n _ ∙ sym e)
    (λ i hi. get_d_tabulate n (λ i. get_or l i 0) i (subst-lt i hi))
  where
    subst-lt : (i : ℕ) → i < length (tabulate n (λ i. get_or l i 0)) → i < n
    subst-lt i hi = omega (arith, length-tabulate n (λ i. get_or l i 0))

-- a list with the given entries is that list
pub eq-tabulate : (n : ℕ) (f : ℕ → ℕ) (l : List ℕ) → length l ≡ n → ((i : ℕ) → i < n → get_or l i 0 ≡ f i) → l ≡ tabulate n f
eq-tabulate n f l e h = sym (tabulate-get_or n l e) ∙ tabulate-ext n (λ i. get_or l i 0) f h

-- ---- blocks

-- a place within the blocks
pub cell-lt : (b n j p : ℕ) → j < n → p < b → j * b + p < n * b
cell-lt b n j p hj hp = digits_lt hj hp

pub cell-blocks : (b n : ℕ) (f : ℕ → ℕ → ℕ) (j p : ℕ) → j < n → p < b → cell b (blocks b n f) j p ≡ f j p
unfolding cell blocks
cell-blocks b n f j p hj hp =
    get_d_tabulate (n * b) _ (j * b + p) (cell-lt b n j p hj hp) ∙ ap₂ f (digits_div j hp) (digits_mod j hp)

pub length-blocks : (b n : ℕ) (f : ℕ → ℕ → ℕ) → length (blocks b n f) ≡ n * b
unfolding blocks
length-blocks b n f = length-tabulate (n * b) _

-- lists of n blocks with equal cells are equal
pub cells_ext : (b n : ℕ) (xs ys : List ℕ) → 0 < b → length xs ≡ n * b → length ys ≡ n * b
    → ((j p : ℕ) → j < n → p < b → cell b xs j p ≡ cell b ys j p) → xs ≡ ys
unfolding cell
cells_ext b n xs ys hb ex ey h =
    ext_get_or 0 xs ys (ex ∙ sym ey)
    (λ i hi.
    let whole : i / b * b + i % b ≡ i = div-add-mod' i b in
    ap (λ (k : ℕ). get_or xs k 0) (sym whole)
    ∙ h (i / b) (i % b) ((div-lt_iff_lt-mul hb).1 (subst (λ (k : ℕ). i < k) ex hi)) (mod-lt i hb)
    ∙ ap (λ (k : ℕ). get_or ys k 0) whole)

pub tabulate-zeros : (n : ℕ) → tabulate n (λ i. 0) ≡ replicate n 0
unfolding tabulate
tabulate-zeros zero = refl
tabulate-zeros (suc n) = ap (λ (l : List ℕ). 0 ∷ l) (tabulate-zeros n)

-- a list of zeros, and what lies behind it
pub zeros-at : (n j : ℕ) → get_or (replicate {A = ℕ} n 0) j 0 ≡ 0
zeros-at n j =
    ⊎_elim (get_or-replicate n j 0 0) (λ h. get_or-eq_default (replicate n 0) 0 (omega (arith, length-replicate {A = ℕ} n 0))) (lt-or j n)

-- the first e blocks, and the rest
pub cell-take : (b e : ℕ) (l : List ℕ) (j p : ℕ) → j < e → p < b → cell b (take (e * b) l) j p ≡ cell b l j p
unfolding cell
cell-take b e l j p hj hp = get_or-take (e * b) l (j * b + p) 0 (cell-lt b e j p hj hp)

pub cell-drop : (b e : ℕ) (l : List ℕ) (j p : ℕ) → cell b (drop (e * b) l) j p ≡ cell b l (e + j) p
unfolding cell
cell-drop b e l j p = get_or-drop (e * b) l (j * b + p) 0 ∙ ap (λ (k : ℕ). get_or l k 0) place
  where
    place : e * b + (j * b + p) ≡ (e + j) * b + p
    place = omega arith

-- Laws of serials: the highest by induction on the number of nodes, stamped lists entry by entry, sets of nodes bit by bit. Assumes nothing.
use mathlib.Core.Path.{◌≡◌, refl, sym, ap, ◌∙◌, subst}
use mathlib.Core.Logic.{⊎_elim}
use mathlib.Core.Bool.{Bool, true, false, ◌&&◌, cond, and-true, and-false, and_assoc}
use mathlib.Core.List.{List}
use mir.Val.{bool_byte}
use Prim.Native.Nat.{ℕ, zero, suc, ◌+◌, ◌-◌, ◌*◌, ◌/◌, ◌%◌, ◌^◌, ◌≤◌, ◌<◌, max, zero-le}
use native.Mathlib.Nat.{le_refl, le_trans, le_of_eq, max-le, le-max_left, le-max_right, div-one, pow-suc}
use native.Mathlib.Numerals.{add-one, one-add}
use native.Mathlib.Omega.{arith}
use native.Mathlib.Decide.{le_ind}
use lib.Bits.{bit_and}
use lib.Dec.{leb, ltb, eqb}
use lib.ListN.{length, get_or, get_or-eq_default}
use lib.Pow.{pow_pos, pow_mono, shr-shr}
use lib.Seq.{ext_get_or}
use borrow.Author.Tests.{le-leb, lt-leb}
use Rattle.base.specs.Seq.{one, tabulate}
use Rattle.base.specs.Parts.{Filled}
use Rattle.base.proofs.Cases.{lt-or}
use Rattle.base.proofs.Seq.{length-tabulate, get_d_tabulate}
use Rattle.params.specs.Nodes.{has}
use Rattle.params.proofs.Sets.{has-past, has-none, has-and}
use Rattle.serials.specs.Serials.{Words32, takes, highest, Stamped}

-- ---- the highest serial

-- what bounds both numbers bounds the one that is chosen
cond-le : (b : Bool) (x y m : ℕ) → x ≤ m → y ≤ m → cond b x y ≤ m
cond-le true x y m h k = h
cond-le false x y m h k = k

-- the highest is at most what bounds the serials of the nodes that pass
pub highest-le : (f : ℕ → Bool) (serials : List ℕ) (n m : ℕ) → ((j : ℕ) → j < n → f (suc j) ≡ true → get_or serials j 0 ≤ m) → highest f serials n ≤ m
unfolding highest
highest-le f serials zero m h = zero-le
highest-le f serials (suc n) m h = max-le (highest-le f serials n m (λ j hj. h j (omega arith))) (go (f (suc n)) refl)
  where
    go : (b : Bool) → f (suc n) ≡ b → cond b (get_or serials n 0) 0 ≤ m
    go true e = h n (le_refl (suc n)) e
    go false e = zero-le

-- the highest is at least the serial of each node that passes
pub highest-at : (f : ℕ → Bool) (serials : List ℕ) (n j : ℕ) → j < n → f (suc j) ≡ true → get_or serials j 0 ≤ highest f serials n
unfolding highest
highest-at f serials n j h e =
    le_ind (λ (k : ℕ). get_or serials j 0 ≤ highest f serials k)
    (le_trans (le_of_eq (sym (ap (λ (b : Bool). cond b (get_or serials j 0) 0) e))) (le-max_right (highest f serials j) _))
    (λ k hk ih. le_trans ih (le-max_left _ _)) n h

-- where no serial falls, nor does the highest
pub highest-mono : (f : ℕ → Bool) (serials serials' : List ℕ) (n : ℕ) → ((j : ℕ) → j < n → get_or serials j 0 ≤ get_or serials' j 0)
    → highest f serials n ≤ highest f serials' n
unfolding highest
highest-mono f serials serials' zero h = zero-le
highest-mono f serials serials' (suc n) h =
    max-le (le_trans (highest-mono f serials serials' n (λ j hj. h j (omega arith))) (le-max_left _ _)) (le_trans (go (f (suc n))) (le-max_right _ _))
  where
    go : (b : Bool) → cond b (get_or serials n 0) 0 ≤ cond b (get_or serials' n 0) 0
    go true = h n (le_refl (suc n))
    go false = zero-le

-- the highest of serials is one
pub highest-words : (f : ℕ → Bool) (serials : List ℕ) (n : ℕ) → Words32 serials → highest f serials n < 2 ^ 32
highest-words f serials n w = omega (arith, highest-le f serials n (2 ^ 32 - 1) (λ j hj e. omega (arith, w j)))

-- one node more
pub highest-more : (f : ℕ → Bool) (serials : List ℕ) (n : ℕ)
    → highest f serials (n + 1) ≡ max (highest f serials n) (cond (f (suc n)) (get_or serials n 0) 0)
unfolding highest
highest-more f serials n = ap (highest f serials) (add-one n)

-- ---- stamped lists

module _ {n : ℕ} {f : ℕ → Bool} {serial : ℕ} {old new : List ℕ} where
  -- each node's serial, by its test
  pub stamped-by : length new ≡ n → ((j : ℕ) → j < n → get_or new j 0 ≡ cond (f (suc j)) serial (get_or old j 0)) → Stamped n f serial old new
  stamped-by e h =
      record {
        length_is = e;
        taken = λ j hj t. h j hj ∙ ap (λ (b : Bool). cond b serial (get_or old j 0)) t;
        kept = λ j hj t. h j hj ∙ ap (λ (b : Bool). cond b serial (get_or old j 0)) t;
      }

  pub stamped-at : Stamped n f serial old new → (j : ℕ) → j < n → get_or new j 0 ≡ cond (f (suc j)) serial (get_or old j 0)
  stamped-at s j h = go (f (suc j)) refl
    where
      go : (b : Bool) → f (suc j) ≡ b → get_or new j 0 ≡ cond b serial (get_or old j 0)
      go true e = s.taken j h e
      go false e = s.kept j h e

  -- a loop that wrote them
  pub stamped-filled : (t : ℕ) (before : List ℕ) → length before ≡ n → n ≤ t
      → Filled (λ j. cond (f (suc j)) serial (get_or old j 0)) t before new → Stamped n f serial old new
  stamped-filled t before e h s = stamped-by (s.same ∙ e) (λ j hj. s.done j (omega arith))

  -- serials stay numbers of 32 bits
  pub stamped-words : serial < 2 ^ 32 → Words32 old → Stamped n f serial old new → Words32 new
  stamped-words h w s j =
      ⊎_elim
      (λ (l : j < n).
      omega (arith, stamped-at s j l, cond-le (f (suc j)) serial (get_or old j 0) (2 ^ 32 - 1) (omega arith) (omega (arith, w j))))
      (λ g. omega (arith, get_or-eq_default new 0 {n = j} (omega (arith, s.length_is)))) (lt-or j n)

-- there is such a list, ..
pub stamped-exists : (n : ℕ) (f : ℕ → Bool) (serial : ℕ) (old : List ℕ) → (new : List ℕ) × Stamped n f serial old new
stamped-exists n f serial old =
    let g : ℕ → ℕ = λ j. cond (f (suc j)) serial (get_or old j 0) in
    (tabulate n g, stamped-by (length-tabulate n g) (get_d_tabulate n g))

-- .. and only one, ..
pub stamped-unique : {n : ℕ} {f : ℕ → Bool} {serial : ℕ} {old new new' : List ℕ} → Stamped n f serial old new → Stamped n f serial old new' → new ≡ new'
stamped-unique s s' =
    ext_get_or 0 _ _ (s.length_is ∙ sym s'.length_is)
    (λ j hj. stamped-at s j (omega (arith, s.length_is)) ∙ sym (stamped-at s' j (omega (arith, s.length_is))))

-- .. whatever test says the same of the nodes
pub stamped-ext : {n : ℕ} {f g : ℕ → Bool} {serial : ℕ} {old new : List ℕ} → ((j : ℕ) → j < n → f (suc j) ≡ g (suc j))
    → Stamped n f serial old new → Stamped n g serial old new
stamped-ext {serial = serial} {old = old} h s =
    stamped-by s.length_is (λ j hj. stamped-at s j hj ∙ ap (λ (b : Bool). cond b serial (get_or old j 0)) (h j hj))

-- ---- a set's bits from the lowest on

-- once the bits below are gone, the lowest is the node's, ..
pub low_bit : (s at rest : ℕ) → rest ≡ s / 2 ^ at → eqb (rest % 2) 1 ≡ has s (suc at)
unfolding has
low_bit s at rest e = ap (λ (x : ℕ). eqb (x % 2) 1) e

-- .. and a half takes it away
pub next_bit : (s at rest : ℕ) → rest ≡ s / 2 ^ at → rest / 2 ≡ s / 2 ^ (at + 1)
next_bit s at rest e = ap (λ (x : ℕ). x / 2) e ∙ shr-shr s at 1

-- ---- the nodes below a serial, from the highest on

bit_is : (t : Bool) → eqb (one t) 1 ≡ t
bit_is true = refl
bit_is false = refl

pub bit_le : (t : Bool) → one t ≤ 1
bit_le true = le_refl 1
bit_le false = zero-le

-- a test as the code's number
pub test_bit : (t : Bool) → bool_byte t ≡ one t
test_bit true = refl
test_bit false = refl

-- a bit put under a word
under_first : (w : ℕ) (t : Bool) → has (w * 2 + one t) 1 ≡ t
unfolding has
under_first w t =
    let e : (w * 2 + one t) % 2 ≡ one t = omega (arith, bit_le t) in
    ap (λ (x : ℕ). eqb (x % 2) 1) (div-one (w * 2 + one t)) ∙ ap (λ (x : ℕ). eqb x 1) e ∙ bit_is t

under_rest : (w : ℕ) (t : Bool) (j : ℕ) → has (w * 2 + one t) (suc (suc j)) ≡ has w (suc j)
unfolding has
under_rest w t j =
    let e : (w * 2 + one t) / 2 ≡ w = omega (arith, bit_le t) in
    ap (λ (k : ℕ). eqb ((w * 2 + one t) / 2 ^ k % 2) 1) (sym (one-add j)) ∙ ap (λ (x : ℕ). eqb (x % 2) 1) (sym (shr-shr (w * 2 + one t) 1 j))
    ∙ ap (λ (x : ℕ). eqb (x / 2 ^ j % 2) 1) e

-- node suc k is there, and its serial is below the given one
abbrev pub early : List ℕ → ℕ → ℕ → Bool
early serials serial k = ltb (get_or serials k 0) serial && leb (suc k) (length serials)

-- the word has a bit for each of the nodes at + 1 .. 32
pub record Older (serials : List ℕ) (serial at word : ℕ) : Type 0 where
  pub within : at ≤ length serials
  pub at_le : at ≤ 32
  pub small : word < 2 ^ (32 - at)
  pub bits : (j : ℕ) → at + j < 32 → has word (suc j) ≡ early serials serial (at + j)

-- none is there above the last
pub older-none : (serials : List ℕ) (serial at : ℕ) → at ≤ length serials → at ≤ 32 → (at < length serials → 32 ≤ at) → Older serials serial at 0
older-none serials serial at h k last =
    record {
      within = h;
      at_le = k;
      small = pow_pos (32 - at);
      bits = λ j hj.
          has-none (suc j)
          ∙ sym
          (ap (λ (b : Bool). ltb (get_or serials (at + j) 0) serial && b)
          (lt-leb (suc (at + j)) (length serials) (⊎_elim (λ l. absurd (omega (arith, last l))) (λ g. omega arith) (lt-or at (length serials))))
          ∙ and-false (ltb (get_or serials (at + j) 0) serial));
    }

module _ {serials : List ℕ} {serial at word : ℕ} (o : Older serials serial at word) (pos : 0 < at) where
  -- there is room for one bit more
  pub older-fits : word < 2 ^ 31
  older-fits =
      let h : 2 ^ (32 - at) ≤ 2 ^ 31 = pow_mono {i = 32 - at} {j = 31} (omega arith) in
      omega (arith, o.small, h)

  -- the next lower node
  pub older-more : (b : ℕ) → b ≡ one (ltb (get_or serials (at - 1) 0) serial) → Older serials serial (at - 1) (word * 2 + b)
  older-more b is = subst (λ (x : ℕ). Older serials serial (at - 1) (word * 2 + x)) (sym is) next
    where
      t : Bool
      t = ltb (get_or serials (at - 1) 0) serial

      bit : (j : ℕ) → at - 1 + j < 32 → has (word * 2 + one t) (suc j) ≡ early serials serial (at - 1 + j)
      bit zero h =
          let e : at - 1 ≡ at - 1 + 0 = omega arith in
          under_first word t ∙ sym (and-true t) ∙ ap (λ (b : Bool). t && b) (sym (le-leb (suc (at - 1)) (length serials) (omega (arith, o.within))))
          ∙ ap (early serials serial) e
      bit (suc j) h =
          let e : at + j ≡ at - 1 + suc j = omega arith in
          under_rest word t j ∙ o.bits j (omega arith) ∙ ap (early serials serial) e

      next : Older serials serial (at - 1) (word * 2 + one t)
      next =
          let e : 32 - (at - 1) ≡ suc (32 - at) = omega (arith, o.at_le) in
          record {
            within = omega (arith, o.within);
            at_le = omega (arith, o.at_le);
            small = omega (arith, ap (λ (k : ℕ). 2 ^ k) e, pow-suc 2 (32 - at), o.small, bit_le t);
            bits = bit;
          }

-- all nodes are passed
pub older-all : {serials : List ℕ} {serial at word : ℕ} → Older serials serial at word → at ≡ 0 → (j : ℕ) → j < 32
    → has word (suc j) ≡ early serials serial j
older-all {serials = serials} {serial = serial} {at = at} o e j h =
    let p : at + j ≡ j = omega arith in o.bits j (omega arith) ∙ ap (early serials serial) p

-- there is no node 0
no_node : (s : ℕ) → has s 0 ≡ false
unfolding has
no_node s = refl

-- those of them that are in two sets
pub takes-by : (to reached word : ℕ) (serials : List ℕ) (serial : ℕ) → to < 2 ^ 32 → ((j : ℕ) → j < 32 → has word (suc j) ≡ early serials serial j) → (i : ℕ)
    → has (bit_and (bit_and to reached) word) i ≡ (takes to reached serials serial i && leb i (length serials))
takes-by to reached word serials serial small h i = has-and (bit_and to reached) word i ∙ ap (λ (b : Bool). b && has word i) (has-and to reached i) ∙ go i
  where
    go : (i : ℕ) → ((has to i && has reached i) && has word i) ≡ (takes to reached serials serial i && leb i (length serials))
    go zero = ap (λ (b : Bool). (b && has reached 0) && has word 0) (no_node to)
    go (suc j) =
        ⊎_elim
        (λ (l : j < 32).
        ap (λ (b : Bool). (has to (suc j) && has reached (suc j)) && b) (h j l)
        ∙ sym (and_assoc (has to (suc j) && has reached (suc j)) (ltb (get_or serials j 0) serial) (leb (suc j) (length serials))))
        (λ (g : 32 ≤ j).
        let p = has-past 32 to j small g in
        ap (λ (b : Bool). (b && has reached (suc j)) && has word (suc j)) p
        ∙ sym (ap (λ (b : Bool). ((b && has reached (suc j)) && ltb (get_or serials j 0) serial) && leb (suc j) (length serials)) p))
        (lt-or j 32)

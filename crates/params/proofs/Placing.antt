-- Places of blocks, by their entries; and what places_of makes of the list of a set's nodes, entry by entry. Assumes nothing.
use mathlib.Core.Path.{◌≡◌, refl, sym, ap, ap₂, ◌∙◌, subst⁻¹}
use mathlib.Core.Bool.{true, false, true≢false}
use mathlib.Core.List.{List, ◌++◌}
use mathlib.Core.Logic.{⊎_elim}
use Prim.Native.Nat.{ℕ, suc, ◌+◌, ◌-◌, ◌*◌, ◌^◌, ◌≤◌, ◌<◌}
use native.Mathlib.Nat.{mul-le-mul_right}
use native.Mathlib.Omega.{arith}
use lib.ListN.{length, get_or, take, drop, replicate, length-drop, take-append-drop, get_or-append, get_or-eq_default}
use lib.Seq.{length-take-le, get_or-take, get_or-drop, drop_at, ext_get_or}
use Rattle.std.proofs.lemmas.List.{nil_from_length}
use Rattle.base.proofs.Cases.{eq-or}
use Rattle.base.specs.Seq.{tabulate}
use Rattle.base.proofs.Seq.{length-tabulate, get_d_tabulate, eq-tabulate, zeros-at}
use Rattle.base.specs.Parts.{Filled}
use Rattle.params.specs.Nodes.{has, size, count, listed, Listing, in_order, places_of, Placing}
use Rattle.params.proofs.Sets.{length-nodes, entry, size-most, length-listed}

pub length-in-order : length in_order ≡ 32
length-in-order = length-tabulate 32 (λ j. j)

pub in-order-at : (j : ℕ) → j < 32 → get_or in_order j 0 ≡ j
in-order-at j h = get_d_tabulate 32 (λ j. j) j h

pub length-places : (s : ℕ) → length (places_of s) ≡ 32
length-places s = length-tabulate 32 (λ j. get_or (listed s) j 0 - 1)

places-at : (s j : ℕ) → j < 32 → get_or (places_of s) j 0 ≡ get_or (listed s) j 0 - 1
places-at s j h = get_d_tabulate 32 (λ j. get_or (listed s) j 0 - 1) j h

-- entry k is the place of the set's node of rank k
pub place_of : (s k : ℕ) → s < 2 ^ 32 → k < size s
    → (j : ℕ) × (has s (suc j) ≡ true) × (get_or (listed s) k 0 ≡ suc j) × (get_or (places_of s) k 0 ≡ j) × (count (has s) j ≡ k)
place_of s k h hk =
    let g = entry (has s) 32 k (omega (arith, length-listed s h, length-nodes (has s) 32)) in
    (g.0, g.2, g.3, places-at s k (omega (arith, size-most s h)) ∙ ap (λ (i : ℕ). i - 1) g.3 ∙ omega arith, g.4)

-- the places as the code lists and counts them
pub record Listed (set number : ℕ) (places : List ℕ) : Type 0 where
  pub word : set < 2 ^ 32
  pub lists : places ≡ places_of set
  pub count_is : number ≡ size set

-- the node of turn i, whose place is w
module _ (set number : ℕ) (places : List ℕ) (g : Listed set number places) (i w : ℕ) (turn : i < number) (place : w ≡ get_or places i 0) where
  pub at_node : (has set (suc w) ≡ true) × (count (has set) w ≡ i)
  at_node =
      let q = place_of set i g.word (omega (arith, g.count_is)) in
      let same : w ≡ q.0 = place ∙ ap (λ (l : List ℕ). get_or l i 0) g.lists ∙ q.3 in
      (ap (λ (j : ℕ). has set (suc j)) same ∙ q.1, ap (count (has set)) same ∙ q.4)

-- the places of all its nodes, at the front of a list that has them
module _ (s : ℕ) (h : s < 2 ^ 32) (places : List ℕ) (told : places ≡ places_of s) (width : ℕ) (all : width ≡ size s) where
  pub placed-length : length (take width places) ≡ width
  placed-length = length-take-le width places (omega (arith, ap length told ∙ length-places s, size-most s h))

  -- place k, and its node
  pub placed-node : (k : ℕ) → k < width
      → (j : ℕ) × (has s (suc j) ≡ true) × (get_or (listed s) k 0 ≡ suc j) × (get_or (take width places) k 0 ≡ j) × (count (has s) j ≡ k)
  placed-node k hk =
      let g = place_of s k h (omega arith) in
      (g.0, g.1, g.2, get_or-take width places k 0 hk ∙ ap (λ (l : List ℕ). get_or l k 0) told ∙ g.3, g.4)

  -- no place is that of a node outside the set
  pub not-placed : (j : ℕ) → has s (suc j) ≡ false → (k : ℕ) → k < length (take width places) → get_or (take width places) k 0 ≡ j → ⊥
  not-placed j none k hk e =
      let g = placed-node k (omega (arith, placed-length)) in
      true≢false (sym g.1 ∙ ap (λ (i : ℕ). has s (suc i)) (sym g.3 ∙ e) ∙ none)

  -- their blocks are there in a list that has those of the nodes 1, .., n
  pub placed-inside : (b n size : ℕ) → ((i : ℕ) → has s i ≡ true → i ≤ n) → n * b ≤ size → (k : ℕ) → k < length (take width places)
      → suc (get_or (take width places) k 0) * b ≤ size
  placed-inside b n size most room k hk =
      let g = placed-node k (omega (arith, placed-length)) in
      subst⁻¹ (λ (j : ℕ). suc j * b ≤ size) g.3 (omega (arith, mul-le-mul_right b (most (suc g.0) g.1)))

-- what places_of leaves of 32 zeros
pub placing-zeros : (s : ℕ) (new : List ℕ) → s < 2 ^ 32 → Placing s (replicate 32 0) new → new ≡ places_of s
placing-zeros s new h placed =
    placed.written refl ∙ ap (λ (l : List ℕ). take (size s) (places_of s) ++ l) (sym behind) ∙ take-append-drop (size s) (places_of s)
  where
    behind : drop (size s) (places_of s) ≡ drop (size s) (replicate 32 0)
    behind =
        ext_get_or 0 _ _ (simp (length-drop, length-places))
        (λ i hi.
        get_or-drop (size s) (places_of s) i 0 ∙ places-at s (size s + i) (omega (arith, length-drop (size s) (places_of s), length-places s))
        ∙ ap (λ (k : ℕ). k - 1) (get_or-eq_default (listed s) 0 (omega (arith, length-listed s h)))
        ∙ sym (get_or-drop (size s) (replicate 32 0) i 0 ∙ zeros-at 32 (size s + i)))

-- ---- from the list to the places

-- what NodeSet::list leaves
module _ (s : ℕ) (h : s < 2 ^ 32) (old : List ℕ) (count : ℕ) (l : List ℕ) (lists : Listing s old count l) where
  -- nothing is counted where there is no room
  counted-room : 0 < count → length old ≡ 32
  counted-room some = ⊎_elim (λ e. e) (λ none. absurd (omega (arith, (lists.kept none).1))) (eq-or (length old) 32)

  pub node-inside : (i : ℕ) → i < count → i < length old
  node-inside i hi =
      let room = counted-room (omega arith) in
      omega (arith, lists.counted room, size-most s h)

  -- as many entries as are counted are there
  pub list-fits : length l ≡ length old → count ≤ length l
  list-fits same =
      ⊎_elim (λ room. omega (arith, lists.counted room, size-most s h)) (λ none. omega (arith, (lists.kept none).1)) (eq-or (length old) 32)

  node_at : length old ≡ 32 → (i : ℕ) → i < count → get_or (take count l) i 0 ≡ get_or (listed s) i 0
  node_at room i hi =
      get_or-take count l i 0 hi ∙ ap (λ (k : List ℕ). get_or k i 0) (lists.written room)
      ∙ get_or-append (listed s) (drop (size s) old) 0 i (omega (arith, lists.counted room, length-listed s h))

  pub node-positive : (i : ℕ) → i < count → 1 ≤ get_or (take count l) i 0
  node-positive i hi =
      ⊎_elim (λ room. omega (arith, node_at room i hi, (place_of s i h (omega (arith, lists.counted room))).2)) (λ none. absurd (omega (arith, (lists.kept none).1)))
      (eq-or (length old) 32)

  -- each node's entry, at the front, has become f of the node
  module _ (f : ℕ → ℕ) (t : ℕ) (front : List ℕ) (same : length l ≡ length old) (all : length (take count l) ≤ t)
      (filled : Filled (λ i. f (get_or (take count l) i 0)) t (take count l) front) where
    full : length (take count l) ≡ count
    full = length-take-le count l (list-fits same)

    pub entries-kept : (length old ≡ 32 → ⊥) → front ++ drop count l ≡ old
    entries-kept none =
        let k = lists.kept none in
        ap₂ (λ (x : List ℕ) (n : ℕ). x ++ drop n l) (nil_from_length front (omega (arith, filled.same, full, k.1))) k.1 ∙ k.0

    pub entries_told : length old ≡ 32 → front ++ drop count l ≡ tabulate (size s) (λ i. f (get_or (listed s) i 0)) ++ drop (size s) old
    entries_told room =
        ap₂ ◌++◌
        (eq-tabulate (size s) _ front (omega (arith, filled.same, full, lists.counted room))
        (λ i hi. let lt : i < count = omega (arith, lists.counted room) in filled.done i (omega (arith, full)) ∙ ap f (node_at room i lt)))
        (ap₂ drop (lists.counted room) (lists.written room) ∙ drop_at (listed s) (drop (size s) old) (size s) (length-listed s h))

  -- .. one less than the node
  pub places-told : (t : ℕ) (front : List ℕ) → length l ≡ length old → length (take count l) ≤ t
      → Filled (λ i. get_or (take count l) i 0 - 1) t (take count l) front → Placing s old (front ++ drop count l)
  places-told t front same all filled =
      record {
        written = λ room.
            entries_told (λ i. i - 1) t front same all filled room ∙ ap (λ (k : List ℕ). k ++ drop (size s) old) (sym places-front);
        kept = entries-kept (λ i. i - 1) t front same all filled;
      }
    where
      places-front : take (size s) (places_of s) ≡ tabulate (size s) (λ i. get_or (listed s) i 0 - 1)
      places-front =
          eq-tabulate (size s) _ (take (size s) (places_of s)) (length-take-le (size s) (places_of s) (omega (arith, length-places s, size-most s h)))
          (λ i hi. get_or-take (size s) (places_of s) i 0 hi ∙ places-at s i (omega (arith, size-most s h)))

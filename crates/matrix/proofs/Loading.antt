-- The working matrix filled row by row, and its right half written row by row. Assumes nothing.
use mathlib.Core.Path.{◌≡◌, refl, sym, ap, ◌∙◌, subst}
use mathlib.Core.List.{List, [], ◌++◌}
use mathlib.Core.Logic.{⊎_elim}
use Prim.Native.Nat.{ℕ, zero, suc, ◌+◌, ◌-◌, ◌*◌, ◌≤◌, ◌<◌}
use native.Mathlib.Nat.{not-suc-le-zero}
use native.Mathlib.Omega.{arith}
use lib.ListN.{length, get_or, set, take, drop, replicate, get_or-append, length-append, length-set}
use lib.Seq.{get_or-set_same, get_or-set_other, get_or-take, get_or-drop, get_or-append-add, drop-drop, take-append_seam, drop-append_seam}
use borrow.Rule.Slice.PartMut.{put_mid}
use native.Mathlib.Nat.{suc-mul, lt_of_mul-lt-mul_right}
use Rattle.std.proofs.Common.{length-take, length-drop}
use denote.Ref.{Bor}
use Rattle.std.specs.Prelude.{Option, Some, None}
use Rattle.std.specs.declared.iter.Enumerate.{Enumerate}
use Rattle.std.specs.declared.slice.ChunksExact.{ChunksExact}
use Rattle.std.specs.Iterator.Adapters.{enumerate_source, enumerate_count, enumerate_steps}
use Rattle.std.specs.Slice.Iter.{chunks_exact_rest, chunks_exact_size, chunks_exact_steps}
use Rattle.base.proofs.Cases.{lt-or, eq-or}
use Rattle.base.proofs.Seq.{cell-lt, zeros-at}
use Rattle.field.specs.Field.{IsByte, Bytes}
use Rattle.matrix.specs.Matrix.{entry}
use Rattle.matrix.specs.Product.{unit}
use Rattle.matrix.specs.Working.{grid, LoadedRow}
use Rattle.matrix.proofs.Identity.{unit-same, unit-other}

-- the rows before i are those of [m | 1], the others are still zero
pub record LoadedBelow (s : ℕ) (m : List ℕ) (i : ℕ) (w : List (List ℕ)) : Type 0 where
  pub size : length w ≡ 32
  pub left : (h k : ℕ) → h < i → k < s → grid w h k ≡ entry s m h k
  pub right : (h k : ℕ) → h < i → k < s → grid w h (s + k) ≡ unit h k
  pub rest : (h k : ℕ) → i ≤ h → grid w h k ≡ 0

pub zero-grid : (n t h k : ℕ) → grid (replicate n (replicate t 0)) h k ≡ 0
zero-grid zero t h k = refl
zero-grid (suc n) t zero k = zeros-at t k
zero-grid (suc n) t (suc h) k = zero-grid n t h k

pub loaded-none : (s : ℕ) (m : List ℕ) (w : List (List ℕ)) → length w ≡ 32 → ((h k : ℕ) → grid w h k ≡ 0) → LoadedBelow s m 0 w
loaded-none s m w size zeros =
    record {
      size = size;
      left = λ h k hh hk. absurd (not-suc-le-zero hh);
      right = λ h k hh hk. absurd (not-suc-le-zero hh);
      rest = λ h k hh. zeros h k;
    }

-- a row of m or of out lies within it
pub line-within : (s i : ℕ) → i < s → i * s + s ≤ s * s
line-within s i hi = let h = cell-lt s s i (s - 1) hi (omega arith) in omega arith

pub length-line : (s i : ℕ) (m : List ℕ) → i < s → length m ≡ s * s → length (take (i * s + s - i * s) (drop (i * s) m)) ≡ s
length-line s i m hi size =
    let h = line-within s i hi in simp (length-take, length-drop) (omega arith)

-- the entries, then a single 1 among zeros
pub loaded-row : (i : ℕ) (entries row : List ℕ) → i < length entries → length row ≡ 64 → length entries ≤ 32 → Bytes entries
    → ((k : ℕ) → get_or row k 0 ≡ 0) → LoadedRow i entries (set (entries ++ drop (length entries) row) (length entries + i) 1)
loaded-row i entries row hi size small known zeros =
    record {
      left =
          λ k hk.
          get_or-set_other w (length entries + i) k 1 0 (λ q. omega arith) ∙ get_or-append entries rest 0 k hk;
      right =
          λ k hk.
          ⊎_elim (λ q. ap (λ (x : ℕ). get_or (set w (length entries + i) 1) (length entries + x) 0) q ∙ here ∙ sym (unit-same i) ∙ ap (unit i) (sym q))
          (λ ne.
          get_or-set_other w (length entries + i) (length entries + k) 1 0 (λ q. ne (omega arith)) ∙ get_or-append-add entries rest k 0 ∙ none k
          ∙ sym (unit-other i k (λ q. ne (sym q))))
          (eq-or k i);
      bytes =
          λ k.
          ⊎_elim (λ q. subst IsByte (sym (ap (λ (x : ℕ). get_or (set w (length entries + i) 1) x 0) q ∙ here)) (omega arith))
          (λ ne. subst IsByte (sym (get_or-set_other w (length entries + i) k 1 0 ne)) (whole k))
          (eq-or k (length entries + i));
    }
  where
    rest : List ℕ
    rest = drop (length entries) row

    w : List ℕ
    w = entries ++ rest

    none : (k : ℕ) → get_or rest k 0 ≡ 0
    none k = get_or-drop (length entries) row k 0 ∙ zeros (length entries + k)

    here : get_or (set w (length entries + i) 1) (length entries + i) 0 ≡ 1
    here = get_or-set_same w (length entries + i) 1 0 (simp (length-append, length-drop) (omega arith))

    whole : (k : ℕ) → IsByte (get_or w k 0)
    whole k =
        ⊎_elim (λ h. subst IsByte (sym (get_or-append entries rest 0 k h)) (known k))
        (λ h. subst IsByte (sym (ap (λ (x : ℕ). get_or w x 0) (omega arith) ∙ get_or-append-add entries rest (k - length entries) 0 ∙ none (k - length entries))) (omega arith))
        (lt-or k (length entries))

pub loaded-more : (s i : ℕ) (m entries row : List ℕ) (w : List (List ℕ)) → i < s → s ≤ 32 → length entries ≡ s
    → entries ≡ take s (drop (i * s) m) → LoadedRow i entries row → LoadedBelow s m i w → LoadedBelow s m (i + 1) (set w i row)
unfolding entry
loaded-more s i m entries row w hi side count e r b =
    record {
      size = simp length-set b.size;
      left = λ h k hh hk. ⊎_elim (λ q. here-left h k q hk) (λ ne. away h k ne ∙ b.left h k (omega arith) hk) (eq-or h i);
      right = λ h k hh hk. ⊎_elim (λ q. here-right h k q hk) (λ ne. away h (s + k) ne ∙ b.right h k (omega arith) hk) (eq-or h i);
      rest = λ h k hh. away h k (λ q. omega arith) ∙ b.rest h k (omega arith);
    }
  where
    away : (h k : ℕ) → (h ≡ i → ⊥) → grid (set w i row) h k ≡ grid w h k
    away h k ne = ap (λ (x : List ℕ). get_or x k 0) (get_or-set_other w i h row [] ne)

    here : (h k : ℕ) → h ≡ i → grid (set w i row) h k ≡ get_or row k 0
    here h k q =
        ap (λ (x : ℕ). grid (set w i row) x k) q ∙ ap (λ (x : List ℕ). get_or x k 0) (get_or-set_same w i row [] (omega (arith, b.size)))

    here-left : (h k : ℕ) → h ≡ i → k < s → grid (set w i row) h k ≡ entry s m h k
    here-left h k q hk =
        here h k q ∙ r.left k (omega arith) ∙ ap (λ (x : List ℕ). get_or x k 0) e ∙ get_or-take s (drop (i * s) m) k 0 hk
        ∙ get_or-drop (i * s) m k 0 ∙ ap (λ (x : ℕ). get_or m (x * s + k) 0) (sym q)

    here-right : (h k : ℕ) → h ≡ i → k < s → grid (set w i row) h (s + k) ≡ unit h k
    here-right h k q hk =
        here h (s + k) q ∙ ap (λ (x : ℕ). get_or row (x + k) 0) (sym count) ∙ r.right k (omega arith) ∙ ap (λ (x : ℕ). unit x k) (sym q)

-- the rows before i are written
abbrev pub StoredBelow : ℕ → List (List ℕ) → ℕ → List ℕ → Type 0
StoredBelow s w i out = (h k : ℕ) → h < i → k < s → entry s out h k ≡ grid w h (s + k)

pub stored_more : (s i : ℕ) (w : List (List ℕ)) (out row : List ℕ) → i < s → length out ≡ s * s → length row ≡ s
    → ((k : ℕ) → k < s → get_or row k 0 ≡ grid w i (s + k)) → StoredBelow s w i out
    → StoredBelow s w (i + 1) (put_mid (i * s) (i * s + s - i * s) out row)
unfolding entry
stored_more s i w out row hi size count r b h k hh hk = ⊎_elim here before (eq-or h i)
  where
    all : i * s + s ≤ s * s
    all = line-within s i hi

    start : length (take (i * s) out) ≡ i * s
    start = simp length-take (omega (arith, size, all))

    here : h ≡ i → get_or (put_mid (i * s) (i * s + s - i * s) out row) (h * s + k) 0 ≡ grid w h (s + k)
    here q =
        ap (λ (x : ℕ). get_or (put_mid (i * s) (i * s + s - i * s) out row) (x * s + k) 0) q
        ∙ ap (λ (x : ℕ). get_or (put_mid (i * s) (i * s + s - i * s) out row) (x + k) 0) (sym start)
        ∙ get_or-append-add (take (i * s) out) _ k 0 ∙ get_or-append row _ 0 k (omega arith)
        ∙ r k hk ∙ ap (λ (x : ℕ). grid w x (s + k)) (sym q)

    before : (h ≡ i → ⊥) → get_or (put_mid (i * s) (i * s + s - i * s) out row) (h * s + k) 0 ≡ grid w h (s + k)
    before ne =
        get_or-append (take (i * s) out) _ 0 (h * s + k) (omega (arith, start, cell-lt s i h k (omega arith) hk))
        ∙ get_or-take (i * s) out (h * s + k) 0 (cell-lt s i h k (omega arith) hk)
        ∙ b h k (omega arith) hk

-- ---- the rows of m, one after the other

abbrev pub Lines : Type 0
Lines = Enumerate (ChunksExact ℕ)

abbrev pub steps : Lines → Option (ℕ × Bor (List ℕ)) → Lines → Type 0
steps = enumerate_steps chunks_exact_steps

-- what is left of m after so many turns
pub record Going (s : ℕ) (m : List ℕ) (turns : ℕ) (t : Lines) : Type 0 where
  pub counted : enumerate_count t ≡ turns
  pub left : chunks_exact_rest (enumerate_source t) ≡ drop (turns * s) m
  pub sized : chunks_exact_size (enumerate_source t) ≡ s

module _ {s turns : ℕ} {m : List ℕ} {t : Lines} (g : Going s m turns t) (some : 1 ≤ s) (size : length m ≡ s * s) where
  module _ (i : ℕ) (entries : Bor (List ℕ)) (u : Lines) (step : steps t (Some (i, entries)) u) where
    block : entries.now ++ chunks_exact_rest (enumerate_source u) ≡ drop (turns * s) m
    block = sym step.0.1.0 ∙ g.left

    pub at : i ≡ turns
    at = step.1 ∙ g.counted

    pub long : length entries.now ≡ s
    long = step.0.1.1 ∙ g.sized

    pub is : entries.now ≡ take s (drop (turns * s) m)
    is =
        sym (take-append_seam entries.now (chunks_exact_rest (enumerate_source u))) ∙ ap (take (length entries.now)) block
        ∙ ap (λ (n : ℕ). take n (drop (turns * s) m)) long

    pub within : turns < s
    within =
        lt_of_mul-lt-mul_right s
        (omega (arith, long, ap length block, length-append entries.now (chunks_exact_rest (enumerate_source u)), length-drop (turns * s) m))

    pub go_on : Going s m (turns + 1) u
    go_on =
        record {
          counted = step.2 ∙ ap (λ (n : ℕ). n + 1) g.counted;
          left =
              sym (drop-append_seam entries.now (chunks_exact_rest (enumerate_source u))) ∙ ap (drop (length entries.now)) block
              ∙ drop-drop (length entries.now) (turns * s) m ∙ ap (λ (n : ℕ). drop n m) (omega (arith, long, suc-mul turns s));
          sized = step.0.0 ∙ g.sized;
        }

    pub loaded : (row : List ℕ) (w : List (List ℕ)) → s ≤ 32 → LoadedRow i entries.now row → LoadedBelow s m turns w
        → LoadedBelow s m (turns + 1) (set w i row)
    loaded row w side r b =
        subst (λ (x : ℕ). LoadedBelow s m (turns + 1) (set w x row)) (sym at)
        (loaded-more s turns m entries.now row w within side long is (subst (λ (x : ℕ). LoadedRow x entries.now row) at r) b)

  -- the loop ends once each row had its turn
  pub ended : (u : Lines) → steps t None u → s ≤ turns
  ended u step =
      ⊎_elim
      (λ h. absurd (omega (arith, line-within s turns h, step.0.1.0, g.sized, ap length g.left, length-drop (turns * s) m)))
      (λ h. h)
      (lt-or turns s)

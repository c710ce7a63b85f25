-- Picked byte places: a pair that gives blocks gives the bytes at these places by its own bytes there, so a set that serves for the blocks serves for them.
-- Assumes nothing.
use mathlib.Core.Path.{◌≡◌, sym, ap, ap₂, ◌∙◌, subst}
use mathlib.Core.Logic.{⊎_elim}
use mathlib.Core.Bool.{Bool, true, true≢false}
use mathlib.Core.List.{List}
use Prim.Native.Nat.{ℕ, zero, suc, ◌+◌, ◌-◌, ◌*◌, ◌/◌, ◌%◌, ◌≤◌, ◌<◌}
use native.Mathlib.Nat.{le_trans, mul-le-mul, zero-lt-suc, mod-lt, div-lt_iff_lt-mul}
use native.Mathlib.Omega.{arith}
use lib.ListN.{length, get_or, take, set, length-set}
use lib.Seq.{length-take-le, get_or-take, get_or-set_same, get_or-set_other}
use lib.Arith.{digits_div, digits_mod}
use Rattle.base.proofs.Cases.{eq-or}
use Rattle.base.specs.Seq.{cell, blocks}
use Rattle.base.specs.Parts.{Filled}
use Rattle.base.proofs.Seq.{cell-lt, cell-blocks, length-blocks, cell-take}
use Rattle.field.proofs.Bytes.{bytes-blocks, cell-byte}
use Rattle.interpolation.proofs.Evaluate.{evaluate-ext}
use Rattle.params.specs.Params.{slack_parts, working}
use Rattle.params.specs.declared.Params.{Params}
use Rattle.gates.specs.Valid.{Valid}
use Rattle.code.specs.Code.{Parts, point, block}
use Rattle.code.specs.Calls.{Serves}
use Rattle.std.specs.Prelude.{Option, Some, None, is_some}
use Rattle.params.specs.declared.Node.{Node}
use Rattle.consistency.specs.Tested.{Testable, Tested}
use Rattle.probes.specs.Probes.{Probeable, probe, Probed, PlacesIn, picked_byte}

probe-valid : (a : Params) (m : ℕ) → Valid a → 1 ≤ m → m ≤ a.b → Valid (probe a m)
probe-valid a m ok low high = record { shape = ok.shape; b_low = low; b_high = le_trans high ok.b_high }

-- what trying a set asks, at the probes
pub probe-testable : (a : Params) (s m : ℕ) (picked : List ℕ) (fresh : ℕ) → Probeable a s m fresh → 1 ≤ m → a.n * m ≤ length picked
    → Testable (probe a m) s (length (take (a.n * m) picked)) fresh
unfolding working slack_parts
probe-testable a s m picked fresh ok some room =
    record {
      check = record { valid = probe-valid a m ok.valid some ok.most; codeword_length = length-take-le _ _ room };
      inside = ok.inside;
      few = ok.few;
      room = le_trans (mul-le-mul (omega arith) ok.most) ok.room;
    }

-- a node that is named shows that the set does not serve
pub named : (a : Params) (s most : ℕ) (word : List ℕ) (node : Option Node) (answer : Bool) → answer ≡ is_some node → answer ≡ true → Tested a s most word node
    → Serves a word s → ⊥
named a s most word (Some node) answer is e told = told
named a s most word None answer is e told = absurd (true≢false (sym e ∙ is))

-- what is asked where a set is tried at the probes that there are
pub probeable : (a : Params) (s codeword fresh : ℕ) (word : List ℕ) (m : ℕ) (places picked : List ℕ) → Testable a s codeword fresh
    → Probed a word m places picked → Probeable a s m fresh
probeable a s codeword fresh word m places picked test told =
    record { valid = test.check.valid; most = told.most; inside = test.inside; few = test.few; room = test.room }

module _ (a : Params) (codeword : List ℕ) (m : ℕ) (places picked : List ℕ) (told : Probed a codeword m places picked) where
  -- the parts' bytes at the places
  abbrev at_places : ℕ → List ℕ → List ℕ
  at_places count xs = blocks m count (λ j i. cell a.b xs j (get_or places i 0))

  parts : (count : ℕ) (xs : List ℕ) → Parts a.b count xs → Parts m count (at_places count xs)
  parts count xs h =
      record {
        length_is = length-blocks m count (λ j i. cell a.b xs j (get_or places i 0));
        bytes = bytes-blocks m count (λ j i. cell a.b xs j (get_or places i 0)) (λ j i. cell-byte a.b xs j (get_or places i 0) h.bytes);
      }

  block-picked : (x v : List ℕ) (j i : ℕ) → i < m
      → block (probe a m) (at_places a.k x) (at_places (slack_parts a) v) (suc j) i ≡ block a x v (suc j) (get_or places i 0)
  unfolding block slack_parts
  block-picked x v j i hi =
      evaluate-ext a.k (a.n - a.w) _ _ _ _ (point (suc j)) (λ e he. cell-blocks m a.k (λ j i. cell a.b x j (get_or places i 0)) e i he hi)
      (λ e he. cell-blocks m (a.n - a.w) (λ j i. cell a.b v j (get_or places i 0)) e i he hi)

  pub picked-serves : (s : ℕ) → Serves a codeword s → Serves (probe a m) (take (a.n * m) picked) s
  unfolding slack_parts
  picked-serves s h =
      record {
        message = at_places a.k h.message;
        slack = at_places (slack_parts a) h.slack;
        gives =
            record {
              pair =
                  record {
                    message = parts a.k h.message h.gives.pair.message;
                    slack = parts (slack_parts a) h.slack h.gives.pair.slack;
                  };
              equal = λ j i hj e hi.
                  block-picked h.message h.slack j i hi ∙ h.gives.equal j (get_or places i 0) hj e (told.inside i hi)
                  ∙ sym (told.holds j i hj hi) ∙ sym (cell-take m a.n picked j i hj hi);
            };
      }

-- ---- one probe more

-- byte `at` of n blocks of m bytes: its block, and its place there
pub spot : (n m at : ℕ) → at < n * m → (0 < m) × (at % m < m) × (at / m < n)
spot n zero at h = absurd (omega (arith, h))
spot n (suc m) at h = (zero-lt-suc m, mod-lt at (zero-lt-suc m), (div-lt_iff_lt-mul (zero-lt-suc m)).1 h)

-- the places that are lent: one more
module _ (m : ℕ) (places : List ℕ) (place : ℕ) (long : length places ≡ 32) (room : m < 32) where
  abbrev lent : List ℕ
  lent = take (m + 1) (set places m place)

  pub lent_length : length lent ≡ m + 1
  lent_length = length-take-le (m + 1) (set places m place) (omega (arith, same))
    where
      same : length (set places m place) ≡ 32
      same = simp length-set long

-- each of them is the place of a byte of a block
module _ (b m : ℕ) (places : List ℕ) (place : ℕ) (long : length places ≡ 32) (room : m < 32) (here : place < b)
    (before : (i : ℕ) → i < m → get_or places i 0 < b) where
  places-in : (i : ℕ) → i < m + 1 → get_or (set places m place) i 0 < b
  places-in i hi =
      ⊎_elim
      (λ (e : i ≡ m).
      subst (λ (x : ℕ). x < b) (sym (ap (λ (k : ℕ). get_or (set places m place) k 0) e ∙ get_or-set_same places m place 0 (omega (arith, long)))) here)
      (λ ne. subst (λ (x : ℕ). x < b) (sym (get_or-set_other places m i place 0 ne)) (before i (omega (arith, ne)))) (eq-or i m)

  pub lent-in : PlacesIn b (take (m + 1) (set places m place))
  lent-in i hi =
      let h : i < m + 1 = omega (arith, lent_length m places place long room) in
      subst (λ (x : ℕ). x < b) (sym (get_or-take (m + 1) (set places m place) i 0 h)) (places-in i h)

pub probed-more : (a : Params) (codeword : List ℕ) (m : ℕ) (places picked picked' : List ℕ) (place : ℕ) → Probed a codeword m places picked
    → length places ≡ 32 → m < 32 → m < a.b → place < a.b
    → Filled (picked_byte a codeword (take (m + 1) (set places m place))) (a.n * length (take (m + 1) (set places m place))) picked picked'
    → Probed a codeword (m + 1) (set places m place) picked'
unfolding cell
probed-more a codeword m places picked picked' place told long room fits here done =
    record {
      most = omega arith;
      inside = places-in a.b m places place long room here told.inside;
      holds = λ j i hj hi.
          let count = lent_length m places place long room in
          let h : i < length (take (m + 1) (set places m place)) = omega (arith, count) in
          ap (λ (c : ℕ). get_or picked' (j * c + i) 0) (sym count)
          ∙ done.done (j * length (take (m + 1) (set places m place)) + i) (cell-lt _ a.n j i hj h)
          ∙ ap₂ (λ (x y : ℕ). cell a.b codeword x (get_or (take (m + 1) (set places m place)) y 0)) (digits_div j h) (digits_mod j h)
          ∙ ap (cell a.b codeword j) (get_or-take (m + 1) (set places m place) i 0 hi);
    }

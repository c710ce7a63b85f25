-- Leading and remaining parts together, as many as points: they are determined by the values, and any values are taken. Both are the completion
-- theorem with no leading part, for the joined parts. Assumes nothing.
use mathlib.Core.Path.{◌≡◌, sym, ap, ◌∙◌}
use mathlib.Core.List.{List, []}
use Prim.Native.Nat.{ℕ, ◌+◌, ◌*◌, ◌<◌}
use native.Mathlib.Nat.{zero-add}
use native.Mathlib.Omega.{arith}
use lib.ListN.{length, get_or, take, drop, length-drop}
use lib.Seq.{length-take-le}
use Rattle.base.specs.Seq.{cell}
use Rattle.base.proofs.Seq.{cell-take, cell-drop}
use Rattle.field.specs.Field.{IsByte, Bytes}
use Rattle.field.proofs.Bytes.{bytes_take, bytes_drop, cell-byte}
use Rattle.interpolation.specs.Polynomial.{evaluate, Points}
use Rattle.interpolation.proofs.Rows.{join, join-left, join-right, join-byte}
use Rattle.interpolation.proofs.Evaluate.{evaluate-join}
use Rattle.interpolation.proofs.Uniqueness.{rest-unique}
use Rattle.interpolation.proofs.Completion.{completion-exists}

-- the joined row w, all of it counted as remaining coefficients (y stands for no coefficient)
joined : (e m n : ℕ) (x v w y : ℕ → ℕ) (c : ℕ) → e + m ≡ n → ((j : ℕ) → j < e → w j ≡ x j) → ((j : ℕ) → j < m → w (e + j) ≡ v j)
    → evaluate 0 n y w c ≡ evaluate e m x v c
joined e m n x v w y c s hx hv =
    evaluate-join 0 n y w w y c (λ j hj. absurd (omega arith)) (λ j hj. ap w (zero-add j))
    ∙ ap (λ (k : ℕ). evaluate k 0 w y c) (zero-add n ∙ sym s)
    ∙ sym (evaluate-join e m x v w y c hx hv)

-- ---- uniqueness

-- at one byte place
place-unique : (e m : ℕ) (ps : List ℕ) (x x' v v' : ℕ → ℕ) → Points ps → e + m ≡ length ps
    → ((j : ℕ) → IsByte (x j)) → ((j : ℕ) → IsByte (x' j)) → ((j : ℕ) → IsByte (v j)) → ((j : ℕ) → IsByte (v' j))
    → ((i : ℕ) → i < length ps → evaluate e m x v (get_or ps i 0) ≡ evaluate e m x' v' (get_or ps i 0))
    → ((j : ℕ) → j < e → x j ≡ x' j) × ((j : ℕ) → j < m → v j ≡ v' j)
place-unique e m ps x x' v v' h s hx hx' hv hv' same = (
  λ j hj. sym (join-left e x v j hj) ∙ all j (omega arith) ∙ join-left e x' v' j hj,
  λ j hj. sym (join-right e x v j) ∙ all (e + j) (omega arith) ∙ join-right e x' v' j,
)
  where
    all : (j : ℕ) → j < length ps → join e x v j ≡ join e x' v' j
    all =
        rest-unique 0 ps x (join e x v) (join e x' v') h (λ j hj. join-byte e x v hx hv j) (λ j hj. join-byte e x' v' hx' hv' j)
        (λ i hi.
        joined e m (length ps) x v (join e x v) x (get_or ps i 0) s (join-left e x v) (λ j hj. join-right e x v j)
        ∙ same i hi
        ∙ sym (joined e m (length ps) x' v' (join e x' v') x (get_or ps i 0) s (join-left e x' v') (λ j hj. join-right e x' v' j)))

-- Parts that take equal values at as many points as there are parts are equal.
pub parts-unique : (b e m : ℕ) (ps x x' v v' : List ℕ) → Points ps → e + m ≡ length ps → Bytes x → Bytes x' → Bytes v → Bytes v'
    → ((i p : ℕ) → i < length ps → p < b
    → evaluate e m (λ j. cell b x j p) (λ j. cell b v j p) (get_or ps i 0) ≡ evaluate e m (λ j. cell b x' j p) (λ j. cell b v' j p) (get_or ps i 0))
    → (p : ℕ) → p < b → ((j : ℕ) → j < e → cell b x j p ≡ cell b x' j p) × ((j : ℕ) → j < m → cell b v j p ≡ cell b v' j p)
parts-unique b e m ps x x' v v' h s hx hx' hv hv' same p hp =
    place-unique e m ps _ _ _ _ h s (λ j. cell-byte b x j p hx) (λ j. cell-byte b x' j p hx') (λ j. cell-byte b v j p hv)
    (λ j. cell-byte b v' j p hv') (λ i hi. same i p hi hp)

-- ---- existence

-- e leading parts x and m remaining parts v of b bytes each, which take the wanted values at the points
pub record Takes (b e m : ℕ) (ps : List ℕ) (wanted : ℕ → ℕ → ℕ) (x v : List ℕ) : Type 0 where
  pub leading_count : length x ≡ e * b
  pub leading_bytes : Bytes x
  pub count : length v ≡ m * b
  pub bytes : Bytes v
  pub takes : (i p : ℕ) → i < length ps → p < b → evaluate e m (λ j. cell b x j p) (λ j. cell b v j p) (get_or ps i 0) ≡ wanted i p

-- As many parts as points: any wanted values are taken.
pub parts-exist : (b e m : ℕ) (ps : List ℕ) (wanted : ℕ → ℕ → ℕ) → Points ps → e + m ≡ length ps
    → ((i p : ℕ) → i < length ps → p < b → IsByte (wanted i p))
    → (x : List ℕ) × (v : List ℕ) × Takes b e m ps wanted x v
parts-exist b e m ps wanted h s hw =
    let g = completion-exists b 0 [] ps wanted h hw in
    let u = g.0 in
    let whole : length u ≡ e * b + m * b = g.1.count ∙ ap (λ (k : ℕ). k * b) (sym s) ∙ omega arith in (
      take (e * b) u,
      drop (e * b) u,
      record {
        leading_count = length-take-le (e * b) u (omega arith);
        leading_bytes = bytes_take (e * b) u g.1.bytes;
        count = length-drop (e * b) u ∙ omega arith;
        bytes = bytes_drop (e * b) u g.1.bytes;
        takes = λ i p hi hp.
            sym (joined e m (length ps) _ _ (λ j. cell b u j p) _ (get_or ps i 0) s (λ j hj. sym (cell-take b e u j p hj hp))
            (λ j hj. sym (cell-drop b e u j p)))
            ∙ g.1.takes i p hi hp;
      },
    )

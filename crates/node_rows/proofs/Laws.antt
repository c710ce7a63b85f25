-- Rows over nodes, from those over points: what they ask of a set, and what they take to what, told by the nodes' points. Assumes nothing.
use mathlib.Core.Path.{◌≡◌, sym, ap, ◌∙◌}
use mathlib.Core.List.{List, ◌++◌}
use Prim.Native.Nat.{ℕ, suc, ◌+◌, ◌*◌, ◌^◌, ◌≤◌, ◌<◌}
use native.Mathlib.Omega.{arith}
use lib.ListN.{length, take, drop}
use lib.Seq.{length-take-le}
use Rattle.base.specs.Seq.{tabulate, cell}
use Rattle.base.specs.Parts.{Filled}
use Rattle.base.proofs.Buffers.{buffer-front}
use Rattle.base.proofs.Seq.{length-tabulate, get_d_tabulate, eq-tabulate}
use Rattle.field.specs.Field.{IsByte, add, mul, pow}
use Rattle.field.specs.FiniteSum.{sum}
use Rattle.interpolation.specs.Polynomial.{evaluate}
use Rattle.params.specs.Nodes.{size}
use Rattle.code.specs.Code.{point}
use Rattle.code.specs.Points.{point_at, points_of}
use Rattle.code.proofs.Points.{length-points_of, points_of-most, points_of-at, points_of-points}
use Rattle.coefficients.specs.Coefficients.{power_rows, PowersPost, Reads, Readable, Extends, Roomy}
use Rattle.coefficients.proofs.Laws.{length-power_rows, power_rows-at, reads_at, extends-at}
use Rattle.node_rows.specs.Rows.{point_powers, EncodesPost}

-- ---- a set-up

pub length-point_powers : (n m : ℕ) → length (point_powers n m) ≡ n * m
unfolding point_powers
length-point_powers n m = length-power_rows m _ ∙ ap (λ (k : ℕ). k * m) (length-tabulate n (λ j. point (suc j)))

pub point_powers-at : (n m i j : ℕ) → i < n → j < m → cell m (point_powers n m) i j ≡ pow (point (suc i)) (suc j)
unfolding point_powers
point_powers-at n m i j hi hj =
    power_rows-at m (tabulate n (λ j. point (suc j))) i j (omega (arith, length-tabulate n (λ j. point (suc j)))) hj
    ∙ ap (λ (c : ℕ). pow c (suc j)) (get_d_tabulate n (λ j. point (suc j)) i hi)

-- the points of the nodes 1, .., n, lent from the front of their room
pub first-points : (n t : ℕ) (room front : List ℕ) → n ≤ length room → length (take n room) ≤ t → Filled (λ j. point (suc j)) t (take n room) front
    → take n (front ++ drop n room) ≡ tabulate n (λ j. point (suc j))
first-points n t room front fits le s =
    let whole : length front ≡ n = s.same ∙ length-take-le n room fits in
    buffer-front n front _ whole ∙ eq-tabulate n _ front whole (λ j h. s.done j (omega (arith, length-take-le n room fits)))

-- what encoding_rows leaves
pub encodes-made : (n m : ℕ) → n ≤ 32 → (points old new : List ℕ) → points ≡ tabulate n (λ j. point (suc j)) → PowersPost points m old new → EncodesPost n m old new
unfolding point_powers
encodes-made n m small points old new all post =
    record {
      written = λ le fits. post.written (fits ∙ ap (λ (k : ℕ). k * m) (sym many)) ∙ ap (power_rows m) all;
      kept = λ none. post.kept (λ fits. none (small, fits ∙ ap (λ (k : ℕ). k * m) many));
    }
  where
    many : length points ≡ n
    many = ap length all ∙ length-tabulate n _

-- ---- a reading

-- its rows ask nothing of the points: those of a set's nodes are at most 32, different and none of them 00
pub readable : (k s rows : ℕ) → s < 2 ^ 32 → k ≤ size s → rows ≡ k * size s → Readable k (points_of s) rows
readable k s rows h few room =
    record {
      few = omega (arith, length-points_of s);
      most = points_of-most s h;
      tell = points_of-points s h;
      room = room ∙ ap (λ (n : ℕ). k * n) (sym (length-points_of s));
    }

pub reads-nodes : (k s : ℕ) (rows : List ℕ) → Reads k (points_of s) rows
    → (l : ℕ) (x v : ℕ → ℕ) → k + l ≡ size s → ((j : ℕ) → IsByte (x j)) → ((j : ℕ) → IsByte (v j)) → (j : ℕ) → j < k
    → sum (size s) (λ o. mul (cell (size s) rows j o) (evaluate k l x v (point_at s o))) ≡ x j
reads-nodes k s rows = reads_at k (size s) (points_of s) rows (point_at s) (length-points_of s) (points_of-at s)

-- ---- from parts and blocks to blocks

pub roomy : (e at targets leading gains : ℕ) → at < 2 ^ 32 → targets < 2 ^ 32 → e ≤ 32 → leading ≡ size targets * e → gains ≡ size targets * size at
    → Roomy e (points_of at) (points_of targets) leading gains
roomy e at targets leading gains ha ht most first second =
    record {
      e_most = most;
      most = points_of-most at ha;
      few = points_of-most targets ht;
      tell = points_of-points at ha;
      nonzero = (points_of-points targets ht).nonzero;
      leading_room = first ∙ ap (λ (n : ℕ). n * e) (sym (length-points_of targets));
      gains_room =
          second ∙ ap (λ (n : ℕ). n * size at) (sym (length-points_of targets)) ∙ ap (λ (n : ℕ). length (points_of targets) * n) (sym (length-points_of at));
    }

pub extends-nodes : (e at targets : ℕ) (leading gains : List ℕ) → Extends e (points_of at) (points_of targets) leading gains
    → (x v : ℕ → ℕ) → ((j : ℕ) → IsByte (x j)) → ((j : ℕ) → IsByte (v j)) → (t : ℕ) → t < size targets
    → evaluate e (size at) x v (point_at targets t)
    ≡ add (sum e (λ j. mul (cell e leading t j) (x j))) (sum (size at) (λ o. mul (cell (size at) gains t o) (evaluate e (size at) x v (point_at at o))))
extends-nodes e at targets leading gains =
    extends-at e (size at) (size targets) (points_of at) (points_of targets) leading gains (point_at at) (point_at targets) (length-points_of at) (points_of-at at)
    (length-points_of targets) (points_of-at targets)

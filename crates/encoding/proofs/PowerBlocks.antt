-- The powers of the nodes' points, applied to message and slack side by side, give document 01's blocks. Assumes nothing.
use mathlib.Core.Path.{◌≡◌, sym, ap, ◌∙◌}
use mathlib.Core.List.{List}
use Prim.Native.Nat.{ℕ, suc, ◌-◌, ◌*◌, ◌^◌, min, ◌≤◌, ◌<◌}
use native.Mathlib.Nat.{le_refl, min-eq_left}
use native.Mathlib.Omega.{arith}
use lib.ListN.{length, take, drop, replicate, length-replicate}
use Rattle.base.specs.Seq.{cell}
use Rattle.base.proofs.Buffers.{areas-fit}
use Rattle.base.proofs.Seq.{cell-take, cell-drop}
use Rattle.field.specs.Field.{add, mul, pow}
use Rattle.field.specs.FiniteSum.{sum}
use Rattle.field.proofs.Addition.{add-zero-right}
use Rattle.field.proofs.Multiplication.{mul_comm}
use Rattle.field.proofs.FiniteSum.{sum-zero, sum-ext}
use Rattle.interpolation.specs.Polynomial.{evaluate}
use Rattle.interpolation.proofs.Evaluate.{evaluate-join}
use Rattle.params.specs.Nodes.{in_order}
use Rattle.params.specs.Params.{slack_parts, working}
use Rattle.params.specs.declared.Params.{Params}
use Rattle.code.specs.Code.{point, block}
use Rattle.code.specs.Calls.{Encoded}
use Rattle.products.specs.Blocks.{Fits, Added}
use Rattle.products.proofs.Arriving.{ordered-product}
use Rattle.coefficients.proofs.Laws.{product-fits, first-length, first-at, first-inside, product-first}
use Rattle.node_rows.specs.Rows.{point_powers}
use Rattle.node_rows.proofs.Laws.{length-point_powers, point_powers-at}
use Rattle.encoding.specs.Cores.{Raisable}

-- ---- the powers

-- one for each node and part
pub powers-most : (a : Params) (parts codeword : ℕ) → Raisable a parts codeword → a.n * working a ≤ 1024
powers-most a parts codeword ok = areas-fit a.n (working a) ok.n_high ok.parts_high

-- q is the number of parts, as the code counts them
module _ (a : Params) (size codeword : ℕ) (ok : Raisable a size codeword) (q : ℕ) (count_is : q ≡ min (working a) (2 ^ 64 - 1)) where
  all-parts : q ≡ working a
  all-parts = count_is ∙ min-eq_left (omega (arith, ok.parts_high))

  pub most : q ≤ 32
  most = omega (arith, all-parts, ok.parts_high)

  pub area-is : a.n * q ≡ a.n * working a
  area-is = ap (λ (m : ℕ). a.n * m) all-parts

  -- the blocks, from the powers
  module _ (rows : List ℕ) (powers : rows ≡ point_powers a.n q) where
    power-cell : (i j : ℕ) → i < a.n → j < q → cell q rows i j ≡ pow (point (suc i)) (suc j)
    power-cell i j hi hj = ap (λ (l : List ℕ). cell q l i j) powers ∙ point_powers-at a.n q i j hi hj

    enough : a.n * q ≤ length rows
    enough = omega (arith, ap length powers ∙ length-point_powers a.n q)

    -- a block of the parts: all of them are leading coefficients
    whole-block : (parts : List ℕ) (i p : ℕ) → p < a.b
        → sum q (λ j. mul (cell a.b parts j p) (pow (point i) (suc j))) ≡ block a (take (a.k * a.b) parts) (drop (a.k * a.b) parts) i p
    unfolding block working evaluate
    whole-block parts i p hp =
        ap (λ (m : ℕ). sum m (λ j. mul (cell a.b parts j p) (pow (point i) (suc j)))) all-parts
        ∙ sym (ap (add _) (sum-zero _) ∙ add-zero-right _)
        ∙ sym (evaluate-join a.k (slack_parts a) _ _ (λ j. cell a.b parts j p) (λ j. 0) (point i)
        (λ j hj. sym (cell-take a.b a.k parts j p hj hp)) (λ j hj. sym (cell-drop a.b a.k parts j p)))

    pub encoded : (parts order columns old new : List ℕ) → length parts ≡ working a * a.b → old ≡ replicate (a.n * a.b) 0 → order ≡ in_order → columns ≡ in_order
        → Added a.b q parts (take a.n order) (take q columns) rows old new
        → Encoded a (take (a.k * a.b) parts) (drop (a.k * a.b) parts) new
    encoded parts order columns old new all cleared ordered across made =
        let few : a.n ≤ 32 = ok.n_high in
        let targets : length (take a.n order) ≡ a.n = first-length order ordered a.n few in
        let room : length old ≡ a.n * a.b = ap length cleared ∙ length-replicate {A = ℕ} (a.n * a.b) 0 in
        let fits : Fits a.b q (take a.n order) (take q columns) (length parts) (length rows) (length old) =
        product-fits a.b q (length parts) (length rows) (length old) (take a.n order) (take q columns) ok.b_low
        (first-inside order ordered a.n few a.b a.n (length old) (le_refl a.n) (omega (arith, room)))
        (omega (arith, first-length columns across q most)) (omega (arith, enough, ap (λ (m : ℕ). m * q) targets))
        (first-inside columns across q most a.b q (length parts) (le_refl q) (omega (arith, all, ap (λ (m : ℕ). m * a.b) all-parts))) in
        record {
          length_is = made.same ∙ room;
          holds = λ j p hj hp.
              ordered-product (take a.n order) (λ i hi. first-at order ordered a.n few i (omega (arith, targets))) a.b q parts (take q columns) rows old new
              fits made (a.n * a.b) cleared j p (omega (arith, targets)) hp
              ∙ product-first columns across q most a.b q parts rows j p
              ∙ sum-ext q _ _ (λ t ht. ap (λ (y : ℕ). mul y (cell a.b parts t p)) (power-cell j t hj ht) ∙ mul_comm _ (cell a.b parts t p))
              ∙ whole-block parts (suc j) p hp;
        }

-- A node's block as a part of the codeword. Assumes nothing.
use mathlib.Core.Path.{◌≡◌, refl, sym, ap, ◌∙◌}
use mathlib.Core.List.{List, []}
use Prim.Native.Nat.{ℕ, ◌+◌, ◌-◌, ◌*◌, ◌≤◌}
use native.Mathlib.Omega.{arith}
use lib.ListN.{length, take, drop}
use Rattle.base.specs.Parts.{part_of}
use Rattle.base.proofs.Parts.{row_ends}
use Rattle.gates.specs.Gates.{view_gate}
use Rattle.params.specs.declared.Params.{Params}
use Rattle.gates.proofs.Valid.{view-accepted}
use Rattle.code.specs.Calls.{ViewPost}

-- refused: any number but 0 comes with an empty part
pub hidden : (a : Params) (codeword : List ℕ) (i gate : ℕ) → gate ≡ view_gate a (length codeword) i → (gate ≡ 0 → ⊥) → ViewPost a codeword i []
hidden a codeword i gate e ne = record { number = refl; served = λ z. absurd (ne (e ∙ z)); refused = λ z. refl }

module _ (a : Params) (codeword : List ℕ) (i gate number : ℕ) (e : gate ≡ view_gate a (length codeword) i) (yes : gate ≡ 0) (same : number ≡ i) where
  pub some : 1 ≤ number
  some = let ok = (view-accepted a (length codeword) i).0 (sym e ∙ yes) in omega (arith, ok.node_low)

  -- the block ends within the codeword
  pub view-inside : (number - 1) * a.b + a.b ≤ length codeword
  view-inside =
      let ok = (view-accepted a (length codeword) i).0 (sym e ∙ yes) in
      row_ends a.n (number - 1) a.b (length codeword) (omega (arith, ok.node_low, ok.node_high)) (omega (arith, ok.codeword_length))

  pub viewed : ViewPost a codeword i (part_of a.b (number - 1) codeword)
  viewed =
      record {
        number = refl;
        served = λ z.
            let m : (number - 1) * a.b + a.b - (number - 1) * a.b ≡ a.b = omega arith in
            ap (λ (k : ℕ). take k (drop ((number - 1) * a.b) codeword)) m ∙ ap (λ (k : ℕ). take a.b (drop ((k - 1) * a.b) codeword)) same;
        refused = λ z. absurd (z (sym e ∙ yes));
      }

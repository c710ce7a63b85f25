-- The rows of coefficients are found, and then two products added. Assumes nothing.
use mathlib.Core.Path.{refl, ap₂, subst⁻¹}
use Prim.Native.Nat.{ℕ, ◌*◌, ◌≤◌}
use native.Mathlib.Omega.{arith}
use lib.ListN.{length, replicate, length-replicate}
use Rattle.extension.proofs.Values.{extended-lent}
use Rattle.extension.proofs.Extension.add_in.Given.{Over}
use Rattle.extension.proofs.Extension.add_in.Goals as goal
use Rattle.extension.proofs.Extension.add_in.Goals.{After-size-q}

-- there is room for the coefficients
module _ (g : Over) (c : After-size-q g) where
  leading-fits : c.size-rows.result * c.args.self.now.e ≤ length (replicate {A = ℕ} g.row.ROOM 0)
  leading-fits =
      omega (
        arith,
        length-replicate {A = ℕ} g.row.ROOM 0,
        subst⁻¹ (λ (k : ℕ). k * c.args.self.now.e ≤ g.row.ROOM) c.size-rows.ensures c.requires.room.0,
      )

  gains-fit : c.size-rows.result * c.size-q.result ≤ length (replicate {A = ℕ} g.row.ROOM 0)
  gains-fit =
      omega (
        arith,
        length-replicate {A = ℕ} g.row.ROOM 0,
        subst⁻¹ (λ (k : ℕ). k ≤ g.row.ROOM) (ap₂ ◌*◌ c.size-rows.ensures c.size-q.ensures) c.requires.room.1,
      )

pub returns : goal.returns
returns g c =
    let z = (goal.at.returns g c).After-size-q in
    let x = c.args.self.now in
    let room = replicate {A = ℕ} g.row.ROOM 0 in
    extended-lent x.b x.e x.at.0 x.targets.0 c.size-rows.result c.size-q.result (omega arith) (omega arith) x.message.now x.z.now x.places.now x.to.now
    c.in_order-columns.result room room _ _ (length c.args.out.now) c.requires.asks c.size-rows.ensures c.size-q.ensures
    c.in_order-columns.ensures (leading-fits g z) (gains-fit g z) c.requires.bytes c.extending_rows.ensures _ _ _ refl
    c.add_product.ensures c.add_product-2.ensures

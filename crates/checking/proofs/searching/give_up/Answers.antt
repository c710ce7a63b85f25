-- The set has n - q nodes, and no set that is tried has more. Assumes nothing.
use mathlib.Core.Path.{◌≡◌, refl, subst}
use Prim.Native.Nat.{ℕ, ◌-◌}
use native.Mathlib.Omega.{arith}
use Rattle.params.specs.Nodes.{size}
use Rattle.params.specs.Params.{working}
use Rattle.params.specs.declared.Params.{Params}
use Rattle.params.proofs.Behind.{Behind, behind-size, behind-outside}
use Rattle.params.proofs.Outside.{Outside}
use Rattle.gates.specs.Valid.{Valid}
use Rattle.gates.proofs.Valid.{working-le, working-known}
use Rattle.checking.proofs.searching.give_up.Goals as goal

module _ (a : Params) (q first set : ℕ) (valid : Valid a) (exact : q ≡ working a) (one : Outside q 0 first) (two : Outside a.n first set) where
  behind : Behind (working a) a.n set
  behind =
      behind-outside (working a) a.n _ _ (working-le a valid) valid.shape.n_high (subst (λ (q : ℕ). Outside q 0 first) exact one) two

  long : size set ≡ a.n - working a
  long = behind-size (working a) a.n (working-le a valid) set behind

pub overflow_sub-distance : goal.overflow_sub-distance
overflow_sub-distance c =
    let exact = working-known c.args.a c.requires.valid _ c.working.ensures in
    omega (
      arith,
      c.size-2.ensures,
      c.size.ensures,
      long c.args.a _ _ _ c.requires.valid exact c.outside.ensures c.outside-behind.ensures,
      c.requires.few,
    )

pub returns : goal.returns
returns c =
    let exact = working-known c.args.a c.requires.valid _ c.working.ensures in
    record {
      set_is = behind c.args.a _ _ _ c.requires.valid exact c.outside.ensures c.outside-behind.ensures;
      tried_is = refl;
      distance_is =
          omega (
            arith,
            c.size-2.ensures,
            c.size.ensures,
            long c.args.a _ _ _ c.requires.valid exact c.outside.ensures c.outside-behind.ensures,
            c.requires.few,
          );
    }

-- Refused, the number alone; else the search's answer. Each of the three rooms is enough for the blocks that it is made for: the largest has place for 32 of 1,024
-- bytes. Assumes nothing.
use mathlib.Core.Path.{◌≡◌, sym, subst}
use Prim.Native.Nat.{ℕ, ◌-◌, ◌*◌, ◌≤◌}
use native.Mathlib.Omega.{arith}
use lib.ListN.{length}
use Rattle.params.specs.Params.{working}
use Rattle.gates.proofs.Valid.{working-le, working-known, check-accepted, blocks-most}
use Rattle.consistency.specs.Tested.{Checkable}
use Rattle.checking.specs.Cores.{Searchable}
use Rattle.checking.proofs.check.Goals as goal
use Rattle.checking.proofs.check.Goals.{After-working}

module _ (c : After-working) where
  ok : Checkable c.args.a (length c.args.codeword.now)
  ok =
      let accepted = (check-accepted _ _).0 (sym c.in_ok-check_gate.ensures) in
      record { valid = accepted.valid; codeword_length = accepted.codeword_length }

  exact : c.working.result ≡ working c.args.a
  exact = working-known c.args.a ok.valid _ c.working.ensures

  most : (c.args.a.n - c.working.result) * c.args.a.b ≤ 32768
  most = blocks-most (c.args.a.n - c.working.result) c.args.a.b (omega (arith, ok.valid.shape.n_high)) ok.valid.b_high

  enough : (m : ℕ) → (c.args.a.n - c.working.result) * c.args.a.b ≤ m → Searchable c.args.a (length c.args.codeword.now) m
  enough m fits = record { check = ok; room = subst (λ (q : ℕ). (c.args.a.n - q) * c.args.a.b ≤ m) exact fits }

pub overflow_sub-size : goal.overflow_sub-size
overflow_sub-size c =
    let l = (goal.at.overflow_sub-size c).After-working in
    omega (arith, exact l, working-le c.args.a (ok l).valid)

pub overflow_mul-size : goal.overflow_mul-size
overflow_mul-size c = record { fits = omega (arith, most (goal.at.overflow_mul-size c).After-working) }

pub search_in-blame-requires-clause-searchable : goal.search_in-blame-requires-clause-searchable
search_in-blame-requires-clause-searchable c =
    enough (goal.at.search_in-blame-requires-clause-searchable c).After-working 128 (omega (arith, c.if-size-le128.true))

pub search_in-requires-clause-searchable : goal.search_in-requires-clause-searchable
search_in-requires-clause-searchable c =
    enough (goal.at.search_in-requires-clause-searchable c).After-working 1024 (omega (arith, c.if-size-le1024.true))

pub search_in-requires-else-size-le1024-clause-searchable : goal.search_in-requires-else-size-le1024-clause-searchable
search_in-requires-else-size-le1024-clause-searchable c =
    let l = (goal.at.search_in-requires-else-size-le1024-clause-searchable c).After-working in
    enough l 32768 (most l)

-- The gate's number, and the core where it is 0. Exactly one pair gives the blocks of R's q lowest nodes. Assumes nothing.
use mathlib.Core.Path.{refl, sym}
use Prim.Native.Nat.{◌^◌, ◌<◌}
use native.Mathlib.Omega.{arith}
use Rattle.gates.proofs.Valid.{decode-accepted}
use Rattle.code.proofs.Posts.{served, refused}
use Rattle.code.proofs.Used.{uses}
use Rattle.decoding.proofs.Accepted.{decodable, decoded}
use Rattle.decoding.proofs.decode.Goals as goal

pub returns-in_err-decode_gate : goal.returns-in_err-decode_gate
returns-in_err-decode_gate c = refused _ _ _ c.from_residual.ensures.1 c.in_err-decode_gate.ensures refl

pub decode_parts-requires : goal.decode_parts-requires
decode_parts-requires c =
    let word-from : c.args.from.0 < 2 ^ 32 = omega arith in
    let word : c.lowest-chosen.result.0 < 2 ^ 32 = omega arith in
    let ok = (decode-accepted _ _ _ _).0 (sym c.in_ok-decode_gate.ensures) in
    decodable _ _ _ _ _ word ok (uses _ _ _ _ ok.valid ok.from_within ok.from_size word-from word c.working.ensures c.lowest-chosen.ensures)

pub returns : goal.returns
returns c =
    let s = c.args in
    let word-from : s.from.0 < 2 ^ 32 = omega arith in
    let word : c.lowest-chosen.result.0 < 2 ^ 32 = omega arith in
    let ok = (decode-accepted _ _ _ _).0 (sym c.in_ok-decode_gate.ensures) in
    let chosen = uses _ _ _ _ ok.valid ok.from_within ok.from_size word-from word c.working.ensures c.lowest-chosen.ensures in
    served _ (sym c.in_ok-decode_gate.ensures)
    (decoded s.a _ _ s.codeword.now _ _ ok (λ i. omega (arith, c.type_inv.codeword i)) chosen c.decode_parts.ensures)

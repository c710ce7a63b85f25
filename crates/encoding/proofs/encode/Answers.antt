-- The gate's number; where it is 0, the core and serials 0. Assumes nothing.
use mathlib.Core.Path.{refl, sym, ap, ◌∙◌}
use Prim.Native.Nat.{ℕ}
use lib.ListN.{replicate}
use Rattle.gates.proofs.Valid.{encode-accepted}
use Rattle.code.proofs.Posts.{served, refused}
use Rattle.encoding.proofs.Accepted.{encodable}
use Rattle.encoding.proofs.encode.Goals as goal

pub returns-in_err-encode_gate : goal.returns-in_err-encode_gate
returns-in_err-encode_gate c = refused _ _ _ c.from_residual.ensures.1 c.in_err-encode_gate.ensures (refl, refl)

pub encode_blocks-requires : goal.encode_blocks-requires
encode_blocks-requires c = encodable _ _ _ _ _ ((encode-accepted _ _ _ _ _).0 (sym c.in_ok-encode_gate.ensures))

pub returns : goal.returns
returns c =
    let accept = (encode-accepted _ _ _ _ _).0 (sym c.in_ok-encode_gate.ensures) in
    served _ (sym c.in_ok-encode_gate.ensures)
    (c.encode_blocks.ensures, c.clear_serials.ensures ∙ ap (λ (n : ℕ). replicate n 0) accept.serials_length)

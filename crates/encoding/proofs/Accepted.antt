-- What the gate's facts give the cores. A gate that changes is met here. Assumes nothing.
use Prim.Native.Nat.{ℕ}
use native.Mathlib.Omega.{arith}
use Rattle.params.specs.Params.{working}
use Rattle.params.specs.declared.Params.{Params}
use Rattle.gates.specs.Valid.{EncodeAccepted}
use Rattle.gates.proofs.Valid.{working-le}
use Rattle.encoding.specs.Cores.{Encodable}

pub encodable : (a : Params) (message slack codeword serials : ℕ) → EncodeAccepted a message slack codeword serials
    → Encodable a message slack codeword
unfolding working
encodable a message slack codeword serials ok =
    record {
      b_high = ok.valid.b_high;
      message_length = ok.message_length;
      both = record {
        n_high = ok.valid.shape.n_high;
        parts_high = omega (arith, working-le a ok.valid, ok.valid.shape.n_high);
        b_low = ok.valid.b_low;
        parts_length = omega (arith, ok.message_length, ok.slack_length);
        codeword_length = ok.codeword_length;
      };
    }

-- What the gate's facts give the cores, and what their result gives the call. A gate that changes is met here. Assumes nothing.
use mathlib.Core.Path.{sym, subst}
use mathlib.Core.List.{List}
use Prim.Native.Nat.{ℕ, ◌^◌, ◌<◌}
use lib.ListN.{length}
use Rattle.field.specs.Field.{Bytes}
use Rattle.params.specs.declared.Params.{Params}
use Rattle.params.proofs.Sets.{within_has}
use Rattle.gates.specs.Valid.{DecodeAccepted}
use Rattle.code.specs.Code.{Gives, used}
use Rattle.code.specs.Calls.{Decoded}
use Rattle.code.proofs.Pairs.{from-reads, pair-exists}
use Rattle.code.proofs.Used.{Uses, gives-chosen}
use Rattle.decoding.specs.Cores.{Decodable, Recovered}

pub decodable : (a : Params) (codeword out from chosen : ℕ) → chosen < 2 ^ 32 → DecodeAccepted a codeword out from → Uses a from chosen
    → Decodable a codeword out chosen
decodable a codeword out from chosen word ok u =
    record {
      b_low = ok.valid.b_low;
      codeword_length = ok.codeword_length;
      out_length = ok.out_length;
      from_within = (within_has a.n chosen word).1 u.inside;
      from_size = u.full;
    }

-- there is a pair that gives the blocks used
pub decoded : (a : Params) (from chosen : ℕ) (codeword : List ℕ) (out : ℕ) (new : List ℕ) → DecodeAccepted a (length codeword) out from → Bytes codeword
    → Uses a from chosen → Recovered a codeword chosen new → Decoded a codeword from new
decoded a from chosen codeword out new ok bytes u read =
    let g = pair-exists a ok.valid (used a from) (from-reads a from ok.valid ok.from_within ok.from_size) codeword bytes in
    record {
      slack = g.1;
      gives = subst (λ (x : List ℕ). Gives a x g.1 (used a from) codeword) (sym (read.message g.0 g.1 (gives-chosen u g.2))) g.2;
    }

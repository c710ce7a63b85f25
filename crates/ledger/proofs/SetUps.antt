-- An accepted set-up over whichever buffers. Assumes nothing.
use mathlib.Core.List.{List}
use Prim.Native.Nat.{ℕ}
use Rattle.field.specs.Field.{Bytes}
use Rattle.params.specs.declared.Params.{Params}
use Rattle.serials.specs.Serials.{Words32}
use Rattle.code.specs.Calls.{EncodePost}

-- "an accepted set-up, over whichever bytes the record's buffer held", and whichever numbers that of the serials, leaves this record and these serials
pub record SetUp (a : Params) (message slack codeword serials : List ℕ) : Type 0 where
  pub buffer : List ℕ
  pub numbers : List ℕ
  pub typed : Bytes message × Bytes slack × Bytes buffer × Words32 numbers
  pub accepted : EncodePost a message slack buffer numbers 0 codeword serials

-- The documents' numbers of the refusals, and the answer that a call's result is: 0, or the number of the first question whose answer is no. Assumes nothing.
use Rattle.std.specs.Prelude.{Result, Ok, Err, ℕ}
use Rattle.gates.specs.declared.Refusal.{Refusal}
use Rattle.gates.specs.declared.Refusal.TheVariants.{NodeCount, ReadOrWriteCount, MessageParts, SharedNodes, BlockSize, Length, NodeAboveN, SetSize, LostIsRead, NodeNumber, NewNodeCount, NewReadOrWriteCount, NewMessageParts, NewSharedNodes, SerialZero}

abbrev pub number : Refusal → ℕ
number NodeCount = 1
number ReadOrWriteCount = 2
number MessageParts = 3
number SharedNodes = 4
number BlockSize = 5
number Length = 6
number NodeAboveN = 7
number SetSize = 8
number LostIsRead = 9
number NodeNumber = 10
number NewNodeCount = 11
number NewReadOrWriteCount = 12
number NewMessageParts = 13
number NewSharedNodes = 14
number SerialZero = 24

abbrev pub answer : {A : Type 0} → Result A Refusal → ℕ
answer (Ok _) = 0
answer (Err q) = number q

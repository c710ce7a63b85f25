-- What is known of the probes that the struct holds, for contracts that name none of its fields. Assumes nothing.
use Rattle.std.specs.Prelude.{List, ℕ}
use Rattle.params.specs.declared.Params.{Params}
use Rattle.probes.specs.declared.Probes.{Probes}
use Rattle.probes.specs.Probes.{Probed}

abbrev pub Held : Params → List ℕ → Probes → Type 0
Held a codeword probes = Probed a codeword probes.count probes.places probes.picked

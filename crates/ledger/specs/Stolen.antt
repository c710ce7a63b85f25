-- "What a stolen handful of traps tells" (document 02, 2026-07): a set-up and a list of accepted changes and rebuilds after it, and whether some nodes then hold the
-- same. The steps of the list are those of Ledger.antt, by the very post-conditions of the calls. Assumes nothing.
use Rattle.std.specs.Prelude.{◌≡◌, true, List, [], ◌∷◌, ℕ, suc, ◌-◌, ◌<◌}
use Rattle.base.specs.Seq.{cell}
use Rattle.field.specs.Field.{Bytes}
use Rattle.params.specs.Nodes.{has, size, within}
use Rattle.params.specs.declared.Params.{Params}
use Rattle.serials.specs.Serials.{Words32}
use Rattle.code.specs.Calls.{EncodePost}
use Rattle.ledger.specs.Ledger.{Held, begun, encode, update, repair, reconfigure, decode, delta, check, view, Event, call, damage, InForce, Step, Typed}

-- "every choice of n − w traps"
pub record Handful (a : Params) (stolen : ℕ) : Type 0 where
  pub inside : within a.n stolen ≡ true
  pub many : size stolen ≡ a.n - a.w

-- A change or a rebuild, and no other event ("with no damage"), that is given the arrangement, the record and the serials as the list so far has left them (document
-- 01). What 2026-03 asks of lists, of serials, of repeated sends and of open changes, is not asked.
abbrev pub ChangeOrRebuild : Held → Event → Type 0
ChangeOrRebuild h (call g (encode x v)) = ⊥
ChangeOrRebuild h (call g (update d to serial reached)) = InForce h g
ChangeOrRebuild h (call g (repair from lost)) = InForce h g
ChangeOrRebuild h (call g (reconfigure t buffer numbers x from to)) = ⊥
ChangeOrRebuild h (call g (decode buffer from)) = ⊥
ChangeOrRebuild h (call g (delta d buffer to)) = ⊥
ChangeOrRebuild h (call g (check budget)) = ⊥
ChangeOrRebuild h (call g (view node)) = ⊥
ChangeOrRebuild h (damage nodes bytes) = ⊥

-- "every list of accepted changes and rebuilds", from what is held before it to what is held after it: each is answered with 0.
pub data Upkeep : Held → List Event → Held → Type 0 where
  done : {h : Held} → Upkeep h [] h
  more : {h h' h'' : Held} {e : Event} {es : List Event} → Typed e → ChangeOrRebuild h e → Step h e 0 h' → Upkeep h' es h'' → Upkeep h (e ∷ es) h''

-- .. "used after" a set-up with this message and slack, accepted, over whichever bytes and numbers the buffers held.
pub record UpkeepAfter (a : Params) (message slack : List ℕ) (events : List Event) (h : Held) : Type 0 where
  pub buffer : List ℕ
  pub numbers : List ℕ
  pub codeword : List ℕ
  pub serials : List ℕ
  pub typed : Bytes message × Bytes slack × Bytes buffer × Words32 numbers
  pub opening : EncodePost a message slack buffer numbers 0 codeword serials
  pub upkeep : Upkeep (begun a codeword serials) events h

-- The two records have "equal bytes" at the nodes of the set.
abbrev pub Alike : Params → (stolen : ℕ) → List ℕ → List ℕ → Type 0
Alike a stolen codeword codeword' =
    (j p : ℕ) → j < a.n → has stolen (suc j) ≡ true → p < a.b → cell a.b codeword j p ≡ cell a.b codeword' j p

-- After a set-up with this message and slack the list ends, all of it accepted, with what is held at the nodes of the set equal to the given record's.
pub record EndsAlike (a : Params) (events : List Event) (stolen : ℕ) (codeword message slack : List ℕ) : Type 0 where
  pub end : Held
  pub after : UpkeepAfter a message slack events end
  pub alike : Alike a stolen codeword end.codeword

-- "exactly one"
abbrev pub ExactlyOne : (List ℕ → Type 0) → Type 0
ExactlyOne P = (v : List ℕ) × P v × ((v' : List ℕ) → P v' → v' ≡ v)

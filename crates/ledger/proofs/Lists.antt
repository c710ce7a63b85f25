-- A list of calls and damage grows at its end: an accepted set-up begins one, and an event that may come next makes it longer. Assumes nothing.
use mathlib.Core.Path.{◌≡◌}
use mathlib.Core.List.{List, [], ◌∷◌, ◌++◌}
use Prim.Native.Nat.{ℕ}
use Rattle.params.specs.declared.Params.{Params}
use Rattle.ledger.specs.Ledger.{Held, begun, Machine, opened, Event, Step, stepped, Allowed, Typed, Run, done, more, History}
use Rattle.ledger.proofs.SetUps.{SetUp}

pub begins : {a : Params} {x v codeword serials : List ℕ} → SetUp a x v codeword serials → History [] (begun a codeword serials) (opened a x)
begins {a = a} {x = x} {v = v} {codeword = codeword} {serials = serials} o =
    record {
      params = a;
      message = x;
      slack = v;
      buffer = o.buffer;
      numbers = o.numbers;
      codeword = codeword;
      serials = serials;
      typed = o.typed;
      opening = o.accepted;
      run = done;
    }

run-snoc : {h h' h'' : Held} {m m' : Machine} {es : List Event} {q : ℕ} (e : Event) → Run h m es h' m' → Typed e → (q ≡ 0 → Allowed h' m' e)
    → Step h' e q h'' → Run h m (es ++ e ∷ []) h'' (stepped q m' e)
run-snoc e done ty al st = more ty al st done
run-snoc e (more ty' al' st' r) ty al st = more ty' al' st' (run-snoc e r ty al st)

pub goes_on : {h h' : Held} {m : Machine} {es : List Event} {q : ℕ} (e : Event) → History es h m → Typed e → (q ≡ 0 → Allowed h m e) → Step h e q h'
    → History (es ++ e ∷ []) h' (stepped q m e)
goes_on e y ty al st =
    record {
      params = y.params;
      message = y.message;
      slack = y.slack;
      buffer = y.buffer;
      numbers = y.numbers;
      codeword = y.codeword;
      serials = y.serials;
      typed = y.typed;
      opening = y.opening;
      run = run-snoc e y.run ty al st;
    }

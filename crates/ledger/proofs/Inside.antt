-- Damaged nodes are of 1..n: damage names no others, and a rearrangement takes those that it drops out of the set. Assumes nothing.
use mathlib.Core.Path.{◌≡◌, refl, sym}
use mathlib.Core.Bool.{Bool, true, false, not, ◌&&◌, ◌||◌, true≢false}
use mathlib.Core.List.{List}
use Prim.Native.Nat.{ℕ, zero, suc, ◌≤◌}
use native.Mathlib.Omega.{arith}
use lib.Dec.{leb}
use borrow.Author.Tests.{leb-true, ltb-true}
use Rattle.base.proofs.Questions.{both-known}
use Rattle.params.specs.Nodes.{has, within}
use Rattle.params.proofs.Sets.{has-le}
use Rattle.gates.proofs.Valid.{damage-accepted}
use Rattle.ledger.specs.Ledger.{Held, Machine, Event, Step, encoded, updated, repaired, reconfigured, decoded, differed, checked, viewed, damaged, stepped, Run, done, more, History}

abbrev Inside : Held → Machine → Type 0
Inside h m = (i : ℕ) → m.damaged i ≡ true → (1 ≤ i) × (i ≤ h.params.n)

either : {A : Type 0} (b c : Bool) → (b || c) ≡ true → (b ≡ true → A) → (c ≡ true → A) → A
either true c e f g = f refl
either false c e f g = g e

named : (n s i : ℕ) → within n s ≡ true → has s i ≡ true → (1 ≤ i) × (i ≤ n)
unfolding has within
named n s zero w e = absurd (true≢false (sym e))
named n s (suc j) w e = (omega arith, has-le n s (suc j) (ltb-true s _ w) e)

step-inside : (h h' : Held) (m : Machine) (e : Event) (q : ℕ) → Inside h m → Step h e q h' → Inside h' (stepped q m e)
step-inside h h' m e _ s (encoded zero new serials post) i d = absurd (true≢false (sym d))
step-inside h h' m e _ s (encoded (suc q) new serials post) i d = s i d
step-inside h h' m e _ s (updated zero new serials post) i d = s i d
step-inside h h' m e _ s (updated (suc q) new serials post) i d = s i d
step-inside h h' m e _ s (repaired {lost = lost} zero new serials post) i d = s i (both-known (m.damaged i) (not (has lost i)) d).0
step-inside h h' m e _ s (repaired (suc q) new serials post) i d = s i d
step-inside h h' m e _ s (reconfigured {g = g} {t = t} {to = to} zero new serials post) i d =
    let b = both-known ((m.damaged i && not (has to i)) && leb i g.params.n) (leb i t.n) d in
    let old = both-known (m.damaged i && not (has to i)) (leb i g.params.n) b.0 in
    ((s i (both-known (m.damaged i) (not (has to i)) old.0).0).0, leb-true i t.n b.1)
step-inside h h' m e _ s (reconfigured (suc q) new serials post) i d = s i d
step-inside h h' m e _ s (decoded zero out post) i d = s i d
step-inside h h' m e _ s (decoded (suc q) out post) i d = s i d
step-inside h h' m e _ s (differed zero out post) i d = s i d
step-inside h h' m e _ s (differed (suc q) out post) i d = s i d
step-inside h h' m e zero s (checked verdict z post) i d = s i d
step-inside h h' m e (suc q) s (checked verdict z post) i d = s i d
step-inside h h' m e zero s (viewed part z post) i d = s i d
step-inside h h' m e (suc q) s (viewed part z post) i d = s i d
step-inside h h' m e zero s (damaged {nodes = nodes} z) i d =
    either (m.damaged i) (has nodes i) d (s i) (λ x. named h.params.n nodes i ((damage-accepted h.params.n nodes).0 (sym z)) x)
step-inside h h' m e (suc q) s (damaged z) i d = s i d

run_inside : {h h' : Held} {m m' : Machine} {events : List Event} → Inside h m → Run h m events h' m' → Inside h' m'
run_inside s done = s
run_inside s (more {h = h} {h' = h'} {m = m} {e = e} {q = q} ty al st rest) = run_inside (step-inside h h' m e q s st) rest

pub damaged-inside : {events : List Event} {h : Held} {m : Machine} → History events h m → (i : ℕ) → m.damaged i ≡ true → (1 ≤ i) × (i ≤ h.params.n)
damaged-inside y = run_inside (λ i d. absurd (true≢false (sym d))) y.run

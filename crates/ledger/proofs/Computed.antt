-- A served call on given bytes and serials, by computing: for each call the tests that its post-condition comes down to, once the pair or the slack is given.
-- Assumes nothing.
use mathlib.Core.Path.{◌≡◌, refl, sym, ap, ap₂, ◌∙◌, subst}
use mathlib.Core.Logic.{inl, inr, ⊎_elim}
use mathlib.Core.Bool.{Bool, true, false, not, ◌&&◌, ◌||◌, cond, true≢false, not-not}
use mathlib.Core.List.{List, [], ◌∷◌}
use Prim.Native.Nat.{ℕ, suc, ◌+◌, ◌*◌, ◌^◌, ◌≤◌, ◌<◌}
use native.Mathlib.Omega.{arith}
use borrow.Author.Tests.{leb-true, ltb-true, eqb-true, eq-eqb}
use lib.Dec.{T, eqb, leb, ltb, eqb→eq, leb→le, ltb→lt}
use lib.ListN.{length, get_or, replicate, length-replicate, get_or-eq_default}
use lib.Seq.{ext_get_or}
use Rattle.base.specs.Seq.{cell}
use Rattle.base.proofs.Cases.{lt-or}
use Rattle.base.proofs.Seq.{zeros-at}
use Rattle.base.proofs.Questions.{both-known}
use Rattle.base.proofs.Test.{both, both_left, both_right, all_below, below}
use Rattle.field.specs.Field.{Bytes, add}
use Rattle.params.specs.Nodes.{has, size, within, count}
use Rattle.params.specs.Params.{slack_parts, working, reshaped}
use Rattle.gates.specs.Gates.{encode_gate, decode_gate, delta_gate, update_gate, repair_gate, reconfigure_gate, check_gate}
use Rattle.params.specs.declared.Params.{Params}
use Rattle.params.specs.declared.Shape.{Shape}
use Rattle.params.proofs.Sets.{has-le, same_test}
use Rattle.gates.specs.Valid.{Valid}
use Rattle.gates.proofs.Valid.{check-accepted}
use Rattle.serials.specs.Serials.{Words32, takes, highest, Stamped}
use Rattle.serials.proofs.Laws.{stamped-by}
use Rattle.subsets.specs.Order.{before, earlier}
use Rattle.code.specs.Code.{Parts, block, Gives, used}
use Rattle.code.specs.Calls.{Post, EncodePost, DecodePost, Vanishes, DeltaPost, UpdatePost, RepairPost, writes, ReconfigurePost, Serves, NoneBefore, CheckPost}
use Rattle.code.specs.Verdict.{Blamed}
use Rattle.code.proofs.Serving.{lowest_outside, outside-reads, outside-lowest, serves_by}

-- ---- lists of tests

abbrev pub conj : List Bool → Bool
conj [] = true
conj (t ∷ ts) = both t (conj ts)

abbrev Each : List Bool → Type 0
Each [] = Unit
Each (t ∷ ts) = T t × Each ts

each : (ts : List Bool) → T (conj ts) → Each ts
each [] h = tt
each (t ∷ ts) h = (both_left t (conj ts) h, each ts (both_right t (conj ts) h))

abbrev implies : Bool → Bool → Bool
implies true b = b
implies false b = true

passed : (b : Bool) → T b → b ≡ true
passed true t = refl
passed false t = absurd t

-- wherever f passes below n, so does g
implied : (f g : ℕ → Bool) (n : ℕ) → T (all_below n (λ i. implies (f i) (g i))) → (i : ℕ) → i < n → f i ≡ true → g i ≡ true
implied f g n t i hi e = passed (g i) (subst (λ (c : Bool). T (implies c (g i))) e (below n (λ i. implies (f i) (g i)) t i hi))

-- f and g agree at the nodes of 1..n that pass, at each byte place
abbrev pub same? : ℕ → ℕ → (ℕ → Bool) → (ℕ → ℕ → ℕ) → (ℕ → ℕ → ℕ) → Bool
same? n b S f g = all_below n (λ j. all_below b (λ p. implies (S (suc j)) (eqb (f j p) (g j p))))

module _ (n b : ℕ) (S : ℕ → Bool) (f g : ℕ → ℕ → ℕ) where
  pub same : T (same? n b S f g) → (j p : ℕ) → j < n → S (suc j) ≡ true → p < b → f j p ≡ g j p
  same t j p hj s hp =
      eqb→eq _ _
      (subst (λ (c : Bool). T (implies c (eqb (f j p) (g j p)))) s
      (below b (λ p. implies (S (suc j)) (eqb (f j p) (g j p)))
      (below n (λ j. all_below b (λ p. implies (S (suc j)) (eqb (f j p) (g j p)))) t j hj) p hp))

-- at those that do not
other : (n b : ℕ) (S : ℕ → Bool) (f g : ℕ → ℕ → ℕ) → T (same? n b (λ i. not (S i)) f g) → (j p : ℕ) → j < n → S (suc j) ≡ false → p < b → f j p ≡ g j p
other n b S f g t j p hj s hp = same n b (λ i. not (S i)) f g t j p hj (ap not s) hp

-- the numbers are all below m
abbrev under? : ℕ → List ℕ → Bool
under? m xs = all_below (length xs) (λ i. ltb (get_or xs i 0) m)

under : (m : ℕ) (xs : List ℕ) → 0 < m → T (under? m xs) → (i : ℕ) → get_or xs i 0 < m
under m xs pos t i =
    ⊎_elim (λ hi. ltb→lt _ _ (below (length xs) (λ i. ltb (get_or xs i 0) m) t i hi))
    (λ past. subst (λ (x : ℕ). x < m) (sym (get_or-eq_default xs 0 past)) pos) (lt-or i (length xs))

abbrev pub bytes? : List ℕ → Bool
bytes? = under? 256

pub bytes : (xs : List ℕ) → T (bytes? xs) → Bytes xs
bytes xs = under 256 xs (omega arith)

abbrev pub words? : List ℕ → Bool
words? = under? (2 ^ 32)

pub words : (xs : List ℕ) → T (words? xs) → Words32 xs
words xs = under (2 ^ 32) xs (omega arith)

-- ---- pairs

abbrev parts? : ℕ → ℕ → List ℕ → Bool
parts? b count xs = both (eqb (length xs) (count * b)) (bytes? xs)

parts : (b count : ℕ) (xs : List ℕ) → T (parts? b count xs) → Parts b count xs
parts b count xs t =
    record { length_is = eqb→eq _ _ (both_left (eqb (length xs) (count * b)) (bytes? xs) t); bytes = bytes xs (both_right (eqb (length xs) (count * b)) (bytes? xs) t) }

abbrev gives? : Params → List ℕ → List ℕ → (ℕ → Bool) → List ℕ → List Bool
gives? a x v S codeword =
    parts? a.b a.k x ∷ parts? a.b (slack_parts a) v ∷ same? a.n a.b S (λ j. block a x v (suc j)) (cell a.b codeword) ∷ []

gives : (a : Params) (x v : List ℕ) (S : ℕ → Bool) (codeword : List ℕ) → T (conj (gives? a x v S codeword)) → Gives a x v S codeword
gives a x v S codeword h =
    let t = each (gives? a x v S codeword) h in
    record {
      pair = record { message = parts a.b a.k x t.0; slack = parts a.b (slack_parts a) v t.1.0 };
      equal = same a.n a.b S (λ j. block a x v (suc j)) (cell a.b codeword) t.1.1.0;
    }

abbrev vanishes? : Params → List ℕ → ℕ → List ℕ → List Bool
vanishes? a d to v =
    parts? a.b (slack_parts a) v ∷ same? a.n a.b (λ i. not (has to i)) (λ j. block a d v (suc j)) (λ j p. 0) ∷ []

vanishes : (a : Params) (d : List ℕ) (to : ℕ) (v : List ℕ) → T (conj (vanishes? a d to v)) → Vanishes a d to v
vanishes a d to v h =
    let t = each (vanishes? a d to v) h in
    record {
      slack = parts a.b (slack_parts a) v t.0;
      zero = other a.n a.b (has to) (λ j. block a d v (suc j)) (λ j p. 0) t.1.0;
    }

-- ---- serials

abbrev stamped? : ℕ → (ℕ → Bool) → ℕ → List ℕ → List ℕ → List Bool
stamped? n f serial old new = eqb (length new) n ∷ all_below n (λ j. eqb (get_or new j 0) (cond (f (suc j)) serial (get_or old j 0))) ∷ []

stamped : (n : ℕ) (f : ℕ → Bool) (serial : ℕ) (old new : List ℕ) → T (conj (stamped? n f serial old new)) → Stamped n f serial old new
stamped n f serial old new h =
    let t = each (stamped? n f serial old new) h in
    stamped-by (eqb→eq _ _ t.0)
    (λ j hj. eqb→eq _ _ (below n (λ j. eqb (get_or new j 0) (cond (f (suc j)) serial (get_or old j 0))) t.1.0 j hj))

-- n zeros: all take 0
abbrev zeros? : ℕ → List ℕ → List Bool
zeros? n serials = stamped? n (λ i. true) 0 [] serials

zeros : (n : ℕ) (serials : List ℕ) → T (conj (zeros? n serials)) → serials ≡ replicate n 0
zeros n serials h =
    let s = stamped n (λ i. true) 0 [] serials h in
    ext_get_or 0 serials (replicate n 0) (s.length_is ∙ sym (length-replicate {A = ℕ} n 0))
    (λ j hj. s.taken j (omega (arith, s.length_is)) refl ∙ sym (zeros-at n j))

-- ---- the calls

-- A buffer that a call fills may hold whichever bytes or numbers: only its length counts. So the gate is that of the filled buffers.
accepted : {gate filled : ℕ} {A B : Type 0} → filled ≡ gate → T (eqb 0 filled) → A → Post gate 0 A B
accepted e z x = record { number = eqb→eq _ _ z ∙ e; served = λ _. x; refused = λ ne. absurd (ne refl) }

module _ (a : Params) (x v new serials : List ℕ) where
  abbrev pub encode? : List Bool
  encode? =
      eqb 0 (encode_gate a (length x) (length v) (length new) (length serials)) ∷ eqb (length new) (a.n * a.b) ∷
      same? a.n a.b (λ i. true) (cell a.b new) (λ j. block a x v (suc j)) ∷ conj (zeros? a.n serials) ∷ []

  pub encode-by : T (conj encode?) → (old numbers : List ℕ) → length old ≡ length new → length numbers ≡ length serials
      → EncodePost a x v old numbers 0 new serials
  encode-by h old numbers e f =
      let t = each encode? h in
      accepted (ap₂ (encode_gate a (length x) (length v)) (sym e) (sym f)) t.0 (
        record {
          length_is = eqb→eq _ _ t.1.0;
          holds = λ j p hj. same a.n a.b (λ i. true) (cell a.b new) (λ j. block a x v (suc j)) t.1.1.0 j p hj refl;
        },
        zeros a.n serials t.1.1.1.0,
      )

module _ (a : Params) (codeword : List ℕ) (from : ℕ) (out slack : List ℕ) where
  abbrev pub decode? : List Bool
  decode? = eqb 0 (decode_gate a (length codeword) (length out) from) ∷ conj (gives? a out slack (used a from) codeword) ∷ []

  pub decode-by : T (conj decode?) → (old : List ℕ) → length old ≡ length out → DecodePost a codeword from old 0 out
  decode-by h old e =
      let t = each decode? h in
      accepted (ap (λ (n : ℕ). decode_gate a (length codeword) n from) (sym e)) t.0
      (record { slack = slack; gives = gives a out slack (used a from) codeword t.1.0 })

module _ (a : Params) (d : List ℕ) (to : ℕ) (out slack : List ℕ) where
  abbrev pub delta? : List Bool
  delta? =
      eqb 0 (delta_gate a (length d) (length out) to) ∷ conj (vanishes? a d to slack) ∷ eqb (length out) (a.w * a.b) ∷
      same? a.n a.b (has to) (λ j. cell a.b out (count (has to) j)) (λ j. block a d slack (suc j)) ∷ []

  pub delta-by : T (conj delta?) → (old : List ℕ) → length old ≡ length out → DeltaPost a d to old 0 out
  delta-by h old e =
      let t = each delta? h in
      accepted (ap (λ (n : ℕ). delta_gate a (length d) n to) (sym e)) t.0
      (record {
        slack = slack;
        vanishes = vanishes a d to slack t.1.0;
        length_is = eqb→eq _ _ t.1.1.0;
        holds = same a.n a.b (has to) (λ j. cell a.b out (count (has to) j)) (λ j. block a d slack (suc j)) t.1.1.1.0;
      })

module _ (a : Params) (d : List ℕ) (to serial reached : ℕ) (old serials new serials' slack : List ℕ) where
  abbrev taking : ℕ → Bool
  taking = takes to reached serials serial

  abbrev pub update? : List Bool
  update? =
      eqb 0 (update_gate a (length old) (length serials) (length d) to serial) ∷ conj (vanishes? a d to slack) ∷ eqb (length new) (a.n * a.b) ∷
      same? a.n a.b taking (cell a.b new) (λ j p. add (cell a.b old j p) (block a d slack (suc j) p)) ∷
      same? a.n a.b (λ i. not (taking i)) (cell a.b new) (cell a.b old) ∷ conj (stamped? a.n taking serial serials serials') ∷ []

  pub update-by : T (conj update?) → UpdatePost a d to serial reached old serials 0 new serials'
  update-by h =
      let t = each update? h in
      accepted refl t.0 (
        record {
          slack = slack;
          vanishes = vanishes a d to slack t.1.0;
          length_is = eqb→eq _ _ t.1.1.0;
          added = same a.n a.b taking (cell a.b new) (λ j p. add (cell a.b old j p) (block a d slack (suc j) p)) t.1.1.1.0;
          kept = other a.n a.b taking (cell a.b new) (cell a.b old) t.1.1.1.1.0;
        },
        stamped a.n taking serial serials serials' t.1.1.1.1.1.0,
      )

module _ (a : Params) (from lost : ℕ) (old serials new serials' message slack : List ℕ) where
  abbrev pub repair? : List Bool
  repair? =
      eqb 0 (repair_gate a (length old) (length serials) from lost) ∷ conj (gives? a message slack (used a from) old) ∷ eqb (length new) (a.n * a.b) ∷
      same? a.n a.b (has lost) (cell a.b new) (λ j. block a message slack (suc j)) ∷
      same? a.n a.b (λ i. not (has lost i)) (cell a.b new) (cell a.b old) ∷
      conj (stamped? a.n (has lost) (highest (has from) serials a.n) serials serials') ∷ []

  pub repair-by : T (conj repair?) → RepairPost a from lost old serials 0 new serials'
  repair-by h =
      let t = each repair? h in
      accepted refl t.0 (
        record {
          message = message;
          slack = slack;
          gives = gives a message slack (used a from) old t.1.0;
          length_is = eqb→eq _ _ t.1.1.0;
          rebuilt = same a.n a.b (has lost) (cell a.b new) (λ j. block a message slack (suc j)) t.1.1.1.0;
          kept = other a.n a.b (has lost) (cell a.b new) (cell a.b old) t.1.1.1.1.0;
        },
        stamped a.n (has lost) (highest (has from) serials a.n) serials serials' t.1.1.1.1.1.0,
      )

module _ (a : Params) (t : Shape) (old serials : List ℕ) (from to : ℕ) (x new serials' old_message old_slack slack : List ℕ) where
  abbrev pub reconfigure? : List Bool
  reconfigure? =
      eqb 0 (reconfigure_gate a t (length old) (length serials) (length new) (length serials') (length x) from to) ∷
      conj (gives? a old_message old_slack (used a from) old) ∷ parts? a.b t.k x ∷ parts? a.b (slack_parts (reshaped a t)) slack ∷
      same? t.n a.b (λ i. not (has to i)) (λ j. block (reshaped a t) x slack (suc j)) (λ j. block a old_message old_slack (suc j)) ∷
      eqb (length new) (t.n * a.b) ∷ same? t.n a.b (writes a to) (cell a.b new) (λ j. block (reshaped a t) x slack (suc j)) ∷
      same? t.n a.b (λ i. not (writes a to i)) (cell a.b new) (cell a.b old) ∷
      conj (stamped? t.n (writes a to) (highest (has from) serials a.n) serials serials') ∷ []

  pub reconfigure-by : T (conj reconfigure?) → (buffer numbers : List ℕ) → length buffer ≡ length new → length numbers ≡ length serials'
      → ReconfigurePost a t old serials from to x buffer numbers 0 new serials'
  reconfigure-by h buffer numbers e f =
      let q = each reconfigure? h in
      accepted (ap₂ (λ (n m : ℕ). reconfigure_gate a t (length old) (length serials) n m (length x) from to) (sym e) (sym f)) q.0 (
        record {
          old_message = old_message;
          old_slack = old_slack;
          gives = gives a old_message old_slack (used a from) old q.1.0;
          slack = slack;
          pair = record { message = parts a.b t.k x q.1.1.0; slack = parts a.b (slack_parts (reshaped a t)) slack q.1.1.1.0 };
          agrees =
              other t.n a.b (has to) (λ j. block (reshaped a t) x slack (suc j)) (λ j. block a old_message old_slack (suc j)) q.1.1.1.1.0;
          length_is = eqb→eq _ _ q.1.1.1.1.1.0;
          written = same t.n a.b (writes a to) (cell a.b new) (λ j. block (reshaped a t) x slack (suc j)) q.1.1.1.1.1.1.0;
          copied = other t.n a.b (writes a to) (cell a.b new) (cell a.b old) q.1.1.1.1.1.1.1.0;
        },
        stamped t.n (writes a to) (highest (has from) serials a.n) serials serials' q.1.1.1.1.1.1.1.1.0,
      )

-- ---- check

-- What shows that a set does not serve: a pair that gives the q lowest nodes outside it, and a node outside it, suc j, whose block differs from the pair's at byte
-- place p.
pub record Against : Type 0 where
  pub set : ℕ
  pub message : List ℕ
  pub slack : List ℕ
  pub j : ℕ
  pub p : ℕ

-- .. at its first byte
abbrev pub differing : (set : ℕ) → (message slack : List ℕ) → (j : ℕ) → Against
differing s x v j = record { set = s; message = x; slack = v; j = j; p = 0 }

module _ (a : Params) (codeword : List ℕ) where
  abbrev against? : Against → List Bool
  against? c =
      within a.n c.set ∷ leb (size c.set + working a) a.n ∷ conj (gives? a c.message c.slack (lowest_outside a c.set) codeword) ∷
      ltb c.j a.n ∷ not (has c.set (suc c.j)) ∷ ltb c.p a.b ∷
      not (eqb (block a c.message c.slack (suc c.j) c.p) (cell a.b codeword c.j c.p)) ∷ []

  against : Valid a → (c : Against) → T (conj (against? c)) → Serves a codeword c.set → ⊥
  against ok c h s =
      let t = each (against? c) h in
      unlike _ _ t.1.1.1.1.1.1.0
      ((serves_by a ok codeword (lowest_outside a c.set) (outside-reads a c.set (passed _ t.0) (leb→le _ _ t.1.0)) c.set (outside-lowest a c.set)
      c.message c.slack
      (gives a c.message c.slack (lowest_outside a c.set) codeword t.1.1.0) s).equal c.j c.p (ltb→lt _ _ t.1.1.1.0)
      (passed _ t.1.1.1.1.0) (ltb→lt _ _ t.1.1.1.1.1.0))
    where
      unlike : (x y : ℕ) → T (not (eqb x y)) → x ≡ y → ⊥
      unlike x y t e = subst (λ (b : Bool). T (not b)) (eq-eqb x y e) t

  -- the list has what shows it of t
  abbrev refuted? : ℕ → List Against → Bool
  refuted? t [] = false
  refuted? t (c ∷ cs) = cond (eqb c.set t) (conj (against? c)) (refuted? t cs)

  refuted : Valid a → (t : ℕ) (cs : List Against) → T (refuted? t cs) → Serves a codeword t → ⊥
  refuted ok t [] h s = absurd h
  refuted ok t (c ∷ cs) h s = go (eqb c.set t) refl h (λ k. refuted ok t cs k s)
    where
      go : (b : Bool) → eqb c.set t ≡ b → T (cond b (conj (against? c)) (refuted? t cs)) → (T (refuted? t cs) → ⊥) → ⊥
      go true e h rest = against ok c h (subst (Serves a codeword) (sym (eqb-true c.set t e)) s)
      go false e h rest = rest h

  -- .. of each set before s
  abbrev none? : ℕ → List Against → Bool
  none? s cs = all_below (2 ^ a.n) (λ t. implies (before t s) (refuted? t cs))

  none : Valid a → (s : ℕ) (cs : List Against) → T (none? s cs) → NoneBefore a codeword s
  unfolding within
  none ok s cs h t w b =
      refuted ok t cs
      (subst T (sym (implied (λ t. before t s) (λ t. refuted? t cs) (2 ^ a.n) h t (ltb-true t (2 ^ a.n) w) b)) tt)

  valid : T (eqb 0 (check_gate a (length codeword))) → Valid a
  valid z = ((check-accepted a _).0 (sym (eqb→eq _ _ z))).valid

-- a check that finds s, by the pair that gives all nodes outside it
module _ (a : Params) (codeword : List ℕ) (s tried : ℕ) (message slack : List ℕ) (cs : List Against) where
  abbrev pub found? : List Bool
  found? =
      eqb 0 (check_gate a (length codeword)) ∷ within a.n s ∷ conj (gives? a message slack (λ i. not (has s i)) codeword) ∷ none? a codeword s cs ∷
      eqb tried (suc (earlier a.n s)) ∷ []

  pub found-by : T (conj found?) → (budget : ℕ) → tried ≤ budget
      → CheckPost a codeword budget (Blamed (record { set = record { 0 = s }; tried = tried; distance = 0 }))
  found-by h budget reach =
      let t = each found? h in
      let tried_is : tried ≡ suc (earlier a.n s) = eqb→eq _ _ t.1.1.1.1.0 in (
        sym (eqb→eq _ _ t.0),
        inl (record {
          inside = passed _ t.1.0;
          serves = record { message = message; slack = slack; gives = gives a message slack (λ i. not (has s i)) codeword t.1.1.0 };
          first = none a codeword (valid a codeword t.0) s cs t.1.1.1.0;
          reached = omega (arith, tried_is);
          tried_is = tried_is;
          distance_is = refl;
        }),
      )

-- a check that stops before the set untried, with nodes q+1..n
module _ (a : Params) (codeword : List ℕ) (budget s distance untried : ℕ) (cs : List Against) where
  abbrev behind? : ℕ → Bool
  behind? i = ltb (working a) i && leb i a.n

  abbrev pub stopped? : List Bool
  stopped? =
      eqb 0 (check_gate a (length codeword)) ∷ within a.n untried ∷ none? a codeword untried cs ∷ eqb (earlier a.n untried) budget ∷ within a.n s ∷
      all_below (suc a.n) (λ i. implies (has s i) (behind? i)) ∷ all_below (suc a.n) (λ i. implies (behind? i) (has s i)) ∷
      eqb (distance + size untried) (size s) ∷ []

  pub stopped_by : T (conj stopped?) → CheckPost a codeword budget (Blamed (record { set = record { 0 = s }; tried = budget; distance = distance }))
  unfolding within
  stopped_by h =
      let t = each stopped? h in (
        sym (eqb→eq _ _ t.0),
        inr (record {
          untried = untried;
          inside = passed _ t.1.0;
          first = none a codeword (valid a codeword t.0) untried cs t.1.1.0;
          reached = eqb→eq _ _ t.1.1.1.0;
          set_is = λ i.
              same_test (has s i) (behind? i)
              (λ e. implied (has s) behind? (suc a.n) t.1.1.1.1.1.0 i
              (omega (arith, has-le a.n s i (ltb→lt _ _ t.1.1.1.1.0) e)) e)
              (λ e. implied behind? (has s) (suc a.n) t.1.1.1.1.1.1.0 i
              (omega (arith, leb-true i a.n (both-known (ltb (working a) i) (leb i a.n) e).1)) e);
          tried_is = refl;
          distance_is = eqb→eq _ _ t.1.1.1.1.1.1.1.0;
        }),
      )

-- ---- sets without damaged nodes, closed changes

-- a set within another test's nodes
within_by : (from : ℕ) (f : ℕ → Bool) → from < 2 ^ 32 → T (all_below 33 (λ i. implies (has from i) (f i))) → (i : ℕ) → has from i ≡ true → f i ≡ true
within_by from f h t i s = implied (has from) f 33 t i (omega (arith, has-le 32 from i h s)) s

pub undamaged-by : (damaged : ℕ → Bool) (from : ℕ) → from < 2 ^ 32 → T (all_below 33 (λ i. implies (has from i) (not (damaged i))))
    → (i : ℕ) → has from i ≡ true → damaged i ≡ false
undamaged-by damaged from h t i s = sym (not-not (damaged i)) ∙ ap not (within_by from (λ i. not (damaged i)) h t i s)

-- The serials that were sent lie below a bound: none was, or one more was.
pub sent-none : {s bound : ℕ} → false ≡ true → s < bound
sent-none e = absurd (true≢false (sym e))

pub sent-more : (serial : ℕ) {s bound : ℕ} {b : Bool} → T (ltb serial bound) → (b ≡ true → s < bound) → (eqb s serial || b) ≡ true → s < bound
sent-more serial {s = s} {bound = bound} {b = b} t rest = go (eqb s serial) refl
  where
    go : (c : Bool) → eqb s serial ≡ c → (c || b) ≡ true → s < bound
    go true q h = subst (λ (x : ℕ). x < bound) (sym (eqb→eq s serial (subst T (sym q) tt))) (ltb→lt serial bound t)
    go false q h = rest h

module _ (sent : ℕ → Bool) (to : ℕ → ℕ) (reached : ℕ → ℕ → Bool) (bound : ℕ) where
  -- the change under this serial is closed
  abbrev closed_at? : ℕ → List Bool
  closed_at? s = ltb (to s) (2 ^ 32) ∷ all_below 33 (λ i. implies (has (to s) i) (reached s i)) ∷ []

  abbrev pub closed? : Bool
  closed? = all_below bound (λ s. implies (sent s) (conj (closed_at? s)))

  pub closed-by : ((s : ℕ) → sent s ≡ true → s < bound) → T closed? → (s : ℕ) → sent s ≡ true → (i : ℕ) → has (to s) i ≡ true → reached s i ≡ true
  closed-by low t s e =
      let q =
      each (closed_at? s)
      (subst (λ (c : Bool). T (implies c (conj (closed_at? s)))) e (below bound (λ s. implies (sent s) (conj (closed_at? s))) t s (low s e))) in
      within_by (to s) (reached s) (ltb→lt _ _ q.0) q.1.0

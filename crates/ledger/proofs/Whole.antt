-- Lists are not empty talk: every list leaves valid parameters, a record of n·b bytes and n serials, and from there each event has exactly one step. The calls'
-- posts are met by exactly one result (the code's Determined.antt), every byte that they write is a byte and every serial a serial. Assumes nothing.
use mathlib.Core.Path.{◌≡◌, refl, sym, ap, ap₂, ◌∙◌, subst}
use mathlib.Core.Logic.{⊎_elim}
use mathlib.Core.Bool.{Bool, true, false, cond}
use mathlib.Core.List.{List}
use Prim.Native.Nat.{ℕ, zero, suc, ◌*◌, ◌/◌, ◌%◌, ◌^◌, ◌<◌}
use native.Mathlib.Nat.{div-add-mod', div-lt_iff_lt-mul, mod-lt}
use native.Mathlib.Omega.{arith}
use lib.ListN.{length, get_or, length-replicate, get_or-eq_default}
use Rattle.base.specs.Seq.{cell}
use Rattle.base.proofs.Cases.{lt-or, eq-or}
use Rattle.base.proofs.Seq.{length-blocks, zeros-at}
use Rattle.field.specs.Field.{IsByte, Bytes}
use Rattle.field.proofs.Addition.{add-byte}
use Rattle.field.proofs.Bytes.{bytes-blocks, cell-byte}
use Rattle.params.specs.Nodes.{has}
use Rattle.params.specs.Params.{reshaped}
use Rattle.gates.specs.Gates.{decode_gate}
use Rattle.gates.specs.Valid.{Valid}
use Rattle.params.specs.declared.Params.{Params}
use Rattle.params.specs.declared.Shape.{Shape}
use Rattle.gates.proofs.Valid.{encode-accepted, update-accepted, repair-accepted, reconfigure-accepted}
use Rattle.serials.specs.Serials.{Words32, takes, highest, Stamped}
use Rattle.serials.proofs.Laws.{highest-words, stamped-words}
use Rattle.code.specs.Calls.{Post, Unwritten, EncodePost, DecodePost, UpdatePost, RepairPost, ReconfigurePost, writes}
use Rattle.code.proofs.Additivity.{block-byte}
use Rattle.code.proofs.Determined.{encode-met, encode-once, decode-met, delta-met, update-met, update-once, repair-met, repair-once, reconfigure-met, reconfigure-once, view-met}
use Rattle.code.proofs.Blaming.{check-met, check-number}
use Rattle.ledger.specs.Ledger.{Held, begun, Machine, Lent, held, other, Given, encode, update, repair, reconfigure, decode, delta, check, view}
use Rattle.ledger.specs.Ledger.{Event, call, damage, bytes_lent, bytes_left, lent, serials_lent, wrote, moved, damaged_word, damaged_held}
use Rattle.ledger.specs.Ledger.{Step, encoded, updated, repaired, reconfigured, decoded, differed, checked, viewed, damaged}
use Rattle.ledger.specs.Ledger.{LentAs, GivenTyped, Typed, Run, done, more, History, Readable, Reading}

pub record Whole (h : Held) : Type 0 where
  pub valid : Valid h.params
  pub length_is : length h.codeword ≡ h.params.n * h.params.b
  pub bytes : Bytes h.codeword
  pub serials_length : length h.serials ≡ h.params.n
  pub words : Words32 h.serials

-- ---- what the calls write: as many bytes and serials as there were

-- a list whose cells are bytes
cells-bytes : (b n : ℕ) (l : List ℕ) → 0 < b → length l ≡ n * b → ((j p : ℕ) → j < n → p < b → IsByte (cell b l j p)) → Bytes l
unfolding cell
cells-bytes b n l hb e h i =
    ⊎_elim
    (λ (hi : i < length l).
    subst (λ (k : ℕ). IsByte (get_or l k 0)) (div-add-mod' i b)
    (h (i / b) (i % b) ((div-lt_iff_lt-mul hb).1 (subst (λ (k : ℕ). i < k) e hi)) (mod-lt i hb)))
    (λ past. subst IsByte (sym (get_or-eq_default l 0 past)) (omega arith)) (lt-or i (length l))

-- .. told at the nodes that pass a test in one way, at the others in another
split-bytes : (b n : ℕ) (S : ℕ → Bool) (l : List ℕ) → 0 < b → length l ≡ n * b
    → ((j p : ℕ) → j < n → S (suc j) ≡ true → p < b → IsByte (cell b l j p))
    → ((j p : ℕ) → j < n → S (suc j) ≡ false → p < b → IsByte (cell b l j p)) → Bytes l
split-bytes b n S l hb e f g = cells-bytes b n l hb e (λ j p hj hp. go j p hj hp (S (suc j)) refl)
  where
    go : (j p : ℕ) → j < n → p < b → (t : Bool) → S (suc j) ≡ t → IsByte (cell b l j p)
    go j p hj hp true s = f j p hj s hp
    go j p hj hp false s = g j p hj s hp

-- a buffer that keeps its length, and what its numbers are
abbrev Kept : (List ℕ → Type 0) → List ℕ → List ℕ → Type 0
Kept P old new = (length new ≡ length old) × P new

-- a buffer of bytes and one of serials
abbrev BothKept : List ℕ → List ℕ → List ℕ → List ℕ → Type 0
BothKept old serials new serials' = Kept Bytes old new × Kept Words32 serials serials'

by-post : {gate answer : ℕ} {A B C : Type 0} → (gate ≡ 0 → A → C) → (B → C) → Post gate answer A B → C
by-post {gate} f g t = ⊎_elim (λ z. f z (t.served (t.number ∙ z))) (λ ne. g (t.refused (λ z. ne (sym t.number ∙ z)))) (eq-or gate 0)

same_kept : (P : List ℕ → Type 0) (old new : List ℕ) → P old → new ≡ old → Kept P old new
same_kept P old new h e = subst (Kept P old) (sym e) (refl, h)

unwritten-kept : (old serials new serials' : List ℕ) → Bytes old → Words32 serials → Unwritten old serials new serials' → BothKept old serials new serials'
unwritten-kept old serials new serials' h w u = (same_kept Bytes old new h u.0, same_kept Words32 serials serials' w u.1)

-- serials that some nodes took
stamped-kept : (n : ℕ) (f : ℕ → Bool) (serial : ℕ) (old new : List ℕ) → length old ≡ n → serial < 2 ^ 32 → Words32 old → Stamped n f serial old new
    → Kept Words32 old new
stamped-kept n f serial old new e hs w s = (s.length_is ∙ sym e, stamped-words hs w s)

module _ (a : Params) (x v old serials : List ℕ) (answer : ℕ) (new serials' : List ℕ) where
  encode-kept : Bytes old → Words32 serials → EncodePost a x v old serials answer new serials' → BothKept old serials new serials'
  encode-kept h w =
      by-post
      (λ z s.
      let g = (encode-accepted a _ _ _ _).0 z in
      let e = s.0 in (
        (
          e.length_is ∙ sym g.codeword_length,
          cells-bytes a.b a.n new g.valid.b_low e.length_is (λ j p hj hp. subst IsByte (sym (e.holds j p hj hp)) (block-byte a x v (suc j) p)),
        ),
        (
          ap length s.1 ∙ length-replicate {A = ℕ} a.n 0 ∙ sym g.serials_length,
          subst Words32 (sym s.1) (λ j. omega (arith, zeros-at a.n j)),
        ),
      ))
      (unwritten-kept old serials new serials' h w)

module _ (a : Params) (d : List ℕ) (to serial reached : ℕ) (old serials : List ℕ) (answer : ℕ) (new serials' : List ℕ) where
  update-kept : serial < 2 ^ 32 → Bytes old → Words32 serials → UpdatePost a d to serial reached old serials answer new serials'
      → BothKept old serials new serials'
  update-kept hs h w =
      by-post
      (λ z s.
      let g = (update-accepted a _ _ _ _ _).0 z in
      let u = s.0 in (
        (
          u.length_is ∙ sym g.codeword_length,
          split-bytes a.b a.n (takes to reached serials serial) new g.valid.b_low u.length_is
              (λ j p hj s hp. subst IsByte (sym (u.added j p hj s hp)) (add-byte _ _ (cell-byte a.b old j p h) (block-byte a d u.slack (suc j) p)))
              (λ j p hj s hp. subst IsByte (sym (u.kept j p hj s hp)) (cell-byte a.b old j p h)),
        ),
        stamped-kept a.n (takes to reached serials serial) serial serials serials' g.serials_length hs w s.1,
      ))
      (unwritten-kept old serials new serials' h w)

module _ (a : Params) (from lost : ℕ) (old serials : List ℕ) (answer : ℕ) (new serials' : List ℕ) where
  repair-kept : Bytes old → Words32 serials → RepairPost a from lost old serials answer new serials' → BothKept old serials new serials'
  repair-kept h w =
      by-post
      (λ z s.
      let g = (repair-accepted a _ _ _ _).0 z in
      let r = s.0 in (
        (
          r.length_is ∙ sym g.codeword_length,
          split-bytes a.b a.n (has lost) new g.valid.b_low r.length_is
              (λ j p hj s hp. subst IsByte (sym (r.rebuilt j p hj s hp)) (block-byte a r.message r.slack (suc j) p))
              (λ j p hj s hp. subst IsByte (sym (r.kept j p hj s hp)) (cell-byte a.b old j p h)),
        ),
        stamped-kept a.n (has lost) (highest (has from) serials a.n) serials serials' g.serials_length (highest-words (has from) serials a.n w) w
            s.1,
      ))
      (unwritten-kept old serials new serials' h w)

-- ---- every step leaves a whole state

-- what a buffer lent holds, and what is left of the list's own
lent-as : (P : List ℕ → Type 0) (own : List ℕ) (l : Lent) → P own → LentAs P l → P (bytes_lent own l)
lent-as P own held w t = w
lent-as P own (other numbers) w t = t

left-kept : (P : List ℕ → Type 0) (own : List ℕ) (l : Lent) (new : List ℕ) → P own → Kept P (bytes_lent own l) new → Kept P own (bytes_left own l new)
left-kept P own held new w k = k
left-kept P own (other numbers) new w k = (refl, w)

module _ (h : Held) (g : Given) (w : Whole h) where
  lent-bytes : GivenTyped g → Bytes (lent h g)
  lent-bytes t = lent-as Bytes h.codeword g.codeword w.bytes t.0

  lent-words : GivenTyped g → Words32 (serials_lent h g)
  lent-words t = lent-as Words32 h.serials g.serials w.words t.1

  wrote-whole : (new serials : List ℕ) → BothKept (lent h g) (serials_lent h g) new serials → Whole (wrote h g new serials)
  wrote-whole new serials k =
      let c = left-kept Bytes h.codeword g.codeword new w.bytes k.0 in
      let s = left-kept Words32 h.serials g.serials serials w.words k.1 in
      record { valid = w.valid; length_is = c.0 ∙ w.length_is; bytes = c.1; serials_length = s.0 ∙ w.serials_length; words = s.1 }

moved-whole : (h : Held) (a : Params) (t : Shape) (old serials : List ℕ) (from to : ℕ) (x buffer numbers : List ℕ) (answer : ℕ) (new serials' : List ℕ)
    → Whole h → Bytes old → Words32 serials → ReconfigurePost a t old serials from to x buffer numbers answer new serials'
    → Whole (moved answer h a t new serials')
moved-whole h a t old serials from to x buffer numbers zero new serials' w ho hs post =
    let g = (reconfigure-accepted a t _ _ _ _ _ _ _).0 (sym post.number) in
    let r = (post.served refl).0 in
    let s = (post.served refl).1 in
    record {
      valid = g.valid_new;
      length_is = r.length_is;
      bytes =
          split-bytes a.b t.n (writes a to) new g.valid.b_low r.length_is
          (λ j p hj s hp. subst IsByte (sym (r.written j p hj s hp)) (block-byte (reshaped a t) x r.slack (suc j) p))
          (λ j p hj s hp. subst IsByte (sym (r.copied j p hj s hp)) (cell-byte a.b old j p ho));
      serials_length = s.length_is;
      words = stamped-words (highest-words (has from) serials a.n hs) hs s;
    }
moved-whole h a t old serials from to x buffer numbers (suc q) new serials' w ho hs post = w

chosen-byte : (b : Bool) (x y : ℕ) → IsByte x → IsByte y → IsByte (cond b x y)
chosen-byte true x y hx hy = hx
chosen-byte false x y hx hy = hy

damaged-whole : (q : ℕ) (h : Held) (nodes : ℕ) (bytes : List ℕ) → Whole h → Bytes bytes → Whole (damaged_held q h nodes bytes)
unfolding damaged_word
damaged-whole zero h nodes bytes w t =
    record {
      valid = w.valid;
      length_is = length-blocks h.params.b h.params.n _;
      bytes =
          bytes-blocks h.params.b h.params.n _
          (λ j p. chosen-byte (has nodes (suc j)) _ _ (cell-byte h.params.b bytes _ p t) (cell-byte h.params.b h.codeword j p w.bytes));
      serials_length = w.serials_length;
      words = w.words;
    }
damaged-whole (suc q) h nodes bytes w t = w

pub step-whole : (h : Held) {h' : Held} {q : ℕ} (e : Event) → Whole h → Typed e → Step h e q h' → Whole h'
step-whole h (call g (encode x v)) w t (encoded answer new serials post) =
    wrote-whole h g w new serials (encode-kept g.params x v _ _ answer new serials (lent-bytes h g w t.0) (lent-words h g w t.0) post)
step-whole h (call g (update d to serial reached)) w t (updated answer new serials post) =
    wrote-whole h g w new serials
    (update-kept g.params d to serial reached _ _ answer new serials t.3 (lent-bytes h g w t.0) (lent-words h g w t.0) post)
step-whole h (call g (repair from lost)) w t (repaired answer new serials post) =
    wrote-whole h g w new serials (repair-kept g.params from lost _ _ answer new serials (lent-bytes h g w t.0) (lent-words h g w t.0) post)
step-whole h (call g (reconfigure t buffer numbers x from to)) w ty (reconfigured answer new serials post) =
    moved-whole h g.params t _ _ from to x buffer numbers answer new serials w (lent-bytes h g w ty.0) (lent-words h g w ty.0) post
step-whole h (call g (decode buffer from)) w t (decoded answer out post) = w
step-whole h (call g (delta d buffer to)) w t (differed answer out post) = w
step-whole h (call g (check budget)) w t (checked verdict e post) = w
step-whole h (call g (view node)) w t (viewed part e post) = w
step-whole h (damage nodes bytes) w t (damaged {q = q} e) = damaged-whole q h nodes bytes w t.1

run-whole : {h h' : Held} {m m' : Machine} {events : List Event} → Whole h → Run h m events h' m' → Whole h'
run-whole w done = w
run-whole w (more {h = h} {e = e} ty al st rest) = run-whole (step-whole h e w ty st) rest

-- An accepted set-up leaves a whole state, ..
pub opening-whole : (a : Params) (x v buffer numbers codeword serials : List ℕ) → Bytes buffer → Words32 numbers
    → EncodePost a x v buffer numbers 0 codeword serials → Whole (begun a codeword serials)
opening-whole a x v buffer numbers codeword serials hb hn post =
    let g = (encode-accepted a _ _ _ _).0 (sym post.number) in
    let k = encode-kept a x v buffer numbers 0 codeword serials hb hn post in
    record {
      valid = g.valid;
      length_is = k.0.0 ∙ g.codeword_length;
      bytes = k.0.1;
      serials_length = k.1.0 ∙ g.serials_length;
      words = k.1.1;
    }

-- .. and so does every list.
pub history-whole : {events : List Event} {h : Held} {m : Machine} → History events h m → Whole h
history-whole y =
    run-whole
    (opening-whole y.params y.message y.slack y.buffer y.numbers y.codeword y.serials y.typed.2 y.typed.3 y.opening) y.run

-- ---- from a whole state each event has a step, and only one

pub step-exists : (h : Held) (e : Event) → Whole h → Typed e → (q : ℕ) × (h' : Held) × Step h e q h'
step-exists h (call g (encode x v)) w t =
    let m = encode-met g.params x v (lent h g) (serials_lent h g) in (_, _, encoded m.0 m.1 m.2 m.3)
step-exists h (call g (update d to serial reached)) w t =
    let m = update-met g.params d to serial reached (lent h g) (serials_lent h g) in (_, _, updated m.0 m.1 m.2 m.3)
step-exists h (call g (repair from lost)) w t =
    let m = repair-met g.params from lost (lent h g) (serials_lent h g) (lent-bytes h g w t.0) in (_, _, repaired m.0 m.1 m.2 m.3)
step-exists h (call g (reconfigure s buffer numbers x from to)) w t =
    let m = reconfigure-met g.params s (lent h g) (serials_lent h g) from to x buffer numbers (lent-bytes h g w t.0) t.3 in
    (_, _, reconfigured m.0 m.1 m.2 m.3)
step-exists h (call g (decode buffer from)) w t =
    let m = decode-met g.params (lent h g) from buffer (lent-bytes h g w t.0) in (_, h, decoded m.0 m.1 m.2)
step-exists h (call g (delta d buffer to)) w t = let m = delta-met g.params d to buffer in (_, h, differed m.0 m.1 m.2)
step-exists h (call g (check budget)) w t =
    let m = check-met g.params (lent h g) budget (lent-bytes h g w t) in (_, h, checked m.0 refl m.1)
step-exists h (call g (view node)) w t = let m = view-met g.params (lent h g) node in (_, h, viewed m.0 refl m.1)
step-exists h (damage nodes bytes) w t = (_, _, damaged refl)

pub step-unique : (h : Held) {h' h'' : Held} {q q' : ℕ} (e : Event) → Step h e q h' → Step h e q' h'' → (q ≡ q') × (h' ≡ h'')
step-unique h (call g (encode x v)) (encoded answer new serials post) (encoded answer' new' serials' post') =
    let e = encode-once g.params x v (lent h g) (serials_lent h g) answer answer' new new' serials serials' post post' in
    (e.0, ap₂ (wrote h g) e.1 e.2)
step-unique h (call g (update d to serial reached)) (updated answer new serials post) (updated answer' new' serials' post') =
    let e = update-once g.params d to serial reached (lent h g) (serials_lent h g) answer answer' new new' serials serials' post post' in
    (e.0, ap₂ (wrote h g) e.1 e.2)
step-unique h (call g (repair from lost)) (repaired answer new serials post) (repaired answer' new' serials' post') =
    let e = repair-once g.params from lost (lent h g) (serials_lent h g) answer answer' new new' serials serials' post post' in
    (e.0, ap₂ (wrote h g) e.1 e.2)
step-unique h (call g (reconfigure s buffer numbers x from to)) (reconfigured answer new serials post) (reconfigured answer' new' serials' post') =
    let e =
    reconfigure-once g.params s (lent h g) (serials_lent h g) from to x buffer numbers answer answer' new new' serials serials' post post' in
    (e.0, ap (λ (q : ℕ). moved q h g.params s new serials) e.0 ∙ ap₂ (moved answer' h g.params s) e.1 e.2)
step-unique h (call g (decode buffer from)) (decoded answer out post) (decoded answer' out' post') = (post.number ∙ sym post'.number, refl)
step-unique h (call g (delta d buffer to)) (differed answer out post) (differed answer' out' post') = (post.number ∙ sym post'.number, refl)
step-unique h (call g (check budget)) (checked verdict e post) (checked verdict' e' post') =
    let gate = check-number g.params (lent h g) budget in (e ∙ gate verdict post ∙ sym (e' ∙ gate verdict' post'), refl)
step-unique h (call g (view node)) (viewed part e post) (viewed part' e' post') = (e ∙ sym e', refl)
step-unique h (damage nodes bytes) (damaged e) (damaged e') = (e ∙ sym e', ap (λ (q : ℕ). damaged_held q h nodes bytes) (e ∙ sym e'))

-- After every list, between closed changes, each accepted set of undamaged nodes has a reading.
pub reading-exists : {events : List Event} {h : Held} {m : Machine} → History events h m → (from : ℕ) (buffer : List ℕ)
    → decode_gate h.params (length h.codeword) (length buffer) from ≡ 0 → Readable m from → (out : List ℕ) × Reading h m out
reading-exists {h = h} {m = m} y from buffer z u =
    let d = decode-met h.params h.codeword from buffer (history-whole y).bytes in (
      d.1,
      record {
        from = from;
        buffer = buffer;
        accepted = subst (λ (q : ℕ). DecodePost h.params h.codeword from buffer q d.1) (d.2.number ∙ z) d.2;
        readable = u;
      },
    )

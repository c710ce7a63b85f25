-- A rearrangement: what its core asks of an accepted call, that the two completions over a copy are what it does, and what this makes of the call: R's pair and
-- the new slack are the ones that the completion theorem gives. Assumes nothing.
use mathlib.Core.Path.{◌≡◌, refl, sym, ap, ◌∙◌, subst₂}
use mathlib.Core.Logic.{⊎_elim}
use mathlib.Core.Bool.{Bool, true, false, not, ◌&&◌, ◌||◌, true≢false}
use mathlib.Core.List.{List}
use Prim.Native.Nat.{ℕ, suc, ◌+◌, ◌-◌, ◌*◌, ◌^◌, ◌≤◌, ◌<◌}
use native.Mathlib.Omega.{arith}
use borrow.Author.Tests.{lt-ltb, le-ltb, ltb-false}
use lib.Dec.{ltb}
use lib.ListN.{length}
use Rattle.base.specs.Seq.{cell}
use Rattle.base.proofs.Cases.{lt-or}
use Rattle.base.proofs.Parts.{row_ends}
use Rattle.base.proofs.Seq.{cell-lt}
use Rattle.field.specs.Field.{Bytes}
use Rattle.field.proofs.Bytes.{cell-byte}
use Rattle.interpolation.specs.Polynomial.{evaluate}
use Rattle.params.specs.Nodes.{has, size}
use Rattle.params.specs.Params.{slack_parts, reshaped}
use Rattle.params.specs.declared.Params.{Params}
use Rattle.params.specs.declared.Shape.{Shape}
use Rattle.params.proofs.Sets.{range-yes, range-no}
use Rattle.params.proofs.Outside.{Outside, outside-has, outside-le, outside-node, outside-size}
use Rattle.gates.specs.Valid.{ReconfigureAccepted}
use Rattle.serials.specs.Serials.{highest, Stamped}
use Rattle.serials.proofs.Laws.{stamped-ext}
use Rattle.code.specs.Code.{point, block, used}
use Rattle.code.specs.Calls.{writes, Reconfigured}
use Rattle.code.proofs.Additivity.{block-byte}
use Rattle.code.proofs.Pairs.{slack-exists, written-leaves, pair-exists, from-reads}
use Rattle.code.proofs.Used.{Uses, gives-chosen}
use Rattle.blocks.specs.Bytes.{over}
use Rattle.blocks.proofs.Laws.{over-length, over-at}
use Rattle.extension.specs.Blocks.{Recomputable, RecomputePost, CompleteAsks, CompletePost}
use Rattle.reconfiguration.specs.Core.{Reconfigurable, Rewritten}

-- ---- the nodes that are written

-- outside those that are kept: in W' or above n
written_has : (n m to kept made : ℕ) → n ≤ 32 → m ≤ 32 → Outside n to kept → Outside m kept made → (j : ℕ) → j < m
    → has made (suc j) ≡ (has to (suc j) || ltb n (suc j))
written_has n m to kept made hn hm told others j hj =
    outside-has m kept made hm others (suc j) ∙ ap (λ (b : Bool). b && not (has kept (suc j))) (range-yes m j hj)
    ∙ ap not (outside-has n to kept hn told (suc j))
    ∙ ⊎_elim
    (λ (h : j < n).
    ap (λ (b : Bool). not (b && not (has to (suc j)))) (range-yes n j h) ∙ twice (has to (suc j))
    ∙ ap (λ (b : Bool). has to (suc j) || b) (sym (le-ltb n (suc j) h)))
    (λ (h : n ≤ j).
    ap (λ (b : Bool). not (b && not (has to (suc j)))) (range-no n j h) ∙ sym (or-true (has to (suc j)))
    ∙ ap (λ (b : Bool). has to (suc j) || b) (sym (lt-ltb n (suc j) (omega arith))))
    (lt-or j n)
  where
    twice : (x : Bool) → not (not x) ≡ (x || false)
    twice true = refl
    twice false = refl

    or-true : (x : Bool) → (x || true) ≡ true
    or-true true = refl
    or-true false = refl

-- a block that is copied was there
copied-below : (n j : ℕ) (x : Bool) → (x || ltb n (suc j)) ≡ false → j < n
copied-below n j true e = absurd (true≢false e)
copied-below n j false e = ltb-false n (suc j) e

-- ---- the core

-- the nodes outside W' are as many as the new slack has parts
pub slack-count : (a : Params) (t : Shape) (from to rest old new message m : ℕ) → Reconfigurable a t old new message from to → Outside t.n to rest
    → rest < 2 ^ 32 → m ≡ size rest → m ≡ slack_parts (reshaped a t)
unfolding slack_parts
slack-count a t from to rest old new message m ok free word e =
    e ∙ outside-size t.n to rest ok.new_n_high free word ok.to_within ∙ ap (λ (k : ℕ). t.n - k) ok.to_size

module _ (a : Params) (t : Shape) (from to rest kept made : ℕ) (codeword message out : List ℕ) (free-word : rest < 2 ^ 32)
    (ok : Reconfigurable a t (length codeword) (length out) (length message) from to) (free : Outside t.n to rest) (keeps : Outside a.n to kept)
    (makes : Outside t.n kept made) (before z mid new : List ℕ) (room : length before ≡ size rest * a.b)
    (again : RecomputePost a from rest codeword before z) (copy : mid ≡ over out codeword)
    (done : CompletePost a.b t.k rest made message z mid new) where
  mid-length : length mid ≡ t.n * a.b
  mid-length = ap length copy ∙ over-length out codeword ∙ ok.new_length

  asks : Recomputable a from rest (length codeword) (length before)
  asks = record { full = ok.full; inside = ok.from_inside; codeword_length = ok.old_length; room = room }

  done-asks : CompleteAsks a.b t.k rest made (length message) (length z) (length mid)
  done-asks =
      record {
        most = ok.new_k_high;
        parts = ok.message_length;
        values = again.same ∙ room;
        inside = (ok.b_low, λ j e. row_ends t.n j a.b (length mid) (outside-le t.n kept made ok.new_n_high makes (suc j) e) (omega (arith, mid-length)));
      }

  count_is : size rest ≡ slack_parts (reshaped a t)
  count_is = slack-count a t from to rest (length codeword) (length out) (length message) (size rest) ok free free-word refl

  told : (j : ℕ) → j < t.n → has made (suc j) ≡ (has to (suc j) || ltb a.n (suc j))
  told = written_has a.n t.n to kept made ok.n_high ok.new_n_high keeps makes

  pub rewritten : Rewritten a t codeword from to message new
  unfolding block cell
  rewritten =
      record {
        length_is = done.same ∙ mid-length;
        written = λ y v s gives slack j p hj w hp.
            let X : ℕ → ℕ = λ i. cell a.b message i p in
            let S : ℕ → ℕ = λ i. cell a.b s i p in
            done.written done-asks p S hp (λ i. cell-byte a.b s i p slack.parts.bytes)
            (λ i e.
            let f = outside-node t.n to rest ok.new_n_high free i e in
            ap (λ (m : ℕ). evaluate t.k m X S (point (suc i))) count_is ∙ slack.equal i p f.0 f.1 hp ∙ sym (again.written asks y v gives i p e hp))
            j (told j hj ∙ w)
            ∙ ap (λ (m : ℕ). evaluate t.k m X S (point (suc j))) count_is;
        copied = λ j p hj w hp.
            done.others j p (told j hj ∙ w) hp ∙ ap (λ (l : List ℕ). cell a.b l j p) copy
            ∙ over-at out codeword (j * a.b + p) (omega (arith, ok.new_length, cell-lt a.b t.n j p hj hp))
            (omega (arith, ok.old_length, cell-lt a.b a.n j p (copied-below a.n j (has to (suc j)) w) hp));
      }

-- ---- the call

module _ (a : Params) (t : Shape) (from chosen to : ℕ) (u : Uses a from chosen) where
  pub reconfigurable : (old serials new numbers message : ℕ) → ReconfigureAccepted a t old serials new numbers message from to
      → Reconfigurable a t old new message chosen to
  reconfigurable old serials new numbers message ok =
      record {
        full = u.full;
        from_inside = u.inside;
        to_within = ok.to_within;
        to_size = ok.to_size;
        n_high = ok.valid.shape.n_high;
        new_n_high = ok.valid_new.shape.n_high;
        new_k_high = omega (arith, ok.valid_new.shape.k_le_w, ok.valid_new.shape.w_le_n, ok.valid_new.shape.n_high);
        old_length = ok.old_length;
        new_length = ok.new_length;
        message_length = ok.message_length;
        b_low = ok.valid.b_low;
        b_high = ok.valid.b_high;
      }

  pub reconfigured : (serials numbers : ℕ) (codeword message old new : List ℕ)
      → ReconfigureAccepted a t (length codeword) serials (length old) numbers (length message) from to → Bytes codeword → Bytes message
      → Rewritten a t codeword chosen to message new → Reconfigured a t codeword from to message new
  reconfigured serials numbers codeword message old new ok bytes bytes' done =
      let pair = pair-exists a ok.valid (used a from) (from-reads a from ok.valid ok.from_within ok.from_size) codeword bytes in
      let found =
      slack-exists (reshaped a t) ok.valid_new (has to) (written-leaves (reshaped a t) to ok.valid_new ok.to_within ok.to_size) message
      (block a pair.0 pair.1) (block-byte a pair.0 pair.1) in
      record {
        old_message = pair.0;
        old_slack = pair.1;
        gives = pair.2;
        slack = found.0;
        pair = record { message = record { length_is = ok.message_length; bytes = bytes' }; slack = found.1.parts };
        agrees = found.1.equal;
        length_is = done.length_is;
        written = done.written pair.0 pair.1 found.0 (gives-chosen u pair.2) found.1;
        copied = done.copied;
      }

-- the nodes that are written take the serial, among all n' of them
pub restamped : (a : Params) (t : Shape) (old new message from to kept made newest : ℕ) (serials numbers numbers' : List ℕ)
    → ReconfigureAccepted a t old (length serials) new (length numbers) message from to → Outside a.n to kept → Outside t.n kept made
    → newest ≡ highest (has from) serials (length serials) → Stamped (length numbers) (has made) newest serials numbers'
    → Stamped t.n (writes a to) (highest (has from) serials a.n) serials numbers'
restamped a t old new message from to kept made newest serials numbers numbers' ok keeps makes e s =
    stamped-ext (written_has a.n t.n to kept made ok.valid.shape.n_high ok.valid_new.shape.n_high keeps makes)
    (subst₂ (λ (m x : ℕ). Stamped m (has made) x serials numbers') ok.numbers_length (e ∙ ap (highest (has from) serials) ok.serials_length) s)

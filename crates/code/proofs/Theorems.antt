-- What a decode gives, from the pair's uniqueness: the message that was encoded, the same through every set of r nodes. Of these only the blocks of the q
-- lowest count, to the blocks of a repair and a reconfigure too. Assumes nothing.
use mathlib.Core.Path.{◌≡◌, refl, sym, ap, ◌∙◌}
use mathlib.Core.Bool.{true}
use mathlib.Core.List.{List}
use Prim.Native.Nat.{ℕ, suc, ◌+◌, ◌^◌, ◌<◌}
use native.Mathlib.Omega.{arith}
use lib.ListN.{length}
use Rattle.base.specs.Seq.{cell}
use Rattle.field.specs.Field.{Bytes}
use Rattle.params.specs.Nodes.{has, size, within}
use Rattle.params.specs.Params.{slack_parts, working, reshaped}
use Rattle.gates.specs.Valid.{Valid}
use Rattle.params.specs.declared.Params.{Params}
use Rattle.params.specs.declared.Shape.{Shape}
use Rattle.params.proofs.Lowest.{lowest-all}
use Rattle.gates.proofs.Valid.{encode-accepted, decode-accepted}
use Rattle.code.specs.Code.{block, Pair, Gives, used}
use Rattle.code.specs.Calls.{Encoded, EncodePost, Decoded, DecodePost, Repaired, writes, Reconfigured}
use Rattle.code.proofs.Pairs.{from-reads, pair-unique, pair-blocks}
use Rattle.code.proofs.Determined.{new-slack}

-- Two records hold the same blocks at the nodes that a call given R uses.
abbrev pub SameAt : Params → ℕ → List ℕ → List ℕ → Type 0
SameAt a from left codeword = (j p : ℕ) → j < a.n → used a from (suc j) ≡ true → p < a.b → cell a.b left j p ≡ cell a.b codeword j p

pub gives_same : (a : Params) (from : ℕ) {x v left codeword : List ℕ} → SameAt a from left codeword → Gives a x v (used a from) codeword
    → Gives a x v (used a from) left
gives_same a from same g = record { pair = g.pair; equal = λ j p hj s hp. g.equal j p hj s hp ∙ sym (same j p hj s hp) }

-- Message and slack of an accepted set-up are a pair of the code.
pub encode-pair : {a : Params} {x v buffer numbers codeword serials : List ℕ} → Bytes x → Bytes v → EncodePost a x v buffer numbers 0 codeword serials → Pair a x v
encode-pair {a = a} hx hv post =
    let g = (encode-accepted a _ _ _ _).0 (sym post.number) in
    record { message = record { length_is = g.message_length; bytes = hx }; slack = record { length_is = g.slack_length; bytes = hv } }

module _ (a : Params) (ok : Valid a) (from : ℕ) (hw : within a.n from ≡ true) (hs : size from ≡ a.r) where
  -- A decode gives the message of whichever pair gives the blocks of R's q lowest nodes; ..
  pub decode-message : (x v codeword out : List ℕ) → Gives a x v (used a from) codeword → Decoded a codeword from out → out ≡ x
  decode-message x v codeword out g d =
      (pair-unique a ok (used a from) (from-reads a from ok hw hs) out x d.slack v codeword d.gives g).0

  -- .. after an encode that is the message encoded.
  pub decode-encode : (x v codeword out : List ℕ) → Pair a x v → Encoded a x v codeword → Decoded a codeword from out → out ≡ x
  decode-encode x v codeword out h e =
      decode-message x v codeword out (record { pair = h; equal = λ j p hj s hp. sym (e.holds j p hj hp) })

  -- What R's other nodes hold does not matter: to a decode, ..
  pub decode-others : (codeword codeword' out out' : List ℕ) → SameAt a from codeword codeword' → Decoded a codeword from out → Decoded a codeword' from out'
      → out ≡ out'
  decode-others codeword codeword' out out' same d d' = decode-message out' d'.slack codeword out (gives_same a from same d'.gives) d

  pair_same : (x x' v v' codeword codeword' : List ℕ) → SameAt a from codeword codeword' → Gives a x v (used a from) codeword
      → Gives a x' v' (used a from) codeword' → (i p : ℕ) → block a x v i p ≡ block a x' v' i p
  pair_same x x' v v' codeword codeword' same g g' = pair-blocks a ok (used a from) (from-reads a from ok hw hs) x x' v v' codeword g (gives_same a from same g')

  -- .. to the blocks that a repair writes, ..
  pub repair-others : (lost : ℕ) (old old' new new' : List ℕ) → SameAt a from old old' → Repaired a old from lost new → Repaired a old' from lost new'
      → (j p : ℕ) → j < a.n → has lost (suc j) ≡ true → p < a.b → cell a.b new j p ≡ cell a.b new' j p
  repair-others lost old old' new new' same r r' j p hj s hp =
      r.rebuilt j p hj s hp ∙ pair_same r.message r'.message r.slack r'.slack old old' same r.gives r'.gives (suc j) p
      ∙ sym (r'.rebuilt j p hj s hp)

  -- .. and to those that a reconfigure writes.
  pub reconfigure-others : (t : Shape) (to : ℕ) (x old old' new new' : List ℕ) → Valid (reshaped a t) → within t.n to ≡ true → size to ≡ t.w
      → SameAt a from old old' → Reconfigured a t old from to x new → Reconfigured a t old' from to x new'
      → (j p : ℕ) → j < t.n → writes a to (suc j) ≡ true → p < a.b → cell a.b new j p ≡ cell a.b new' j p
  reconfigure-others t to x old old' new new' valid tw ts same r r' j p hj s hp =
      r.written j p hj s hp
      ∙ ap (λ (v : List ℕ). block (reshaped a t) x v (suc j) p)
      (new-slack a t valid to tw ts from x old old' new new' r r'
      (pair_same r.old_message r'.old_message r.old_slack r'.old_slack old old' same r.gives r'.gives))
      ∙ sym (r'.written j p hj s hp)

-- Where r + w = k + n, all nodes of R are used.
pub used_all : (a : Params) (from : ℕ) → Valid a → a.r + a.w ≡ a.k + a.n → size from ≡ a.r → from < 2 ^ 32 → (i : ℕ) → used a from i ≡ has from i
unfolding working slack_parts
used_all a from ok tight hs word i = sym (lowest-all from (working a) word (omega (arith, tight, hs)) i)

-- Two sets of r nodes read the same where the q lowest of both hold one pair's blocks.
pub decodes-equal : (a : Params) (x v codeword : List ℕ) (from from' : ℕ) (out out' : List ℕ) → Valid a
    → within a.n from ≡ true → size from ≡ a.r → within a.n from' ≡ true → size from' ≡ a.r
    → Gives a x v (used a from) codeword → Gives a x v (used a from') codeword → Decoded a codeword from out → Decoded a codeword from' out'
    → out ≡ out'
decodes-equal a x v codeword from from' out out' ok hw hs hw' hs' g g' d d' =
    decode-message a ok from hw hs x v codeword out g d ∙ sym (decode-message a ok from' hw' hs' x v codeword out' g' d')

-- An accepted decode gives the message of the one pair that gives the blocks of R's q lowest nodes.
pub decode-one : (a : Params) (codeword : List ℕ) (from : ℕ) (buffer out : List ℕ) → DecodePost a codeword from buffer 0 out
    → (v : List ℕ) × Gives a out v (used a from) codeword
    × ((x' v' : List ℕ) → Gives a x' v' (used a from) codeword → (x' ≡ out) × (v' ≡ v))
decode-one a codeword from buffer out post =
    let d = post.served refl in
    let g = (decode-accepted a (length codeword) (length buffer) from).0 (sym post.number) in (
      d.slack,
      d.gives,
      λ x' v' g'.
          pair-unique a g.valid (used a from) (from-reads a from g.valid g.from_within g.from_size) x' out v' d.slack codeword g' d.gives,
    )

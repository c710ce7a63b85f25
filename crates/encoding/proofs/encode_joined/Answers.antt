-- Message and slack are copied to the front of the room, and the blocks found from there. Assumes nothing.
use mathlib.Core.Path.{◌≡◌, sym, ap, ◌∙◌, subst}
use mathlib.Core.List.{◌++◌}
use Prim.Native.Nat.{ℕ, ◌+◌}
use lib.ListN.{length, length-append}
use Rattle.encoding.specs.Cores.{Raisable}
use Rattle.encoding.proofs.Joined.{front, joined, apart}
use Rattle.encoding.proofs.encode_joined.Goals as goal
use Rattle.encoding.proofs.encode_joined.Goals.{After-copy_block-2}

module _ (c : After-copy_block-2) where
  both : front c.args.message.now c.args.slack.now c.args.parts.now c.copy_block.new.dst c.copy_block-2.new.dst ≡ c.args.message.now ++ c.args.slack.now
  both = joined c.args.message.now c.args.slack.now c.args.parts.now _ _ c.requires.slack_in_bounds c.copy_block.ensures c.copy_block-2.ensures

  whole : length c.args.message.now + length c.args.slack.now
      ≡ length (front c.args.message.now c.args.slack.now c.args.parts.now c.copy_block.new.dst c.copy_block-2.new.dst)
  whole = sym (ap length both ∙ length-append c.args.message.now c.args.slack.now)

pub slice_bounds-encode_parts-end-2 : goal.slice_bounds-encode_parts-end-2
slice_bounds-encode_parts-end-2 c = whole (goal.at.slice_bounds-encode_parts-end-2 c).After-copy_block-2

pub encode_parts-requires : goal.encode_parts-requires
encode_parts-requires c =
    subst (λ (m : ℕ). Raisable c.args.a m (length c.args.codeword.now)) (whole (goal.at.encode_parts-requires c).After-copy_block-2)
    c.requires.encodable.both

pub returns : goal.returns
returns c = apart c.args.a _ _ _ c.requires.encodable _ _ (both (goal.at.returns c).After-copy_block-2) c.encode_parts.ensures

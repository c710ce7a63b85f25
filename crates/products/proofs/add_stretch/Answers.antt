-- The sum is formed in zeros, and added as far as the stretch goes. Assumes nothing.
use mathlib.Core.Path.{sym}
use native.Mathlib.Omega.{arith}
use lib.ListN.{length}
use Rattle.products.proofs.Summing.{room-length, room_whole, stretch-added}
use Rattle.products.proofs.add_stretch.Goals as goal

pub slice_bounds-add_columns-end : goal.slice_bounds-add_columns-end
slice_bounds-add_columns-end c = sym (room-length 256 _ c.requires.dst_bound.1)

pub add_columns-requires : goal.add_columns-requires
add_columns-requires c =
    let s = c in
    record {
      places_in_bounds = s.requires.places_in_bounds;
      inside = s.requires.inside;
      sum_bound = omega (arith, s.requires.dst_bound.0, room-length 256 (length s.args.dst.now) s.requires.dst_bound.1);
    }

pub slice_bounds-add_words-end : goal.slice_bounds-add_words-end
slice_bounds-add_words-end c =
    let a = c in
    room_whole 256 (length a.args.dst.now) a.add_columns.new.sum a.add_columns.auto.sum

pub returns : goal.returns
returns c =
    let s = c in
    stretch-added s.args.b s.args.at _ _ _ 256 _ _ _ s.requires.dst_bound.1
    c.add_columns.ensures c.add_words.ensures

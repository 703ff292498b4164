-- Leaves that have to be looked at again, whatever next mark was seen before.
use Rattle.std.specs.Prelude.{Some, pos, neg_ℤ}
use Rattle.tilt_turn.specs.declared.leaf.Leaf.{Leaf}
use Rattle.tilt_turn.specs.declared.leaf.Leaf.TheVariants.{Port, Window}
use Rattle.tilt_turn.specs.declared.moving.NextMark.TheVariants.{Unknown}
use Rattle.tilt_turn.specs.declared.placed.Placed.{Placed}
use Rattle.tilt_turn.specs.declared.span.WindowLeaf.{WindowLeaf}

-- a window without the next mark that was seen: it keeps its cells
abbrev pub window_again : WindowLeaf → WindowLeaf
window_again w = record w { window = record w.window { next = Unknown } }

-- a leaf that keeps all but that
abbrev pub leaf_again : Leaf → Leaf
leaf_again (Port p) = Port p
leaf_again (Window w) = Window (window_again w)

-- a leaf of a body that is looked at again at any grid point
abbrev pub placed_again : Placed → Placed
placed_again p = record p { leaf = leaf_again p.leaf; next = Some (neg_ℤ (pos 9223372036854775808)) }

-- What a window walk is given, apart from the words.
use Rattle.std.specs.Prelude.{ℕ}
use Rattle.measures.specs.declared.sizes.Layout.{Layout}
use Rattle.windows.specs.declared.Corners.{Corners}
use Rattle.query.specs.declared.range.RangeQuery.{RangeQuery}

-- where the slots lie, the window, and the most pixels (01's N)
pub record Range : Type 0 where
  pub layout : Layout
  pub corners : Corners
  pub most : ℕ

abbrev pub range_of : RangeQuery → Range
range_of query = record { layout = query.slots.layout; corners = query.corners; most = query.most }

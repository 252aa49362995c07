-- How the values of a kind are laid out in their cells.
use Rattle.std.specs.Prelude.{◌≡◌}
use Rattle.tds_values.specs.declared.kind.Kind.{Kind}
use Rattle.tds_text.specs.Fields.{conversion_of}
use Rattle.tds_values.specs.declared.charset.Charset.{Charset}
use Rattle.tds_cells.specs.declared.layout.Layout.{Layout}
use Rattle.tds_cells.specs.declared.layout.Layout.TheVariants.{Fixed, Counted, Short, Chunked}
use Rattle.tds_values.specs.declared.kind.Reach.TheVariants as reaches
use Rattle.tds_cells.specs.Cells.{Shape, FixedShape, CountedShape, LongShape, shape}

-- the shape of values that are laid out so
abbrev pub shape_of_layout : Layout → Shape
shape_of_layout (Fixed n) = FixedShape n
shape_of_layout Counted = CountedShape
shape_of_layout (Short content) = LongShape (conversion_of content) reaches.Short
shape_of_layout (Chunked content) = LongShape (conversion_of content) reaches.Chunked

-- The values of this kind are laid out so, if single-byte text is in this set.
abbrev pub IsLaidOut : Charset → Kind → Layout → Type 0
IsLaidOut charset kind layout = shape charset kind ≡ shape_of_layout layout

-- What the walk over the columns of a description yields.
use Rattle.std.specs.Prelude.{List}
use Rattle.tds_columns.specs.declared.walk.Column.{Column}
use Rattle.tds_columns.specs.declared.walk.Walk.{Walk}
use Rattle.tds_columns.specs.Description as spec
use Rattle.tds_columns.specs.View.{columns_in}

-- a column as definitions see it
abbrev pub column_value : Column → spec.Column
column_value column = record { kind = column.kind; name = column.name.now }

-- the columns that are still to come
abbrev pub columns_left : Walk → List spec.Column
columns_left walk = columns_in walk.left walk.rest.now

use Rattle.std.specs.Arc.{arc_value}
use Rattle.std.specs.Prelude.{List}
use Rattle.tuple_match.specs.Field.{fields_value}
use Rattle.tuple_match.specs.FieldValue.{FieldValue}
use Rattle.tuple_match.specs.declared.row.Row.{Row}
use Rattle.tuple_match.specs.declared.row.Row.TheVariants.{Own, Shared, Two, Three, Four, Seven}

-- the values of the fields of a tuple, its own or shared ones
abbrev pub row_value : Row → List FieldValue
row_value (Own fields) = fields_value fields.items
row_value (Shared fields) = fields_value (arc_value fields).items
row_value (Two fields memory) = fields_value (arc_value fields)
row_value (Three fields memory) = fields_value (arc_value fields)
row_value (Four fields memory) = fields_value (arc_value fields)
row_value (Seven fields memory) = fields_value (arc_value fields)

use Rattle.std.specs.Prelude.{List, map, pos, string_bytes}
use Rattle.tuple_match.specs.FieldValue.{FieldValue, number, word, numbers}
use Rattle.tuple_match.specs.declared.fields.Field.{Field}
use Rattle.tuple_match.specs.declared.fields.Field.TheVariants.{Int, Word, List as Numbers, Bytes, Shorts, Narrow, ShortWord}

-- the value of a field, wherever it is in memory
abbrev pub field_value : Field → FieldValue
field_value (Int n) = number n
field_value (Word text) = word (string_bytes text)
field_value (Numbers ns) = numbers ns.items
field_value (Bytes few) = numbers (map pos few)
field_value (Shorts few) = numbers few
field_value (Narrow ns) = numbers ns.items
field_value (ShortWord short) = word short

-- the values of a row of fields
abbrev pub fields_value : List Field → List FieldValue
fields_value fields = map field_value fields

use Rattle.std.specs.Prelude.{List, map}
use Rattle.tuple_match.specs.Field.{field_value}
use Rattle.tuple_match.specs.PatternValue.{PatternValue, actual, any_number, any_word, any_numbers}
use Rattle.tuple_match.specs.declared.templates.Pattern.{Pattern}
use Rattle.tuple_match.specs.declared.templates.Pattern.TheVariants.{Is, AnyInt, AnyWord, AnyList}

-- the value of a pattern, wherever it is in memory
abbrev pub pattern_value : Pattern → PatternValue
pattern_value (Is field) = actual (field_value field)
pattern_value AnyInt = any_number
pattern_value AnyWord = any_word
pattern_value AnyList = any_numbers

-- the values of a row of patterns
abbrev pub patterns_value : List Pattern → List PatternValue
patterns_value patterns = map pattern_value patterns

-- Words of patterns.
use Rattle.std.proofs.Common.{List, ℕ}
use Rattle.tuple_match.specs.FieldValue.{FieldValue}
use Rattle.tuple_match.specs.PatternValue.{PatternValue, actual, any_number, any_word, any_numbers}
use Rattle.space_script.specs.Field.{IsFieldWord, IsFormal, IsPatternWord}

-- the word of no formal and of no field is that of no pattern
pub no_pattern : (text : List ℕ) → ((p : PatternValue) → IsFormal text p → ⊥) → ((f : FieldValue) → IsFieldWord text f → ⊥)
    → (p : PatternValue) → IsPatternWord text p → ⊥
no_pattern text no_formal no_field (actual field) spelled = no_field field spelled
no_pattern text no_formal no_field any_number spelled = no_formal any_number spelled
no_pattern text no_formal no_field any_word spelled = no_formal any_word spelled
no_pattern text no_formal no_field any_numbers spelled = no_formal any_numbers spelled

-- the word of a formal is that of a pattern
pub formal_pattern : (text : List ℕ) (p : PatternValue) → IsFormal text p → IsPatternWord text p
formal_pattern text (actual field) formal = absurd formal
formal_pattern text any_number formal = formal
formal_pattern text any_word formal = formal
formal_pattern text any_numbers formal = formal

use Rattle.std.proofs.Common.{true, false, List, [], ◌∷◌, refl}
use Rattle.std.specs.Bool.{Decides}
use Rattle.std.proofs.lemmas.Bool.{false≢true}
use Rattle.std.proofs.lemmas.Bool.Decides.{Decides-and}
use Rattle.tuple_match.specs.FieldValue.{FieldValue, number, word, numbers}
use Rattle.tuple_match.specs.PatternValue.{PatternValue, actual, any_number, any_word, any_numbers, FieldMatches, Matches}
use Rattle.tuple_match.specs.Matching.{does_field_match, does_match}
use Rattle.tuple_match.specs.Equality.{Decides-field_eq}

-- a test that answers yes where the fact always holds
yes_decides : Decides true (Unit {0})
yes_decides = (λ _. tt, λ _. refl)

-- a test that answers no where the fact never holds
no_decides : Decides false ⊥
no_decides = (λ e. false≢true e, λ h. absurd h)

-- a pattern is found to match a field if and only if it does
pub Decides-does_field_match : (p : PatternValue) (f : FieldValue) → Decides (does_field_match p f) (FieldMatches p f)
Decides-does_field_match (actual wanted) f = Decides-field_eq wanted f
Decides-does_field_match any_number (number n) = yes_decides
Decides-does_field_match any_word (word bytes) = yes_decides
Decides-does_field_match any_numbers (numbers ns) = yes_decides
Decides-does_field_match _ _ = no_decides

-- the same for the patterns of a template and the fields of a tuple
pub Decides-does_match : (ps : List PatternValue) (fs : List FieldValue) → Decides (does_match ps fs) (Matches ps fs)
Decides-does_match [] [] = yes_decides
Decides-does_match [] (f ∷ fs) = no_decides
Decides-does_match (p ∷ ps) [] = no_decides
Decides-does_match (p ∷ ps) (f ∷ fs) = Decides-and _ _ (Decides-does_field_match p f) (Decides-does_match ps fs)

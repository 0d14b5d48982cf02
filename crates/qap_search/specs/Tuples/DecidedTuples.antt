-- Decided nodes and the incumbent, as tuples represent them.
use Rattle.std.specs.Prelude.{◌≡◌, ◌≢◌, List, [], ◌∷◌, codes, ℕ, ℤ}
use Rattle.number_list.specs.NumberList.{numbers_held}
use Rattle.tuple_match.specs.FieldValue.{FieldValue, number, word, numbers}
use Rattle.qap_search.specs.declared.tuples.parsing.Decision.{Decision}
use Rattle.qap_search.specs.declared.tuples.parsing.Decision.TheVariants.{Split, Closed}
use Rattle.qap_search.specs.declared.tuples.parsing.DecidedNode.{DecidedNode}
use Rattle.qap_search.specs.declared.tuples.parsing.BestFound.{BestFound}
use Rattle.qap_search.specs.declared.tuples.parsing.Part.{Part}
use Rattle.qap_search.specs.declared.tuples.parsing.Part.TheVariants.{Number, Numbers, Word}
use Rattle.qap_search.specs.declared.tuples.parsing.Piece.{Piece}
use Rattle.qap_search.specs.declared.tuples.parsing.Piece.TheVariants.{Best, Decided}

-- the node of this list is split on a facility of this number
abbrev pub split_of : List ℤ → ℤ → List FieldValue
split_of xs f = word (codes "split") ∷ numbers xs ∷ number f ∷ []

-- it is closed by these duals
abbrev pub closed_of : List ℤ → List ℤ → List ℤ → List FieldValue
closed_of xs u v = word (codes "closed") ∷ numbers xs ∷ numbers u ∷ numbers v ∷ []

-- a permutation of these locations, and its cost
abbrev pub best_of : ℤ → List ℤ → List FieldValue
best_of c ps = word (codes "best") ∷ number c ∷ numbers ps ∷ []

-- what was decided of the node of this list, as a tuple
abbrev pub decision_tuple : List ℤ → Decision → List FieldValue
decision_tuple xs (Split f) = split_of xs f
decision_tuple xs (Closed u v) = closed_of xs (numbers_held u) (numbers_held v)

-- a decided node as a tuple
abbrev pub decided_tuple : DecidedNode → List FieldValue
decided_tuple d = decision_tuple (numbers_held d.node) d.decision

-- the incumbent and its cost, as a tuple
abbrev pub found_tuple : BestFound → List FieldValue
found_tuple b = best_of b.cost (numbers_held b.locations)

-- either of them as a tuple
abbrev pub piece_tuple : Piece → List FieldValue
piece_tuple (Best b) = found_tuple b
piece_tuple (Decided d) = decided_tuple d

-- a part is represented by the field; for a word, that it is this one
abbrev pub IsPart : Part → FieldValue → Type 0
IsPart (Number m) field = field ≡ number m
IsPart (Numbers ms) field = field ≡ numbers (numbers_held ms)
IsPart Word field = (bytes : List ℕ) × (field ≡ word bytes)

-- the tuple represents no decided node and no incumbent
pub record IsNoPiece (tuple : List FieldValue) : Type 0 where
  pub no_best : (c : ℤ) (ps : List ℤ) → tuple ≢ best_of c ps
  pub no_split : (xs : List ℤ) (f : ℤ) → tuple ≢ split_of xs f
  pub no_closed : (xs u v : List ℤ) → tuple ≢ closed_of xs u v

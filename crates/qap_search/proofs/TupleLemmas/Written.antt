-- Tuples of open nodes, as they are written one after another.
use Rattle.std.proofs.Common.{◌≡◌, ℕ, ◌≤◌, List, [], ◌∷◌, length, take, map, refl, ap, ◌∙◌, arith}
use Rattle.std.proofs.lemmas.List.{take_all}
use Rattle.std.proofs.lemmas.List.Elements.{All-from_recursion}
use Rattle.qap_cost.specs.Placement.{Placement, free_locations, placing}
use Rattle.tuple_match.specs.FieldValue.{FieldValue, IsField}
use Rattle.tuple_match.specs.Tuple.{IsTuple}
use Rattle.qap_search.specs.Tuples.Piece.{node_tuple, pieces, pieces_of_all, split_tuple}
use Rattle.qap_search.specs.Law.SearchTree.{open_row, split_open}

-- the tuples of a row of open nodes, at the locations from number i on
pub open_row-pieces : (x : Placement) (f : ℕ) (ks : List ℕ) → map (λ (k : ℕ). node_tuple (placing x f k)) ks ≡ pieces_of_all x f ks (open_row ks)
open_row-pieces x f [] = refl
open_row-pieces x f (k ∷ ks) = ap (λ (ts : List (List FieldValue)). node_tuple (placing x f k) ∷ ts) (open_row-pieces x f ks)

-- all of a row of open nodes has been written behind the split
pub all_open : (x : Placement) (f n : ℕ) (tuples : List (List FieldValue)) (ks : List ℕ) → tuples ≡ split_tuple x f ∷ map (λ (k : ℕ). node_tuple (placing x f k)) (take n ks) → length ks ≤ n → ks ≡ free_locations x → tuples ≡ pieces x (split_open x f)
all_open x f n tuples ks is all listed =
    is
    ∙ ap (λ (js : List ℕ). split_tuple x f ∷ map (λ (k : ℕ). node_tuple (placing x f k)) js) (take_all n ks all ∙ listed)
    ∙ ap (λ (ts : List (List FieldValue)). split_tuple x f ∷ ts) (open_row-pieces x f (free_locations x))

-- four fields within their limits are a tuple
pub four_fields : (a b c d : FieldValue) → IsField a → IsField b → IsField c → IsField d → IsTuple (a ∷ b ∷ c ∷ d ∷ [])
four_fields a b c d ha hb hc hd = record { some = omega arith; few = omega arith; each = All-from_recursion IsField (a ∷ b ∷ c ∷ d ∷ []) (ha, (hb, (hc, (hd, tt)))) }

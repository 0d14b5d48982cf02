-- Two trees at one node, at the front of one list of tuples, are one.
use Rattle.std.proofs.Common.{◌≡◌, ℕ, List, [], ◌∷◌, ◌++◌, refl, sym, ap, ap₂, subst, ◌∙◌, arith, append_assoc}
use Rattle.qap_cost.specs.Placement.{Placement, free_locations, placing}
use Rattle.qap_cert.specs.Tree.{Node, split, bound, Nodes, no_nodes, node}
use Rattle.tuple_match.specs.FieldValue.{FieldValue}
use Rattle.qap_search.specs.Certificate.TreeBuilding.{AnyDuals}
use Rattle.qap_search.specs.Tuples.Piece.{pieces, pieces_of_all}
use Rattle.qap_search.specs.Law.SearchTree.{IsTree, AreTrees, searched, searched_all}
use Rattle.qap_search.proofs.TupleLemmas.TupleReadings.{list_at, natural, number_at, tag}

-- the first byte of the word closed
abbrev pub closed_tag : ℕ
closed_tag = 99

abbrev pub split_tag : ℕ
split_tag = 115

-- the first of the tuples, or an empty one
abbrev pub first_tuple : List (List FieldValue) → List FieldValue
first_tuple [] = []
first_tuple (t ∷ ts) = t

-- the tuples behind the first one
abbrev pub later_tuples : List (List FieldValue) → List (List FieldValue)
later_tuples [] = []
later_tuples (t ∷ ts) = ts

mutual
  -- two readable trees at one place, both cut or neither, at the front of one list of tuples, are one
  pub one_tree : (s t : Node) (y : Placement) (a b : List (List FieldValue)) → IsTree AnyDuals y (searched s) → IsTree AnyDuals y (searched t) → pieces y (searched s) ++ a ≡ pieces y (searched t) ++ b → (s ≡ t) × (a ≡ b)
  one_tree (bound u v) (bound w z) y a b h k e =
      (ap₂ bound (ap (λ (l : List (List FieldValue)). list_at 2 (first_tuple l)) e) (ap (λ (l : List (List FieldValue)). list_at 3 (first_tuple l)) e), ap later_tuples e)
  one_tree (bound u v) (split g ts) y a b h k e = let differ : closed_tag ≡ split_tag = ap (λ (l : List (List FieldValue)). tag (first_tuple l)) e in absurd (omega arith)
  one_tree (split f ss) (bound w z) y a b h k e = let differ : split_tag ≡ closed_tag = ap (λ (l : List (List FieldValue)). tag (first_tuple l)) e in absurd (omega arith)
  one_tree (split f ss) (split g ts) y a b h k e =
      let same : g ≡ f = ap (λ (l : List (List FieldValue)). natural (number_at 2 (first_tuple l))) (sym e) in
      let ks = free_locations y in
      let moved = subst (λ (i : ℕ). AreTrees AnyDuals y i ks (searched_all ts)) same k.2 in
      let rows = ap later_tuples e ∙ ap (λ (i : ℕ). pieces_of_all y i ks (searched_all ts) ++ b) same in
      let row = one_row ss ts y f ks a b h.2 moved rows in
      (ap₂ split (sym same) row.0, row.1)

  -- the same for two rows of children of a split, as many and with the same flags
  pub one_row : (ss ts : Nodes) (y : Placement) (f : ℕ) (ks : List ℕ) (a b : List (List FieldValue)) → AreTrees AnyDuals y f ks (searched_all ss) → AreTrees AnyDuals y f ks (searched_all ts) → pieces_of_all y f ks (searched_all ss) ++ a ≡ pieces_of_all y f ks (searched_all ts) ++ b → (ss ≡ ts) × (a ≡ b)
  one_row no_nodes no_nodes y f [] a b h k e = (refl, e)
  one_row no_nodes ts y f (l ∷ ks) a b h k e = absurd h
  one_row (node s ss) ts y f [] a b h k e = absurd h
  one_row ss no_nodes y f (l ∷ ks) a b h k e = absurd k
  one_row ss (node t ts) y f [] a b h k e = absurd k
  one_row (node s ss) (node t ts) y f (l ∷ ks) a b h k e =
      let x = placing y f l in
      let left = append_assoc (pieces x (searched s)) (pieces_of_all y f ks (searched_all ss)) a in
      let right = append_assoc (pieces x (searched t)) (pieces_of_all y f ks (searched_all ts)) b in
      let first = one_tree s t x (pieces_of_all y f ks (searched_all ss) ++ a) (pieces_of_all y f ks (searched_all ts) ++ b) h.0 k.0 (sym left ∙ e ∙ right) in
      let rest = one_row ss ts y f ks a b h.1 k.1 first.1 in
      (ap₂ node first.0 rest.0, rest.1)

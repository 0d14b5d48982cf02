-- Trees that are taken from the front of tuples, one after another.
use Rattle.std.proofs.Common.{◌≡◌, ◌≢◌, ℕ, zero, suc, ◌+◌, ◌<◌, List, [], ◌∷◌, ◌++◌, length, reverse, get_or, drop, ℤ, pos, refl, sym, ap, ap₂, subst, ◌∙◌, arith, append_assoc, length-append}
use Rattle.std.proofs.Math.Seq.{drop-cons}
use Rattle.std.proofs.lemmas.List.{reverse-append}
use Rattle.number_list.specs.NumberList.{numbers_held}
use Rattle.qap_cost.specs.Placement.{Placement, IsPlacement, IsFreeFacility, free_locations, placing}
use Rattle.qap_cert.specs.Code.{joined}
use Rattle.qap_cert.specs.Tree.{Node, split, bound, Nodes, no_nodes, node, node_of, nodes_of}
use Rattle.qap_cert.specs.declared.tree.Tree.{Tree}
use Rattle.tuple_match.specs.FieldValue.{FieldValue}
use Rattle.qap_search.specs.Certificate.TreeBuilding.{AnyDuals, BeginWith, BeginWithNone, ahead}
use Rattle.qap_search.specs.Tuples.DecidedTuples.{decision_tuple, split_of}
use Rattle.qap_search.specs.Certificate.Pieces.{decided_tuples}
use Rattle.qap_search.specs.declared.tuples.parsing.DecidedNode.{DecidedNode}
use Rattle.qap_search.specs.declared.tuples.parsing.Decision.{Decision}
use Rattle.qap_search.specs.declared.tuples.parsing.Decision.TheVariants.{Split as SplitOn, Closed}
use Rattle.qap_search.specs.Tuples.Piece.{node_list, pieces, pieces_of_all, split_tuple}
use Rattle.qap_search.specs.Law.SearchTree.{AreTrees, searched, searched_all}
use Rattle.qap_search.proofs.CertificateLemmas.Certificates.{free_depth}
use Rattle.qap_search.proofs.CertificateLemmas.OneTree.{closed_tag, first_tuple, later_tuples, one_tree, split_tag}
use Rattle.qap_search.proofs.TupleLemmas.TupleReadings.{list_at, natural, number_at, tag}

pub nodes_of-push : (xs : List Tree) (t : Tree) → nodes_of (xs ++ t ∷ []) ≡ joined (nodes_of xs) (node (node_of t) no_nodes)
nodes_of-push [] t = refl
nodes_of-push (x ∷ xs) t = ap (node (node_of x)) (nodes_of-push xs t)

joined-more : (ts : Nodes) (s : Node) (us : Nodes) → joined (joined ts (node s no_nodes)) us ≡ joined ts (node s us)
joined-more no_nodes s us = refl
joined-more (node t rest) s us = ap (node t) (joined-more rest s us)

joined-none : (ts : Nodes) → joined ts no_nodes ≡ ts
joined-none no_nodes = refl
joined-none (node t rest) = ap (node t) (joined-none rest)

-- the old tuples begin with these i trees, one for each of the first flags, and go on with the rest: what the rest begins with, for the
-- other flags, makes what the old ones begin with, and there is no other way
pub record HaveTaken (x : Placement) (f : ℕ) (ks : List ℕ) (old : List (List FieldValue)) (ts : Nodes) (i : ℕ) (rest : List (List FieldValue)) : Type 0 where
  pub whole : (us : Nodes) (r : List (List FieldValue)) → AreTrees AnyDuals x f (drop i ks) (searched_all us) → rest ≡ pieces_of_all x f (drop i ks) (searched_all us) ++ r
      → AreTrees AnyDuals x f ks (searched_all (joined ts us)) × (old ≡ pieces_of_all x f ks (searched_all (joined ts us)) ++ r)
  pub only : (us : Nodes) (r : List (List FieldValue)) → AreTrees AnyDuals x f ks (searched_all us) → old ≡ pieces_of_all x f ks (searched_all us) ++ r
      → (vs : Nodes) × AreTrees AnyDuals x f (drop i ks) (searched_all vs) × (rest ≡ pieces_of_all x f (drop i ks) (searched_all vs) ++ r)

-- before the first child no tree has been taken
pub HaveTaken-none : (x : Placement) (f : ℕ) (ks : List ℕ) (old : List (List FieldValue)) → HaveTaken x f ks old no_nodes 0 old
HaveTaken-none x f ks old = record { whole = λ us r h e. (h, e); only = λ us r h e. (us, h, e) }

-- a first child and others
record IsFirst (x : Placement) (f k : ℕ) (ks : List ℕ) (vs : Nodes) (rest r : List (List FieldValue)) : Type 0 where
  child : Node
  others : Nodes
  begins : BeginWith (placing x f k) child rest (pieces_of_all x f ks (searched_all others) ++ r)
  trees : AreTrees AnyDuals x f ks (searched_all others)

first_of : (x : Placement) (f k : ℕ) (ks : List ℕ) (vs : Nodes) (rest r : List (List FieldValue)) → AreTrees AnyDuals x f (k ∷ ks) (searched_all vs) → rest ≡ pieces_of_all x f (k ∷ ks) (searched_all vs) ++ r → IsFirst x f k ks vs rest r
first_of x f k ks no_nodes rest r h e = absurd h
first_of x f k ks (node v vs) rest r h e = record {
  child = v;
  others = vs;
  begins = record { tree = h.0; is = e ∙ append_assoc (pieces (placing x f k) (searched v)) (pieces_of_all x f ks (searched_all vs)) r };
  trees = h.1;
}

drop_at : (ks : List ℕ) (i : ℕ) → i < length ks → drop i ks ≡ get_or ks i 0 ∷ drop (i + 1) ks
drop_at ks i less =
    let one : suc i ≡ i + 1 = omega arith in
    drop-cons ks i 0 less ∙ ap (λ (j : ℕ). get_or ks i 0 ∷ drop j ks) one

-- the first of what is left, for the location of number i
first_at : (x : Placement) (f : ℕ) (ks : List ℕ) (i : ℕ) (rest r : List (List FieldValue)) → i < length ks → (vs : Nodes) × AreTrees AnyDuals x f (drop i ks) (searched_all vs) × (rest ≡ pieces_of_all x f (drop i ks) (searched_all vs) ++ r)
    → (vs : Nodes) × IsFirst x f (get_or ks i 0) (drop (i + 1) ks) vs rest r
first_at x f ks i rest r less p =
    let at = drop_at ks i less in (
      p.0,
      first_of x f (get_or ks i 0) (drop (i + 1) ks) p.0 rest r
          (subst (λ (js : List ℕ). AreTrees AnyDuals x f js (searched_all p.0)) at p.1)
          (subst (λ (js : List ℕ). rest ≡ pieces_of_all x f js (searched_all p.0) ++ r) at p.2),
    )

-- with the tree of the next child taken, i + 1 trees have been
pub HaveTaken-more : (x : Placement) (f : ℕ) (ks : List ℕ) (old : List (List FieldValue)) (ts : Nodes) (i : ℕ) (rest behind : List (List FieldValue)) (s : Node) → HaveTaken x f ks old ts i rest → i < length ks → BeginWith (placing x f (get_or ks i 0)) s rest behind → HaveTaken x f ks old (joined ts (node s no_nodes)) (i + 1) behind
HaveTaken-more x f ks old ts i rest behind s h less b =
    let k = get_or ks i 0 in
    let js = drop (i + 1) ks in
    let at = drop_at ks i less in
    record {
      whole = λ us r trees e.
          let P : Nodes → Type 0 = λ all. AreTrees AnyDuals x f ks (searched_all all) × (old ≡ pieces_of_all x f ks (searched_all all) ++ r) in
          subst P (sym (joined-more ts s us))
          (h.whole (node s us) r (subst (λ (is : List ℕ). AreTrees AnyDuals x f is (searched_all (node s us))) (sym at) (b.tree, trees))
          (subst (λ (is : List ℕ). rest ≡ pieces_of_all x f is (searched_all (node s us)) ++ r) (sym at)
          (b.is ∙ ap (λ (l : List (List FieldValue)). pieces (placing x f k) (searched s) ++ l) e ∙ sym (append_assoc (pieces (placing x f k) (searched s)) (pieces_of_all x f js (searched_all us)) r))));
      only = λ us r trees e.
          let first = (first_at x f ks i rest r less (h.only us r trees e)).1 in
          let one = one_tree s first.child (placing x f k) behind (pieces_of_all x f js (searched_all first.others) ++ r) b.tree first.begins.tree (sym b.is ∙ first.begins.is) in
          (first.others, first.trees, one.1);
    }

-- where no node is left, there is no tree
pub none_at_end : (x : Placement) (nodes : List DecidedNode) → nodes ≡ [] → BeginWithNone x (ahead nodes)
none_at_end x nodes is (bound u v) r b = let long : 0 ≡ length (pieces x (searched (bound u v)) ++ r) = ap length (sym (ap ahead is) ∙ b.is) in absurd (omega arith)
none_at_end x nodes is (split f ss) r b = let long : 0 ≡ length (pieces x (searched (split f ss)) ++ r) = ap length (sym (ap ahead is) ∙ b.is) in absurd (omega arith)

list_of_decision : (list : List ℤ) (d : Decision) → list_at 1 (decision_tuple list d) ≡ list
list_of_decision list (SplitOn f) = refl
list_of_decision list (Closed u v) = refl

-- the list of the node that is taken next
next_list : (old new : List DecidedNode) (d : DecidedNode) → old ≡ new ++ d ∷ [] → list_at 1 (first_tuple (ahead old)) ≡ numbers_held d.node
next_list old new d is = ap (λ (nodes : List DecidedNode). list_at 1 (first_tuple (decided_tuples nodes))) (ap reverse is ∙ reverse-append new (d ∷ [])) ∙ list_of_decision (numbers_held d.node) d.decision

-- the tuples of a tree begin with its node's
first_list : (x : Placement) (t : Node) (tuples r : List (List FieldValue)) → BeginWith x t tuples r → list_at 1 (first_tuple tuples) ≡ node_list x
first_list x (bound u v) tuples r b = ap (λ (l : List (List FieldValue)). list_at 1 (first_tuple l)) b.is
first_list x (split f ss) tuples r b = ap (λ (l : List (List FieldValue)). list_at 1 (first_tuple l)) b.is

-- nor is there one where the next node is another
pub none_other_node : (x : Placement) (old new : List DecidedNode) (d : DecidedNode) → old ≡ new ++ d ∷ [] → numbers_held d.node ≢ node_list x → BeginWithNone x (ahead old)
none_other_node x old new d is other t r b = other (sym (next_list old new d is) ∙ first_list x t (ahead old) r b)

-- where no facility is free of which the split could be, there is no tree
pub none_split : (x : Placement) (number : ℤ) (rest : List (List FieldValue)) → ((f : ℕ) → IsFreeFacility x f → number ≢ pos f) → BeginWithNone x (split_of (node_list x) number ∷ rest)
none_split x number rest none (bound u v) r b = let differ : split_tag ≡ closed_tag = ap (λ (l : List (List FieldValue)). tag (first_tuple l)) b.is in absurd (omega arith)
none_split x number rest none (split f ss) r b = none f b.tree.1 (ap (λ (l : List (List FieldValue)). number_at 2 (first_tuple l)) b.is)

-- where a child is missing, there is no tree
pub HaveTaken-fault : (x : Placement) (f : ℕ) (ks : List ℕ) (old : List (List FieldValue)) (ts : Nodes) (i : ℕ) (rest : List (List FieldValue)) → ks ≡ free_locations x → HaveTaken x f ks old ts i rest → i < length ks → BeginWithNone (placing x f (get_or ks i 0)) rest → BeginWithNone x (split_tuple x f ∷ old)
HaveTaken-fault x f ks old ts i rest listed h less none (bound u v) r b = let differ : split_tag ≡ closed_tag = ap (λ (l : List (List FieldValue)). tag (first_tuple l)) b.is in absurd (omega arith)
HaveTaken-fault x f ks old ts i rest listed h less none (split g ss) r b =
    let same : g ≡ f = ap (λ (l : List (List FieldValue)). natural (number_at 2 (first_tuple l))) (sym b.is) in
    let trees = subst (λ (js : List ℕ). AreTrees AnyDuals x f js (searched_all ss)) (sym listed) (subst (λ (j : ℕ). AreTrees AnyDuals x j (free_locations x) (searched_all ss)) same b.tree.2) in
    let is = ap later_tuples b.is ∙ ap₂ (λ (j : ℕ) (js : List ℕ). pieces_of_all x j js (searched_all ss) ++ r) same (sym listed) in
    let first = (first_at x f ks i rest r less (h.only ss r trees is)).1 in
    none first.child (pieces_of_all x f (drop (i + 1) ks) (searched_all first.others) ++ r) first.begins

-- where there is a tree for each flag, they make the split's
pub HaveTaken-all : (x : Placement) (f : ℕ) (ks : List ℕ) (old : List (List FieldValue)) (ts : Nodes) (i : ℕ) (rest : List (List FieldValue)) → ks ≡ free_locations x → IsPlacement x → IsFreeFacility x f → HaveTaken x f ks old ts i rest → drop i ks ≡ [] → BeginWith x (split f ts) (split_tuple x f ∷ old) rest
HaveTaken-all x f ks old ts i rest listed placed free h end =
    let none = subst (λ (js : List ℕ). AreTrees AnyDuals x f js (searched_all no_nodes)) (sym end) tt in
    let no_more = subst (λ (js : List ℕ). rest ≡ pieces_of_all x f js (searched_all no_nodes) ++ rest) (sym end) refl in
    let whole = h.whole no_nodes rest none no_more in
    let P : Nodes → Type 0 = λ all. AreTrees AnyDuals x f ks (searched_all all) × (old ≡ pieces_of_all x f ks (searched_all all) ++ rest) in
    let row = subst P (joined-none ts) whole in
    record {
      tree = (free_depth x f placed free, free, subst (λ (js : List ℕ). AreTrees AnyDuals x f js (searched_all ts)) listed row.0);
      is = ap (λ (l : List (List FieldValue)). split_tuple x f ∷ l) (row.1 ∙ ap (λ (js : List ℕ). pieces_of_all x f js (searched_all ts) ++ rest) listed);
    }

-- a number of a list, whatever stands past the end
pub get_or-any : (xs : List ℕ) (i d e : ℕ) → i < length xs → get_or xs i d ≡ get_or xs i e
get_or-any [] i d e h = absurd (omega arith)
get_or-any (x ∷ xs) zero d e h = refl
get_or-any (x ∷ xs) (suc i) d e h = get_or-any xs i d e (omega arith)

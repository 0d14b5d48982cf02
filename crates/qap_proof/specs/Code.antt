-- The encoding that identifies a proof's contents: the nodes of a tree in preorder, which determine it.
use Rattle.std.specs.Prelude.{◌≡◌, ℕ, zero, suc, ◌+◌, ◌⊎◌, List, [], ◌∷◌, ℤ, Bool, true, false, Option, refl}
use Rattle.std.proofs.Common.{inl, inr, ◌∙◌, ap, arith}
use Rattle.std.specs.Coded.{Coded, code_by, coded_ℕ, coded_ℤ, coded_bool, coded_list, coded_option, coded×, coded⊎}
use Rattle.qap_cost.specs.Placement.{Placement}
use Rattle.qap_proof.specs.Claim.{Claim, claim_of}
use Rattle.qap_proof.specs.Tree.{Pair, pair, Split, Node, closed, split, cut, mirrored, Nodes, no_nodes, node, child_count}
use Rattle.qap_proof.specs.declared.side.Side.{Side}
use Rattle.qap_proof.specs.declared.side.Side.TheVariants.{Facility, Location}

-- whether the side is that of facilities
abbrev pub is_facility : Side → Bool
is_facility Facility = true
is_facility Location = false

-- the side with this truth value, as `is_facility` gives it
abbrev pub side_of : Bool → Side
side_of true = Facility
side_of false = Location

-- a side is the one that its truth value represents
pub side_of-is_facility : (side : Side) → side_of (is_facility side) ≡ side
side_of-is_facility Facility = refl
side_of-is_facility Location = refl

-- sides as truth values
abbrev pub side_code : Coded Side
side_code = code_by Bool coded_bool is_facility side_of side_of-is_facility

-- duals as two lists of numbers
abbrev pub pair_code : Coded Pair
pair_code = code_by (List ℤ × List ℤ) (coded× (coded_list coded_ℤ) (coded_list coded_ℤ)) (λ d. (d.u, d.v)) (λ p. pair p.0 p.1) (λ _. refl)

-- the split on this side, with this number and these duals
abbrev pub made_split : Side → ℕ → Option Pair → Split
made_split side number duals = record { side = side; number = number; duals = duals }

-- splits as their side, their number and their duals
abbrev pub split_code : Coded Split
split_code =
    code_by (Side × (ℕ × Option Pair)) (coded× side_code (coded× coded_ℕ (coded_option pair_code))) (λ s. (s.side, (s.number, s.duals)))
    (λ p. made_split p.0 p.1.0 p.1.1) (λ _. refl)

-- what represents a node in preorder: a closed node's duals; a split with the number of its children; a symmetric
-- child's earlier one with its permutation; or a truth value, for a pruned child
abbrev pub Sign : Type 0
Sign = (Pair ⊎ (Split × ℕ)) ⊎ ((ℕ × List ℕ) ⊎ Bool)

-- signs, by the codes of their parts
abbrev pub sign_code : Coded Sign
sign_code = coded⊎ (coded⊎ pair_code (coded× split_code coded_ℕ)) (coded⊎ (coded× coded_ℕ (coded_list coded_ℕ)) coded_bool)

abbrev mutual
  -- the signs of a tree's nodes in preorder, in front of the rest
  pub signs : Node → List Sign → List Sign
  signs (closed d) rest = inl (inl d) ∷ rest
  signs (split s children) rest = inl (inr (s, child_count children)) ∷ signs_of_all children rest
  signs cut rest = inr (inr true) ∷ rest
  signs (mirrored j m) rest = inr (inl (j, m)) ∷ rest

  -- the same for trees in a row
  pub signs_of_all : Nodes → List Sign → List Sign
  signs_of_all no_nodes rest = rest
  signs_of_all (node t ts) rest = signs t (signs_of_all ts rest)

-- the nodes of one row, followed by those of the other
abbrev pub joined : Nodes → Nodes → Nodes
joined no_nodes others = others
joined (node t ts) others = node t (joined ts others)

-- the first k nodes of a row, or all of it if it has fewer
abbrev pub first_nodes : ℕ → Nodes → Nodes
first_nodes zero ts = no_nodes
first_nodes (suc k) no_nodes = no_nodes
first_nodes (suc k) (node t ts) = node t (first_nodes k ts)

-- the nodes of a row after its first k
abbrev pub nodes_behind : ℕ → Nodes → Nodes
nodes_behind zero ts = ts
nodes_behind (suc k) no_nodes = no_nodes
nodes_behind (suc k) (node t ts) = nodes_behind k ts

-- the trees in a row that signs in preorder represent
abbrev pub read_signs : List Sign → Nodes
read_signs [] = no_nodes
read_signs (inl (inl d) ∷ rest) = node (closed d) (read_signs rest)
read_signs (inl (inr sk) ∷ rest) = node (split (sk.0) (first_nodes (sk.1) (read_signs rest))) (nodes_behind (sk.1) (read_signs rest))
read_signs (inr (inl jm) ∷ rest) = node (mirrored (jm.0) (jm.1)) (read_signs rest)
read_signs (inr (inr b) ∷ rest) = node cut (read_signs rest)

-- the first node of a row; if there is none, a pruned one
abbrev pub first_node : Nodes → Node
first_node no_nodes = cut
first_node (node t ts) = t

-- the first nodes of two joined rows, counted by the first row, are the first row
pub first_nodes-joined : (ts others : Nodes) → first_nodes (child_count ts) (joined ts others) ≡ ts
first_nodes-joined no_nodes others = refl
first_nodes-joined (node t ts) others =
    let more : 1 + child_count ts ≡ suc (child_count ts) = omega arith in
    ap (λ (k : ℕ). first_nodes k (node t (joined ts others))) more ∙ ap (node t) (first_nodes-joined ts others)

-- the nodes after those are the second row
pub nodes_behind-joined : (ts others : Nodes) → nodes_behind (child_count ts) (joined ts others) ≡ others
nodes_behind-joined no_nodes others = refl
nodes_behind-joined (node t ts) others =
    let more : 1 + child_count ts ≡ suc (child_count ts) = omega arith in
    ap (λ (k : ℕ). nodes_behind k (node t (joined ts others))) more ∙ nodes_behind-joined ts others

mutual
  -- reading the signs of a tree gives the tree back, in front of what the rest gives
  pub read_signs-signs : (t : Node) (rest : List Sign) → read_signs (signs t rest) ≡ node t (read_signs rest)
  read_signs-signs (closed d) rest = refl
  read_signs-signs (split s children) rest =
      let all = read_signs-signs_of_all children rest in
      let k = child_count children in
      ap (λ (ts : Nodes). node (split s (first_nodes k ts)) (nodes_behind k ts)) all
      ∙ ap (λ (ts : Nodes). node (split s ts) (nodes_behind k (joined children (read_signs rest)))) (first_nodes-joined children (read_signs rest))
      ∙ ap (node (split s children)) (nodes_behind-joined children (read_signs rest))
  read_signs-signs cut rest = refl
  read_signs-signs (mirrored j m) rest = refl

  -- the same for trees in a row
  pub read_signs-signs_of_all : (ts : Nodes) (rest : List Sign) → read_signs (signs_of_all ts rest) ≡ joined ts (read_signs rest)
  read_signs-signs_of_all no_nodes rest = refl
  read_signs-signs_of_all (node t ts) rest = read_signs-signs t (signs_of_all ts rest) ∙ ap (node t) (read_signs-signs_of_all ts rest)

-- trees as the list of their signs in preorder
abbrev pub node_code : Coded Node
node_code = code_by (List Sign) (coded_list sign_code) (λ t. signs t []) (λ xs. first_node (read_signs xs)) (λ t. ap first_node (read_signs-signs t []))

-- the placement of this size, with these facilities at these locations
abbrev pub placement_of : ℕ → List ℕ → List ℕ → Placement
placement_of size facilities places = record { size = size; facilities = facilities; places = places }

-- placements as their size, their facilities and their locations
abbrev pub placement_code : Coded Placement
placement_code =
    code_by (ℕ × (List ℕ × List ℕ)) (coded× coded_ℕ (coded× (coded_list coded_ℕ) (coded_list coded_ℕ))) (λ x. (x.size, (x.facilities, x.places)))
    (λ p. placement_of p.0 p.1.0 p.1.1) (λ _. refl)

-- claims as their root, cost, bound, permutation and tree
abbrev pub claim_code : Coded Claim
claim_code =
    code_by (Placement × (ℤ × (ℤ × (List ℕ × Node)))) (coded× placement_code (coded× coded_ℤ (coded× coded_ℤ (coded× (coded_list coded_ℕ) node_code))))
    (λ C. (C.root, (C.cost, (C.bound, (C.permutation, C.tree))))) (λ p. claim_of p.0 p.1.0 p.1.1.0 p.1.1.1.0 p.1.1.1.1) (λ _. refl)

-- The encoding that identifies a certificate's contents: the nodes of a tree in preorder, which determine it.
use Rattle.std.specs.Prelude.{◌≡◌, ℕ, zero, suc, ◌+◌, ◌⊎◌, List, [], ◌∷◌, ℤ, refl}
use Rattle.std.proofs.Common.{inl, inr, ◌∙◌, ap, arith}
use Rattle.std.specs.Coded.{Coded, code_by, coded_ℕ, coded_ℤ, coded_list, coded×, coded⊎}
use Rattle.qap_cert.specs.Certificate.{Claim, claim_of}
use Rattle.qap_cert.specs.Shape.{child_count}
use Rattle.qap_cert.specs.Tree.{Node, split, bound, Nodes, no_nodes, node}

-- a split by its facility and the number of its children, and a bound by its duals
abbrev pub Sign : Type 0
Sign = (ℕ × ℕ) ⊎ (List ℤ × List ℤ)

abbrev mutual
  -- the signs of a tree in preorder, before the rest
  pub signs : Node → List Sign → List Sign
  signs (split f children) rest = inl (f, child_count children) ∷ signs_of_all children rest
  signs (bound u v) rest = inr (u, v) ∷ rest

  -- the same for nodes in a row
  pub signs_of_all : Nodes → List Sign → List Sign
  signs_of_all no_nodes rest = rest
  signs_of_all (node t ts) rest = signs t (signs_of_all ts rest)

-- nodes in a row, followed by others
abbrev pub joined : Nodes → Nodes → Nodes
joined no_nodes others = others
joined (node t ts) others = node t (joined ts others)

-- the first nodes of a row, this many or all if there are fewer
abbrev pub first_nodes : ℕ → Nodes → Nodes
first_nodes zero ts = no_nodes
first_nodes (suc k) no_nodes = no_nodes
first_nodes (suc k) (node t ts) = node t (first_nodes k ts)

-- the nodes after these
abbrev pub nodes_behind : ℕ → Nodes → Nodes
nodes_behind zero ts = ts
nodes_behind (suc k) no_nodes = no_nodes
nodes_behind (suc k) (node t ts) = nodes_behind k ts

-- the nodes in a row that signs in preorder describe
abbrev pub read_signs : List Sign → Nodes
read_signs [] = no_nodes
read_signs (inl fk ∷ rest) = node (split (fk.0) (first_nodes (fk.1) (read_signs rest))) (nodes_behind (fk.1) (read_signs rest))
read_signs (inr uv ∷ rest) = node (bound (uv.0) (uv.1)) (read_signs rest)

-- the first node of a row; for an empty one, a bound without duals
abbrev pub first_node : Nodes → Node
first_node no_nodes = bound [] []
first_node (node t ts) = t

first_nodes-joined : (ts others : Nodes) → first_nodes (child_count ts) (joined ts others) ≡ ts
first_nodes-joined no_nodes others = refl
first_nodes-joined (node t ts) others =
    let more : 1 + child_count ts ≡ suc (child_count ts) = omega arith in
    ap (λ (k : ℕ). first_nodes k (node t (joined ts others))) more ∙ ap (node t) (first_nodes-joined ts others)

nodes_behind-joined : (ts others : Nodes) → nodes_behind (child_count ts) (joined ts others) ≡ others
nodes_behind-joined no_nodes others = refl
nodes_behind-joined (node t ts) others =
    let more : 1 + child_count ts ≡ suc (child_count ts) = omega arith in
    ap (λ (k : ℕ). nodes_behind k (node t (joined ts others))) more ∙ nodes_behind-joined ts others

mutual
  -- from the signs of a tree and others the tree is read, and then what the others describe
  pub read_signs-signs : (t : Node) (rest : List Sign) → read_signs (signs t rest) ≡ node t (read_signs rest)
  read_signs-signs (split f children) rest =
      let all = read_signs-signs_of_all children rest in
      let k = child_count children in
      ap (λ (ts : Nodes). node (split f (first_nodes k ts)) (nodes_behind k ts)) all
      ∙ ap (λ (ts : Nodes). node (split f ts) (nodes_behind k (joined children (read_signs rest)))) (first_nodes-joined children (read_signs rest))
      ∙ ap (node (split f children)) (nodes_behind-joined children (read_signs rest))
  read_signs-signs (bound u v) rest = refl

  -- the same for nodes in a row
  pub read_signs-signs_of_all : (ts : Nodes) (rest : List Sign) → read_signs (signs_of_all ts rest) ≡ joined ts (read_signs rest)
  read_signs-signs_of_all no_nodes rest = refl
  read_signs-signs_of_all (node t ts) rest = read_signs-signs t (signs_of_all ts rest) ∙ ap (node t) (read_signs-signs_of_all ts rest)

-- a tree's code is the list of its signs, which determines the tree
abbrev pub node_code : Coded Node
node_code =
    code_by (List Sign) (coded_list (coded⊎ (coded× coded_ℕ coded_ℕ) (coded× (coded_list coded_ℤ) (coded_list coded_ℤ)))) (λ t. signs t [])
    (λ xs. first_node (read_signs xs)) (λ t. ap first_node (read_signs-signs t []))

-- a claim's code: those of its cost, bound, permutation and tree
abbrev pub claim_code : Coded Claim
claim_code =
    code_by (ℤ × (ℤ × (List ℕ × Node))) (coded× coded_ℤ (coded× coded_ℤ (coded× (coded_list coded_ℕ) node_code))) (λ C. (C.cost, (C.bound, (C.permutation, C.tree))))
    (λ p. claim_of p.0 p.1.0 p.1.1.0 p.1.1.1) (λ _. refl)

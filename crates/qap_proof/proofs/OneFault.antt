-- A text has one first fault.
use Rattle.std.proofs.Common.{◌≡◌, ◌≢◌, ℕ, zero, suc, ◌+◌, ◌<◌, ◌≤◌, ◌++◌, List, [], ◌∷◌, length, get_or, ℤ, pos, refl, sym, ◌∙◌, ap, subst, inl, inr, arith}
use Rattle.std.proofs.lemmas.Bool.{cases_order}
use Rattle.std.specs.Prelude.{codes, Bool, false}
use Rattle.qap_cost.specs.Bijection.{IsPerm}
use Rattle.qap_cost.specs.Placement.{Placement, root_of}
use Rattle.qap_cost.specs.Range.{AllLimited}
use Rattle.qap_io.specs.Number.{from_one}
use Rattle.qap_lines.proofs.Fronts.{line_front, line_fault, named_fault, one_line_fault, named_front}
use Rattle.qap_lines.proofs.Locations.{AllLimited-permutation}
use Rattle.qap_lines.proofs.NumberLists.{AllLimited-one, IsNamed-numbers_text}
use Rattle.qap_lines.specs.Line.{line_after, IsLine}
use Rattle.qap_lines.specs.LineText.{line_text, numbers_text}
use Rattle.qap_lines.specs.Number.{IsNamed}
use Rattle.qap_proof.proofs.Faults.{number_fault}
use Rattle.qap_proof.proofs.FirstFaults.{one_number_fault}
use Rattle.qap_proof.proofs.OneText.{no_line-version, no_line-size, no_line-cost, no_line-perm, no_line-root, no_line-below, no_line-end, IsName-root, IsName-below, may_be_duals_fault, no_tree_fault, states, named_bound, root_line, named_root, same_roots, same_size, small_number, version_limited, header_line, perm_line}
use Rattle.qap_proof.proofs.Roots.{AllLimited-by_turns}
use Rattle.qap_proof.proofs.Sayings.{no_line-saying, one_saying, said_front, same_splits, AllLimited-split, tree_front, trees_front, next_tree, free_within}
use Rattle.qap_proof.specs.Shape.{IsSplit, HasShape, AllHaveShape, free_count, has_duals}
use Rattle.qap_proof.specs.Text.{letter, numbers_of_duals, split_numbers, trees_text, by_turns}
use Rattle.qap_proof.specs.TextFault.{IsLineFault, IsHeaderFault, IsSizeFault, IsCostFault, IsPermFault, Saying, Says, closes, splits, cuts, mirrors, IsDualsFault, IsSayingFault, IsNodeFault, IsTreeTextFault, IsEndFault, IsBelow, HasRootLine, IsFaultFromTree, IsFaultFromBound, IsFaultFromRoot, IsFaultFromPerm, IsFaultFromCost, IsFaultFromSize, IsTextFault}
use Rattle.qap_proof.specs.Tree.{Split, Node, Nodes, node_count, nodes_count, child_count, child_of}
use Rattle.qap_proof.specs.declared.error.ProofError.{ProofError}
use Rattle.qap_proof.specs.declared.error.ProofError.TheVariants.{Truncated, BadLine}

one_header_fault : (line : List ℕ) (d e : ProofError) → IsHeaderFault line d → IsHeaderFault line e → d ≡ e
one_header_fault line d e (inl a) (inl b) = a.0 ∙ sym b.0
one_header_fault line d e (inl a) (inr b) = absurd (a.1 b.1 (let more = b.2 in omega (arith, more)) b.3)
one_header_fault line d e (inr a) (inl b) = absurd (b.1 a.1 (let more = a.2 in omega (arith, more)) a.3)
one_header_fault line d e (inr a) (inr b) = a.0 ∙ sym b.0

one_perm_fault : (n : ℕ) (line : List ℕ) (d e : ProofError) → IsPermFault n line d → IsPermFault n line e → d ≡ e
one_perm_fault n line d e (inl a) (inl b) = a.0 ∙ sym b.0
one_perm_fault n line d e (inl a) (inr b) = absurd (a.1 b.1 b.2 b.3)
one_perm_fault n line d e (inr a) (inl b) = absurd (b.1 a.1 a.2 a.3)
one_perm_fault n line d e (inr a) (inr b) = a.0 ∙ sym b.0

-- the lines of nodes

one_duals_fault : (m number : ℕ) (zs : List ℤ) (d e : ProofError) → IsDualsFault m number zs d → IsDualsFault m number zs e → d ≡ e
one_duals_fault m number zs d e (inl a) (inl b) = a.0 ∙ sym b.0
one_duals_fault m number zs d e (inl a) (inr b) = absurd (a.1 b.1)
one_duals_fault m number zs d e (inr a) (inl b) = absurd (b.1 a.1)
one_duals_fault m number zs d e (inr a) (inr b) = a.0 ∙ sym b.0

one_saying_fault : (w : Saying) (x : Placement) (earlier : ℕ) (duals : Bool) (number : ℕ) (d e : ProofError) → IsSayingFault x earlier duals number w d → IsSayingFault x earlier duals number w e → d ≡ e
one_saying_fault (closes zs) x earlier duals number d e a b = one_duals_fault (free_count x) number zs d e a b
one_saying_fault (splits side i zs) x earlier duals number d e (inl a) (inl b) = one_number_fault x number side i d e a b
one_saying_fault (splits side i zs) x earlier duals number d e (inl a) (inr b) = absurd (number_fault x number side i d a b.0 b.1)
one_saying_fault (splits side i zs) x earlier duals number d e (inr a) (inl b) = absurd (number_fault x number side i e b a.0 a.1)
one_saying_fault (splits side i zs) x earlier duals number d e (inr a) (inr b) = one_duals_fault (free_count x) number zs d e a.3 b.3
one_saying_fault cuts x earlier duals number d e a b = a.0 ∙ sym b.0
one_saying_fault (mirrors z zs) x earlier duals number d e (inl a) (inl b) = a.0 ∙ sym b.0
one_saying_fault (mirrors z zs) x earlier duals number d e (inl a) (inr b) = absurd (a.1 b.1 b.2 b.3)
one_saying_fault (mirrors z zs) x earlier duals number d e (inr a) (inl b) = absurd (b.1 a.1 a.2 a.3)
one_saying_fault (mirrors z zs) x earlier duals number d e (inr a) (inr b) = a.0 ∙ sym b.0

one_node_fault : (x : Placement) (earlier : ℕ) (duals : Bool) (number : ℕ) (line : List ℕ) (d e : ProofError) → IsNodeFault x earlier duals number line d → IsNodeFault x earlier duals number line e → d ≡ e
one_node_fault x earlier duals number line d e (inl a) (inl b) = a.0 ∙ sym b.0
one_node_fault x earlier duals number line d e (inl a) (inr b) = absurd (a.1 b.0 b.1)
one_node_fault x earlier duals number line d e (inr a) (inl b) = absurd (b.1 a.0 a.1)
one_node_fault x earlier duals number line d e (inr a) (inr b) =
    let same = one_saying x.size line b.0 a.0 b.1 a.1 in
    one_saying_fault a.0 x earlier duals number d e a.2 (subst (λ (w : Saying). IsSayingFault x earlier duals number w e) same b.2)

-- the line of a split is at no fault
no_split_fault : (x : Placement) (earlier : ℕ) (duals : Bool) (number : ℕ) (text rest : List ℕ) (s : Split) (e : ProofError) → x.size ≤ 256 → IsSplit x s → text ≡ line_text (letter s.side) (split_numbers s) ++ rest
    → IsLineFault number text (IsNodeFault x earlier duals number) e → ⊥
no_split_fault x earlier duals number text rest s e small h is fault =
    let w : Saying = splits s.side s.number (numbers_of_duals s.duals) in
    let limited = AllLimited-split x s small h in
    let line = named_fault (Truncated number) text (letter s.side) rest (split_numbers s) (IsNodeFault x earlier duals number) e (no_line-saying w) limited is fault in
    let said : Says x.size (letter s.side ++ numbers_text (split_numbers s)) w = (free_within s.side x s.number h.free, IsNamed-numbers_text (letter s.side) (split_numbers s) limited) in
    elim line [
      | inl bad ↦ bad.1 w said
      | inr found ↦
          let same = one_saying x.size (letter s.side ++ numbers_text (split_numbers s)) found.0 w found.1 said in
          at_split (subst (λ (v : Saying). IsSayingFault x earlier duals number v e) same found.2)
    ]
  where
    at_split : IsSayingFault x earlier duals number (splits s.side s.number (numbers_of_duals s.duals)) e → ⊥
    at_split (inl number_at) = number_fault x number s.side s.number e number_at h.some h.free
    at_split (inr bad) = may_be_duals_fault (free_count x) number s.duals e h.duals bad.2 bad.3

one_tree_fault : (m : ℕ) (x : Placement) (earlier : ℕ) (duals : Bool) (number : ℕ) (text : List ℕ) (d e : ProofError) → x.size ≤ 256 → IsTreeTextFault m x earlier duals number text d → IsTreeTextFault m x earlier duals number text e → d ≡ e
one_tree_fault zero x earlier duals number text d e small a b = one_line_fault (Truncated number) text (IsNodeFault x earlier duals number) d e (λ line. one_node_fault x earlier duals number line d e) a b
one_tree_fault (suc m) x earlier duals number text d e small (inl a) (inl b) = one_line_fault (Truncated number) text (IsNodeFault x earlier duals number) d e (λ line. one_node_fault x earlier duals number line d e) a b
one_tree_fault (suc m) x earlier duals number text d e small (inl a) (inr b) = absurd (no_split_fault x earlier duals number text b.1 b.0 d small b.3 b.2 a)
one_tree_fault (suc m) x earlier duals number text d e small (inr a) (inl b) = absurd (no_split_fault x earlier duals number text a.1 a.0 e small a.3 a.2 b)
one_tree_fault (suc m) x earlier duals number text d e small (inr a) (inr b) =
    let s = a.0 in
    let first = said_front (splits s.side s.number (numbers_of_duals s.duals)) (splits b.0.side b.0.number (numbers_of_duals b.0.duals)) a.1 b.1 (AllLimited-split x s small a.3) (AllLimited-split x b.0 small b.3) (sym a.2 ∙ b.2) in
    let same : s ≡ b.0 = same_splits x s b.0 a.3 b.3 first.0 in
    let start : ℕ = line_after number 1 in
    let p = a.4 in
    let q = b.4 in
    let j : ℕ = child_count p.0 in
    let k : ℕ = child_count q.0 in
    let few_first : j < free_count x = p.4 in
    let few_second : k < free_count x = q.4 in
    let shapes : AllHaveShape x s 0 q.0 = subst (λ (r : Split). AllHaveShape x r 0 q.0) (sym same) q.3 in
    let second : IsTreeTextFault m (child_of x s k) k (has_duals s.duals) (line_after start (nodes_count q.0)) q.1 e =
    subst (λ (r : Split). IsTreeTextFault m (child_of x r k) k (has_duals r.duals) (line_after start (nodes_count q.0)) q.1 e) (sym same) q.5 in
    let both : trees_text p.0 ++ p.1 ≡ trees_text q.0 ++ q.1 = sym p.2 ∙ first.1 ∙ q.2 in
    elim (cases_order j k) [
      | inl equal ↦
          let r = trees_front p.0 q.0 x s 0 p.1 q.1 small (omega (arith, few_first, small)) p.3 shapes equal both in
          let moved = subst (λ (l : List ℕ). IsTreeTextFault m (child_of x s j) j (has_duals s.duals) (line_after start (nodes_count p.0)) l e) (sym r.1)
          (subst (λ (ts : Nodes). IsTreeTextFault m (child_of x s (child_count ts)) (child_count ts) (has_duals s.duals) (line_after start (nodes_count ts)) q.1 e) (sym r.0) second) in
          one_tree_fault m (child_of x s j) j (has_duals s.duals) (line_after start (nodes_count p.0)) p.1 d e small p.5 moved
      | inr (inl fewer) ↦
          let t = next_tree p.0 q.0 x s 0 q.1 p.1 small (omega (arith, few_second, small)) p.3 shapes fewer (sym both) in
          let at : 0 + j ≡ j = omega arith in
          let shape = subst (λ (i : ℕ). HasShape (child_of x s i) i (has_duals s.duals) t.0) at t.2 in
          absurd (no_tree_fault m t.0 (child_of x s j) j (has_duals s.duals) (line_after start (nodes_count p.0)) p.1 t.1 d small (omega (arith, few_first, small)) shape t.3 p.5)
      | inr (inr more) ↦
          let t = next_tree q.0 p.0 x s 0 p.1 q.1 small (omega (arith, few_first, small)) shapes p.3 more both in
          let at : 0 + k ≡ k = omega arith in
          let shape = subst (λ (i : ℕ). HasShape (child_of x s i) i (has_duals s.duals) t.0) at t.2 in
          absurd (no_tree_fault m t.0 (child_of x s k) k (has_duals s.duals) (line_after start (nodes_count q.0)) q.1 t.1 e small (omega (arith, few_second, small)) shape t.3 second)
    ]

is_end : (text rest : List ℕ) → text ≡ codes "end\n" ++ rest → IsLine text (codes "end") rest
is_end text rest is = record { is = is; first = no_line-end }

one_end_fault : (number : ℕ) (text : List ℕ) (d e : ProofError) → IsEndFault number text d → IsEndFault number text e → d ≡ e
one_end_fault number text d e (inl a) (inl b) = one_line_fault (Truncated number) text (λ line f. (f ≡ BadLine number) × (line ≢ codes "end")) d e (λ line p q. p.0 ∙ sym q.0) a b
one_end_fault number text d e (inl a) (inr b) =
    let p = line_fault (Truncated number) text (codes "end") b.1 (λ line f. (f ≡ BadLine number) × (line ≢ codes "end")) d (is_end text b.1 b.3) a in absurd (p.1 refl)
one_end_fault number text d e (inr a) (inl b) =
    let p = line_fault (Truncated number) text (codes "end") a.1 (λ line f. (f ≡ BadLine number) × (line ≢ codes "end")) e (is_end text a.1 a.3) b in absurd (p.1 refl)
one_end_fault number text d e (inr a) (inr b) = a.0 ∙ sym b.0

one_from_tree : (x : Placement) (number : ℕ) (text : List ℕ) (d e : ProofError) → x.size ≤ 256 → IsFaultFromTree x number text d → IsFaultFromTree x number text e → d ≡ e
one_from_tree x number text d e small (inl a) (inl b) = one_tree_fault (free_count x) x 0 false number text d e small a b
one_from_tree x number text d e small (inl a) (inr b) = absurd (no_tree_fault (free_count x) b.0 x 0 false number text b.2.rest d small (omega arith) b.1 b.2.is a)
one_from_tree x number text d e small (inr a) (inl b) = absurd (no_tree_fault (free_count x) a.0 x 0 false number text a.2.rest e small (omega arith) a.1 a.2.is b)
one_from_tree x number text d e small (inr a) (inr b) =
    let p = tree_front a.0 b.0 x 0 false a.2.rest b.2.rest small (omega arith) a.1 b.1 (sym a.2.is ∙ b.2.is) in
    one_end_fault (line_after number (node_count a.0)) a.2.rest d e a.2.holds
    (subst (λ (t : Node). IsEndFault (line_after number (node_count t)) a.2.rest e) (sym p.0) (subst (λ (l : List ℕ). IsEndFault (line_after number (node_count b.0)) l e) (sym p.1) b.2.holds))

-- the line of a bound that is below the cost is at no fault
good_bound : (c g z : ℤ) (text line rest more : List ℕ) → IsBelow c g → text ≡ line_text (codes "bound") (g ∷ []) ++ more → IsLine text line rest → IsNamed (codes "bound") line (z ∷ []) → (IsBelow c z → ⊥) → ⊥
good_bound c g z text line rest more low is first named high =
    let p = named_front text (codes "bound") more line rest (codes "bound") (g ∷ []) (z ∷ []) IsName-below IsName-below no_line-below (AllLimited-one g low.limited) is first named in
    high (subst (IsBelow c) (ap (λ l. get_or l 0 (pos 0)) p.1) low)

one_from_bound : (x : Placement) (c : ℤ) (number : ℕ) (text : List ℕ) (d e : ProofError) → x.size ≤ 256 → IsFaultFromBound x c number text d → IsFaultFromBound x c number text e → d ≡ e
one_from_bound x c number text d e small (inl a) (inl b) = a.0 ∙ sym b.0
one_from_bound x c number text d e small (inl a) (inr (inl b)) = absurd (b.0 a.1 a.2 a.3 a.4 a.5)
one_from_bound x c number text d e small (inl a) (inr (inr b)) = absurd (good_bound c b.0 a.3 text a.1 a.2 b.2.rest b.1 b.2.is a.4 a.5 a.6)
one_from_bound x c number text d e small (inr (inl a)) (inl b) = absurd (a.0 b.1 b.2 b.3 b.4 b.5)
one_from_bound x c number text d e small (inr (inl a)) (inr (inl b)) = one_from_tree x number text d e small a.1 b.1
one_from_bound x c number text d e small (inr (inl a)) (inr (inr b)) =
    absurd (a.0 (codes "bound" ++ numbers_text (b.0 ∷ [])) b.2.rest b.0 (states c b.0 text b.2.rest b.1 b.2.is) (named_bound c b.0 b.1))
one_from_bound x c number text d e small (inr (inr a)) (inl b) = absurd (good_bound c a.0 b.3 text b.1 b.2 a.2.rest a.1 a.2.is b.4 b.5 b.6)
one_from_bound x c number text d e small (inr (inr a)) (inr (inl b)) =
    absurd (b.0 (codes "bound" ++ numbers_text (a.0 ∷ [])) a.2.rest a.0 (states c a.0 text a.2.rest a.1 a.2.is) (named_bound c a.0 a.1))
one_from_bound x c number text d e small (inr (inr a)) (inr (inr b)) =
    let same = line_front (codes "bound") (a.0 ∷ []) (b.0 ∷ []) a.2.rest b.2.rest no_line-below (AllLimited-one a.0 a.1.limited) (AllLimited-one b.0 b.1.limited) (sym a.2.is ∙ b.2.is) in
    one_from_tree x (number + 1) a.2.rest d e small a.2.holds (subst (λ (l : List ℕ). IsFaultFromTree x (number + 1) l e) (sym same.1) b.2.holds)

-- the line of a root is at no fault
good_root : (n : ℕ) (y : Placement) (zs : List ℤ) (text line rest more : List ℕ) → HasRootLine n y → text ≡ line_text (codes "node") (by_turns y.facilities y.places) ++ more → IsLine text line rest → IsNamed (codes "node") line zs
    → ((x : Placement) → HasRootLine n x → zs ≢ by_turns x.facilities x.places) → ⊥
good_root n y zs text line rest more root is first named bad =
    let p = named_front text (codes "node") more line rest (codes "node") (by_turns y.facilities y.places) zs IsName-root IsName-root no_line-root (AllLimited-by_turns n y root.root) is first named in
    bad y root (sym p.1)

one_from_root : (n : ℕ) (c : ℤ) (text : List ℕ) (d e : ProofError) → n ≤ 256 → IsFaultFromRoot n c text d → IsFaultFromRoot n c text e → d ≡ e
one_from_root n c text d e small (inl a) (inl b) = a.0 ∙ sym b.0
one_from_root n c text d e small (inl a) (inr (inl b)) = absurd (b.0 a.1 a.2 a.3 a.4 a.5)
one_from_root n c text d e small (inl a) (inr (inr b)) = absurd (good_root n b.0 a.3 text a.1 a.2 b.2.rest b.1 b.2.is a.4 a.5 a.6)
one_from_root n c text d e small (inr (inl a)) (inl b) = absurd (a.0 b.1 b.2 b.3 b.4 b.5)
one_from_root n c text d e small (inr (inl a)) (inr (inl b)) = one_from_bound (root_of n) c 5 text d e small a.1 b.1
one_from_root n c text d e small (inr (inl a)) (inr (inr b)) =
    absurd (a.0 (codes "node" ++ numbers_text (by_turns b.0.facilities b.0.places)) b.2.rest (by_turns b.0.facilities b.0.places) (root_line n b.0 text b.2.rest b.1 b.2.is) (named_root n b.0 b.1))
one_from_root n c text d e small (inr (inr a)) (inl b) = absurd (good_root n a.0 b.3 text b.1 b.2 a.2.rest a.1 a.2.is b.4 b.5 b.6)
one_from_root n c text d e small (inr (inr a)) (inr (inl b)) =
    absurd (b.0 (codes "node" ++ numbers_text (by_turns a.0.facilities a.0.places)) a.2.rest (by_turns a.0.facilities a.0.places) (root_line n a.0 text a.2.rest a.1 a.2.is) (named_root n a.0 a.1))
one_from_root n c text d e small (inr (inr a)) (inr (inr b)) =
    let x = a.0 in
    let y = b.0 in
    let p = line_front (codes "node") (by_turns x.facilities x.places) (by_turns y.facilities y.places) a.2.rest b.2.rest no_line-root (AllLimited-by_turns n x a.1.root) (AllLimited-by_turns n y b.1.root) (sym a.2.is ∙ b.2.is) in
    let same : x ≡ y = same_roots n x y a.1.root b.1.root p.0 in
    one_from_bound x c 6 a.2.rest d e a.1.root.placement.small a.2.holds
    (subst (λ (z : Placement). IsFaultFromBound z c 6 a.2.rest e) (sym same) (subst (λ (l : List ℕ). IsFaultFromBound y c 6 l e) (sym p.1) b.2.holds))

-- a permutation's line is at no fault
right_perm : (n : ℕ) (text rest p : List ℕ) (e : ProofError) → IsPerm p → length p ≡ n → text ≡ line_text (codes "perm") (from_one p) ++ rest → IsLineFault 4 text (IsPermFault n) e → ⊥
right_perm n text rest p e perm size is fault =
    perm_line n p e perm size (named_fault (Truncated 4) text (codes "perm") rest (from_one p) (IsPermFault n) e no_line-perm (AllLimited-permutation p perm) is fault)

one_from_perm : (n : ℕ) (c : ℤ) (text : List ℕ) (d e : ProofError) → n ≤ 256 → IsFaultFromPerm n c text d → IsFaultFromPerm n c text e → d ≡ e
one_from_perm n c text d e small (inl a) (inl b) = one_line_fault (Truncated 4) text (IsPermFault n) d e (λ line. one_perm_fault n line d e) a b
one_from_perm n c text d e small (inl a) (inr b) = absurd (right_perm n text b.3.rest b.0 d b.1 b.2 b.3.is a)
one_from_perm n c text d e small (inr a) (inl b) = absurd (right_perm n text a.3.rest a.0 e a.1 a.2 a.3.is b)
one_from_perm n c text d e small (inr a) (inr b) =
    let same = line_front (codes "perm") (from_one a.0) (from_one b.0) a.3.rest b.3.rest no_line-perm (AllLimited-permutation a.0 a.1) (AllLimited-permutation b.0 b.1) (sym a.3.is ∙ b.3.is) in
    one_from_root n c a.3.rest d e small a.3.holds (subst (λ (l : List ℕ). IsFaultFromRoot n c l e) (sym same.1) b.3.holds)

right_cost : (text rest : List ℕ) (c : ℤ) (e : ProofError) → (limited : AllLimited (c ∷ [])) → text ≡ line_text (codes "cost") (c ∷ []) ++ rest → IsLineFault 3 text IsCostFault e → ⊥
right_cost text rest c e limited is fault =
    (named_fault (Truncated 3) text (codes "cost") rest (c ∷ []) IsCostFault e no_line-cost limited is fault).1 c (limited.each 0 (omega arith)) (IsNamed-numbers_text (codes "cost") (c ∷ []) limited)

one_from_cost : (n : ℕ) (text : List ℕ) (d e : ProofError) → n ≤ 256 → IsFaultFromCost n text d → IsFaultFromCost n text e → d ≡ e
one_from_cost n text d e small (inl a) (inl b) = one_line_fault (Truncated 3) text IsCostFault d e (λ line p q. p.0 ∙ sym q.0) a b
one_from_cost n text d e small (inl a) (inr b) = absurd (right_cost text b.2.rest b.0 d (AllLimited-one b.0 b.1) b.2.is a)
one_from_cost n text d e small (inr a) (inl b) = absurd (right_cost text a.2.rest a.0 e (AllLimited-one a.0 a.1) a.2.is b)
one_from_cost n text d e small (inr a) (inr b) =
    let same = line_front (codes "cost") (a.0 ∷ []) (b.0 ∷ []) a.2.rest b.2.rest no_line-cost (AllLimited-one a.0 a.1) (AllLimited-one b.0 b.1) (sym a.2.is ∙ b.2.is) in
    let cost : a.0 ≡ b.0 = ap (λ l. get_or l 0 (pos 0)) same.0 in
    one_from_perm n a.0 a.2.rest d e small a.2.holds
    (subst (λ (z : ℤ). IsFaultFromPerm n z a.2.rest e) (sym cost) (subst (λ (l : List ℕ). IsFaultFromPerm n b.0 l e) (sym same.1) b.2.holds))

right_size : (text rest : List ℕ) (n : ℕ) (e : ProofError) → 0 < n → n ≤ 256 → text ≡ line_text (codes "n") (pos n ∷ []) ++ rest → IsLineFault 2 text IsSizeFault e → ⊥
right_size text rest n e some small is fault =
    (named_fault (Truncated 2) text (codes "n") rest (pos n ∷ []) IsSizeFault e no_line-size (small_number n small) is fault).1 n some small (IsNamed-numbers_text (codes "n") (pos n ∷ []) (small_number n small))

one_from_size : (text : List ℕ) (d e : ProofError) → IsFaultFromSize text d → IsFaultFromSize text e → d ≡ e
one_from_size text d e (inl a) (inl b) = one_line_fault (Truncated 2) text IsSizeFault d e (λ line p q. p.0 ∙ sym q.0) a b
one_from_size text d e (inl a) (inr b) = absurd (right_size text b.3.rest b.0 d b.1 b.2 b.3.is a)
one_from_size text d e (inr a) (inl b) = absurd (right_size text a.3.rest a.0 e a.1 a.2 a.3.is b)
one_from_size text d e (inr a) (inr b) =
    let same = line_front (codes "n") (pos a.0 ∷ []) (pos b.0 ∷ []) a.3.rest b.3.rest no_line-size (small_number a.0 a.2) (small_number b.0 b.2) (sym a.3.is ∙ b.3.is) in
    let size : a.0 ≡ b.0 = same_size a.0 b.0 same.0 in
    one_from_cost a.0 a.3.rest d e a.2 a.3.holds
    (subst (λ (k : ℕ). IsFaultFromCost k a.3.rest e) (sym size) (subst (λ (l : List ℕ). IsFaultFromCost b.0 l e) (sym same.1) b.3.holds))

right_version : (text rest : List ℕ) (e : ProofError) → text ≡ line_text (codes "qapproof") (pos 1 ∷ []) ++ rest → IsLineFault 1 text IsHeaderFault e → ⊥
right_version text rest e is fault = header_line e (named_fault (Truncated 1) text (codes "qapproof") rest (pos 1 ∷ []) IsHeaderFault e no_line-version version_limited is fault)

-- there is one first fault of a text at most
pub one_text_fault : (text : List ℕ) (d e : ProofError) → IsTextFault text d → IsTextFault text e → d ≡ e
one_text_fault text d e (inl a) (inl b) = one_line_fault (Truncated 1) text IsHeaderFault d e (λ line. one_header_fault line d e) a b
one_text_fault text d e (inl a) (inr b) = absurd (right_version text b.rest d b.is a)
one_text_fault text d e (inr a) (inl b) = absurd (right_version text a.rest e a.is b)
one_text_fault text d e (inr a) (inr b) =
    let same = line_front (codes "qapproof") (pos 1 ∷ []) (pos 1 ∷ []) a.rest b.rest no_line-version version_limited version_limited (sym a.is ∙ b.is) in
    one_from_size a.rest d e a.holds (subst (λ (l : List ℕ). IsFaultFromSize l e) (sym same.1) b.holds)

-- A text has one first fault.
use Rattle.std.proofs.Common.{◌≡◌, ◌≢◌, ℕ, zero, suc, ◌<◌, ◌≤◌, List, [], ◌∷◌, ◌++◌, length, get_or, ℤ, pos, refl, sym, ap, subst, ◌∙◌, inl, inr, arith, length-append}
use Rattle.std.proofs.lemmas.Bool.{cases_order}
use Rattle.std.specs.Prelude.{codes}
use Rattle.qap_cost.specs.Bijection.{IsPerm}
use Rattle.qap_cost.specs.Range.{AllLimited}
use Rattle.qap_lines.proofs.Fronts.{line_front, line_fault, named_fault, one_line_fault}
use Rattle.qap_lines.proofs.Lines.{IsLine-unique}
use Rattle.qap_lines.proofs.Locations.{AllLimited-permutation}
use Rattle.qap_lines.proofs.NumberLists.{AllLimited-one, IsLine-line_text, IsNamed-unique, IsNamed-numbers_text}
use Rattle.qap_cert.proofs.OneText.{no_line-version, no_line-size, no_line-cost, no_line-perm, no_line-split, no_line-below, no_line-end, split_line, split_named, split_or_bound, small_number, trees_front, tree_front, next_tree, no_tree_fault, header_line, perm_line}
use Rattle.qap_cert.proofs.Versions.{AllLimited-split_numbers, same_facility, same_number, one_version, version_limited}
use Rattle.qap_lines.specs.Line.{line_after, IsLine}
use Rattle.qap_lines.specs.Number.{IsNamed}
use Rattle.qap_cert.specs.Shape.{AllHaveShape, child_count}
use Rattle.qap_io.specs.Number.{from_one}
use Rattle.qap_lines.specs.LineText.{numbers_text, line_text}
use Rattle.qap_cert.specs.Text.{trees_text}
use Rattle.qap_cert.specs.TextFault.{IsLineFault, IsHeaderFault, IsSizeFault, IsCostFault, IsPermFault, IsNodeFault, IsTreeTextFault, IsEndFault, IsBelow, IsFaultFromTree, IsFaultFromBound, IsFaultFromPerm, IsFaultFromCost, IsFaultFromSize, IsTextFault}
use Rattle.qap_cert.specs.Tree.{Node, Nodes, node_count, nodes_count}
use Rattle.qap_cert.specs.Version.{version_number, split_numbers}
use Rattle.qap_cert.specs.declared.error.CertError.{CertError}
use Rattle.qap_cert.specs.declared.error.CertError.TheVariants.{BadHeader, BadVersion, BadLine, Truncated, PermBad, SplitTooDeep, FacilityTaken, DualCount, DualRange}
use Rattle.qap_cert.specs.declared.version.Version.{Version}
use Rattle.qap_cert.specs.declared.version.Version.TheVariants.{First, Second}

one_header_fault : (line : List ℕ) (d e : CertError) → IsHeaderFault line d → IsHeaderFault line e → d ≡ e
one_header_fault line BadHeader BadHeader a b = refl
one_header_fault line BadHeader BadVersion a b = absurd (a b.0 (omega (arith, b.1)) b.2)
one_header_fault line BadVersion BadHeader a b = absurd (b a.0 (omega (arith, a.1)) a.2)
one_header_fault line BadVersion BadVersion a b = refl
one_header_fault line BadHeader _ a b = absurd b
one_header_fault line BadVersion _ a b = absurd b
one_header_fault line _ e a b = absurd a

one_perm_fault : (n : ℕ) (line : List ℕ) (d e : CertError) → IsPermFault n line d → IsPermFault n line e → d ≡ e
one_perm_fault n line (BadLine i) (BadLine j) a b = ap BadLine (a.0 ∙ sym b.0)
one_perm_fault n line (BadLine i) (PermBad j) a b = absurd (a.1 b.1 b.2 b.3)
one_perm_fault n line (PermBad i) (BadLine j) a b = absurd (b.1 a.1 a.2 a.3)
one_perm_fault n line (PermBad i) (PermBad j) a b = ap PermBad (a.0 ∙ sym b.0)
one_perm_fault n line (BadLine i) _ a b = absurd b
one_perm_fault n line (PermBad i) _ a b = absurd b
one_perm_fault n line _ e a b = absurd a

one_node_fault : (v : Version) (n : ℕ) (placed : List ℕ) (number : ℕ) (line : List ℕ) (d e : CertError) → IsNodeFault v n placed number line d → IsNodeFault v n placed number line e → d ≡ e
one_node_fault v n placed number line (BadLine i) (BadLine j) a b = ap BadLine (a.0 ∙ sym b.0)
one_node_fault v n placed number line (BadLine i) (SplitTooDeep j) a b = absurd (a.1 b.1 b.2)
one_node_fault v n placed number line (BadLine i) (FacilityTaken j) a b = absurd (a.1 b.1 b.2)
one_node_fault v n placed number line (BadLine i) (DualCount j) a b = absurd (a.2 b.1 b.2)
one_node_fault v n placed number line (BadLine i) (DualRange j) a b = absurd (a.2 b.1 b.2)
one_node_fault v n placed number line (SplitTooDeep i) (BadLine j) a b = absurd (b.1 a.1 a.2)
one_node_fault v n placed number line (SplitTooDeep i) (SplitTooDeep j) a b = ap SplitTooDeep (a.0 ∙ sym b.0)
one_node_fault v n placed number line (SplitTooDeep i) (FacilityTaken j) a b = absurd (omega (arith, a.3, b.3))
one_node_fault v n placed number line (SplitTooDeep i) (DualCount j) a b = absurd (split_or_bound v n placed line a.1 b.1 a.2 b.2)
one_node_fault v n placed number line (SplitTooDeep i) (DualRange j) a b = absurd (split_or_bound v n placed line a.1 b.1 a.2 b.2)
one_node_fault v n placed number line (FacilityTaken i) (BadLine j) a b = absurd (b.1 a.1 a.2)
one_node_fault v n placed number line (FacilityTaken i) (SplitTooDeep j) a b = absurd (omega (arith, a.3, b.3))
one_node_fault v n placed number line (FacilityTaken i) (FacilityTaken j) a b = ap FacilityTaken (a.0 ∙ sym b.0)
one_node_fault v n placed number line (FacilityTaken i) (DualCount j) a b = absurd (split_or_bound v n placed line a.1 b.1 a.2 b.2)
one_node_fault v n placed number line (FacilityTaken i) (DualRange j) a b = absurd (split_or_bound v n placed line a.1 b.1 a.2 b.2)
one_node_fault v n placed number line (DualCount i) (BadLine j) a b = absurd (b.2 a.1 a.2)
one_node_fault v n placed number line (DualCount i) (SplitTooDeep j) a b = absurd (split_or_bound v n placed line b.1 a.1 b.2 a.2)
one_node_fault v n placed number line (DualCount i) (FacilityTaken j) a b = absurd (split_or_bound v n placed line b.1 a.1 b.2 a.2)
one_node_fault v n placed number line (DualCount i) (DualCount j) a b = ap DualCount (a.0 ∙ sym b.0)
one_node_fault v n placed number line (DualCount i) (DualRange j) a b =
    absurd (a.3 (ap length (IsNamed-unique (codes "b") line a.1 b.1 a.2 b.2) ∙ b.3))
one_node_fault v n placed number line (DualRange i) (BadLine j) a b = absurd (b.2 a.1 a.2)
one_node_fault v n placed number line (DualRange i) (SplitTooDeep j) a b = absurd (split_or_bound v n placed line b.1 a.1 b.2 a.2)
one_node_fault v n placed number line (DualRange i) (FacilityTaken j) a b = absurd (split_or_bound v n placed line b.1 a.1 b.2 a.2)
one_node_fault v n placed number line (DualRange i) (DualCount j) a b =
    absurd (b.3 (ap length (IsNamed-unique (codes "b") line b.1 a.1 b.2 a.2) ∙ a.3))
one_node_fault v n placed number line (DualRange i) (DualRange j) a b = ap DualRange (a.0 ∙ sym b.0)
one_node_fault v n placed number line (BadLine i) _ a b = absurd b
one_node_fault v n placed number line (SplitTooDeep i) _ a b = absurd b
one_node_fault v n placed number line (FacilityTaken i) _ a b = absurd b
one_node_fault v n placed number line (DualCount i) _ a b = absurd b
one_node_fault v n placed number line (DualRange i) _ a b = absurd b
one_node_fault v n placed number line _ e a b = absurd a

-- the line of a split on a free facility is at no fault
no_split_fault : (v : Version) (n : ℕ) (placed : List ℕ) (number : ℕ) (text : List ℕ) (e : CertError) (fault : IsLineFault number text (IsNodeFault v n placed number) e)
    (m : ℕ) (d : CertError) → n ≤ 256 → IsTreeTextFault v n (suc m) placed number text d → d ≡ e
no_split_fault v n placed number text e fault m d small (inl a) = one_line_fault (Truncated number) text (IsNodeFault v n placed number) d e (λ line. one_node_fault v n placed number line d e) a fault
no_split_fault v n placed number text e fault m d small (inr a) =
    let some : length placed < n = omega (arith, a.5.4, length-append placed (a.0 ∷ [])) in
    absurd (split_line v n placed (codes "s" ++ numbers_text (split_numbers v a.0)) number a.0 e some a.4 (split_named v n placed a.0 small a.3)
    (named_fault (Truncated number) text (codes "s") a.1 (split_numbers v a.0) (IsNodeFault v n placed number) e no_line-split (AllLimited-split_numbers v n placed a.0 small a.3) a.2 fault))

one_tree_fault : (v : Version) (n m : ℕ) (placed : List ℕ) (number : ℕ) (text : List ℕ) (d e : CertError) → n ≤ 256 → IsTreeTextFault v n m placed number text d → IsTreeTextFault v n m placed number text e → d ≡ e
one_tree_fault v n zero placed number text d e small a b = one_line_fault (Truncated number) text (IsNodeFault v n placed number) d e (λ line. one_node_fault v n placed number line d e) a b
one_tree_fault v n (suc m) placed number text d e small a (inl b) = no_split_fault v n placed number text e b m d small a
one_tree_fault v n (suc m) placed number text d e small (inl a) (inr b) = sym (no_split_fault v n placed number text d a m e small (inr b))
one_tree_fault v n (suc m) placed number text d e small (inr a) (inr b) =
    let f = a.0 in
    let inner : List ℕ = placed ++ f ∷ [] in
    let first = line_front (codes "s") (split_numbers v f) (split_numbers v b.0) a.1 b.1 no_line-split (AllLimited-split_numbers v n placed f small a.3) (AllLimited-split_numbers v n placed b.0 small b.3) (sym a.2 ∙ b.2) in
    let same : f ≡ b.0 = same_facility v n placed f b.0 a.3 b.3 first.0 in
    let start : ℕ = line_after number 1 in
    let p = a.5 in
    let q = b.5 in
    let shapes : AllHaveShape v n inner q.0 = subst (λ (j : ℕ). AllHaveShape v n (placed ++ j ∷ []) q.0) (sym same) q.3 in
    let second : IsTreeTextFault v n m inner (line_after start (nodes_count q.0)) q.1 e = subst (λ (j : ℕ). IsTreeTextFault v n m (placed ++ j ∷ []) (line_after start (nodes_count q.0)) q.1 e) (sym same) q.5 in
    let both : trees_text v p.0 ++ p.1 ≡ trees_text v q.0 ++ q.1 = sym p.2 ∙ first.1 ∙ q.2 in
    elim (cases_order (child_count p.0) (child_count q.0)) [
      | inl equal ↦
          let r = trees_front p.0 q.0 v n inner p.1 q.1 small p.3 shapes equal both in
          let moved = subst (λ (l : List ℕ). IsTreeTextFault v n m inner (line_after start (nodes_count p.0)) l e) (sym r.1)
          (subst (λ (ts : Nodes). IsTreeTextFault v n m inner (line_after start (nodes_count ts)) q.1 e) (sym r.0) second) in
          one_tree_fault v n m inner (line_after start (nodes_count p.0)) p.1 d e small p.5 moved
      | inr (inl fewer) ↦
          let s = next_tree p.0 q.0 v n inner q.1 p.1 small p.3 shapes fewer (sym both) in
          absurd (no_tree_fault v n m inner (line_after start (nodes_count p.0)) s.0 p.1 s.1 d small s.2 s.3 p.5)
      | inr (inr more) ↦
          let s = next_tree q.0 p.0 v n inner p.1 q.1 small shapes p.3 more both in
          absurd (no_tree_fault v n m inner (line_after start (nodes_count q.0)) s.0 q.1 s.1 e small s.2 s.3 second)
    ]

is_end : (text rest : List ℕ) → text ≡ codes "end\n" ++ rest → IsLine text (codes "end") rest
is_end text rest is = record { is = is; first = no_line-end }

one_end_fault : (number : ℕ) (text : List ℕ) (d e : CertError) → IsEndFault number text d → IsEndFault number text e → d ≡ e
one_end_fault number text d e (inl a) (inl b) = one_line_fault (Truncated number) text (λ line f. (f ≡ BadLine number) × (line ≢ codes "end")) d e (λ line p q. p.0 ∙ sym q.0) a b
one_end_fault number text d e (inl a) (inr b) =
    let p = line_fault (Truncated number) text (codes "end") b.1 (λ line f. (f ≡ BadLine number) × (line ≢ codes "end")) d (is_end text b.1 b.3) a in absurd (p.1 refl)
one_end_fault number text d e (inr a) (inl b) =
    let p = line_fault (Truncated number) text (codes "end") a.1 (λ line f. (f ≡ BadLine number) × (line ≢ codes "end")) e (is_end text a.1 a.3) b in absurd (p.1 refl)
one_end_fault number text d e (inr a) (inr b) = a.0 ∙ sym b.0

one_from_tree : (v : Version) (n number : ℕ) (text : List ℕ) (d e : CertError) → n ≤ 256 → IsFaultFromTree v n number text d → IsFaultFromTree v n number text e → d ≡ e
one_from_tree v n number text d e small (inl a) (inl b) = one_tree_fault v n n [] number text d e small a b
one_from_tree v n number text d e small (inl a) (inr b) = absurd (no_tree_fault v n n [] number b.0 text b.2.rest d small b.1 b.2.is a)
one_from_tree v n number text d e small (inr a) (inl b) = absurd (no_tree_fault v n n [] number a.0 text a.2.rest e small a.1 a.2.is b)
one_from_tree v n number text d e small (inr a) (inr b) =
    let p = tree_front a.0 b.0 v n [] a.2.rest b.2.rest small a.1 b.1 (sym a.2.is ∙ b.2.is) in
    one_end_fault (line_after number (node_count a.0)) a.2.rest d e a.2.holds
    (subst (λ (t : Node). IsEndFault (line_after number (node_count t)) a.2.rest e) (sym p.0) (subst (λ (l : List ℕ). IsEndFault (line_after number (node_count b.0)) l e) (sym p.1) b.2.holds))

-- a text whose fifth line states a bound
states : (text rest : List ℕ) (g : ℤ) (c : ℤ) → IsBelow c g → text ≡ line_text (codes "bound") (g ∷ []) ++ rest → IsLine text (codes "bound" ++ numbers_text (g ∷ [])) rest
states text rest g c low is =
    subst (λ (l : List ℕ). IsLine l (codes "bound" ++ numbers_text (g ∷ [])) rest) (sym is) (IsLine-line_text rest (codes "bound") (g ∷ []) no_line-below (AllLimited-one g low.limited))

states_other : (text line rest more : List ℕ) (g z : ℤ) (c : ℤ) → IsBelow c g → text ≡ line_text (codes "bound") (g ∷ []) ++ more → IsLine text line rest → IsNamed (codes "bound") line (z ∷ []) → (IsBelow c z → ⊥) → ⊥
states_other text line rest more g z c low is first named high =
    let same = IsLine-unique text (codes "bound" ++ numbers_text (g ∷ [])) more line rest (states text more g c low is) first in
    let numbers = IsNamed-unique (codes "bound") line (g ∷ []) (z ∷ []) (subst (λ (l : List ℕ). IsNamed (codes "bound") l (g ∷ [])) same.0 (IsNamed-numbers_text (codes "bound") (g ∷ []) (AllLimited-one g low.limited))) named in
    high (subst (IsBelow c) (ap (λ l. get_or l 0 (pos 0)) numbers) low)

one_from_bound : (v : Version) (n : ℕ) (c : ℤ) (text : List ℕ) (d e : CertError) → n ≤ 256 → IsFaultFromBound v n c text d → IsFaultFromBound v n c text e → d ≡ e
one_from_bound First n c text d e small a b = one_from_tree First n 5 text d e small a b
one_from_bound Second n c text d e small (inl a) (inl b) = a.0 ∙ sym b.0
one_from_bound Second n c text d e small (inl a) (inr (inl b)) = absurd (b.0 a.1 a.2 a.3 a.4 a.5)
one_from_bound Second n c text d e small (inl a) (inr (inr b)) = absurd (states_other text a.1 a.2 b.2.rest b.0 a.3 c b.1 b.2.is a.4 a.5 a.6)
one_from_bound Second n c text d e small (inr (inl a)) (inl b) = absurd (a.0 b.1 b.2 b.3 b.4 b.5)
one_from_bound Second n c text d e small (inr (inl a)) (inr (inl b)) = one_from_tree Second n 5 text d e small a.1 b.1
one_from_bound Second n c text d e small (inr (inl a)) (inr (inr b)) =
    absurd (a.0 (codes "bound" ++ numbers_text (b.0 ∷ [])) b.2.rest b.0 (states text b.2.rest b.0 c b.1 b.2.is) (IsNamed-numbers_text (codes "bound") (b.0 ∷ []) (AllLimited-one b.0 b.1.limited)))
one_from_bound Second n c text d e small (inr (inr a)) (inl b) = absurd (states_other text b.1 b.2 a.2.rest a.0 b.3 c a.1 a.2.is b.4 b.5 b.6)
one_from_bound Second n c text d e small (inr (inr a)) (inr (inl b)) =
    absurd (b.0 (codes "bound" ++ numbers_text (a.0 ∷ [])) a.2.rest a.0 (states text a.2.rest a.0 c a.1 a.2.is) (IsNamed-numbers_text (codes "bound") (a.0 ∷ []) (AllLimited-one a.0 a.1.limited)))
one_from_bound Second n c text d e small (inr (inr a)) (inr (inr b)) =
    let same = line_front (codes "bound") (a.0 ∷ []) (b.0 ∷ []) a.2.rest b.2.rest no_line-below (AllLimited-one a.0 a.1.limited) (AllLimited-one b.0 b.1.limited) (sym a.2.is ∙ b.2.is) in
    one_from_tree Second n 6 a.2.rest d e small a.2.holds (subst (λ (l : List ℕ). IsFaultFromTree Second n 6 l e) (sym same.1) b.2.holds)

-- a permutation's line is at no fault
right_perm : (n : ℕ) (text rest p : List ℕ) (e : CertError) → IsPerm p → length p ≡ n → text ≡ line_text (codes "perm") (from_one p) ++ rest → IsLineFault 4 text (IsPermFault n) e → ⊥
right_perm n text rest p e perm size is fault =
    perm_line n p e perm size (named_fault (Truncated 4) text (codes "perm") rest (from_one p) (IsPermFault n) e no_line-perm (AllLimited-permutation p perm) is fault)

one_from_perm : (v : Version) (n : ℕ) (c : ℤ) (text : List ℕ) (d e : CertError) → n ≤ 256 → IsFaultFromPerm v n c text d → IsFaultFromPerm v n c text e → d ≡ e
one_from_perm v n c text d e small (inl a) (inl b) = one_line_fault (Truncated 4) text (IsPermFault n) d e (λ line. one_perm_fault n line d e) a b
one_from_perm v n c text d e small (inl a) (inr b) = absurd (right_perm n text b.3.rest b.0 d b.1 b.2 b.3.is a)
one_from_perm v n c text d e small (inr a) (inl b) = absurd (right_perm n text a.3.rest a.0 e a.1 a.2 a.3.is b)
one_from_perm v n c text d e small (inr a) (inr b) =
    let same = line_front (codes "perm") (from_one a.0) (from_one b.0) a.3.rest b.3.rest no_line-perm (AllLimited-permutation a.0 a.1) (AllLimited-permutation b.0 b.1) (sym a.3.is ∙ b.3.is) in
    one_from_bound v n c a.3.rest d e small a.3.holds (subst (λ (l : List ℕ). IsFaultFromBound v n c l e) (sym same.1) b.3.holds)

right_cost : (text rest : List ℕ) (c : ℤ) (e : CertError) → (limited : AllLimited (c ∷ [])) → text ≡ line_text (codes "cost") (c ∷ []) ++ rest → IsLineFault 3 text IsCostFault e → ⊥
right_cost text rest c e limited is fault =
    (named_fault (Truncated 3) text (codes "cost") rest (c ∷ []) IsCostFault e no_line-cost limited is fault).1 c (limited.each 0 (omega arith)) (IsNamed-numbers_text (codes "cost") (c ∷ []) limited)

one_from_cost : (v : Version) (n : ℕ) (text : List ℕ) (d e : CertError) → n ≤ 256 → IsFaultFromCost v n text d → IsFaultFromCost v n text e → d ≡ e
one_from_cost v n text d e small (inl a) (inl b) = one_line_fault (Truncated 3) text IsCostFault d e (λ line p q. p.0 ∙ sym q.0) a b
one_from_cost v n text d e small (inl a) (inr b) = absurd (right_cost text b.2.rest b.0 d (AllLimited-one b.0 b.1) b.2.is a)
one_from_cost v n text d e small (inr a) (inl b) = absurd (right_cost text a.2.rest a.0 e (AllLimited-one a.0 a.1) a.2.is b)
one_from_cost v n text d e small (inr a) (inr b) =
    let same = line_front (codes "cost") (a.0 ∷ []) (b.0 ∷ []) a.2.rest b.2.rest no_line-cost (AllLimited-one a.0 a.1) (AllLimited-one b.0 b.1) (sym a.2.is ∙ b.2.is) in
    let cost : a.0 ≡ b.0 = ap (λ l. get_or l 0 (pos 0)) same.0 in
    one_from_perm v n a.0 a.2.rest d e small a.2.holds
    (subst (λ (z : ℤ). IsFaultFromPerm v n z a.2.rest e) (sym cost) (subst (λ (l : List ℕ). IsFaultFromPerm v n b.0 l e) (sym same.1) b.2.holds))

right_size : (text rest : List ℕ) (n : ℕ) (e : CertError) → 0 < n → n ≤ 256 → text ≡ line_text (codes "n") (pos n ∷ []) ++ rest → IsLineFault 2 text IsSizeFault e → ⊥
right_size text rest n e some small is fault =
    (named_fault (Truncated 2) text (codes "n") rest (pos n ∷ []) IsSizeFault e no_line-size (small_number n small) is fault).1 n some small (IsNamed-numbers_text (codes "n") (pos n ∷ []) (small_number n small))

one_from_size : (v : Version) (text : List ℕ) (d e : CertError) → IsFaultFromSize v text d → IsFaultFromSize v text e → d ≡ e
one_from_size v text d e (inl a) (inl b) = one_line_fault (Truncated 2) text IsSizeFault d e (λ line p q. p.0 ∙ sym q.0) a b
one_from_size v text d e (inl a) (inr b) = absurd (right_size text b.3.rest b.0 d b.1 b.2 b.3.is a)
one_from_size v text d e (inr a) (inl b) = absurd (right_size text a.3.rest a.0 e a.1 a.2 a.3.is b)
one_from_size v text d e (inr a) (inr b) =
    let same = line_front (codes "n") (pos a.0 ∷ []) (pos b.0 ∷ []) a.3.rest b.3.rest no_line-size (small_number a.0 a.2) (small_number b.0 b.2) (sym a.3.is ∙ b.3.is) in
    let size : a.0 ≡ b.0 = same_number a.0 b.0 same.0 in
    one_from_cost v a.0 a.3.rest d e a.2 a.3.holds
    (subst (λ (k : ℕ). IsFaultFromCost v k a.3.rest e) (sym size) (subst (λ (l : List ℕ). IsFaultFromCost v b.0 l e) (sym same.1) b.3.holds))

right_version : (text rest : List ℕ) (v : Version) (e : CertError) → text ≡ line_text (codes "qapcert") (pos (version_number v) ∷ []) ++ rest → IsLineFault 1 text IsHeaderFault e → ⊥
right_version text rest v e is fault =
    header_line v e (named_fault (Truncated 1) text (codes "qapcert") rest (pos (version_number v) ∷ []) IsHeaderFault e no_line-version (version_limited v) is fault)

-- a text has one first fault at most
pub one_text_fault : (text : List ℕ) (d e : CertError) → IsTextFault text d → IsTextFault text e → d ≡ e
one_text_fault text d e (inl a) (inl b) = one_line_fault (Truncated 1) text IsHeaderFault d e (λ line. one_header_fault line d e) a b
one_text_fault text d e (inl a) (inr b) = absurd (right_version text b.1.rest b.0 d b.1.is a)
one_text_fault text d e (inr a) (inl b) = absurd (right_version text a.1.rest a.0 e a.1.is b)
one_text_fault text d e (inr a) (inr b) =
    let same = line_front (codes "qapcert") (pos (version_number a.0) ∷ []) (pos (version_number b.0) ∷ []) a.1.rest b.1.rest no_line-version (version_limited a.0) (version_limited b.0) (sym a.1.is ∙ b.1.is) in
    let version : a.0 ≡ b.0 = one_version a.0 b.0 same.0 in
    one_from_size a.0 a.1.rest d e a.1.holds
    (subst (λ (v : Version). IsFaultFromSize v a.1.rest e) (sym version) (subst (λ (l : List ℕ). IsFaultFromSize b.0 l e) (sym same.1) b.1.holds))

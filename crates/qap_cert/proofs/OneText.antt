-- A text is that of one certificate at most, and the text of a certificate has no fault.
use Rattle.std.proofs.Common.{◌≡◌, ◌≢◌, ℕ, zero, suc, ◌+◌, ◌-◌, ◌<◌, ◌≤◌, List, [], ◌∷◌, ◌++◌, length, drop, get_or, ℤ, pos, refl, sym, ap, ap₂, subst, ◌∙◌, inl, inr, arith, append_assoc, length-append}
use Rattle.std.proofs.lemmas.Int.{ints, by_lt_z}
use Rattle.std.proofs.lemmas.List.{length-map}
use Rattle.std.specs.Prelude.{codes, ◌⊎◌}
use Rattle.qap_cost.specs.Bijection.{IsPerm}
use Rattle.qap_cost.specs.Placement.{IsFree}
use Rattle.qap_cost.specs.Range.{AllLimited}
use Rattle.qap_lines.proofs.Fronts.{no_line-nil, line_front, line_fault, named_fault}
use Rattle.qap_lines.proofs.Limits.{AllLimited-append, same_halves}
use Rattle.qap_lines.proofs.Lines.{HasNoLine-cons, IsLine-unique}
use Rattle.qap_lines.proofs.Locations.{AllLimited-permutation, from_one-injective}
use Rattle.qap_lines.proofs.NumberLists.{AllLimited-one, IsLine-line_text, IsNamed-unique, IsNamed-numbers_text}
use Rattle.qap_cert.proofs.Versions.{AllLimited-split_numbers, same_facility, same_number, one_version, version_small, version_limited, bound_text-below, bound_text-equal}
use Rattle.qap_lines.specs.Bound.{IsBoundFor}
use Rattle.qap_cert.specs.Certificate.{Claim, claim_of, IsCertificate}
use Rattle.qap_lines.specs.Line.{line_after, HasNoLine, IsLine}
use Rattle.qap_lines.specs.Number.{IsNamed}
use Rattle.gilmore_lawler.specs.Closing.{AreDuals}
use Rattle.qap_cert.specs.Shape.{HasShape, AllHaveShape, child_count}
use Rattle.qap_io.specs.Number.{from_one}
use Rattle.qap_lines.specs.LineText.{numbers_text, line_text}
use Rattle.qap_cert.specs.Text.{tree_text, trees_text, bound_text, certificate_text, IsCertificateText}
use Rattle.qap_cert.specs.TextFault.{IsLineFault, IsHeaderFault, IsSizeFault, IsCostFault, IsPermFault, IsSplitLine, IsNodeFault, IsTreeTextFault, IsEndFault, IsBelow, IsFaultFromTree, IsFaultFromBound, IsFaultFromPerm, IsFaultFromCost, IsFaultFromSize, IsTextFault}
use Rattle.qap_cert.specs.Tree.{Node, split, bound, Nodes, no_nodes, node, node_count, nodes_count}
use Rattle.qap_cert.specs.Version.{version_number, MayName, MayBound, split_numbers}
use Rattle.qap_cert.specs.declared.error.CertError.{CertError}
use Rattle.qap_cert.specs.declared.error.CertError.TheVariants.{BadHeader, BadVersion, BadLine, Truncated, PermBad, SplitTooDeep, FacilityTaken, DualCount, DualRange}
use Rattle.qap_cert.specs.declared.version.Version.{Version}
use Rattle.qap_cert.specs.declared.version.Version.TheVariants.{First, Second}

-- the names of the lines

-- the name of the version's line has no line feed
pub no_line-version : HasNoLine (codes "qapcert")
no_line-version = HasNoLine-cons 113 _ (λ e. omega arith) (HasNoLine-cons 97 _ (λ e. omega arith) (HasNoLine-cons 112 _ (λ e. omega arith)
    (HasNoLine-cons 99 _ (λ e. omega arith) (HasNoLine-cons 101 _ (λ e. omega arith) (HasNoLine-cons 114 _ (λ e. omega arith) (HasNoLine-cons 116 _ (λ e. omega arith) no_line-nil))))))

-- nor has that of the size's line
pub no_line-size : HasNoLine (codes "n")
no_line-size = HasNoLine-cons 110 _ (λ e. omega arith) no_line-nil

-- nor has that of the cost's line
pub no_line-cost : HasNoLine (codes "cost")
no_line-cost = HasNoLine-cons 99 _ (λ e. omega arith) (HasNoLine-cons 111 _ (λ e. omega arith) (HasNoLine-cons 115 _ (λ e. omega arith) (HasNoLine-cons 116 _ (λ e. omega arith) no_line-nil)))

-- nor has that of the permutation's line
pub no_line-perm : HasNoLine (codes "perm")
no_line-perm = HasNoLine-cons 112 _ (λ e. omega arith) (HasNoLine-cons 101 _ (λ e. omega arith) (HasNoLine-cons 114 _ (λ e. omega arith) (HasNoLine-cons 109 _ (λ e. omega arith) no_line-nil)))

no_line-bound : HasNoLine (codes "b")
no_line-bound = HasNoLine-cons 98 _ (λ e. omega arith) no_line-nil

-- nor has that of a split's line
pub no_line-split : HasNoLine (codes "s")
no_line-split = HasNoLine-cons 115 _ (λ e. omega arith) no_line-nil

-- nor has that of the bound's line
pub no_line-below : HasNoLine (codes "bound")
no_line-below = HasNoLine-cons 98 _ (λ e. omega arith) (HasNoLine-cons 111 _ (λ e. omega arith) (HasNoLine-cons 117 _ (λ e. omega arith) (HasNoLine-cons 110 _ (λ e. omega arith) (HasNoLine-cons 100 _ (λ e. omega arith) no_line-nil))))

-- nor has the last line
pub no_line-end : HasNoLine (codes "end")
no_line-end = HasNoLine-cons 101 _ (λ e. omega arith) (HasNoLine-cons 110 _ (λ e. omega arith) (HasNoLine-cons 100 _ (λ e. omega arith) no_line-nil))

-- a tree at the front of a text

-- texts whose first bytes differ
differ : (b c : ℕ) (bs cs : List ℕ) → (b ≡ c → ⊥) → b ∷ bs ≡ c ∷ cs → ⊥
differ b c bs cs other e = other (ap (λ l. get_or l 0 0) e)

split_differs : (bs cs : List ℕ) → 115 ∷ bs ≡ 98 ∷ cs → ⊥
split_differs bs cs e = differ 115 98 bs cs (λ (same : 115 ≡ 98). omega arith) e

mutual
  -- where two texts that begin with trees of a shape are one text, the trees are the same, and so is what follows
  pub tree_front : (t s : Node) (w : Version) (n : ℕ) (placed : List ℕ) (rest more : List ℕ) → n ≤ 256 → HasShape w n placed t → HasShape w n placed s → tree_text w t ++ rest ≡ tree_text w s ++ more → (t ≡ s) × (rest ≡ more)
  tree_front (split f ts) (split g ss) w n placed rest more small h k e =
      let first = line_front (codes "s") (split_numbers w f) (split_numbers w g) (trees_text w ts ++ rest) (trees_text w ss ++ more) no_line-split
      (AllLimited-split_numbers w n placed f small h.2) (AllLimited-split_numbers w n placed g small k.2)
      (sym (append_assoc (line_text (codes "s") (split_numbers w f)) (trees_text w ts) rest) ∙ e ∙ append_assoc (line_text (codes "s") (split_numbers w g)) (trees_text w ss) more) in
      let same : f ≡ g = same_facility w n placed f g h.2 k.2 first.0 in
      let shapes : AllHaveShape w n (placed ++ f ∷ []) ss = subst (λ (j : ℕ). AllHaveShape w n (placed ++ j ∷ []) ss) (sym same) k.4 in
      let p = trees_front ts ss w n (placed ++ f ∷ []) rest more small h.4 shapes (h.3 ∙ sym k.3) first.1 in
      (ap₂ split same p.0, p.1)
  tree_front (split f ts) (bound u v) w n placed rest more small h k e = absurd (split_differs _ _ e)
  tree_front (bound u v) (split g ss) w n placed rest more small h k e = absurd (split_differs _ _ (sym e))
  tree_front (bound u v) (bound y x) w n placed rest more small h k e =
      let p = line_front (codes "b") (u ++ v) (y ++ x) rest more no_line-bound (AllLimited-append u v h.u_range h.v_range) (AllLimited-append y x k.u_range k.v_range) e in
      let q = same_halves u v y x (h.rows ∙ sym k.rows) p.0 in
      (ap₂ bound q.0 q.1, p.1)

  -- the same for as many trees in a row
  pub trees_front : (ts ss : Nodes) (w : Version) (n : ℕ) (placed : List ℕ) (rest more : List ℕ) → n ≤ 256 → AllHaveShape w n placed ts → AllHaveShape w n placed ss → child_count ts ≡ child_count ss
      → trees_text w ts ++ rest ≡ trees_text w ss ++ more → (ts ≡ ss) × (rest ≡ more)
  trees_front no_nodes no_nodes w n placed rest more small h k same e = (refl, e)
  trees_front no_nodes (node s ss) w n placed rest more small h k same e = absurd (omega arith)
  trees_front (node t ts) no_nodes w n placed rest more small h k same e = absurd (omega arith)
  trees_front (node t ts) (node s ss) w n placed rest more small h k same e =
      let p = tree_front t s w n placed (trees_text w ts ++ rest) (trees_text w ss ++ more) small h.0 k.0
      (sym (append_assoc (tree_text w t) (trees_text w ts) rest) ∙ e ∙ append_assoc (tree_text w s) (trees_text w ss) more) in
      let q = trees_front ts ss w n placed rest more small h.1 k.1 (omega arith) p.1 in
      (ap₂ node p.0 q.0, q.1)

-- behind fewer trees than there are, there is one more
pub next_tree : (before ts : Nodes) (w : Version) (n : ℕ) (placed : List ℕ) (rest after : List ℕ) → n ≤ 256 → AllHaveShape w n placed before → AllHaveShape w n placed ts → child_count before < child_count ts
    → trees_text w ts ++ rest ≡ trees_text w before ++ after → (s : Node) × (behind : List ℕ) × HasShape w n placed s × (after ≡ tree_text w s ++ behind)
next_tree no_nodes no_nodes w n placed rest after small h k fewer e = absurd (omega arith)
next_tree no_nodes (node s ss) w n placed rest after small h k fewer e = (s, trees_text w ss ++ rest, k.0, sym e ∙ append_assoc (tree_text w s) (trees_text w ss) rest)
next_tree (node t ts) no_nodes w n placed rest after small h k fewer e = absurd (omega arith)
next_tree (node t ts) (node s ss) w n placed rest after small h k fewer e =
    let p = tree_front s t w n placed (trees_text w ss ++ rest) (trees_text w ts ++ after) small k.0 h.0
    (sym (append_assoc (tree_text w s) (trees_text w ss) rest) ∙ e ∙ append_assoc (tree_text w t) (trees_text w ts) after) in
    next_tree ts ss w n placed rest after small h.1 k.1 (omega arith) p.1

-- the text of a tree has no fault

-- a split's line names one facility, and is none of a bound
pub split_named : (w : Version) (n : ℕ) (placed : List ℕ) (f : ℕ) → n ≤ 256 → MayName w n placed f → IsSplitLine w n placed (codes "s" ++ numbers_text (split_numbers w f)) f
split_named w n placed f small may = record { named = IsNamed-numbers_text (codes "s") (split_numbers w f) (AllLimited-split_numbers w n placed f small may); allowed = may }

one_split : (w : Version) (n : ℕ) (placed line : List ℕ) (f g : ℕ) → IsSplitLine w n placed line f → IsSplitLine w n placed line g → f ≡ g
one_split w n placed line f g a b =
    same_facility w n placed f g a.allowed b.allowed (IsNamed-unique (codes "s") line (split_numbers w f) (split_numbers w g) a.named b.named)

-- no line is both a split's and that of duals
pub split_or_bound : (w : Version) (n : ℕ) (placed line : List ℕ) (f : ℕ) (zs : List ℤ) → IsSplitLine w n placed line f → IsNamed (codes "b") line zs → ⊥
split_or_bound w n placed line f zs a b = split_differs _ _ (sym a.named.is ∙ b.is)

-- a split's line that names a free facility has no fault
pub split_line : (w : Version) (n : ℕ) (placed line : List ℕ) (number f : ℕ) (e : CertError) → length placed < n → IsFree n placed f → IsSplitLine w n placed line f → IsNodeFault w n placed number line e → ⊥
split_line w n placed line number f (BadLine at) some free is h = h.1 f is
split_line w n placed line number f (SplitTooDeep at) some free is h = absurd (omega (arith, h.3, some))
split_line w n placed line number f (FacilityTaken at) some free is h =
    h.4 (subst (IsFree n placed) (one_split w n placed line f h.1 is h.2) free)
split_line w n placed line number f (DualCount at) some free is h = split_or_bound w n placed line f h.1 is h.2
split_line w n placed line number f (DualRange at) some free is h = split_or_bound w n placed line f h.1 is h.2
split_line w n placed line number f _ some free is h = absurd h

bound_line : (w : Version) (n : ℕ) (placed : List ℕ) (number : ℕ) (u v : List ℤ) (e : CertError) → AreDuals (n - length placed) u v → IsNodeFault w n placed number (codes "b" ++ numbers_text (u ++ v)) e → ⊥
bound_line w n placed number u v (BadLine at) d h = h.2 (u ++ v) (IsNamed-numbers_text (codes "b") (u ++ v) (AllLimited-append u v d.u_range d.v_range))
bound_line w n placed number u v (SplitTooDeep at) d h = split_differs _ _ (sym h.2.named.is)
bound_line w n placed number u v (FacilityTaken at) d h = split_differs _ _ (sym h.2.named.is)
bound_line w n placed number u v (DualCount at) d h =
    let within = AllLimited-append u v d.u_range d.v_range in
    let same = IsNamed-unique (codes "b") (codes "b" ++ numbers_text (u ++ v)) h.1 (u ++ v) h.2 (IsNamed-numbers_text (codes "b") (u ++ v) within) in
    absurd (h.3 (omega (arith, ap length same, length-append u v, d.rows, d.columns)))
bound_line w n placed number u v (DualRange at) d h =
    let within = AllLimited-append u v d.u_range d.v_range in
    let same = IsNamed-unique (codes "b") (codes "b" ++ numbers_text (u ++ v)) h.1 (u ++ v) h.2 (IsNamed-numbers_text (codes "b") (u ++ v) within) in
    h.4 (subst AllLimited (sym same) within)
bound_line w n placed number u v _ d h = absurd h

no_node_fault : (w : Version) (n : ℕ) (placed : List ℕ) (number : ℕ) (t : Node) (text rest : List ℕ) (e : CertError) → n ≤ 256 → HasShape w n placed t → text ≡ tree_text w t ++ rest
    → IsLineFault number text (IsNodeFault w n placed number) e → ⊥
no_node_fault w n placed number (split f children) text rest e small h is fault =
    split_line w n placed (codes "s" ++ numbers_text (split_numbers w f)) number f e h.0 h.1 (split_named w n placed f small h.2)
    (named_fault (Truncated number) text (codes "s") (trees_text w children ++ rest) (split_numbers w f) (IsNodeFault w n placed number) e no_line-split (AllLimited-split_numbers w n placed f small h.2)
    (is ∙ append_assoc (line_text (codes "s") (split_numbers w f)) (trees_text w children) rest) fault)
no_node_fault w n placed number (bound u v) text rest e small h is fault =
    bound_line w n placed number u v e h (named_fault (Truncated number) text (codes "b") rest (u ++ v) (IsNodeFault w n placed number) e no_line-bound (AllLimited-append u v h.u_range h.v_range) is fault)

-- a text that begins with that of a tree of the right shape has no fault of a tree
pub no_tree_fault : (w : Version) (n m : ℕ) (placed : List ℕ) (number : ℕ) (t : Node) (text rest : List ℕ) (e : CertError) → n ≤ 256 → HasShape w n placed t → text ≡ tree_text w t ++ rest → IsTreeTextFault w n m placed number text e → ⊥
no_tree_fault w n zero placed number t text rest e small h is fault = no_node_fault w n placed number t text rest e small h is fault
no_tree_fault w n (suc m) placed number t text rest e small h is (inl fault) = no_node_fault w n placed number t text rest e small h is fault
no_tree_fault w n (suc m) placed number (bound u v) text rest e small h is (inr fault) =
    split_differs _ _ (sym fault.2 ∙ is)
no_tree_fault w n (suc m) placed number (split f children) text rest e small h is (inr fault) =
    let first = line_front (codes "s") (split_numbers w f) (split_numbers w fault.0) (trees_text w children ++ rest) fault.1 no_line-split
    (AllLimited-split_numbers w n placed f small h.2) (AllLimited-split_numbers w n placed fault.0 small fault.3)
    (sym (append_assoc (line_text (codes "s") (split_numbers w f)) (trees_text w children) rest) ∙ sym is ∙ fault.2) in
    let same : f ≡ fault.0 = same_facility w n placed f fault.0 h.2 fault.3 first.0 in
    let inner : List ℕ = placed ++ fault.0 ∷ [] in
    let shapes : AllHaveShape w n inner children = subst (λ (j : ℕ). AllHaveShape w n (placed ++ j ∷ []) children) same h.4 in
    let g = fault.5 in
    let next = next_tree g.0 children w n inner rest g.1 small g.3 shapes (omega (arith, g.4, h.3, h.0, length-append placed (fault.0 ∷ []))) (first.1 ∙ g.2) in
    no_tree_fault w n m inner (line_after (line_after number 1) (nodes_count g.0)) next.0 g.1 next.1 e small next.2 next.3 g.5

no_end_fault : (number : ℕ) (text : List ℕ) (e : CertError) → text ≡ codes "end\n" → IsEndFault number text e → ⊥
no_end_fault number text e is (inl fault) =
    let p = line_fault (Truncated number) text (codes "end") [] (λ line e. (e ≡ BadLine number) × (line ≢ codes "end")) e (record { is = is; first = no_line-end }) fault in p.1 refl
no_end_fault number text e is (inr fault) = fault.2 (ap (drop 4) (sym fault.3 ∙ is))

-- the text of a certificate has no fault

-- the line of a version has no fault
pub header_line : (v : Version) (e : CertError) → IsHeaderFault (codes "qapcert" ++ numbers_text (pos (version_number v) ∷ [])) e → ⊥
header_line v BadHeader h = h (version_number v) (version_small v).0 (IsNamed-numbers_text (codes "qapcert") (pos (version_number v) ∷ []) (version_limited v))
header_line v BadVersion h =
    let same = same_number h.0 (version_number v) (IsNamed-unique (codes "qapcert") (codes "qapcert" ++ numbers_text (pos (version_number v) ∷ [])) (pos h.0 ∷ []) (pos (version_number v) ∷ []) h.2
    (IsNamed-numbers_text (codes "qapcert") (pos (version_number v) ∷ []) (version_limited v))) in
    omega (arith, h.1, same, (version_small v).1)
header_line v _ h = absurd h

-- the line of a permutation of n numbers has no fault
pub perm_line : (n : ℕ) (p : List ℕ) (e : CertError) → IsPerm p → length p ≡ n → IsPermFault n (codes "perm" ++ numbers_text (from_one p)) e → ⊥
perm_line n p (BadLine at) perm size h =
    h.1 (from_one p) (length-map p (λ k. pos (k + 1)) ∙ size) (IsNamed-numbers_text (codes "perm") (from_one p) (AllLimited-permutation p perm))
perm_line n p (PermBad at) perm size h =
    h.4 p perm (IsNamed-unique (codes "perm") (codes "perm" ++ numbers_text (from_one p)) h.1 (from_one p) h.3
    (IsNamed-numbers_text (codes "perm") (from_one p) (AllLimited-permutation p perm)))
perm_line n p _ perm size h = absurd h

fault_from_tree : (w : Version) (n number : ℕ) (t : Node) (text : List ℕ) (e : CertError) → n ≤ 256 → HasShape w n [] t → text ≡ tree_text w t ++ codes "end\n" → IsFaultFromTree w n number text e → ⊥
fault_from_tree w n number t text e small h is (inl fault) = no_tree_fault w n n [] number t text (codes "end\n") e small h is fault
fault_from_tree w n number t text e small h is (inr f) =
    let b = f.2 in
    let p = tree_front t f.0 w n [] (codes "end\n") b.rest small h f.1 (sym is ∙ b.is) in
    no_end_fault (line_after number (node_count f.0)) b.rest e (sym p.1) b.holds

-- the bound

-- a bound for a cost is below it, and has a line, or is the cost
data Standing (c g : ℤ) : Type 0 where
  below : IsBelow c g → bound_text c g ≡ line_text (codes "bound") (g ∷ []) → Standing c g
  equal : g ≡ c → bound_text c g ≡ [] → Standing c g

standing_of : (c g : ℤ) → IsBoundFor c g → Standing c g
standing_of c g h =
    by_lt_z g c (λ less. below (record { limited = h.limited; less = less }) (bound_text-below c g less))
    (λ most. let at_most = h.at_most in equal (omega (arith, ints, at_most, most)) (bound_text-equal c g most))

-- a bound's line is none of a node
name_of_node : (w : Version) (t : Node) (more : List ℕ) → (bs : List ℕ) × ((tree_text w t ++ more ≡ 115 ∷ bs) ⊎ ((tree_text w t ++ more ≡ 98 ∷ 32 ∷ bs) ⊎ (tree_text w t ++ more ≡ 98 ∷ 10 ∷ bs)))
name_of_node w (split f children) more = (_, inl refl)
name_of_node w (bound u v) more = name_of_bound (u ++ v)
  where
    name_of_bound : (zs : List ℤ) → (bs : List ℕ) × ((line_text (codes "b") zs ++ more ≡ 115 ∷ bs) ⊎ ((line_text (codes "b") zs ++ more ≡ 98 ∷ 32 ∷ bs) ⊎ (line_text (codes "b") zs ++ more ≡ 98 ∷ 10 ∷ bs)))
    name_of_bound [] = (more, inr (inr refl))
    name_of_bound (z ∷ zs) = (_, inr (inl refl))

second_differs : (b c : ℕ) (bs cs : List ℕ) → (b ≡ c → ⊥) → 98 ∷ b ∷ bs ≡ 98 ∷ c ∷ cs → ⊥
second_differs b c bs cs other e = other (ap (λ l. get_or l 1 0) e)

no_bound_text : (w : Version) (t : Node) (more line rest : List ℕ) (zs : List ℤ) → IsLine (tree_text w t ++ more) line rest → IsNamed (codes "bound") line zs → ⊥
no_bound_text w t more line rest zs is named =
    let text : tree_text w t ++ more ≡ 98 ∷ 111 ∷ (117 ∷ 110 ∷ 100 ∷ named.numbers) ++ 10 ∷ rest = is.is ∙ ap (λ l. l ++ 10 ∷ rest) named.is in
    let found = name_of_node w t more in
    elim found.1 [
      | inl s ↦ split_differs _ _ (sym s ∙ text)
      | inr b ↦ elim b [
        | inl space ↦ second_differs 32 111 _ _ (λ (same : 32 ≡ 111). omega arith) (sym space ∙ text)
        | inr line ↦ second_differs 10 111 _ _ (λ (same : 10 ≡ 111). omega arith) (sym line ∙ text)
      ]
    ]

fault_from_bound : (w : Version) (n : ℕ) (c g : ℤ) (t : Node) (text : List ℕ) (e : CertError) → n ≤ 256 → MayBound w c g → IsBoundFor c g → HasShape w n [] t → text ≡ bound_text c g ++ (tree_text w t ++ codes "end\n") → IsFaultFromBound w n c text e → ⊥
fault_from_bound First n c g t text e small may h shape is fault =
    let none : bound_text c g ≡ [] = bound_text-equal c g (omega (arith, ints, may)) in
    fault_from_tree First n 5 t text e small shape (is ∙ ap (λ l. l ++ (tree_text First t ++ codes "end\n")) none) fault
fault_from_bound Second n c g t text e small may h shape is fault = by (standing_of c g h) fault
  where
    behind : List ℕ
    behind = tree_text Second t ++ codes "end\n"

    by : Standing c g → IsFaultFromBound Second n c text e → ⊥
    by (equal same none) (inl line) =
        no_bound_text Second t (codes "end\n") line.1 line.2 (line.3 ∷ []) (subst (λ (l : List ℕ). IsLine l line.1 line.2) (is ∙ ap (λ l. l ++ behind) none) line.4) line.5
    by (equal same none) (inr (inl tree)) = fault_from_tree Second n 5 t text e small shape (is ∙ ap (λ l. l ++ behind) none) tree.1
    by (equal same none) (inr (inr stated)) =
        let b = stated.2 in
        let first = IsLine-line_text b.rest (codes "bound") (stated.0 ∷ []) no_line-below (AllLimited-one stated.0 stated.1.limited) in
        no_bound_text Second t (codes "end\n") _ _ (stated.0 ∷ []) (subst (λ (l : List ℕ). IsLine l (codes "bound" ++ numbers_text (stated.0 ∷ [])) b.rest) (sym b.is ∙ is ∙ ap (λ l. l ++ behind) none) first)
        (IsNamed-numbers_text (codes "bound") (stated.0 ∷ []) (AllLimited-one stated.0 stated.1.limited))
    by (below low some) (inl line) =
        let limited = AllLimited-one g low.limited in
        let first = subst (λ (l : List ℕ). IsLine l (codes "bound" ++ numbers_text (g ∷ [])) behind) (sym (is ∙ ap (λ l. l ++ behind) some)) (IsLine-line_text behind (codes "bound") (g ∷ []) no_line-below limited) in
        let same = IsLine-unique text _ _ _ _ first line.4 in
        let numbers = IsNamed-unique (codes "bound") line.1 (g ∷ []) (line.3 ∷ []) (subst (λ (l : List ℕ). IsNamed (codes "bound") l (g ∷ [])) same.0 (IsNamed-numbers_text (codes "bound") (g ∷ []) limited)) line.5 in
        line.6 (subst (IsBelow c) (ap (λ l. get_or l 0 (pos 0)) numbers) low)
    by (below low some) (inr (inl tree)) =
        let limited = AllLimited-one g low.limited in
        tree.0 (codes "bound" ++ numbers_text (g ∷ [])) behind g
        (subst (λ (l : List ℕ). IsLine l (codes "bound" ++ numbers_text (g ∷ [])) behind) (sym (is ∙ ap (λ l. l ++ behind) some)) (IsLine-line_text behind (codes "bound") (g ∷ []) no_line-below limited))
        (IsNamed-numbers_text (codes "bound") (g ∷ []) limited)
    by (below low some) (inr (inr stated)) =
        let b = stated.2 in
        let same = line_front (codes "bound") (g ∷ []) (stated.0 ∷ []) behind b.rest no_line-below (AllLimited-one g low.limited) (AllLimited-one stated.0 stated.1.limited)
        (sym (is ∙ ap (λ l. l ++ behind) some) ∙ b.is) in
        fault_from_tree Second n 6 t b.rest e small shape (sym same.1) b.holds

-- what stands behind the permutation
abbrev tail_of : Version → Claim → List ℕ
tail_of w C = bound_text C.cost C.bound ++ (tree_text w C.tree ++ codes "end\n")

fault_from_perm : (w : Version) (n : ℕ) (C : Claim) (text : List ℕ) (e : CertError) → n ≤ 256 → IsCertificate C → MayBound w C.cost C.bound → HasShape w n [] C.tree → length C.permutation ≡ n
    → text ≡ line_text (codes "perm") (from_one C.permutation) ++ tail_of w C → IsFaultFromPerm w n C.cost text e → ⊥
fault_from_perm w n C text e small h may shape size is (inl fault) =
    perm_line n C.permutation e h.permutation size (named_fault (Truncated 4) text (codes "perm") (tail_of w C) (from_one C.permutation) (IsPermFault n) e no_line-perm (AllLimited-permutation C.permutation h.permutation) is fault)
fault_from_perm w n C text e small h may shape size is (inr f) =
    let b = f.3 in
    let same = line_front (codes "perm") (from_one C.permutation) (from_one f.0) (tail_of w C) b.rest no_line-perm (AllLimited-permutation C.permutation h.permutation) (AllLimited-permutation f.0 f.1) (sym is ∙ b.is) in
    fault_from_bound w n C.cost C.bound C.tree b.rest e small may h.bound shape (sym same.1) b.holds

fault_from_cost : (w : Version) (n : ℕ) (C : Claim) (text : List ℕ) (e : CertError) → n ≤ 256 → IsCertificate C → MayBound w C.cost C.bound → HasShape w n [] C.tree → length C.permutation ≡ n
    → text ≡ line_text (codes "cost") (C.cost ∷ []) ++ (line_text (codes "perm") (from_one C.permutation) ++ tail_of w C) → IsFaultFromCost w n text e → ⊥
fault_from_cost w n C text e small h may shape size is (inl fault) =
    let line = named_fault (Truncated 3) text (codes "cost") _ (C.cost ∷ []) IsCostFault e no_line-cost (AllLimited-one C.cost h.cost) is fault in
    line.1 C.cost h.cost (IsNamed-numbers_text (codes "cost") (C.cost ∷ []) (AllLimited-one C.cost h.cost))
fault_from_cost w n C text e small h may shape size is (inr f) =
    let b = f.2 in
    let same = line_front (codes "cost") (C.cost ∷ []) (f.0 ∷ []) (line_text (codes "perm") (from_one C.permutation) ++ tail_of w C) b.rest no_line-cost
    (AllLimited-one C.cost h.cost) (AllLimited-one f.0 f.1) (sym is ∙ b.is) in
    let cost_is : C.cost ≡ f.0 = ap (λ l. get_or l 0 (pos 0)) same.0 in
    fault_from_perm w n C b.rest e small h may shape size (sym same.1) (subst (λ (z : ℤ). IsFaultFromPerm w n z b.rest e) (sym cost_is) b.holds)

-- a number up to 256 is within the limits of a line
pub small_number : (n : ℕ) → n ≤ 256 → AllLimited (pos n ∷ [])
small_number n h = AllLimited-one (pos n) (omega (arith, h))

-- what stands behind the version
abbrev behind_version : Version → Claim → List ℕ
behind_version w C =
    line_text (codes "n") (pos (length C.permutation) ∷ []) ++ (line_text (codes "cost") (C.cost ∷ [])
    ++ (line_text (codes "perm") (from_one C.permutation) ++ tail_of w C))

fault_from_size : (w : Version) (C : Claim) (text : List ℕ) (e : CertError) → IsCertificate C → MayBound w C.cost C.bound → HasShape w (length C.permutation) [] C.tree
    → text ≡ behind_version w C → IsFaultFromSize w text e → ⊥
fault_from_size w C text e h may shape is (inl fault) =
    let n = length C.permutation in
    let line = named_fault (Truncated 2) text (codes "n") _ (pos n ∷ []) IsSizeFault e no_line-size (small_number n h.permutation.small) is fault in
    line.1 n h.permutation.positive h.permutation.small (IsNamed-numbers_text (codes "n") (pos n ∷ []) (small_number n h.permutation.small))
fault_from_size w C text e h may shape is (inr f) =
    let n = length C.permutation in
    let b = f.3 in
    let same = line_front (codes "n") (pos n ∷ []) (pos f.0 ∷ [])
    (line_text (codes "cost") (C.cost ∷ []) ++ (line_text (codes "perm") (from_one C.permutation) ++ tail_of w C)) b.rest no_line-size
    (small_number n h.permutation.small) (small_number f.0 f.2) (sym is ∙ b.is) in
    let n_is : n ≡ f.0 = same_number n f.0 same.0 in
    fault_from_cost w n C b.rest e h.permutation.small h may shape refl (sym same.1) (subst (λ (k : ℕ). IsFaultFromCost w k b.rest e) (sym n_is) b.holds)

-- the parts of a text, one behind the other
in_parts : (a b c d l t z : List ℕ) → (((((a ++ b) ++ c) ++ d) ++ l) ++ t) ++ z ≡ a ++ (b ++ (c ++ (d ++ (l ++ (t ++ z)))))
in_parts a b c d l t z =
    append_assoc ((((a ++ b) ++ c) ++ d) ++ l) t z ∙ append_assoc (((a ++ b) ++ c) ++ d) l (t ++ z) ∙ append_assoc ((a ++ b) ++ c) d (l ++ (t ++ z)) ∙ append_assoc (a ++ b) c (d ++ (l ++ (t ++ z)))
    ∙ append_assoc a b (c ++ (d ++ (l ++ (t ++ z))))

-- a certificate's text is the line of its version and what is behind that
pub certificate_parts : (w : Version) (C : Claim) → certificate_text w C ≡ line_text (codes "qapcert") (pos (version_number w) ∷ []) ++ behind_version w C
certificate_parts w C =
    in_parts (line_text (codes "qapcert") (pos (version_number w) ∷ [])) (line_text (codes "n") (pos (length C.permutation) ∷ [])) (line_text (codes "cost") (C.cost ∷ []))
    (line_text (codes "perm") (from_one C.permutation)) (bound_text C.cost C.bound) (tree_text w C.tree) (codes "end\n")

-- the text of a certificate has no fault
pub no_text_fault : (text : List ℕ) (C : Claim) (e : CertError) → IsCertificateText text C → IsTextFault text e → ⊥
no_text_fault text C e h (inl fault) =
    let w = h.version in
    header_line w e (named_fault (Truncated 1) text (codes "qapcert") (behind_version w C) (pos (version_number w) ∷ []) IsHeaderFault e no_line-version (version_limited w) (h.is ∙ certificate_parts w C) fault)
no_text_fault text C e h (inr f) =
    let w = h.version in
    let b = f.1 in
    let same = line_front (codes "qapcert") (pos (version_number w) ∷ []) (pos (version_number f.0) ∷ []) (behind_version w C) b.rest no_line-version (version_limited w) (version_limited f.0)
    (sym (h.is ∙ certificate_parts w C) ∙ b.is) in
    let version : w ≡ f.0 = one_version w f.0 same.0 in
    fault_from_size w C b.rest e h.certificate h.bound h.tree (sym same.1) (subst (λ (v : Version). IsFaultFromSize v b.rest e) (sym version) b.holds)

-- a text is that of one certificate

same_claims : (c d g b : ℤ) (p q : List ℕ) (t s : Node) → c ≡ d → g ≡ b → p ≡ q → t ≡ s → claim_of c g p t ≡ claim_of d b q s
same_claims c d g b p q t s c_is g_is p_is t_is = λ i. claim_of (c_is i) (g_is i) (p_is i) (t_is i)

-- two tails of one version and one cost
one_tail : (w : Version) (n : ℕ) (c g b : ℤ) (t s : Node) → n ≤ 256 → IsBoundFor c g → IsBoundFor c b → HasShape w n [] t → HasShape w n [] s
    → bound_text c g ++ (tree_text w t ++ codes "end\n") ≡ bound_text c b ++ (tree_text w s ++ codes "end\n") → (g ≡ b) × (t ≡ s)
one_tail w n c g b t s small h k x y e = by (standing_of c g h) (standing_of c b k)
  where
    front : List ℕ
    front = tree_text w t ++ codes "end\n"

    other : List ℕ
    other = tree_text w s ++ codes "end\n"

    stated : (z : ℤ) → IsBelow c z → bound_text c z ≡ line_text (codes "bound") (z ∷ []) → (more : List ℕ) → IsLine (bound_text c z ++ more) (codes "bound" ++ numbers_text (z ∷ [])) more
    stated z low some more =
        subst (λ (l : List ℕ). IsLine (l ++ more) (codes "bound" ++ numbers_text (z ∷ [])) more) (sym some) (IsLine-line_text more (codes "bound") (z ∷ []) no_line-below (AllLimited-one z low.limited))

    by : Standing c g → Standing c b → (g ≡ b) × (t ≡ s)
    by (below low some) (below less line) =
        let same = line_front (codes "bound") (g ∷ []) (b ∷ []) front other no_line-below (AllLimited-one g low.limited) (AllLimited-one b less.limited)
        (sym (ap (λ l. l ++ front) some) ∙ e ∙ ap (λ l. l ++ other) line) in
        (ap (λ l. get_or l 0 (pos 0)) same.0, (tree_front t s w n [] (codes "end\n") (codes "end\n") small x y same.1).0)
    by (below low some) (equal is none) =
        absurd (no_bound_text w s (codes "end\n") _ _ (g ∷ []) (subst (λ (l : List ℕ). IsLine l (codes "bound" ++ numbers_text (g ∷ [])) front) (e ∙ ap (λ l. l ++ other) none) (stated g low some front))
        (IsNamed-numbers_text (codes "bound") (g ∷ []) (AllLimited-one g low.limited)))
    by (equal is none) (below less line) =
        absurd (no_bound_text w t (codes "end\n") _ _ (b ∷ []) (subst (λ (l : List ℕ). IsLine l (codes "bound" ++ numbers_text (b ∷ [])) other) (sym e ∙ ap (λ l. l ++ front) none) (stated b less line other))
        (IsNamed-numbers_text (codes "bound") (b ∷ []) (AllLimited-one b less.limited)))
    by (equal is none) (equal same nil) =
        (is ∙ sym same, (tree_front t s w n [] (codes "end\n") (codes "end\n") small x y (sym (ap (λ l. l ++ front) none) ∙ e ∙ ap (λ l. l ++ other) nil)).0)

-- a text is that of one certificate at most
pub one_certificate : (text : List ℕ) (C D : Claim) → IsCertificateText text C → IsCertificateText text D → C ≡ D
one_certificate text C D h k =
    let w = h.version in
    let p = h.certificate.permutation in
    let q = k.certificate.permutation in
    let a = line_front (codes "qapcert") (pos (version_number w) ∷ []) (pos (version_number k.version) ∷ []) (behind_version w C) (behind_version k.version D) no_line-version (version_limited w) (version_limited k.version)
    (sym (h.is ∙ certificate_parts w C) ∙ (k.is ∙ certificate_parts k.version D)) in
    let version : w ≡ k.version = one_version w k.version a.0 in
    let b = line_front (codes "n") (pos (length C.permutation) ∷ []) (pos (length D.permutation) ∷ []) _ _ no_line-size
    (small_number (length C.permutation) p.small) (small_number (length D.permutation) q.small) a.1 in
    let c = line_front (codes "cost") (C.cost ∷ []) (D.cost ∷ []) _ _ no_line-cost (AllLimited-one C.cost h.certificate.cost) (AllLimited-one D.cost k.certificate.cost) b.1 in
    let d = line_front (codes "perm") (from_one C.permutation) (from_one D.permutation) _ _ no_line-perm (AllLimited-permutation C.permutation p) (AllLimited-permutation D.permutation q) c.1 in
    let same = from_one-injective C.permutation D.permutation d.0 in
    let cost : C.cost ≡ D.cost = ap (λ l. get_or l 0 (pos 0)) c.0 in
    let shape : HasShape w (length C.permutation) [] D.tree =
    subst (λ (v : Version). HasShape v (length C.permutation) [] D.tree) (sym version) (subst (λ l. HasShape k.version (length l) [] D.tree) (sym same) k.tree) in
    let bounded : IsBoundFor C.cost D.bound = subst (λ (z : ℤ). IsBoundFor z D.bound) (sym cost) k.certificate.bound in
    let tails = d.1 ∙ sym (ap (λ (v : Version). bound_text D.cost D.bound ++ (tree_text v D.tree ++ codes "end\n")) version)
    ∙ sym (ap (λ (z : ℤ). bound_text z D.bound ++ (tree_text w D.tree ++ codes "end\n")) cost) in
    let e = one_tail w (length C.permutation) C.cost C.bound D.bound C.tree D.tree p.small h.certificate.bound bounded h.tree shape tails in
    same_claims C.cost D.cost C.bound D.bound C.permutation D.permutation C.tree D.tree cost e.0 same e.1

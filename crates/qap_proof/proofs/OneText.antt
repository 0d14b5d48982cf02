-- A text is that of one proof at most, and the text of a proof has no fault.
use Rattle.std.proofs.Common.{◌≡◌, ◌≢◌, ℕ, zero, suc, ◌+◌, ◌<◌, ◌≤◌, ◌++◌, List, [], ◌∷◌, length, drop, get_or, ℤ, pos, unsigned_abs, refl, sym, ◌∙◌, ap, ap₂, subst, inl, inr, arith, length-append}
use Rattle.std.proofs.lemmas.Bool.{cond-true, cond-false, false≢true}
use Rattle.std.proofs.lemmas.Int.{ints, by_lt_z}
use Rattle.std.proofs.lemmas.List.{length-map}
use Rattle.std.specs.Prelude.{codes, Bool, false, int_lt, Option, Some, None}
use Rattle.qap_cost.specs.Bijection.{IsPerm}
use Rattle.qap_cost.specs.Placement.{Placement, root_of}
use Rattle.qap_cost.specs.Range.{AllLimited}
use Rattle.qap_io.specs.Number.{from_one}
use Rattle.qap_lines.proofs.Fronts.{no_line-nil, IsName, line_front, line_fault, named_fault, named_front, int_lt-yes, int_lt-no}
use Rattle.qap_lines.proofs.Limits.{AllLimited-append}
use Rattle.qap_lines.proofs.Lines.{HasNoLine-cons}
use Rattle.qap_lines.proofs.Locations.{AllLimited-permutation, from_one-injective}
use Rattle.qap_lines.proofs.NumberLists.{AllLimited-one, IsLine-line_text, IsNamed-unique, IsNamed-numbers_text}
use Rattle.qap_lines.specs.Line.{line_after, HasNoLine, IsLine}
use Rattle.qap_lines.specs.LineText.{line_text, numbers_text}
use Rattle.qap_lines.specs.Number.{IsNamed}
use Rattle.qap_proof.proofs.Faults.{number_fault}
use Rattle.qap_proof.proofs.HeadTexts.{in_parts}
use Rattle.qap_proof.proofs.Roots.{AllLimited-by_turns, root_text-some}
use Rattle.qap_proof.proofs.Sayings.{saying_name, saying_numbers, kind_of, IsName-saying, no_line-saying, one_saying, said_front, said_of, below_text, tree_text-said, AllLimited-split, AllLimited-said, Says-said, same_splits, tree_front, next_tree}
use Rattle.qap_lines.specs.Bound.{IsBoundFor}
use Rattle.qap_proof.specs.Claim.{Claim, claim_of, IsRoot, IsProof}
use Rattle.qap_proof.specs.Code.{placement_of}
use Rattle.gilmore_lawler.specs.Closing.{AreDuals}
use Rattle.qap_proof.specs.Shape.{MayBeDuals, IsSplit, HasShape, AllHaveShape, free_count, has_duals}
use Rattle.qap_proof.specs.Text.{letter, numbers_of_duals, tree_text, trees_text, by_turns, root_text, bound_text, proof_text, IsProofText}
use Rattle.qap_proof.specs.TextFault.{IsLineFault, IsHeaderFault, IsSizeFault, IsCostFault, IsPermFault, Saying, closes, splits, cuts, mirrors, IsDualsFault, IsSayingFault, IsNodeFault, IsTreeTextFault, IsEndFault, IsBelow, HasRootLine, IsFaultFromTree, IsFaultFromBound, IsFaultFromRoot, IsFaultFromPerm, IsFaultFromCost, IsFaultFromSize, IsTextFault}
use Rattle.qap_proof.specs.Tree.{Pair, Split, Node, closed, split, cut, mirrored, Nodes, node_count, nodes_count, child_count, child_of}
use Rattle.qap_proof.specs.declared.error.ProofError.{ProofError}
use Rattle.qap_proof.specs.declared.error.ProofError.TheVariants.{Truncated, BadLine}
use Rattle.qap_proof.specs.declared.side.Side.{Side}
use Rattle.qap_proof.specs.declared.side.Side.TheVariants.{Facility, Location}

-- the names of the lines

-- the name of the version's line has no line feed
pub no_line-version : HasNoLine (codes "qapproof")
no_line-version = HasNoLine-cons 113 _ (λ e. omega arith) (HasNoLine-cons 97 _ (λ e. omega arith) (HasNoLine-cons 112 _ (λ e. omega arith) (HasNoLine-cons 112 _ (λ e. omega arith)
    (HasNoLine-cons 114 _ (λ e. omega arith) (HasNoLine-cons 111 _ (λ e. omega arith) (HasNoLine-cons 111 _ (λ e. omega arith) (HasNoLine-cons 102 _ (λ e. omega arith) no_line-nil)))))))

-- the same for that of the size
pub no_line-size : HasNoLine (codes "n")
no_line-size = HasNoLine-cons 110 _ (λ e. omega arith) no_line-nil

-- the same for that of the cost
pub no_line-cost : HasNoLine (codes "cost")
no_line-cost = HasNoLine-cons 99 _ (λ e. omega arith) (HasNoLine-cons 111 _ (λ e. omega arith) (HasNoLine-cons 115 _ (λ e. omega arith) (HasNoLine-cons 116 _ (λ e. omega arith) no_line-nil)))

-- the same for that of the permutation
pub no_line-perm : HasNoLine (codes "perm")
no_line-perm = HasNoLine-cons 112 _ (λ e. omega arith) (HasNoLine-cons 101 _ (λ e. omega arith) (HasNoLine-cons 114 _ (λ e. omega arith) (HasNoLine-cons 109 _ (λ e. omega arith) no_line-nil)))

-- the same for that of the root
pub no_line-root : HasNoLine (codes "node")
no_line-root = HasNoLine-cons 110 _ (λ e. omega arith) (HasNoLine-cons 111 _ (λ e. omega arith) (HasNoLine-cons 100 _ (λ e. omega arith) (HasNoLine-cons 101 _ (λ e. omega arith) no_line-nil)))

-- the same for that of a bound below the cost
pub no_line-below : HasNoLine (codes "bound")
no_line-below = HasNoLine-cons 98 _ (λ e. omega arith) (HasNoLine-cons 111 _ (λ e. omega arith) (HasNoLine-cons 117 _ (λ e. omega arith) (HasNoLine-cons 110 _ (λ e. omega arith) (HasNoLine-cons 100 _ (λ e. omega arith) no_line-nil))))

-- the same for the last line
pub no_line-end : HasNoLine (codes "end")
no_line-end = HasNoLine-cons 101 _ (λ e. omega arith) (HasNoLine-cons 110 _ (λ e. omega arith) (HasNoLine-cons 100 _ (λ e. omega arith) no_line-nil))

-- `node` has no space, so that numbers can follow it
pub IsName-root : IsName (codes "node")
IsName-root = ((λ e. omega arith), ((λ e. omega arith), ((λ e. omega arith), ((λ e. omega arith), tt))))

-- the same for `bound`
pub IsName-below : IsName (codes "bound")
IsName-below = ((λ e. omega arith), ((λ e. omega arith), ((λ e. omega arith), ((λ e. omega arith), ((λ e. omega arith), tt)))))

-- the name of a node's line has one letter
short_name : (w : Saying) → length (saying_name w) ≡ 1
short_name (closes zs) = refl
short_name (splits side i zs) = short_letter side
  where
    short_letter : (a : Side) → length (letter a) ≡ 1
    short_letter Facility = refl
    short_letter Location = refl
short_name cuts = refl
short_name (mirrors z zs) = refl

-- the text of a tree has no fault

duals_fault : (m number : ℕ) (d : Pair) (e : ProofError) → AreDuals m d.u d.v → IsDualsFault m number (d.u ++ d.v) e → ⊥
duals_fault m number d e h (inl count) = count.1 (omega (arith, length-append d.u d.v, h.rows, h.columns))
duals_fault m number d e h (inr range) = range.2 (AllLimited-append d.u d.v h.u_range h.v_range)

-- proper duals of a split have no fault as the numbers of its line
pub may_be_duals_fault : (m number : ℕ) (o : Option Pair) (e : ProofError) → MayBeDuals m o → numbers_of_duals o ≢ [] → IsDualsFault m number (numbers_of_duals o) e → ⊥
may_be_duals_fault m number None e h some fault = some refl
may_be_duals_fault m number (Some d) e h some fault = duals_fault m number d e h fault

no_saying_fault : (t : Node) (x : Placement) (earlier : ℕ) (duals : Bool) (number : ℕ) (e : ProofError) → HasShape x earlier duals t → IsSayingFault x earlier duals number (said_of t) e → ⊥
no_saying_fault (closed d) x earlier duals number e h fault = duals_fault (free_count x) number d e h fault
no_saying_fault (split s children) x earlier duals number e h (inl fault) = number_fault x number s.side s.number e fault h.0.some h.0.free
no_saying_fault (split s children) x earlier duals number e h (inr fault) = may_be_duals_fault (free_count x) number s.duals e h.0.duals fault.2 fault.3
no_saying_fault cut x earlier duals number e h fault = absurd (false≢true (sym fault.1 ∙ h))
no_saying_fault (mirrored j m) x earlier duals number e h (inl none) = none.1 j h.0 refl
no_saying_fault (mirrored j m) x earlier duals number e h (inr moved) = moved.4 m h.1.permutation refl

no_node_fault : (t : Node) (x : Placement) (earlier : ℕ) (duals : Bool) (number : ℕ) (text rest : List ℕ) (e : ProofError) → x.size ≤ 256 → earlier ≤ 256 → HasShape x earlier duals t → text ≡ tree_text t ++ rest
    → IsLineFault number text (IsNodeFault x earlier duals number) e → ⊥
no_node_fault t x earlier duals number text rest e small few h is fault =
    let w = said_of t in
    let said = Says-said t x earlier duals small few h in
    let line = named_fault (Truncated number) text (saying_name w) (below_text t ++ rest) (saying_numbers w) (IsNodeFault x earlier duals number) e (no_line-saying w) (AllLimited-said t x earlier duals small few h)
    (is ∙ tree_text-said t rest) fault in
    elim line [
      | inl bad ↦ bad.1 w said
      | inr found ↦
          let same = one_saying x.size (saying_name w ++ numbers_text (saying_numbers w)) found.0 w found.1 said in
          no_saying_fault t x earlier duals number e h (subst (λ (v : Saying). IsSayingFault x earlier duals number v e) same found.2)
    ]

-- behind fewer children of a split than it has there is one more
next_child : (t : Node) (s : Split) (x : Placement) (earlier : ℕ) (duals : Bool) (before : Nodes) (rest below after : List ℕ) → x.size ≤ 256 → HasShape x earlier duals t → IsSplit x s
    → said_of t ≡ splits s.side s.number (numbers_of_duals s.duals) → below_text t ++ rest ≡ below → below ≡ trees_text before ++ after → AllHaveShape x s 0 before → child_count before < free_count x
    → (u : Node) × (behind : List ℕ) × HasShape (child_of x s (child_count before)) (child_count before) (has_duals s.duals) u × (after ≡ tree_text u ++ behind)
next_child (closed d) s x earlier duals before rest below after small h is said same front shapes less = absurd (let kind : 0 ≡ 1 = ap kind_of said in omega (arith, kind))
next_child (split a ts) s x earlier duals before rest below after small h is said same front shapes less =
    let one = same_splits x a s h.0 is said in
    let all : AllHaveShape x s 0 ts = subst (λ (b : Split). AllHaveShape x b 0 ts) one h.2 in
    let count = h.1 in
    let next = next_tree before ts x s 0 rest after small (omega (arith, count, small)) shapes all (omega (arith, less, count)) (same ∙ front) in
    let at : 0 + child_count before ≡ child_count before = omega arith in
    (next.0, next.1, subst (λ (i : ℕ). HasShape (child_of x s i) i (has_duals s.duals) next.0) at next.2, next.3)
next_child cut s x earlier duals before rest below after small h is said same front shapes less = absurd (let kind : 2 ≡ 1 = ap kind_of said in omega (arith, kind))
next_child (mirrored j l) s x earlier duals before rest below after small h is said same front shapes less = absurd (let kind : 3 ≡ 1 = ap kind_of said in omega (arith, kind))

-- a text that begins with the lines of a tree of the shape has no fault in them
pub no_tree_fault : (m : ℕ) (t : Node) (x : Placement) (earlier : ℕ) (duals : Bool) (number : ℕ) (text rest : List ℕ) (e : ProofError) → x.size ≤ 256 → earlier ≤ 256 → HasShape x earlier duals t → text ≡ tree_text t ++ rest
    → IsTreeTextFault m x earlier duals number text e → ⊥
no_tree_fault zero t x earlier duals number text rest e small few h is fault = no_node_fault t x earlier duals number text rest e small few h is fault
no_tree_fault (suc m) t x earlier duals number text rest e small few h is (inl fault) = no_node_fault t x earlier duals number text rest e small few h is fault
no_tree_fault (suc m) t x earlier duals number text rest e small few h is (inr f) =
    let s = f.0 in
    let g = f.4 in
    let k : ℕ = child_count g.0 in
    let less : k < free_count x = g.4 in
    let p = said_front (said_of t) (splits s.side s.number (numbers_of_duals s.duals)) (below_text t ++ rest) f.1 (AllLimited-said t x earlier duals small few h) (AllLimited-split x s small f.3)
    (sym (tree_text-said t rest) ∙ sym is ∙ f.2) in
    let next = next_child t s x earlier duals g.0 rest f.1 g.1 small h f.3 p.0 p.1 g.2 g.3 less in
    no_tree_fault m next.0 (child_of x s k) k (has_duals s.duals) (line_after (line_after number 1) (nodes_count g.0)) g.1 next.1 e small (omega (arith, less, small)) next.2 next.3 g.5

no_end_fault : (number : ℕ) (text : List ℕ) (e : ProofError) → text ≡ codes "end\n" → IsEndFault number text e → ⊥
no_end_fault number text e is (inl fault) =
    let p = line_fault (Truncated number) text (codes "end") [] (λ line e. (e ≡ BadLine number) × (line ≢ codes "end")) e (record { is = is; first = no_line-end }) fault in p.1 refl
no_end_fault number text e is (inr fault) = fault.2 (ap (drop 4) (sym fault.3 ∙ is))

fault_from_tree : (x : Placement) (number : ℕ) (t : Node) (text : List ℕ) (e : ProofError) → x.size ≤ 256 → HasShape x 0 false t → text ≡ tree_text t ++ codes "end\n" → IsFaultFromTree x number text e → ⊥
fault_from_tree x number t text e small h is (inl fault) = no_tree_fault (free_count x) t x 0 false number text (codes "end\n") e small (omega arith) h is fault
fault_from_tree x number t text e small h is (inr f) =
    let b = f.2 in
    let p = tree_front t f.0 x 0 false (codes "end\n") b.rest small (omega arith) h f.1 (sym is ∙ b.is) in
    no_end_fault (line_after number (node_count f.0)) b.rest e (sym p.1) b.holds

-- the bound

-- a bound for a cost is below it, and has a line, or is the cost
data Standing (c g : ℤ) : Type 0 where
  below : IsBelow c g → bound_text c g ≡ line_text (codes "bound") (g ∷ []) → Standing c g
  equal : g ≡ c → bound_text c g ≡ [] → Standing c g

standing_of : (c g : ℤ) → IsBoundFor c g → Standing c g
standing_of c g h =
    by_lt_z g c
    (λ less. below (record { limited = h.limited; less = less }) (cond-true (int_lt g c) (line_text (codes "bound") (g ∷ [])) [] (int_lt-yes g c less)))
    (λ most. let at_most = h.at_most in equal (omega (arith, ints, at_most, most)) (cond-false (int_lt g c) (line_text (codes "bound") (g ∷ [])) [] (int_lt-no g c most)))

-- the line of a name of more than one letter is none of a node
pub no_node_line : (t : Node) (x : Placement) (more text line rest name : List ℕ) (zs : List ℤ) → x.size ≤ 256 → HasShape x 0 false t → IsName name → 1 < length name → text ≡ tree_text t ++ more → IsLine text line rest → IsNamed name line zs → ⊥
no_node_line t x more text line rest name zs small h word long is first named =
    let w = said_of t in
    let same = named_front text (saying_name w) (below_text t ++ more) line rest name (saying_numbers w) zs (IsName-saying w) word (no_line-saying w) (AllLimited-said t x 0 false small (omega arith) h)
    (is ∙ tree_text-said t more) first named in
    omega (arith, ap length same.0, short_name w, long)

-- a text that begins with the line of a bound
pub states : (c g : ℤ) (text rest : List ℕ) → IsBelow c g → text ≡ line_text (codes "bound") (g ∷ []) ++ rest → IsLine text (codes "bound" ++ numbers_text (g ∷ [])) rest
states c g text rest low is =
    subst (λ (l : List ℕ). IsLine l (codes "bound" ++ numbers_text (g ∷ [])) rest) (sym is) (IsLine-line_text rest (codes "bound") (g ∷ []) no_line-below (AllLimited-one g low.limited))

-- the line of a bound below the cost is named `bound` and has the bound as its number
pub named_bound : (c g : ℤ) → IsBelow c g → IsNamed (codes "bound") (codes "bound" ++ numbers_text (g ∷ [])) (g ∷ [])
named_bound c g low = IsNamed-numbers_text (codes "bound") (g ∷ []) (AllLimited-one g low.limited)

fault_from_bound : (x : Placement) (c g : ℤ) (number : ℕ) (t : Node) (text : List ℕ) (e : ProofError) → x.size ≤ 256 → IsBoundFor c g → HasShape x 0 false t → text ≡ bound_text c g ++ (tree_text t ++ codes "end\n")
    → IsFaultFromBound x c number text e → ⊥
fault_from_bound x c g number t text e small h shape is fault = by (standing_of c g h) fault
  where
    behind : List ℕ
    behind = tree_text t ++ codes "end\n"

    by : Standing c g → IsFaultFromBound x c number text e → ⊥
    by (equal same none) (inl line) =
        no_node_line t x (codes "end\n") text line.1 line.2 (codes "bound") (line.3 ∷ []) small shape IsName-below (omega arith) (is ∙ ap (λ l. l ++ behind) none) line.4 line.5
    by (equal same none) (inr (inl tree)) = fault_from_tree x number t text e small shape (is ∙ ap (λ l. l ++ behind) none) tree.1
    by (equal same none) (inr (inr stated)) =
        let b = stated.2 in
        no_node_line t x (codes "end\n") text _ b.rest (codes "bound") (stated.0 ∷ []) small shape IsName-below (omega arith) (is ∙ ap (λ l. l ++ behind) none) (states c stated.0 text b.rest stated.1 b.is) (named_bound c stated.0 stated.1)
    by (below low some) (inl line) =
        let p = named_front text (codes "bound") behind line.1 line.2 (codes "bound") (g ∷ []) (line.3 ∷ []) IsName-below IsName-below no_line-below (AllLimited-one g low.limited) (is ∙ ap (λ l. l ++ behind) some) line.4 line.5 in
        line.6 (subst (IsBelow c) (ap (λ l. get_or l 0 (pos 0)) p.1) low)
    by (below low some) (inr (inl tree)) =
        tree.0 (codes "bound" ++ numbers_text (g ∷ [])) behind g (states c g text behind low (is ∙ ap (λ l. l ++ behind) some)) (named_bound c g low)
    by (below low some) (inr (inr stated)) =
        let b = stated.2 in
        let same = line_front (codes "bound") (g ∷ []) (stated.0 ∷ []) behind b.rest no_line-below (AllLimited-one g low.limited) (AllLimited-one stated.0 stated.1.limited)
        (sym (is ∙ ap (λ l. l ++ behind) some) ∙ b.is) in
        fault_from_tree x (number + 1) t b.rest e small shape (sym same.1) b.holds

-- the root

-- the numbers of two equally long lists alternately determine both lists
pub by_turns-injective : (fs ks gs ls : List ℕ) → length ks ≡ length fs → length ls ≡ length gs → by_turns fs ks ≡ by_turns gs ls → (fs ≡ gs) × (ks ≡ ls)
by_turns-injective [] [] [] [] a b e = (refl, refl)
by_turns-injective [] [] [] (l ∷ ls) a b e = absurd (omega (arith, b))
by_turns-injective [] [] (g ∷ gs) [] a b e = absurd (omega (arith, b))
by_turns-injective [] [] (g ∷ gs) (l ∷ ls) a b e = absurd (omega (arith, ap length e))
by_turns-injective [] (k ∷ ks) gs ls a b e = absurd (omega (arith, a))
by_turns-injective (f ∷ fs) [] gs ls a b e = absurd (omega (arith, a))
by_turns-injective (f ∷ fs) (k ∷ ks) [] [] a b e = absurd (omega (arith, ap length e))
by_turns-injective (f ∷ fs) (k ∷ ks) [] (l ∷ ls) a b e = absurd (omega (arith, b))
by_turns-injective (f ∷ fs) (k ∷ ks) (g ∷ gs) [] a b e = absurd (omega (arith, b))
by_turns-injective (f ∷ fs) (k ∷ ks) (g ∷ gs) (l ∷ ls) a b e =
    let first : f ≡ g = let more : f + 1 ≡ g + 1 = ap (λ zs. unsigned_abs (get_or zs 0 (pos 0))) e in omega arith in
    let second : k ≡ l = let more : k + 1 ≡ l + 1 = ap (λ zs. unsigned_abs (get_or zs 1 (pos 0))) e in omega arith in
    let rest = by_turns-injective fs ks gs ls (omega (arith, a)) (omega (arith, b)) (ap (drop 2) e) in
    (ap₂ (λ i l. i ∷ l) first rest.0, ap₂ (λ i l. i ∷ l) second rest.1)

-- two roots of the same size that have the same line are the same
pub same_roots : (n : ℕ) (x y : Placement) → IsRoot n x → IsRoot n y → by_turns x.facilities x.places ≡ by_turns y.facilities y.places → x ≡ y
same_roots n x y h k e =
    let both = by_turns-injective x.facilities x.places y.facilities y.places h.placement.paired k.placement.paired e in
    ap (λ (m : ℕ). placement_of m x.facilities x.places) (h.size ∙ sym k.size) ∙ ap₂ (placement_of y.size) both.0 both.1

-- a root has a line, or is empty
data Rooting (n : ℕ) (x : Placement) : Type 0 where
  stated : HasRootLine n x → root_text x.facilities x.places ≡ line_text (codes "node") (by_turns x.facilities x.places) → Rooting n x
  empty : x ≡ root_of n → root_text x.facilities x.places ≡ [] → Rooting n x

no_places : (ks : List ℕ) → length ks ≡ 0 → ks ≡ []
no_places [] none = refl
no_places (k ∷ ks) none = absurd (omega (arith, none))

rooting_of : (n : ℕ) (x : Placement) → IsRoot n x → Rooting n x
rooting_of n x h = by x.facilities refl
  where
    by : (fs : List ℕ) → x.facilities ≡ fs → Rooting n x
    by [] is =
        empty (ap (λ (m : ℕ). placement_of m x.facilities x.places) h.size ∙ ap₂ (placement_of n) is (no_places x.places (omega (arith, h.placement.paired, ap length is)))) (ap (λ fs. root_text fs x.places) is)
    by (f ∷ fs) is =
        let some : 0 < length x.facilities = omega (arith, ap length is) in
        stated (record { root = h; some = some }) (root_text-some x.facilities x.places some)

-- a text that begins with the line of a root has this as its first line
pub root_line : (n : ℕ) (x : Placement) (text rest : List ℕ) → HasRootLine n x → text ≡ line_text (codes "node") (by_turns x.facilities x.places) ++ rest → IsLine text (codes "node" ++ numbers_text (by_turns x.facilities x.places)) rest
root_line n x text rest h is =
    subst (λ (l : List ℕ). IsLine l (codes "node" ++ numbers_text (by_turns x.facilities x.places)) rest) (sym is)
    (IsLine-line_text rest (codes "node") (by_turns x.facilities x.places) no_line-root (AllLimited-by_turns n x h.root))

-- the line of a root is named `node` and has the root's numbers
pub named_root : (n : ℕ) (x : Placement) → HasRootLine n x → IsNamed (codes "node") (codes "node" ++ numbers_text (by_turns x.facilities x.places)) (by_turns x.facilities x.places)
named_root n x h = IsNamed-numbers_text (codes "node") (by_turns x.facilities x.places) (AllLimited-by_turns n x h.root)

-- behind no root stands no line of one
no_root_line : (x : Placement) (c g : ℤ) (t : Node) (text line rest : List ℕ) (zs : List ℤ) → x.size ≤ 256 → IsBoundFor c g → HasShape x 0 false t → text ≡ bound_text c g ++ (tree_text t ++ codes "end\n")
    → IsLine text line rest → IsNamed (codes "node") line zs → ⊥
no_root_line x c g t text line rest zs small h shape is first named = by (standing_of c g h)
  where
    behind : List ℕ
    behind = tree_text t ++ codes "end\n"

    by : Standing c g → ⊥
    by (equal same none) = no_node_line t x (codes "end\n") text line rest (codes "node") zs small shape IsName-root (omega arith) (is ∙ ap (λ l. l ++ behind) none) first named
    by (below low some) =
        let p = named_front text (codes "bound") behind line rest (codes "node") (g ∷ []) zs IsName-below IsName-root no_line-below (AllLimited-one g low.limited) (is ∙ ap (λ l. l ++ behind) some) first named in
        absurd (let long : 5 ≡ 4 = ap length p.0 in omega (arith, long))

-- what stands behind the permutation
abbrev tail_of : Placement → ℤ → ℤ → Node → List ℕ
tail_of x c g t = root_text x.facilities x.places ++ (bound_text c g ++ (tree_text t ++ codes "end\n"))

fault_from_root : (n : ℕ) (x : Placement) (c g : ℤ) (t : Node) (text : List ℕ) (e : ProofError) → IsRoot n x → IsBoundFor c g → HasShape x 0 false t → text ≡ tail_of x c g t → IsFaultFromRoot n c text e → ⊥
fault_from_root n x c g t text e root h shape is fault = by (rooting_of n x root) fault
  where
    small : x.size ≤ 256
    small = root.placement.small

    behind : List ℕ
    behind = bound_text c g ++ (tree_text t ++ codes "end\n")

    by : Rooting n x → IsFaultFromRoot n c text e → ⊥
    by (empty same none) (inl line) = no_root_line x c g t text line.1 line.2 line.3 small h shape (is ∙ ap (λ l. l ++ behind) none) line.4 line.5
    by (empty same none) (inr (inl rest)) =
        fault_from_bound x c g 5 t text e small h shape (is ∙ ap (λ l. l ++ behind) none) (subst (λ (y : Placement). IsFaultFromBound y c 5 text e) (sym same) rest.1)
    by (empty same none) (inr (inr other)) =
        no_root_line x c g t text _ other.2.rest (by_turns other.0.facilities other.0.places) small h shape (is ∙ ap (λ l. l ++ behind) none) (root_line n other.0 text other.2.rest other.1 other.2.is) (named_root n other.0 other.1)
    by (stated some line) (inl bad) =
        let zs = by_turns x.facilities x.places in
        let p = named_front text (codes "node") behind bad.1 bad.2 (codes "node") zs bad.3 IsName-root IsName-root no_line-root (AllLimited-by_turns n x root) (is ∙ ap (λ l. l ++ behind) line) bad.4 bad.5 in
        bad.6 x some (sym p.1)
    by (stated some line) (inr (inl none)) =
        none.0 (codes "node" ++ numbers_text (by_turns x.facilities x.places)) behind (by_turns x.facilities x.places) (root_line n x text behind some (is ∙ ap (λ l. l ++ behind) line)) (named_root n x some)
    by (stated some line) (inr (inr other)) =
        let y = other.0 in
        let b = other.2 in
        let p = line_front (codes "node") (by_turns x.facilities x.places) (by_turns y.facilities y.places) behind b.rest no_line-root (AllLimited-by_turns n x root) (AllLimited-by_turns n y other.1.root)
        (sym (is ∙ ap (λ l. l ++ behind) line) ∙ b.is) in
        let same : x ≡ y = same_roots n x y root other.1.root p.0 in
        fault_from_bound x c g 6 t b.rest e small h shape (sym p.1) (subst (λ (z : Placement). IsFaultFromBound z c 6 b.rest e) (sym same) b.holds)

-- the head

-- two sizes that are the same numbers of a line are the same
pub same_size : (m n : ℕ) → pos m ∷ [] ≡ pos n ∷ [] → m ≡ n
same_size m n e = ap (λ l. unsigned_abs (get_or l 0 (pos 0))) e

-- a number up to 256 is in range
pub small_number : (n : ℕ) → n ≤ 256 → AllLimited (pos n ∷ [])
small_number n h = AllLimited-one (pos n) (omega (arith, h))

-- the version is in range
pub version_limited : AllLimited (pos 1 ∷ [])
version_limited = small_number 1 (omega arith)

-- the first line of a proof's text has no fault
pub header_line : (e : ProofError) → IsHeaderFault (codes "qapproof" ++ numbers_text (pos 1 ∷ [])) e → ⊥
header_line e (inl bad) = bad.1 1 (omega arith) (IsNamed-numbers_text (codes "qapproof") (pos 1 ∷ []) version_limited)
header_line e (inr other) =
    let same = same_size other.1 1 (IsNamed-unique (codes "qapproof") (codes "qapproof" ++ numbers_text (pos 1 ∷ [])) (pos other.1 ∷ []) (pos 1 ∷ []) other.3
    (IsNamed-numbers_text (codes "qapproof") (pos 1 ∷ []) version_limited)) in
    omega (arith, other.2, same)

-- the line of a permutation of n numbers has no fault
pub perm_line : (n : ℕ) (p : List ℕ) (e : ProofError) → IsPerm p → length p ≡ n → IsPermFault n (codes "perm" ++ numbers_text (from_one p)) e → ⊥
perm_line n p e perm size (inl bad) =
    bad.1 (from_one p) (length-map p (λ k. pos (k + 1)) ∙ size) (IsNamed-numbers_text (codes "perm") (from_one p) (AllLimited-permutation p perm))
perm_line n p e perm size (inr other) =
    other.4 p perm (IsNamed-unique (codes "perm") (codes "perm" ++ numbers_text (from_one p)) other.1 (from_one p) other.3
    (IsNamed-numbers_text (codes "perm") (from_one p) (AllLimited-permutation p perm)))

abbrev behind_perm : Claim → List ℕ
behind_perm C = tail_of C.root C.cost C.bound C.tree

abbrev behind_cost : Claim → List ℕ
behind_cost C = line_text (codes "perm") (from_one C.permutation) ++ behind_perm C

abbrev behind_size : Claim → List ℕ
behind_size C = line_text (codes "cost") (C.cost ∷ []) ++ behind_cost C

abbrev behind_version : Claim → List ℕ
behind_version C = line_text (codes "n") (pos (length C.permutation) ∷ []) ++ behind_size C

-- the text of a proof is the line of its version and what is behind it
pub proof_parts : (C : Claim) → proof_text C ≡ line_text (codes "qapproof") (pos 1 ∷ []) ++ behind_version C
proof_parts C =
    in_parts (line_text (codes "qapproof") (pos 1 ∷ [])) (line_text (codes "n") (pos (length C.permutation) ∷ [])) (line_text (codes "cost") (C.cost ∷ []))
    (line_text (codes "perm") (from_one C.permutation)) (root_text C.root.facilities C.root.places) (bound_text C.cost C.bound) (tree_text C.tree) (codes "end\n")

fault_from_perm : (C : Claim) (text : List ℕ) (e : ProofError) → IsProof C → text ≡ behind_cost C → IsFaultFromPerm (length C.permutation) C.cost text e → ⊥
fault_from_perm C text e h is (inl fault) =
    perm_line (length C.permutation) C.permutation e h.permutation refl
    (named_fault (Truncated 4) text (codes "perm") (behind_perm C) (from_one C.permutation) (IsPermFault (length C.permutation)) e no_line-perm (AllLimited-permutation C.permutation h.permutation) is fault)
fault_from_perm C text e h is (inr f) =
    let b = f.3 in
    let same = line_front (codes "perm") (from_one C.permutation) (from_one f.0) (behind_perm C) b.rest no_line-perm (AllLimited-permutation C.permutation h.permutation) (AllLimited-permutation f.0 f.1) (sym is ∙ b.is) in
    fault_from_root (length C.permutation) C.root C.cost C.bound C.tree b.rest e h.root h.bound h.tree (sym same.1) b.holds

fault_from_cost : (C : Claim) (text : List ℕ) (e : ProofError) → IsProof C → text ≡ behind_size C → IsFaultFromCost (length C.permutation) text e → ⊥
fault_from_cost C text e h is (inl fault) =
    let line = named_fault (Truncated 3) text (codes "cost") (behind_cost C) (C.cost ∷ []) IsCostFault e no_line-cost (AllLimited-one C.cost h.cost) is fault in
    line.1 C.cost h.cost (IsNamed-numbers_text (codes "cost") (C.cost ∷ []) (AllLimited-one C.cost h.cost))
fault_from_cost C text e h is (inr f) =
    let b = f.2 in
    let same = line_front (codes "cost") (C.cost ∷ []) (f.0 ∷ []) (behind_cost C) b.rest no_line-cost (AllLimited-one C.cost h.cost) (AllLimited-one f.0 f.1) (sym is ∙ b.is) in
    let cost_is : C.cost ≡ f.0 = ap (λ l. get_or l 0 (pos 0)) same.0 in
    fault_from_perm C b.rest e h (sym same.1) (subst (λ (z : ℤ). IsFaultFromPerm (length C.permutation) z b.rest e) (sym cost_is) b.holds)

fault_from_size : (C : Claim) (text : List ℕ) (e : ProofError) → IsProof C → text ≡ behind_version C → IsFaultFromSize text e → ⊥
fault_from_size C text e h is (inl fault) =
    let n = length C.permutation in
    let line = named_fault (Truncated 2) text (codes "n") (behind_size C) (pos n ∷ []) IsSizeFault e no_line-size (small_number n h.permutation.small) is fault in
    line.1 n h.permutation.positive h.permutation.small (IsNamed-numbers_text (codes "n") (pos n ∷ []) (small_number n h.permutation.small))
fault_from_size C text e h is (inr f) =
    let n = length C.permutation in
    let b = f.3 in
    let same = line_front (codes "n") (pos n ∷ []) (pos f.0 ∷ []) (behind_size C) b.rest no_line-size (small_number n h.permutation.small) (small_number f.0 f.2) (sym is ∙ b.is) in
    let n_is : n ≡ f.0 = same_size n f.0 same.0 in
    fault_from_cost C b.rest e h (sym same.1) (subst (λ (k : ℕ). IsFaultFromCost k b.rest e) (sym n_is) b.holds)

-- the text of a proof has no fault
pub no_text_fault : (text : List ℕ) (C : Claim) (e : ProofError) → IsProofText text C → IsTextFault text e → ⊥
no_text_fault text C e h (inl fault) =
    header_line e (named_fault (Truncated 1) text (codes "qapproof") (behind_version C) (pos 1 ∷ []) IsHeaderFault e no_line-version version_limited (h.is ∙ proof_parts C) fault)
no_text_fault text C e h (inr b) =
    let same = line_front (codes "qapproof") (pos 1 ∷ []) (pos 1 ∷ []) (behind_version C) b.rest no_line-version version_limited version_limited (sym (h.is ∙ proof_parts C) ∙ b.is) in
    fault_from_size C b.rest e h.proof (sym same.1) b.holds

-- a text is that of one proof

-- two bounds and trees of one root and one cost
one_tree : (x : Placement) (c g b : ℤ) (t s : Node) → x.size ≤ 256 → IsBoundFor c g → IsBoundFor c b → HasShape x 0 false t → HasShape x 0 false s
    → bound_text c g ++ (tree_text t ++ codes "end\n") ≡ bound_text c b ++ (tree_text s ++ codes "end\n") → (g ≡ b) × (t ≡ s)
one_tree x c g b t s small h k p q e = by (standing_of c g h) (standing_of c b k)
  where
    front : List ℕ
    front = tree_text t ++ codes "end\n"

    other : List ℕ
    other = tree_text s ++ codes "end\n"

    by : Standing c g → Standing c b → (g ≡ b) × (t ≡ s)
    by (below low some) (below less line) =
        let same = line_front (codes "bound") (g ∷ []) (b ∷ []) front other no_line-below (AllLimited-one g low.limited) (AllLimited-one b less.limited)
        (sym (ap (λ l. l ++ front) some) ∙ e ∙ ap (λ l. l ++ other) line) in
        (ap (λ l. get_or l 0 (pos 0)) same.0, (tree_front t s x 0 false (codes "end\n") (codes "end\n") small (omega arith) p q same.1).0)
    by (below low some) (equal is none) =
        absurd (no_node_line s x (codes "end\n") other _ front (codes "bound") (g ∷ []) small q IsName-below (omega arith) refl (states c g other front low (sym (ap (λ l. l ++ other) none) ∙ sym e ∙ ap (λ l. l ++ front) some)) (named_bound c g low))
    by (equal is none) (below less line) =
        absurd (no_node_line t x (codes "end\n") front _ other (codes "bound") (b ∷ []) small p IsName-below (omega arith) refl (states c b front other less (sym (ap (λ l. l ++ front) none) ∙ e ∙ ap (λ l. l ++ other) line)) (named_bound c b less))
    by (equal is none) (equal same nil) =
        (is ∙ sym same, (tree_front t s x 0 false (codes "end\n") (codes "end\n") small (omega arith) p q (sym (ap (λ l. l ++ front) none) ∙ e ∙ ap (λ l. l ++ other) nil)).0)

-- two roots, and what stands behind them
one_root : (n : ℕ) (x y : Placement) (c g b : ℤ) (t s : Node) → IsRoot n x → IsRoot n y → IsBoundFor c g → IsBoundFor c b → HasShape x 0 false t → HasShape y 0 false s
    → tail_of x c g t ≡ tail_of y c b s → (x ≡ y) × (bound_text c g ++ (tree_text t ++ codes "end\n") ≡ bound_text c b ++ (tree_text s ++ codes "end\n"))
one_root n x y c g b t s root other h k p q e = by (rooting_of n x root) (rooting_of n y other)
  where
    front : List ℕ
    front = bound_text c g ++ (tree_text t ++ codes "end\n")

    back : List ℕ
    back = bound_text c b ++ (tree_text s ++ codes "end\n")

    by : Rooting n x → Rooting n y → (x ≡ y) × (front ≡ back)
    by (empty is none) (empty same nil) = (is ∙ sym same, sym (ap (λ l. l ++ front) none) ∙ e ∙ ap (λ l. l ++ back) nil)
    by (empty is none) (stated some line) =
        absurd (no_root_line x c g t front _ back (by_turns y.facilities y.places) root.placement.small h p refl (root_line n y front back some (sym (ap (λ l. l ++ front) none) ∙ e ∙ ap (λ l. l ++ back) line)) (named_root n y some))
    by (stated some line) (empty same nil) =
        absurd (no_root_line y c b s back _ front (by_turns x.facilities x.places) other.placement.small k q refl (root_line n x back front some (sym (ap (λ l. l ++ back) nil) ∙ sym e ∙ ap (λ l. l ++ front) line)) (named_root n x some))
    by (stated some line) (stated more last) =
        let u = line_front (codes "node") (by_turns x.facilities x.places) (by_turns y.facilities y.places) front back no_line-root (AllLimited-by_turns n x root) (AllLimited-by_turns n y other)
        (sym (ap (λ l. l ++ front) line) ∙ e ∙ ap (λ l. l ++ back) last) in
        (same_roots n x y root other u.0, u.1)

same_claims : (x y : Placement) (c d g b : ℤ) (p q : List ℕ) (t s : Node) → x ≡ y → c ≡ d → g ≡ b → p ≡ q → t ≡ s → claim_of x c g p t ≡ claim_of y d b q s
same_claims x y c d g b p q t s x_is c_is g_is p_is t_is = λ i. claim_of (x_is i) (c_is i) (g_is i) (p_is i) (t_is i)

-- a text is that of one proof at most
pub one_proof : (text : List ℕ) (C D : Claim) → IsProofText text C → IsProofText text D → C ≡ D
one_proof text C D h k =
    let p = h.proof.permutation in
    let q = k.proof.permutation in
    let n = length C.permutation in
    let a = line_front (codes "qapproof") (pos 1 ∷ []) (pos 1 ∷ []) (behind_version C) (behind_version D) no_line-version version_limited version_limited (sym (h.is ∙ proof_parts C) ∙ (k.is ∙ proof_parts D)) in
    let b = line_front (codes "n") (pos n ∷ []) (pos (length D.permutation) ∷ []) (behind_size C) (behind_size D) no_line-size (small_number n p.small) (small_number (length D.permutation) q.small) a.1 in
    let c = line_front (codes "cost") (C.cost ∷ []) (D.cost ∷ []) (behind_cost C) (behind_cost D) no_line-cost (AllLimited-one C.cost h.proof.cost) (AllLimited-one D.cost k.proof.cost) b.1 in
    let d = line_front (codes "perm") (from_one C.permutation) (from_one D.permutation) (behind_perm C) (behind_perm D) no_line-perm (AllLimited-permutation C.permutation p) (AllLimited-permutation D.permutation q) c.1 in
    let same = from_one-injective C.permutation D.permutation d.0 in
    let cost : C.cost ≡ D.cost = ap (λ l. get_or l 0 (pos 0)) c.0 in
    let root : IsRoot n D.root = subst (λ l. IsRoot (length l) D.root) (sym same) k.proof.root in
    let bounded : IsBoundFor C.cost D.bound = subst (λ (z : ℤ). IsBoundFor z D.bound) (sym cost) k.proof.bound in
    let tails = d.1 ∙ sym (ap (λ (z : ℤ). tail_of D.root z D.bound D.tree) cost) in
    let roots = one_root n C.root D.root C.cost C.bound D.bound C.tree D.tree h.proof.root root h.proof.bound bounded h.proof.tree k.proof.tree tails in
    let shape : HasShape C.root 0 false D.tree = subst (λ (x : Placement). HasShape x 0 false D.tree) (sym roots.0) k.proof.tree in
    let e = one_tree C.root C.cost C.bound D.bound C.tree D.tree h.proof.root.placement.small h.proof.bound bounded h.proof.tree shape roots.1 in
    same_claims C.root D.root C.cost D.cost C.bound D.bound C.permutation D.permutation C.tree D.tree roots.0 cost e.0 same e.1

-- The leaves of a valid tree: what each shows is so, and a bound for all of them is one for the root.
use Rattle.std.proofs.Common.{◌≡◌, ℕ, ◌+◌, ◌++◌, ◌∷◌, [], List, length, get_or, ℤ, pos, sym, ◌∙◌, ap, subst, arith}
use Rattle.std.specs.Prelude.{◌+ℤ◌, ◌-ℤ◌, ◌≤ℤ◌, All}
use Rattle.std.proofs.lemmas.List.{get_or_append_left, get_or-append-add, length-append}
use Rattle.std.proofs.lemmas.List.Elements.{All-append, All-cons, All-nil, All-head}
use Rattle.std.proofs.lemmas.Option.{same_Some}
use Rattle.qap_cost.specs.Instance.{Problem}
use Rattle.qap_cost.specs.Matrix.{Square, entry_of, dual_value}
use Rattle.qap_cost.specs.Placement.{Placement, IsPlacement, fixed_cost_of, free_facilities, free_locations}
use Rattle.qap_cost.proofs.Nodes.{child_is, parent_of}
use Rattle.qap_cost.proofs.Placements.{ListsFree-free_below}
use Rattle.gilmore_lawler.proofs.Completions.{fixed_and_duals-le}
use Rattle.gilmore_lawler.proofs.OneMatrix.{reduced_unique}
use Rattle.qap_proof.proofs.Reaching.{Reaches-le, free_place}
use Rattle.qap_proof.proofs.Validity.{Bounded, IsPlace, node_placement, Covered, AllCovered, covered_bounds}
use Rattle.qap_proof.specs.Claim.{NoneCompletesForLess}
use Rattle.qap_proof.specs.Cover.{AreLeaves, AreAllLeaves, IsAtLeast, IsBounded, IsShown, leaf}
use Rattle.qap_proof.specs.Tree.{Pair, Split, Node, closed, split, cut, mirrored, Nodes, no_nodes, node, child_count, IsFreeOn, facility_on, location_on, child_of, Place, whole, child, node_at}
use Rattle.qap_proof.specs.Valid.{Reaches, Valid, AllValid}
use Rattle.qap_proof.specs.declared.leaf.Leaf.{Leaf}

-- what holds of all leaves of two lists holds of those of the first
pub all_left : (P : Leaf → Type 0) (xs ys : List Leaf) → All P (xs ++ ys) → All P xs
all_left P xs ys h k d below = subst P (get_or_append_left xs ys d k below) (h k d (let both = length-append xs ys in omega arith))

-- and of the second
pub all_right : (P : Leaf → Type 0) (xs ys : List Leaf) → All P (xs ++ ys) → All P ys
all_right P xs ys h k d below = subst P (get_or-append-add xs ys k d) (h (length xs + k) d (let both = length-append xs ys in omega arith))

one_leaf : (P : Leaf → Type 0) (x : Placement) (z : ℤ) (ls : List Leaf) → ls ≡ leaf x z ∷ [] → All P ls → P (leaf x z)
one_leaf P x z ls is all = All-head P (leaf x z) [] (subst (All P) is all)

all_of_one : (P : Leaf → Type 0) (x : Placement) (z : ℤ) (ls : List Leaf) → ls ≡ leaf x z ∷ [] → P (leaf x z) → All P ls
all_of_one P x z ls is h = subst (All P) (sym is) (All-cons P (leaf x z) [] h (All-nil P))

-- a bound for the instance's permutations that complete a node of its size is one for all that completes it
pub Bounded-none : (I : Problem) (x : Placement) (g : ℤ) → I.size ≡ x.size → NoneCompletesForLess I x g → Bounded I g x
Bounded-none I x g same h q done = h q (record { bijection = done.bijection; same_size = done.same_size ∙ sym same }) done

-- a bound for all that completes a node is one for the instance's permutations that complete it
pub none_less : (I : Problem) (x : Placement) (g : ℤ) → Bounded I g x → NoneCompletesForLess I x g
none_less I x g h q permutes done = h q done

mutual
  -- where all leaves are bounded, the tree is covered
  pub Covered-leaves : (t : Node) (I : Problem) (g b : ℤ) (p : Place) (ls : List Leaf) → IsPlace p → I.size ≡ (node_at p).size → Valid I b p t → AreLeaves I p t ls → All (IsBounded I g) ls → Covered I g p t
  Covered-leaves (closed d) I g b p ls place same valid are all =
      let x = node_at p in
      Bounded-none I x g same (one_leaf (IsBounded I g) x (fixed_cost_of I x +ℤ dual_value d.u d.v) ls are all)
  Covered-leaves (split s children) I g b p ls place same valid are all =
      (valid.0, valid.2, AllCovered-leaves children I g b (node_at p) s 0 ls (node_placement p place) same valid.0 (omega (arith, valid.2)) valid.3 are all)
  Covered-leaves cut I g b (whole x) ls place same valid are all = absurd valid
  Covered-leaves cut I g b (child x s c) ls place same valid are all =
      Bounded-none I (child_of x s c) g same (one_leaf (IsBounded I g) (child_of x s c) are.0 ls are.2 all)
  Covered-leaves (mirrored j m) I g b (whole x) ls place same valid are all = absurd valid
  Covered-leaves (mirrored j m) I g b (child x s c) ls place same valid are all = valid

  pub AllCovered-leaves : (ts : Nodes) (I : Problem) (g b : ℤ) (x : Placement) (s : Split) (c : ℕ) (ls : List Leaf) → IsPlacement x → I.size ≡ x.size → IsFreeOn s.side x s.number → c + child_count ts + length x.facilities ≡ x.size
      → AllValid I b x s c ts → AreAllLeaves I x s c ts ls → All (IsBounded I g) ls → AllCovered I g x s c ts
  AllCovered-leaves no_nodes I g b x s c ls placement same free count valid are all = tt
  AllCovered-leaves (node t rest) I g b x s c ls placement same free count valid are all =
      let both = subst (All (IsBounded I g)) are.2 all in (
        Covered-leaves t I g b (child x s c) are.0 (placement, free, omega (arith, count)) same valid.0 are.3 (all_left (IsBounded I g) are.0 are.1 both),
        AllCovered-leaves rest I g b x s (c + 1) are.1 placement same free (omega (arith, count)) valid.1 are.4 (all_right (IsBounded I g) are.0 are.1 both),
      )

-- a bound for all leaves is one for the root
pub leaves_bound : (t : Node) (I : Problem) (g b : ℤ) (x : Placement) (ls : List Leaf) → IsPlacement x → I.size ≡ x.size → Valid I b (whole x) t → AreLeaves I (whole x) t ls → All (IsBounded I g) ls → NoneCompletesForLess I x g
leaves_bound t I g b x ls placement same valid are all =
    none_less I x g (covered_bounds t I g (whole x) placement same tt (Covered-leaves t I g b (whole x) ls placement same valid are all))

-- the duals yield one value for a child
pub Reaches-one : (I : Problem) (x : Placement) (d e : Pair) (i k : ℕ) (y z : ℤ) → IsPlacement x → d ≡ e → Reaches I x d i k y → Reaches I x e i k z → y ≡ z
Reaches-one I x d e i k y z placement same h g =
    let M = h.fits.matrix in
    let N = g.fits.matrix in
    let matrices : M ≡ N = reduced_unique I x M N h.fits.square g.fits.square h.fits.reduced g.fits.reduced in
    let row : h.row ≡ g.row =
    free_place x.size x.facilities (free_facilities x) h.row g.row (ListsFree-free_below x.size x.facilities placement.facilities) h.row_within g.row_within (h.row_of ∙ sym g.row_of) in
    let column : h.column ≡ g.column =
    free_place x.size x.places (free_locations x) h.column g.column (ListsFree-free_below x.size x.places placement.places) h.column_within g.column_within (h.column_of ∙ sym g.column_of) in
    let value : Pair → Square → ℕ → ℕ → ℤ =
    λ p A r c. fixed_cost_of I x +ℤ dual_value p.u p.v +ℤ entry_of A r c -ℤ get_or p.u r (pos 0) -ℤ get_or p.v c (pos 0) in
    h.is ∙ ap (λ p. value p M h.row h.column) same ∙ ap (λ A. value e A h.row h.column) matrices ∙ ap (λ r. value e N r h.column) row ∙ ap (value e N g.row) column ∙ sym g.is

-- the leaf shows what is so, and no less than the bound of its tree
record IsSound (I : Problem) (b : ℤ) (l : Leaf) : Type 0 where
  shown : IsShown I l
  least : IsAtLeast b l

mutual
  IsSound-leaves : (t : Node) (I : Problem) (b : ℤ) (p : Place) (ls : List Leaf) → IsPlace p → I.size ≡ (node_at p).size → Valid I b p t → AreLeaves I p t ls → All (IsSound I b) ls
  IsSound-leaves (closed d) I b p ls place same valid are =
      let x = node_at p in
      let fits = valid.fits in
      all_of_one (IsSound I b) x (fixed_cost_of I x +ℤ dual_value d.u d.v) ls are (record {
        shown = λ q permutes done. fixed_and_duals-le I x fits.matrix d.u d.v q (node_placement p place) same fits.reduced fits.fits done;
        least = valid.enough;
      })
  IsSound-leaves (split s children) I b p ls place same valid are =
      IsSound-all_leaves children I b (node_at p) s 0 ls (node_placement p place) same valid.0 (omega (arith, valid.2)) valid.3 are
  IsSound-leaves cut I b (whole x) ls place same valid are = absurd valid
  IsSound-leaves cut I b (child x s c) ls place same valid are =
      let f = facility_on s.side x s.number c in
      let k = location_on s.side x s.number c in
      let d = are.1.duals in
      let pairs : valid.duals ≡ d = same_Some valid.duals d (sym valid.has ∙ are.1.has) in
      let one : valid.value ≡ are.0 = Reaches-one I x valid.duals d f k valid.value are.0 place.0 pairs valid.reaches are.1.reaches in
      all_of_one (IsSound I b) (child_of x s c) are.0 ls are.2 (record {
        shown = λ q permutes done. Reaches-le I x d f k are.0 q place.0 same are.1.reaches (parent_of x f k q place.0 done) (child_is x f k q place.0 done);
        least = subst (λ z. b ≤ℤ z) one valid.enough;
      })
  IsSound-leaves (mirrored j m) I b (whole x) ls place same valid are = absurd valid
  IsSound-leaves (mirrored j m) I b (child x s c) ls place same valid are = subst (All (IsSound I b)) (sym are) (All-nil (IsSound I b))

  IsSound-all_leaves : (ts : Nodes) (I : Problem) (b : ℤ) (x : Placement) (s : Split) (c : ℕ) (ls : List Leaf) → IsPlacement x → I.size ≡ x.size → IsFreeOn s.side x s.number → c + child_count ts + length x.facilities ≡ x.size
      → AllValid I b x s c ts → AreAllLeaves I x s c ts ls → All (IsSound I b) ls
  IsSound-all_leaves no_nodes I b x s c ls placement same free count valid are = subst (All (IsSound I b)) (sym are) (All-nil (IsSound I b))
  IsSound-all_leaves (node t rest) I b x s c ls placement same free count valid are =
      subst (All (IsSound I b)) (sym are.2) (All-append (IsSound I b) are.0 are.1
      (IsSound-leaves t I b (child x s c) are.0 (placement, free, omega (arith, count)) same valid.0 are.3)
      (IsSound-all_leaves rest I b x s (c + 1) are.1 placement same free (omega (arith, count)) valid.1 are.4))

-- what each leaf of a valid tree shows is so
pub leaves_shown : (t : Node) (I : Problem) (b : ℤ) (x : Placement) (ls : List Leaf) → IsPlacement x → I.size ≡ x.size → Valid I b (whole x) t → AreLeaves I (whole x) t ls → All (IsShown I) ls
leaves_shown t I b x ls placement same valid are k d below = (IsSound-leaves t I b (whole x) ls placement same valid are k d below).shown

-- each leaf of a valid tree shows at least the bound
pub leaves_at_least : (t : Node) (I : Problem) (b : ℤ) (x : Placement) (ls : List Leaf) → IsPlacement x → I.size ≡ x.size → Valid I b (whole x) t → AreLeaves I (whole x) t ls → All (IsAtLeast b) ls
leaves_at_least t I b x ls placement same valid are k d below = (IsSound-leaves t I b (whole x) ls placement same valid are k d below).least

-- A valid tree bounds the cost of every permutation that completes its root.
use Rattle.std.proofs.Common.{◌≡◌, ℕ, ◌+◌, ◌<◌, List, length, get_or, ℤ, sym, ◌∙◌, ap, subst, inl, inr, arith}
use Rattle.std.specs.Prelude.{◌+ℤ◌, ◌≤ℤ◌}
use Rattle.std.proofs.lemmas.Bool.{cases_lt}
use Rattle.std.proofs.lemmas.Int.{ints}
use Rattle.qap_cost.specs.Instance.{Problem, IsInstance}
use Rattle.qap_cost.specs.Matrix.{dual_value}
use Rattle.qap_cost.specs.Objective.{cost_of, IsLeast}
use Rattle.qap_cost.specs.Placement.{Placement, IsPlacement, IsFreeFacility, IsFreeLocation, Completes, free_facilities, free_locations, placing, root_of, fixed_cost_of}
use Rattle.qap_cost.proofs.Bijections.{each_reached}
use Rattle.qap_cost.proofs.Nodes.{child_of as placed_child, child_is, parent_of, root_completed}
use Rattle.qap_cost.proofs.Placements.{ListsFree-free_below, IsPlacement-placing}
use Rattle.gilmore_lawler.proofs.Completions.{fixed_and_duals-le}
use Rattle.qap_proof.proofs.Images.{HasFellow-by_locations, HasFellow-by_facilities}
use Rattle.qap_proof.proofs.Reaching.{Reaches-le}
use Rattle.qap_proof.specs.Claim.{Claim, IsProof, Proves, NoneCompletesForLess}
use Rattle.qap_proof.specs.Tree.{Split, Node, closed, split, cut, mirrored, Nodes, no_nodes, node, child_count, IsFreeOn, facility_on, location_on, child_of, Place, whole, child, node_at}
use Rattle.qap_proof.specs.Valid.{IsCut, TakesOn, Valid, AllValid}
use Rattle.qap_proof.specs.declared.side.Side.{Side}
use Rattle.qap_proof.specs.declared.side.Side.TheVariants.{Facility, Location}

-- no permutation that completes the node costs less
abbrev pub Bounded : Problem → ℤ → Placement → Type 0
Bounded I g x = (p : List ℕ) → Completes x p → g ≤ℤ cost_of I p

-- the place is that of a node of a search
abbrev pub IsPlace : Place → Type 0
IsPlace (whole x) = IsPlacement x
IsPlace (child x s c) = IsPlacement x × IsFreeOn s.side x s.number × (c + length x.facilities < x.size)

-- the children before it are bounded
abbrev pub HasEarlier : Problem → ℤ → Place → Type 0
HasEarlier I g (whole x) = Unit {0}
HasEarlier I g (child x s c) = (j : ℕ) → j < c → Bounded I g (child_of x s j)

-- the pair that a child puts together is free
record IsFreePair (x : Placement) (f k : ℕ) : Type 0 where
  facility : IsFreeFacility x f
  location : IsFreeLocation x k

free_pair : (side : Side) (x : Placement) (i c : ℕ) → IsPlacement x → IsFreeOn side x i → c + length x.facilities < x.size → IsFreePair x (facility_on side x i c) (location_on side x i c)
free_pair Facility x i c placement free few =
    let listed = ListsFree-free_below x.size x.places placement.places in
    record { facility = free; location = listed.each c (omega (arith, listed.count, placement.paired)) }
free_pair Location x i c placement free few =
    let listed = ListsFree-free_below x.size x.facilities placement.facilities in
    record { facility = listed.each c (omega (arith, listed.count)); location = free }

-- the node at a place of a search is a placement
pub node_placement : (p : Place) → IsPlace p → IsPlacement (node_at p)
node_placement (whole x) h = h
node_placement (child x s c) h =
    let pair = free_pair s.side x s.number c h.0 h.1 h.2 in IsPlacement-placing x (facility_on s.side x s.number c) (location_on s.side x s.number c) h.0 pair.facility pair.location

-- a permutation that completes the node completes one of the children
child_found : (side : Side) (x : Placement) (i : ℕ) (q : List ℕ) → IsPlacement x → IsFreeOn side x i → Completes x q
    → (c : ℕ) × (c + length x.facilities < x.size) × Completes (placing x (facility_on side x i c) (location_on side x i c)) q
child_found Facility x i q placement free done =
    let listed = ListsFree-free_below x.size x.places placement.places in
    let next = placed_child x i q placement free done in
    let at = listed.all (get_or q i 0) next.0 in
    (at.0, omega (arith, at.1, listed.count, placement.paired), subst (λ (k : ℕ). Completes (placing x i k) q) (sym at.2) next.1)
child_found Location x k q placement free done =
    let listed = ListsFree-free_below x.size x.facilities placement.facilities in
    let found = each_reached q k done.bijection (omega (arith, done.same_size, free.within)) in
    let i = found.0 in
    let free_i : IsFreeFacility x i = record {
      within = omega (arith, done.same_size, found.1);
      untaken = λ t below same. free.untaken t (omega (arith, placement.paired)) (sym (done.agrees t below) ∙ ap (λ j. get_or q j 0) same ∙ found.2);
    } in
    let next = placed_child x i q placement free_i done in
    let at = listed.all i free_i in (
      at.0,
      omega (arith, at.1, listed.count),
      subst (λ (f : ℕ). Completes (placing x f k) q) (sym at.2) (subst (λ (l : ℕ). Completes (placing x i l) q) found.2 next.1),
    )

-- an image of a bounded child is bounded
image_bounded : (side : Side) (I : Problem) (g : ℤ) (x : Placement) (i j c : ℕ) (m : List ℕ) → IsPlacement x → I.size ≡ x.size → IsFreeOn side x i → c + length x.facilities < x.size → j < c → TakesOn side I x j c m
    → Bounded I g (placing x (facility_on side x i j) (location_on side x i j)) → Bounded I g (placing x (facility_on side x i c) (location_on side x i c))
image_bounded Facility I g x i j c m placement same free few less takes bounded p done =
    let listed = ListsFree-free_below x.size x.places placement.places in
    let here = get_or (free_locations x) c 0 in
    let there = get_or (free_locations x) j 0 in
    let at = listed.each j (omega (arith, listed.count, placement.paired)) in
    let fellow = HasFellow-by_locations I x m p i there here placement same takes (parent_of x i here p placement done) free.within (child_is x i here p placement done) at.within in
    let next = (placed_child x i fellow.other placement free fellow.completes).1 in
    let least = bounded fellow.other (subst (λ (k : ℕ). Completes (placing x i k) fellow.other) fellow.stands next) in
    subst (λ z. g ≤ℤ z) fellow.cost least
image_bounded Location I g x k j c m placement same free few less takes bounded p done =
    let listed = ListsFree-free_below x.size x.facilities placement.facilities in
    let here = get_or (free_facilities x) c 0 in
    let there = get_or (free_facilities x) j 0 in
    let at = listed.each j (omega (arith, listed.count)) in
    let fellow = HasFellow-by_facilities I x m p there here k placement same takes (parent_of x here k p placement done) (child_is x here k p placement done) at.within in
    let next = (placed_child x there fellow.other placement at fellow.completes).1 in
    let least = bounded fellow.other (subst (λ (l : ℕ). Completes (placing x there l) fellow.other) fellow.stands next) in
    subst (λ z. g ≤ℤ z) fellow.cost least

cut_bounded : (I : Problem) (g : ℤ) (x : Placement) (s : Split) (c : ℕ) → IsPlacement x → I.size ≡ x.size → IsCut I g x s c → Bounded I g (child_of x s c)
cut_bounded I g x s c placement same h p done =
    let f = facility_on s.side x s.number c in
    let k = location_on s.side x s.number c in
    let least = Reaches-le I x h.duals f k h.value p placement same h.reaches (parent_of x f k p placement done) (child_is x f k p placement done) in
    let enough = h.enough in
    omega (arith, ints, least, enough)

-- one child more is bounded
earlier_more : (I : Problem) (g : ℤ) (x : Placement) (s : Split) (c : ℕ) → HasEarlier I g (child x s c) → Bounded I g (child_of x s c) → HasEarlier I g (child x s (c + 1))
earlier_more I g x s c earlier here j less =
    elim (cases_lt j c) [
      | inl before ↦ earlier j before
      | inr past ↦ let same : c ≡ j = omega arith in subst (λ (k : ℕ). Bounded I g (child_of x s k)) same here
    ]

abbrev mutual
  -- the splits of the tree at this place leave no permutation out, what completes a leaf costs at least g, and a mirrored child is an
  -- image of an earlier one
  pub Covered : Problem → ℤ → Place → Node → Type 0
  Covered I g p (closed d) = Bounded I g (node_at p)
  Covered I g p (split s children) =
      IsFreeOn s.side (node_at p) s.number × (child_count children + length (node_at p).facilities ≡ (node_at p).size) × AllCovered I g (node_at p) s 0 children
  Covered I g (whole x) cut = ⊥
  Covered I g (child x s c) cut = Bounded I g (child_of x s c)
  Covered I g (whole x) (mirrored j m) = ⊥
  Covered I g (child x s c) (mirrored j m) = (j < c) × TakesOn s.side I x j c m

  pub AllCovered : Problem → ℤ → Placement → Split → ℕ → Nodes → Type 0
  AllCovered I g x s c no_nodes = Unit {0}
  AllCovered I g x s c (node t rest) = Covered I g (child x s c) t × AllCovered I g x s (c + 1) rest

mutual
  -- then what completes the node costs at least g
  pub covered_bounds : (t : Node) (I : Problem) (g : ℤ) (p : Place) → IsPlace p → I.size ≡ (node_at p).size → HasEarlier I g p → Covered I g p t → Bounded I g (node_at p)
  covered_bounds (closed d) I g p place same earlier h q done = h q done
  covered_bounds (split s children) I g p place same earlier h q done =
      let x = node_at p in
      let placement = node_placement p place in
      let found = child_found s.side x s.number q placement h.0 done in
      all_covered_bounds children I g x s 0 placement same h.0 (omega (arith, h.1)) (λ j less. absurd (omega arith)) h.2 found.0 (omega (arith, found.1, h.1)) q found.2
  covered_bounds cut I g (whole x) place same earlier h q done = absurd h
  covered_bounds cut I g (child x s c) place same earlier h q done = h q done
  covered_bounds (mirrored j m) I g (whole x) place same earlier h q done = absurd h
  covered_bounds (mirrored j m) I g (child x s c) place same earlier h q done =
      image_bounded s.side I g x s.number j c m place.0 same place.1 place.2 h.0 h.1 (earlier j h.0) q done

  -- where those before number c are bounded, all are
  pub all_covered_bounds : (ts : Nodes) (I : Problem) (g : ℤ) (x : Placement) (s : Split) (c : ℕ) → IsPlacement x → I.size ≡ x.size → IsFreeOn s.side x s.number → c + child_count ts + length x.facilities ≡ x.size
      → HasEarlier I g (child x s c) → AllCovered I g x s c ts → (j : ℕ) → j < c + child_count ts → Bounded I g (child_of x s j)
  all_covered_bounds no_nodes I g x s c placement same free count earlier h j less = earlier j (omega arith)
  all_covered_bounds (node t rest) I g x s c placement same free count earlier h j less =
      let here = covered_bounds t I g (child x s c) (placement, free, omega (arith, count)) same earlier h.0 in
      all_covered_bounds rest I g x s (c + 1) placement same free (omega (arith, count)) (earlier_more I g x s c earlier here) h.1 j (omega arith)

mutual
  -- the leaves of a valid tree are bounded
  pub Covered-valid : (t : Node) (I : Problem) (g : ℤ) (p : Place) → IsPlace p → I.size ≡ (node_at p).size → Valid I g p t → Covered I g p t
  Covered-valid (closed d) I g p place same h =
      let x = node_at p in
      let enough : g ≤ℤ (fixed_cost_of I x +ℤ dual_value d.u d.v) = h.enough in
      λ q done.
      let least : (fixed_cost_of I x +ℤ dual_value d.u d.v) ≤ℤ cost_of I q = fixed_and_duals-le I x h.fits.matrix d.u d.v q (node_placement p place) same h.fits.reduced h.fits.fits done in
      omega (arith, ints, least, enough)
  Covered-valid (split s children) I g p place same h =
      (h.0, h.2, AllCovered-valid children I g (node_at p) s 0 (node_placement p place) same h.0 (omega (arith, h.2)) h.3)
  Covered-valid cut I g (whole x) place same h = absurd h
  Covered-valid cut I g (child x s c) place same h = cut_bounded I g x s c place.0 same h
  Covered-valid (mirrored j m) I g (whole x) place same h = absurd h
  Covered-valid (mirrored j m) I g (child x s c) place same h = h

  pub AllCovered-valid : (ts : Nodes) (I : Problem) (g : ℤ) (x : Placement) (s : Split) (c : ℕ) → IsPlacement x → I.size ≡ x.size → IsFreeOn s.side x s.number → c + child_count ts + length x.facilities ≡ x.size
      → AllValid I g x s c ts → AllCovered I g x s c ts
  AllCovered-valid no_nodes I g x s c placement same free count h = tt
  AllCovered-valid (node t rest) I g x s c placement same free count h = (
    Covered-valid t I g (child x s c) (placement, free, omega (arith, count)) same h.0,
    AllCovered-valid rest I g x s (c + 1) placement same free (omega (arith, count)) h.1,
  )

-- a valid tree bounds the node at its place, where the children before it are bounded
pub valid_bounds : (t : Node) (I : Problem) (g : ℤ) (p : Place) → IsPlace p → I.size ≡ (node_at p).size → HasEarlier I g p → Valid I g p t → Bounded I g (node_at p)
valid_bounds t I g p place same earlier h = covered_bounds t I g p place same earlier (Covered-valid t I g p place same h)

-- none that completes the root costs less than the bound that is proved
pub Valid-NoneCompletesForLess : (I : Problem) (x : Placement) (g : ℤ) (t : Node) → IsPlacement x → x.size ≡ I.size → Valid I g (whole x) t → NoneCompletesForLess I x g
Valid-NoneCompletesForLess I x g t placement size valid p permutes done = valid_bounds t I g (whole x) placement (sym size) tt valid p done

-- of a proof that proves its bound, no permutation that completes the root costs less than the bound
pub Proves-NoneCompletesForLess : (I : Problem) (C : Claim) → IsInstance I → IsProof C → Proves I C → NoneCompletesForLess I C.root C.bound
Proves-NoneCompletesForLess I C instance shape h =
    let size : I.size ≡ C.root.size = sym h.same_size ∙ sym shape.root.size in
    λ p permutes done. valid_bounds C.tree I C.bound (whole C.root) shape.root.placement size tt h.tree p done

-- where the root is empty and that is the cost, it is least
pub Proves-IsLeast : (I : Problem) (C : Claim) → IsInstance I → IsProof C → Proves I C → C.root ≡ root_of I.size → C.bound ≡ C.cost → IsLeast I C.cost
Proves-IsLeast I C instance shape h empty same = record {
  reached = (C.permutation, record { bijection = shape.permutation.bijection; same_size = h.same_size }, h.cost);
  least = λ p permutes.
      subst (λ z. z ≤ℤ cost_of I p) same (Proves-NoneCompletesForLess I C instance shape h p permutes
      (subst (λ (x : Placement). Completes x p) (sym empty) (root_completed I.size p permutes.bijection permutes.same_size)));
}

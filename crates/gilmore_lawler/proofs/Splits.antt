-- The children of a split: what is known of their rows, and what more one of them costs than the node.
use Rattle.std.proofs.Common.{◌≡◌, ℕ, ◌+◌, ◌-◌, ◌*◌, ◌<◌, ◌≤◌, ◌++◌, ◌∷◌, [], refl, sym, ◌∙◌, ap, ap₂, subst, arith, List, take, length, get_or}
use Rattle.std.specs.Prelude.{ℤ, ◌+ℤ◌, ◌*ℤ◌, ◌↔◌, Bool, IsTrue}
use Rattle.std.proofs.lemmas.Int.{ints}
use Rattle.std.proofs.lemmas.List.{get_or_append_left, get_or_push, length_push}
use Rattle.qap_cost.specs.Instance.{Problem, IsInstance, entry}
use Rattle.qap_cost.specs.Placement.{Placement, IsPlacement, IsFree, IsFreeLocation, placing, placed_pair_cost, fixed_cost_of}
use Rattle.qap_cost.specs.Sum.{sum_to}
use Rattle.qap_cost.proofs.Placements.{IsPlacement-placing}
use Rattle.qap_cost.proofs.Sums.{sum_to-same, sum_to-add, sum_to-more}
use Rattle.gilmore_lawler.specs.Duals.{ProductsFit, TellsFit}
use Rattle.gilmore_lawler.specs.FlowRows.{HasDistanceRows}
use Rattle.gilmore_lawler.specs.ReducedMatrix.{cost_with, linear_cost}
use Rattle.gilmore_lawler.specs.Split.{Split, HasSplitRows}
use Rattle.gilmore_lawler.specs.Table.{dot, segment, linear_row, IsFactorRow}
use Rattle.gilmore_lawler.specs.declared.side.Side.TheVariants.{Distance}
use Rattle.gilmore_lawler.proofs.ChildRows.{listed, theirs, parts}
use Rattle.gilmore_lawler.proofs.Dots.{dot-linear_row}
use Rattle.gilmore_lawler.proofs.ReducedMatrices.{TellsFit-from_products, length-flow_rows, length-distance_rows}

-- a free location stands among the free ones
pub stands : (s : Split) (flows linear : List ℤ) (places free : List ℕ) (distances : List ℤ) (fixed : ℤ) (k : ℕ) → HasSplitRows s flows linear places free distances fixed → IsFreeLocation s.node k → (j : ℕ) × (j < length free) × (get_or free j 0 ≡ k)
stands s flows linear places free distances fixed k h at =
    let known : IsFree s.instance.size places k = subst (λ (n : ℕ). IsFree n places k) (sym h.same_size) (subst (λ (taken : List ℕ). IsFree s.node.size taken k) (sym h.at) at) in
    (listed s.instance places free distances h.distances_are).all k known

-- how many are placed and free
pub places_and_free : (s : Split) (flows linear : List ℤ) (places free : List ℕ) (distances : List ℤ) (fixed : ℤ) → HasSplitRows s flows linear places free distances fixed → (length free + length places ≡ s.instance.size) × (length places ≡ length s.node.facilities) × (s.instance.size ≤ 256)
places_and_free s flows linear places free distances fixed h = (
  (listed s.instance places free distances h.distances_are).count,
  ap length h.at ∙ h.placement.paired,
  omega (arith, h.same_size, h.placement.small),
)

-- a child has as many rows as locations are free but one
pub count_of : (s : Split) (flows linear : List ℤ) (places free : List ℕ) (distances : List ℤ) (fixed : ℤ) (k m : ℕ) → HasSplitRows s flows linear places free distances fixed → IsFreeLocation s.node k → m ≡ s.node.size - (length s.node.facilities + 1) → m + length s.node.facilities + 1 ≡ s.node.size
count_of s flows linear places free distances fixed k m h at count =
    let counts = places_and_free s flows linear places free distances fixed h in
    let here = stands s flows linear places free distances fixed k h at in
    omega (arith, counts, here.1, count, h.same_size)

-- the rows of the flows that all children of a split have are m rows of n + d + 1 numbers
pub flows_count : (s : Split) (flows linear : List ℤ) (places free : List ℕ) (distances : List ℤ) (fixed : ℤ) (k m n d : ℕ) → HasSplitRows s flows linear places free distances fixed → IsFreeLocation s.node k → m + length s.node.facilities + 1 ≡ s.node.size → n ≡ s.instance.size → d ≡ length s.node.facilities → length flows ≡ m * (n + d + 1)
flows_count s flows linear places free distances fixed k m n d h at count en ed =
    let x = placing s.node s.facility k in
    let deep : length x.facilities ≡ length s.node.facilities + 1 = length_push s.node.facilities s.facility in
    length-flow_rows s.instance x n (d + 1) flows (IsPlacement-placing s.node s.facility k h.placement h.facility at) h.same_size en (omega (arith, deep, ed)) h.flows_are
    ∙ ap₂ ◌*◌ (omega (arith, count, en, ed, h.same_size)) (omega arith)

-- so are the rows of the distances of a child
pub distances_count : (s : Split) (flows linear : List ℤ) (places free : List ℕ) (distances : List ℤ) (fixed : ℤ) (k m n d : ℕ) (b : List ℤ) → HasSplitRows s flows linear places free distances fixed → IsFreeLocation s.node k → m + length s.node.facilities + 1 ≡ s.node.size → n ≡ s.instance.size → d ≡ length s.node.facilities
    → HasDistanceRows s.instance (places ++ k ∷ []) b → length b ≡ m * (n + d + 1)
distances_count s flows linear places free distances fixed k m n d b h at count en ed made =
    let x = placing s.node s.facility k in
    let deep : length x.facilities ≡ length s.node.facilities + 1 = length_push s.node.facilities s.facility in
    length-distance_rows s.instance x n (d + 1) b (IsPlacement-placing s.node s.facility k h.placement h.facility at) h.same_size en (omega (arith, deep, ed)) (subst (λ (taken : List ℕ). HasDistanceRows s.instance (taken ++ k ∷ []) b) h.at made)
    ∙ ap₂ ◌*◌ (omega (arith, count, en, ed, h.same_size)) (omega arith)

-- the products fit if and only if the duals fit the child's reduced matrix
pub child_fits : (s : Split) (flows linear : List ℤ) (places free : List ℕ) (distances : List ℤ) (fixed : ℤ) (k n d : ℕ) (b u v : List ℤ) (fit : Bool) → HasSplitRows s flows linear places free distances fixed → IsInstance s.instance → IsFreeLocation s.node k
    → length u + length s.node.facilities + 1 ≡ s.node.size → length v + length s.node.facilities + 1 ≡ s.node.size → n ≡ s.instance.size → d ≡ length s.node.facilities
    → HasDistanceRows s.instance (places ++ k ∷ []) b → (IsTrue fit ↔ ProductsFit (n + d + 1) flows b u v) → TellsFit s.instance (placing s.node s.facility k) u v fit
child_fits s flows linear places free distances fixed k n d b u v fit h instance at u_count v_count en ed made told =
    let x = placing s.node s.facility k in
    let deep : length x.facilities ≡ length s.node.facilities + 1 = length_push s.node.facilities s.facility in
    let width : n + d + 1 ≡ x.size + length x.facilities = omega (arith, deep, en, ed, h.same_size) in
    TellsFit-from_products s.instance x flows b u v fit (IsPlacement-placing s.node s.facility k h.placement h.facility at) h.same_size instance h.flows_are
    (subst (λ (taken : List ℕ). HasDistanceRows s.instance (taken ++ k ∷ []) b) h.at made)
    (omega (arith, deep, u_count)) (omega (arith, deep, v_count))
    (subst (λ (w : ℕ). IsTrue fit ↔ ProductsFit w flows b u v) width told)

-- ---- what a child costs

abbrev product_of : Problem → ℕ → ℕ → ℕ → ℕ → ℤ
product_of I i h k g = entry I.size I.a i h *ℤ entry I.size I.b k g

same_product : (I : Problem) (i i' h h' k k' g g' : ℕ) → i ≡ i' → h ≡ h' → k ≡ k' → g ≡ g' → product_of I i h k g ≡ product_of I i' h' k' g'
same_product I i i' h h' k k' g g' ei eh ek eg =
    ap₂ (λ (j l : ℕ). product_of I j l k g) ei eh ∙ ap₂ (λ (j l : ℕ). product_of I i' h' j l) ek eg

-- a facility more has its own cost, and that with each placed one
pub fixed_more : (I : Problem) (x : Placement) (f k : ℕ) → IsPlacement x → fixed_cost_of I (placing x f k) ≡ fixed_cost_of I x +ℤ linear_cost I x f k
fixed_more I x f k node =
    let d = length x.facilities in
    let y = placing x f k in
    let F = y.facilities in
    let P = y.places in
    let c : ℕ → ℕ → ℤ = placed_pair_cost I y in
    let deep : length F ≡ d + 1 = length_push x.facilities f in
    let facility : (t : ℕ) → t < d → get_or F t 0 ≡ get_or x.facilities t 0 = λ t below. get_or_append_left x.facilities (f ∷ []) 0 t below in
    let place : (t : ℕ) → t < d → get_or P t 0 ≡ get_or x.places t 0 = λ t below. get_or_append_left x.places (k ∷ []) 0 t (omega (arith, below, node.paired)) in
    let last_facility : get_or F d 0 ≡ f = get_or_push x.facilities f 0 d refl in
    let last_place : get_or P d 0 ≡ k = get_or_push x.places k 0 d node.paired in
    let old : ℕ → ℕ → ℤ = placed_pair_cost I x in
    let there : ℕ → ℤ = λ t. product_of I f (get_or x.facilities t 0) k (get_or x.places t 0) in
    let back : ℕ → ℤ = λ t. product_of I (get_or x.facilities t 0) f (get_or x.places t 0) k in
    let whole : fixed_cost_of I y ≡ sum_to (λ s. sum_to (c s) (d + 1)) (d + 1) = ap (λ (m : ℕ). sum_to (λ s. sum_to (c s) m) m) deep in
    let rows : sum_to (λ s. sum_to (c s) (d + 1)) (d + 1) ≡ sum_to (λ s. sum_to (c s) (d + 1)) d +ℤ sum_to (c d) (d + 1) = sum_to-more (λ s. sum_to (c s) (d + 1)) d in
    let row : (s : ℕ) → s < d → sum_to (c s) (d + 1) ≡ sum_to (old s) d +ℤ back s =
    λ s below.
    sum_to-more (c s) d
    ∙ ap₂ ◌+ℤ◌
    (sum_to-same (c s) (old s) d (λ t inside. same_product I (get_or F s 0) (get_or x.facilities s 0) (get_or F t 0) (get_or x.facilities t 0) (get_or P s 0) (get_or x.places s 0) (get_or P t 0) (get_or x.places t 0) (facility s below) (facility t inside) (place s below) (place t inside)))
    (same_product I (get_or F s 0) (get_or x.facilities s 0) (get_or F d 0) f (get_or P s 0) (get_or x.places s 0) (get_or P d 0) k (facility s below) last_facility (place s below) last_place) in
    let before : sum_to (λ s. sum_to (c s) (d + 1)) d ≡ fixed_cost_of I x +ℤ sum_to back d = sum_to-same (λ s. sum_to (c s) (d + 1)) (λ s. sum_to (old s) d +ℤ back s) d row ∙ sum_to-add (λ s. sum_to (old s) d) back d in
    let with_each : sum_to (c d) d ≡ sum_to there d =
    sum_to-same (c d) there d (λ t inside. same_product I (get_or F d 0) f (get_or F t 0) (get_or x.facilities t 0) (get_or P d 0) k (get_or P t 0) (get_or x.places t 0) last_facility (facility t inside) last_place (place t inside)) in
    let own : c d d ≡ product_of I f f k k = same_product I (get_or F d 0) f (get_or F d 0) f (get_or P d 0) k (get_or P d 0) k last_facility last_facility last_place last_place in
    let last : sum_to (c d) (d + 1) ≡ sum_to (c d) d +ℤ c d d = sum_to-more (c d) d in
    let both : sum_to (cost_with I x f k) d ≡ sum_to there d +ℤ sum_to back d = sum_to-add there back d in
    omega (arith, ints, whole, rows, before, last, with_each, own, both)

-- the linear part of a free location's row
pub linear_part : (s : Split) (flows linear : List ℤ) (places free : List ℕ) (distances : List ℤ) (fixed : ℤ) (k j n d : ℕ) (row : List ℤ) → HasSplitRows s flows linear places free distances fixed → j < length free → get_or free j 0 ≡ k → n ≡ s.instance.size → d ≡ length s.node.facilities → row ≡ segment (n + d) distances j
    → take (1 + 2 * d) row ≡ linear_row s.instance.size s.instance.b s.node.places k
linear_part s flows linear places free distances fixed k j n d row h below at en ed is =
    let counts = places_and_free s flows linear places free distances fixed h in
    let width : 2 * length places + length free ≡ n + d = omega (arith, counts, en, ed) in
    let depth : d ≡ length places = omega (arith, counts, ed) in
    let here : IsFactorRow s.instance Distance places free j (segment (2 * length places + length free) distances j) = (theirs s.instance places free distances h.distances_are).rows j below in
    let known : IsFactorRow s.instance Distance places free j row = subst (IsFactorRow s.instance Distance places free j) (ap (λ (w : ℕ). segment w distances j) width ∙ sym is) here in
    ap (λ (m : ℕ). take (1 + 2 * m) row) depth
    ∙ (parts s.instance places free j row known).0
    ∙ ap₂ (λ (taken : List ℕ) (l : ℕ). linear_row s.instance.size s.instance.b taken l) h.at at

-- the fixed cost of a child is that of its node and the products of the facility's flows with the location's distances
pub fixed_child : (s : Split) (flows linear : List ℤ) (places free : List ℕ) (distances : List ℤ) (fixed : ℤ) (k : ℕ) (part : List ℤ) → HasSplitRows s flows linear places free distances fixed → part ≡ linear_row s.instance.size s.instance.b s.node.places k
    → fixed +ℤ dot linear part ≡ fixed_cost_of s.instance (placing s.node s.facility k)
fixed_child s flows linear places free distances fixed k part h is =
    ap₂ ◌+ℤ◌ h.fixed_is (ap₂ dot h.linear_is is ∙ dot-linear_row s.instance s.node s.facility k h.placement.paired)
    ∙ sym (fixed_more s.instance s.node s.facility k h.placement)

-- the rows that were made are those of the child at this location
pub made_child : (I J : Problem) (places taken free listed : List ℕ) (j k : ℕ) (b : List ℤ) → J ≡ I → taken ≡ places → listed ≡ free → get_or free j 0 ≡ k → HasDistanceRows J (taken ++ get_or listed j 0 ∷ []) b → HasDistanceRows I (places ++ k ∷ []) b
made_child I J places taken free listed j k b same at is stands made =
    subst (λ (g : ℕ). HasDistanceRows I (places ++ g ∷ []) b) (ap (λ (l : List ℕ). get_or l j 0) is ∙ stands)
    (subst (λ (l : List ℕ). HasDistanceRows I (l ++ get_or listed j 0 ∷ []) b) at (subst (λ (K : Problem). HasDistanceRows K (taken ++ get_or listed j 0 ∷ []) b) same made))

-- how many numbers the rows of the distances have
pub distances_width : (s : Split) (flows linear : List ℤ) (places free : List ℕ) (distances : List ℤ) (fixed : ℤ) (n d : ℕ) → HasSplitRows s flows linear places free distances fixed → n ≡ s.instance.size → d ≡ length s.node.facilities → length distances ≡ length free * (n + d)
distances_width s flows linear places free distances fixed n d h en ed =
    let counts = places_and_free s flows linear places free distances fixed h in
    (theirs s.instance places free distances h.distances_are).size ∙ ap (λ (w : ℕ). length free * w) (omega (arith, counts, en, ed))

-- Sums of products, place by place.
use Rattle.std.proofs.Common.{◌≡◌, ℕ, suc, ◌+◌, ◌*◌, ◌<◌, ◌≤◌, ◌++◌, ◌∷◌, [], refl, sym, ◌∙◌, ap, ap₂, arith, List, length, get_or}
use Rattle.std.specs.Prelude.{ℤ, pos, ◌+ℤ◌, ◌*ℤ◌, unsigned_abs}
use Rattle.std.proofs.lemmas.Int.{ints, unsigned_abs-mul}
use Rattle.std.proofs.lemmas.Nat.{mul-le}
use Rattle.std.proofs.lemmas.List.{length-append, get_or_append_left, get_or-append-add}
use Rattle.std.specs.List.{flat_map}
use Rattle.qap_cost.specs.Sum.{sum_to}
use Rattle.qap_cost.specs.Instance.{Problem, entry}
use Rattle.qap_cost.specs.Range.{AllInRange}
use Rattle.qap_cost.proofs.Sums.{sum_to-same, sum_to-bound}
use Rattle.gilmore_lawler.specs.declared.side.Side.TheVariants.{Flow, Distance}
use Rattle.qap_cost.specs.Placement.{Placement, free_facilities, free_locations}
use Rattle.gilmore_lawler.specs.ReducedMatrix.{IsReducedEntry, linear_cost, others}
use Rattle.gilmore_lawler.specs.Order.{IsArranged}
use Rattle.gilmore_lawler.specs.Table.{dot, pair_with, linear_row, IsFactorRow}
use Rattle.gilmore_lawler.proofs.Rearrangement.{product_along, IsLeastProduct-sorted}
use Rattle.gilmore_lawler.proofs.Skips.{sum_to-split}
use Rattle.gilmore_lawler.proofs.Tables.{length-others, length-linear_row}

-- the sum of products of lists in two parts is the sum of those of both parts
pub dot-append : (xs ys us vs : List ℤ) → length xs ≡ length us → dot (xs ++ ys) (us ++ vs) ≡ dot xs us +ℤ dot ys vs
dot-append xs ys us vs same =
    let f = product_along (xs ++ ys) (us ++ vs) in
    ap (sum_to f) (length-append xs ys)
    ∙ sum_to-split f (length xs) (length ys)
    ∙ ap₂ ◌+ℤ◌
    (sum_to-same f (product_along xs us) (length xs) (λ j h.
    ap₂ ◌*ℤ◌ (get_or_append_left xs ys (pos 0) j h) (get_or_append_left us vs (pos 0) j (omega (arith, same)))))
    (sum_to-same (λ j. f (length xs + j)) (product_along ys vs) (length ys) (λ j h.
    ap₂ ◌*ℤ◌ (get_or-append-add xs ys j (pos 0)) (ap (λ k. get_or (us ++ vs) (k + j) (pos 0)) same ∙ get_or-append-add us vs j (pos 0))))

-- of lists of one number each it is their product
pub dot-one : (x y : ℤ) → dot (x ∷ []) (y ∷ []) ≡ x *ℤ y
dot-one x y = omega (arith, ints)

dot-two : (x y u v : ℤ) → dot (x ∷ y ∷ []) (u ∷ v ∷ []) ≡ x *ℤ u +ℤ y *ℤ v
dot-two x y u v = omega (arith, ints)

-- a number of the one list with that of the other, both ways
abbrev pairs_along : (f f' g g' : ℕ → ℤ) (ps qs : List ℕ) → ℕ → ℤ
pairs_along f f' g g' ps qs t = f (get_or ps t 0) *ℤ g (get_or qs t 0) +ℤ f' (get_or ps t 0) *ℤ g' (get_or qs t 0)

-- of lists of pairs it is the sum of what each pair gives
pub dot-pairs : (f f' g g' : ℕ → ℤ) (ps qs : List ℕ) → length qs ≡ length ps → dot (flat_map (λ h. f h ∷ f' h ∷ []) ps) (flat_map (λ h. g h ∷ g' h ∷ []) qs) ≡ sum_to (pairs_along f f' g g' ps qs) (length ps)
dot-pairs f f' g g' [] [] same = refl
dot-pairs f f' g g' [] (q ∷ qs) same = absurd (omega arith)
dot-pairs f f' g g' (p ∷ ps) [] same = absurd (omega arith)
dot-pairs f f' g g' (p ∷ ps) (q ∷ qs) same =
    let all = pairs_along f f' g g' (p ∷ ps) (q ∷ qs) in
    let n = length ps in
    let e : 1 + n ≡ suc n = omega arith in
    let first : sum_to all 1 ≡ f p *ℤ g q +ℤ f' p *ℤ g' q = omega (arith, ints) in
    let rest : sum_to (λ t. all (1 + t)) n ≡ sum_to (pairs_along f f' g g' ps qs) n =
    sum_to-same (λ t. all (1 + t)) (pairs_along f f' g g' ps qs) n (λ t h.
    let next : 1 + t ≡ suc t = omega arith in
    ap all next) in
    dot-append (f p ∷ f' p ∷ []) (flat_map (λ h. f h ∷ f' h ∷ []) ps) (g q ∷ g' q ∷ []) (flat_map (λ h. g h ∷ g' h ∷ []) qs) refl
    ∙ ap₂ ◌+ℤ◌ (dot-two (f p) (f' p) (g q) (g' q)) (dot-pairs f f' g g' ps qs (omega arith))
    ∙ sym (ap (sum_to all) (sym e) ∙ sum_to-split all 1 n ∙ ap₂ ◌+ℤ◌ first rest)

-- a sum of products of entries is no further from 0 than 10^18 for each place
pub dot-bound : (xs ys : List ℤ) → AllInRange xs → AllInRange ys → length xs ≤ length ys → unsigned_abs (dot xs ys) ≤ length xs * 1000000000000000000
dot-bound xs ys x y h =
    sum_to-bound (product_along xs ys) (length xs) 1000000000000000000 (λ j below.
    let product : unsigned_abs (get_or xs j (pos 0)) * unsigned_abs (get_or ys j (pos 0)) ≤ 1000000000 * 1000000000 =
    mul-le _ _ _ _ (x.each j below) (y.each j (omega arith)) in
    rw (unsigned_abs-mul (get_or xs j (pos 0)) (get_or ys j (pos 0))) product)

-- what the linear parts of two rows give
pub dot-linear_row : (I : Problem) (x : Placement) (i k : ℕ) → length x.places ≡ length x.facilities → dot (linear_row I.size I.a x.facilities i) (linear_row I.size I.b x.places k) ≡ linear_cost I x i k
dot-linear_row I x i k paired =
    let n = I.size in
    let a_own = entry n I.a i i in
    let b_own = entry n I.b k k in
    let a_pairs = flat_map (pair_with n I.a i) x.facilities in
    let b_pairs = flat_map (pair_with n I.b k) x.places in
    dot-append (a_own ∷ []) a_pairs (b_own ∷ []) b_pairs refl
    ∙ ap₂ ◌+ℤ◌ (dot-one a_own b_own)
    (dot-pairs (entry n I.a i) (λ h. entry n I.a h i) (entry n I.b k) (λ g. entry n I.b g k) x.facilities x.places paired)

-- the product of a row of flows and a row of distances is an entry of the reduced matrix
pub IsReducedEntry-from_rows : (I : Problem) (x : Placement) (r c : ℕ) (a b : List ℤ) → length x.places ≡ length x.facilities → length (free_locations x) ≡ length (free_facilities x) → r < length (free_facilities x) → c < length (free_facilities x) → IsFactorRow I Flow x.facilities (free_facilities x) r a → IsFactorRow I Distance x.places (free_locations x) c b → IsReducedEntry I x r c (dot a b)
IsReducedEntry-from_rows I x r c a b paired square hr hc ra rb =
    let n = I.size in
    let i = get_or (free_facilities x) r 0 in
    let k = get_or (free_locations x) c 0 in
    let flows = others n I.a (free_facilities x) r in
    let distances = others n I.b (free_locations x) c in
    let flows_count = length-others n I.a (free_facilities x) r hr in
    let distances_count = length-others n I.b (free_locations x) c (omega (arith, square)) in
    let up : IsArranged flows ra.sorted = ra.moved in
    let down : IsArranged distances rb.sorted = rb.moved in
    let least = IsLeastProduct-sorted flows distances ra.sorted rb.sorted up down (omega (arith, flows_count, distances_count, square)) ra.ordered rb.ordered in
    record {
      least = sum_to (product_along ra.sorted rb.sorted) (length flows);
      is_least = least;
      sum =
          ap₂ dot ra.is rb.is
          ∙ dot-append (linear_row n I.a x.facilities i) ra.sorted (linear_row n I.b x.places k) rb.sorted
          (omega (arith, length-linear_row n I.a x.facilities i, length-linear_row n I.b x.places k, paired))
          ∙ ap₂ ◌+ℤ◌ (dot-linear_row I x i k paired) (ap (sum_to (product_along ra.sorted rb.sorted)) up.same_length);
    }

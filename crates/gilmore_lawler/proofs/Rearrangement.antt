-- The rearrangement inequality: of all pairings of two lists, the least sum of products has one list ascending and the
-- other descending. It is weak duality: the sorted lists give an array with duals that are tight on its diagonal.
use Rattle.std.proofs.Common.{◌≡◌, ℕ, zero, suc, ◌+◌, ◌-◌, ◌<◌, ◌≤◌, refl, sym, ◌∙◌, ap, ap₂, subst, arith, List, reverse, length, get_or, false, inl, inr, Ordering, Less, Equal, Greater}
use Rattle.std.specs.Prelude.{ℤ, pos, ◌+ℤ◌, ◌*ℤ◌, ◌≤ℤ◌, ◌<ℤ◌, ◌-ℤ◌, unsigned_abs}
use Rattle.std.proofs.lemmas.Int.{ints}
use Rattle.std.proofs.lemmas.Bool.{cases_lt}
use Rattle.std.proofs.lemmas.List.{length-reverse, get_or-reverse}
use Rattle.std.proofs.lemmas.List.Sorted.{sorted_far, ranks_by}
use Rattle.std.proofs.lemmas.Cmp.{int_cmp_total}
use Rattle.std.specs.Cmp.{int_ranks}
use Rattle.std.specs.Ordering.{int_cmp, is_lt, MatchOrdering}
use Rattle.std.specs.List.Sorted.{IsSorted, IsPermutation}
use Rattle.std.proofs.Math.IntN.{*ℤ_comm}
use Rattle.qap_cost.specs.Sum.{sum_to}
use Rattle.qap_cost.specs.Bijection.{IsBijection}
use Rattle.qap_cost.specs.Range.{AllWithin}
use Rattle.qap_cost.specs.Row.{product_at}
use Rattle.qap_cost.proofs.Sums.{*ℤ-+ℤ, sum_to-same, sum_to-add, sum_to-monotone}
use Rattle.qap_cost.proofs.Bijections.{sum_to-in_order, inverse_of, inverse-IsBijection}
use Rattle.gilmore_lawler.specs.Order.{IsArranged, IsAscending, IsDescending}
use Rattle.gilmore_lawler.specs.LeastProduct.{paired_sum, IsLeastProduct}
use Rattle.gilmore_lawler.proofs.Lists.{IsArranged-from_permutation, composed, length-composed, get_or-composed, IsBijection-composed}

-- an array in which crossing two rows and two columns never lowers their sum (Monge 1781; Hoffman 1963)
pub record IsMonge (f : ℕ → ℕ → ℤ) (n : ℕ) : Type 0 where
  pub cross : (i j k l : ℕ) → i ≤ j → j < n → k ≤ l → l < n → (f i k +ℤ f j l) ≤ℤ (f i l +ℤ f j k)

-- the duals of the rows
row_dual : (ℕ → ℕ → ℤ) → ℕ → ℤ
row_dual f zero = pos 0
row_dual f (suc i) = row_dual f i +ℤ (f (suc i) i -ℤ f i i)

row_dual-more : (f : ℕ → ℕ → ℤ) (i : ℕ) → row_dual f (suc i) ≡ row_dual f i +ℤ (f (suc i) i -ℤ f i i)
unfolding row_dual
row_dual-more f i = refl

-- below the diagonal
row_dual-down : (f : ℕ → ℕ → ℤ) (n k t : ℕ) → IsMonge f n → t + k < n → (row_dual f (t + k) -ℤ row_dual f k) ≤ℤ (f (t + k) k -ℤ f k k)
row_dual-down f n k zero m h =
    let e : zero + k ≡ k = omega arith in
    subst (λ (j : ℕ). (row_dual f j -ℤ row_dual f k) ≤ℤ (f j k -ℤ f k k)) (sym e) (omega (arith, ints))
row_dual-down f n k (suc t) m h =
    let ih : (row_dual f (t + k) -ℤ row_dual f k) ≤ℤ (f (t + k) k -ℤ f k k) = row_dual-down f n k t m (omega arith) in
    let step = row_dual-more f (t + k) in
    let crossed = m.cross (t + k) (suc (t + k)) k (t + k) (omega arith) (omega arith) (omega arith) (omega arith) in
    let e : suc t + k ≡ suc (t + k) = omega arith in
    subst (λ (j : ℕ). (row_dual f j -ℤ row_dual f k) ≤ℤ (f j k -ℤ f k k)) (sym e) (omega (arith, ints, step, crossed, ih))

-- above the diagonal
row_dual-up : (f : ℕ → ℕ → ℤ) (n i t : ℕ) → IsMonge f n → t + i < n → (f (t + i) (t + i) -ℤ f i (t + i)) ≤ℤ (row_dual f (t + i) -ℤ row_dual f i)
row_dual-up f n i zero m h =
    let e : zero + i ≡ i = omega arith in
    subst (λ (j : ℕ). (f j j -ℤ f i j) ≤ℤ (row_dual f j -ℤ row_dual f i)) (sym e) (omega (arith, ints))
row_dual-up f n i (suc t) m h =
    let ih : (f (t + i) (t + i) -ℤ f i (t + i)) ≤ℤ (row_dual f (t + i) -ℤ row_dual f i) = row_dual-up f n i t m (omega arith) in
    let step = row_dual-more f (t + i) in
    let crossed = m.cross i (suc (t + i)) (t + i) (suc (t + i)) (omega arith) (omega arith) (omega arith) (omega arith) in
    let e : suc t + i ≡ suc (t + i) = omega arith in
    subst (λ (j : ℕ). (f j j -ℤ f i j) ≤ℤ (row_dual f j -ℤ row_dual f i)) (sym e) (omega (arith, ints, step, crossed, ih))

-- the dual of a column is what the diagonal leaves to it; the two never pass an entry
duals_below : (f : ℕ → ℕ → ℤ) (n i k : ℕ) → IsMonge f n → i < n → k < n → (row_dual f i +ℤ (f k k -ℤ row_dual f k)) ≤ℤ f i k
duals_below f n i k m hi hk =
    elim (cases_lt i k) [
      | inl less ↦
          let t = k - i in
          let e : t + i ≡ k = omega arith in
          let up = row_dual-up f n i t m (omega arith) in
          let up' : (f k k -ℤ f i k) ≤ℤ (row_dual f k -ℤ row_dual f i) =
          subst (λ (j : ℕ). (f j j -ℤ f i j) ≤ℤ (row_dual f j -ℤ row_dual f i)) e up in
          omega (arith, ints, up')
      | inr more ↦
          let t = i - k in
          let e : t + k ≡ i = omega arith in
          let down = row_dual-down f n k t m (omega arith) in
          let down' : (row_dual f i -ℤ row_dual f k) ≤ℤ (f i k -ℤ f k k) =
          subst (λ (j : ℕ). (row_dual f j -ℤ row_dual f k) ≤ℤ (f j k -ℤ f k k)) e down in
          omega (arith, ints, down')
    ]

-- the diagonal of such an array is a least assignment
pub diagonal-le : (f : ℕ → ℕ → ℤ) (p : List ℕ) → IsMonge f (length p) → IsBijection p → sum_to (λ i. f i i) (length p) ≤ℤ sum_to (λ i. f i (get_or p i 0)) (length p)
diagonal-le f p m b =
    let n = length p in
    let u : ℕ → ℤ = row_dual f in
    let v : ℕ → ℤ = λ k. f k k -ℤ row_dual f k in
    let diagonal : sum_to (λ i. f i i) n ≡ sum_to (λ i. u i +ℤ v i) n =
    sum_to-same (λ i. f i i) (λ i. u i +ℤ v i) n (λ i h. omega (arith, ints)) in
    let split : sum_to (λ i. u i +ℤ v i) n ≡ sum_to u n +ℤ sum_to v n = sum_to-add u v n in
    let joined : sum_to (λ i. u i +ℤ v (get_or p i 0)) n ≡ sum_to u n +ℤ sum_to (λ i. v (get_or p i 0)) n =
    sum_to-add u (λ i. v (get_or p i 0)) n in
    let order : sum_to (λ i. v (get_or p i 0)) n ≡ sum_to v n = sum_to-in_order v p b in
    let below : sum_to (λ i. u i +ℤ v (get_or p i 0)) n ≤ℤ sum_to (λ i. f i (get_or p i 0)) n =
    sum_to-monotone (λ i. u i +ℤ v (get_or p i 0)) (λ i. f i (get_or p i 0)) n
    (λ i h. duals_below f n i (get_or p i 0) m h (b.within i h)) in
    omega (arith, ints, diagonal, split, joined, order, below)

-- where x is found not to be below y, y is at most x
pub not_below : (x y : ℤ) (o : Ordering) → MatchOrdering o (x <ℤ y) (x ≡ y) (y <ℤ x) → is_lt o ≡ false → y ≤ℤ x
not_below x y Less h e = cc
not_below x y Equal h e = omega (arith, ints)
not_below x y Greater h e = omega (arith, ints)

-- what a sort ensures
pub IsAscending-from_sort : (xs : List ℤ) → IsSorted int_cmp xs → IsAscending xs
IsAscending-from_sort xs sorted = record {
  rises = λ i j h below.
      let last : is_lt (int_cmp (get_or xs j (pos 0)) (get_or xs i (pos 0))) ≡ false =
      sorted_far (λ x y. is_lt (int_cmp x y)) (ranks_by int_cmp_total (λ (x : ℤ). x)) xs sorted i j (pos 0) h below in
      not_below (get_or xs j (pos 0)) (get_or xs i (pos 0)) (int_cmp (get_or xs j (pos 0)) (get_or xs i (pos 0))) (int_ranks (get_or xs j (pos 0)) (get_or xs i (pos 0))) last;
}

-- a list that ascends, reversed, descends
pub IsDescending-reverse : (xs : List ℤ) → IsAscending xs → IsDescending (reverse xs)
IsDescending-reverse xs up = record {
  falls = λ i j h below.
      let same = length-reverse xs in
      let at_i = get_or-reverse xs i (pos 0) (omega (arith, same)) in
      let at_j = get_or-reverse xs j (pos 0) (omega (arith, same)) in
      let order : get_or xs (length xs - 1 - j) (pos 0) ≤ℤ get_or xs (length xs - 1 - i) (pos 0) =
      up.rises (length xs - 1 - j) (length xs - 1 - i) (omega (arith, same)) (omega (arith, same)) in
      rw (at_i, at_j) order;
}

-- where a is at most b and d at most c, a c + b d is at most a d + b c
crossed_products : (a b c d : ℤ) → a ≤ℤ b → d ≤ℤ c → (a *ℤ c +ℤ b *ℤ d) ≤ℤ (a *ℤ d +ℤ b *ℤ c)
crossed_products a b c d h k =
    let e = pos (unsigned_abs (b -ℤ a)) in
    let g = pos (unsigned_abs (c -ℤ d)) in
    let b_is : b ≡ a +ℤ e = omega (arith, ints) in
    let c_is : c ≡ d +ℤ g = omega (arith, ints) in
    let ac : a *ℤ c ≡ a *ℤ d +ℤ a *ℤ g = ap (λ x. a *ℤ x) c_is ∙ *ℤ-+ℤ a d g in
    let bc : b *ℤ c ≡ b *ℤ d +ℤ b *ℤ g = ap (λ x. b *ℤ x) c_is ∙ *ℤ-+ℤ b d g in
    let bg : b *ℤ g ≡ a *ℤ g +ℤ e *ℤ g =
    *ℤ_comm b g ∙ ap (λ x. g *ℤ x) b_is ∙ *ℤ-+ℤ g a e ∙ ap₂ ◌+ℤ◌ (*ℤ_comm g a) (*ℤ_comm g e) in
    let positive : pos 0 ≤ℤ (e *ℤ g) = omega (arith, ints) in
    omega (arith, ints, ac, bc, bg, positive)

products-IsMonge : (xs ys : List ℤ) → IsAscending xs → IsDescending ys → length xs ≡ length ys → IsMonge (λ i k. get_or xs i (pos 0) *ℤ get_or ys k (pos 0)) (length xs)
products-IsMonge xs ys up down same = record {
  cross = λ i j k l ij hj kl hl.
      crossed_products (get_or xs i (pos 0)) (get_or xs j (pos 0)) (get_or ys k (pos 0)) (get_or ys l (pos 0))
      (up.rises i j ij hj) (down.falls k l kl (omega (arith, same)));
}

-- the number at each place of one list times that at the same place of the other
abbrev pub product_along : List ℤ → List ℤ → ℕ → ℤ
product_along xs ys j = get_or xs j (pos 0) *ℤ get_or ys j (pos 0)

-- paired in opposite orders, two lists have the least sum of products
pub IsLeastProduct-sorted : (xs ys up down : List ℤ) → IsArranged xs up → IsArranged ys down → length xs ≡ length ys → IsAscending up → IsDescending down → IsLeastProduct xs ys (sum_to (product_along up down) (length xs))
IsLeastProduct-sorted xs ys up down x y same rising falling =
    let n = length xs in
    let a = x.order in
    let b = y.order in
    let back = inverse_of a x.bijection in
    let inv = back.0 in
    let other = inverse_of b y.bijection in
    let inv_b = other.0 in
    let inv_bijection : IsBijection inv = inverse-IsBijection a inv x.bijection back.1 in
    let inv_b_bijection : IsBijection inv_b = inverse-IsBijection b inv_b y.bijection other.1 in
    let inv_count : length inv ≡ n = back.1.same_length ∙ x.count in
    let inv_b_count : length inv_b ≡ n = other.1.same_length ∙ y.count ∙ sym same in
    let p = composed b inv in
    let p_count : length p ≡ n = length-composed b inv ∙ inv_count in
    let by_order : (q : List ℕ) → sum_to (λ i. product_at xs ys q (get_or a i 0)) n ≡ paired_sum xs ys q =
    λ q.
    ap (sum_to (λ i. product_at xs ys q (get_or a i 0))) (sym x.count)
    ∙ sum_to-in_order (product_at xs ys q) a x.bijection
    ∙ ap (sum_to (product_at xs ys q)) x.count in
    let inside : (i : ℕ) → i < n → get_or a i 0 < n = λ i h. omega (arith, x.count, x.bijection.within i (omega (arith, x.count))) in
    let partner : (i : ℕ) → i < n → get_or p (get_or a i 0) 0 ≡ get_or b i 0 =
    λ i h.
    get_or-composed b inv (get_or a i 0) (omega (arith, inside i h, inv_count))
    ∙ ap (λ k. get_or b k 0) (back.1.there i (omega (arith, x.count))) in
    let reads : (i : ℕ) → i < n → product_at xs ys p (get_or a i 0) ≡ product_along up down i =
    λ i h.
    ap₂ ◌*ℤ◌ (sym (x.reads i h))
    (ap (λ k. get_or ys k (pos 0)) (partner i h) ∙ sym (y.reads i (omega (arith, same)))) in
    let monge = products-IsMonge up down rising falling (x.same_length ∙ same ∙ sym y.same_length) in
    record {
      reached = (
        p,
        record {
          bijection = IsBijection-composed b inv y.bijection inv_bijection (y.count ∙ sym same ∙ sym inv_count);
          left = p_count;
          right = p_count ∙ same;
        },
        sym (by_order p) ∙ sum_to-same (λ i. product_at xs ys p (get_or a i 0)) (product_along up down) n reads,
      );
      least = λ q h.
          let inner = composed q a in
          let inner_count : length inner ≡ n = length-composed q a ∙ x.count in
          let inner_bijection : IsBijection inner = IsBijection-composed q a h.bijection x.bijection (h.left ∙ sym x.count) in
          let r = composed inv_b inner in
          let r_count : length r ≡ n = length-composed inv_b inner ∙ inner_count in
          let r_bijection : IsBijection r = IsBijection-composed inv_b inner inv_b_bijection inner_bijection (inv_b_count ∙ sym inner_count) in
          let target : (i : ℕ) → i < n → get_or q (get_or a i 0) 0 < length ys =
          λ i hi. omega (arith, h.right, h.bijection.within (get_or a i 0) (omega (arith, inside i hi, h.left))) in
          let stands : (i : ℕ) → i < n → get_or b (get_or r i 0) 0 ≡ get_or q (get_or a i 0) 0 =
          λ i hi.
          ap (λ k. get_or b k 0) (get_or-composed inv_b inner i (omega (arith, inner_count)) ∙ ap (λ k. get_or inv_b k 0) (get_or-composed q a i (omega (arith, x.count))))
          ∙ other.1.back (get_or q (get_or a i 0) 0) (omega (arith, y.count, target i hi)) in
          let r_below : (i : ℕ) → i < n → get_or r i 0 < length ys =
          λ i hi. omega (arith, same, r_count, r_bijection.within i (omega (arith, r_count))) in
          let same_terms : (i : ℕ) → i < n → product_at xs ys q (get_or a i 0) ≡ get_or up i (pos 0) *ℤ get_or down (get_or r i 0) (pos 0) =
          λ i hi.
          ap₂ ◌*ℤ◌ (sym (x.reads i hi))
          (sym (y.reads (get_or r i 0) (r_below i hi) ∙ ap (λ k. get_or ys k (pos 0)) (stands i hi))) in
          let sums : paired_sum xs ys q ≡ sum_to (λ i. get_or up i (pos 0) *ℤ get_or down (get_or r i 0) (pos 0)) n =
          sym (by_order q)
          ∙ sum_to-same (λ i. product_at xs ys q (get_or a i 0)) (λ i. get_or up i (pos 0) *ℤ get_or down (get_or r i 0) (pos 0)) n same_terms in
          let f : ℕ → ℕ → ℤ = λ i k. get_or up i (pos 0) *ℤ get_or down k (pos 0) in
          let monge_r : IsMonge f (length r) = subst (λ (m : ℕ). IsMonge f m) (x.same_length ∙ sym r_count) monge in
          let below : sum_to (product_along up down) (length r) ≤ℤ sum_to (λ i. f i (get_or r i 0)) (length r) = diagonal-le f r monge_r r_bijection in
          let left : sum_to (product_along up down) (length r) ≡ sum_to (product_along up down) n = ap (sum_to (product_along up down)) r_count in
          let right : sum_to (λ i. f i (get_or r i 0)) (length r) ≡ sum_to (λ i. f i (get_or r i 0)) n = ap (sum_to (λ i. f i (get_or r i 0))) r_count in
          omega (arith, ints, sums, below, left, right);
    }

-- the same numbers lie within the same range
pub AllWithin-arranged : (l : ℕ) (xs ys : List ℤ) → IsArranged xs ys → AllWithin l xs → AllWithin l ys
AllWithin-arranged l xs ys a h = record {
  each = λ j below.
      let here : j < length xs = omega (arith, a.same_length) in
      rw (a.reads j here) (h.each (get_or a.order j 0) (omega (arith, a.count, a.bijection.within j (omega (arith, a.count)))));
}

-- a reordering of a copy of a list is the list in another order
pub IsArranged-from_copy : (xs copy ys : List ℤ) → copy ≡ xs → IsPermutation copy ys → IsArranged xs ys
IsArranged-from_copy xs copy ys same moved = IsArranged-from_permutation xs ys (subst (λ (zs : List ℤ). IsPermutation zs ys) same moved)

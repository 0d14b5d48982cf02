-- What the shift of the duals and the exchange along the path make of a partial assignment: one of one row more.
use Rattle.std.proofs.Common.{◌≡◌, ◌≢◌, ℕ, zero, suc, ◌+◌, ◌<◌, ◌≤◌, ◌-◌, List, length, get_or, arith, sym, ◌∙◌, ap, subst, inl, inr}
use Rattle.std.specs.Prelude.{ℤ, ◌+ℤ◌, ◌-ℤ◌, ◌≤ℤ◌, ◌⊎◌, Option, Some, None, unsigned_abs}
use Rattle.std.proofs.lemmas.Int.{ints}
use Rattle.std.proofs.lemmas.Bool.{cases_eq, cases_lt}
use Rattle.qap_cost.specs.Matrix.{Square, entry_of}
use Rattle.qap_cost.proofs.Bijections.{each_reached}
use Rattle.qap_cost.specs.Range.{AllWithin}
use Rattle.assign_dual.specs.Partial.{FitsRows, IsMatching, IsPartial, IsTight, OwnersDiffer, owner_of}
use Rattle.assign_dual.specs.Tree.{IsTree, IsNext, reduced_cost}
use Rattle.assign_dual.specs.Steps.{RaisesRows, LowersColumns, Augments, TakesEdge, IsPath}
use Rattle.assign_dual.specs.Number.{number_at}

-- some place below n has the number i, or none has
find_place : (xs : List ℕ) (i n : ℕ) → ((p : ℕ) × (p < n) × (get_or xs p 0 ≡ i)) ⊎ ((p : ℕ) → p < n → get_or xs p 0 ≢ i)
find_place xs i zero = inr (λ p h. absurd (omega arith))
find_place xs i (suc n) =
    elim (find_place xs i n) [
      | inl found ↦ inl (found.0, omega (arith, found.1), found.2)
      | inr none ↦ elim (cases_eq (get_or xs n 0) i) [
        | inl here ↦ inl (n, omega arith, here)
        | inr other ↦ inr (λ p h e. elim (cases_eq p n) [
          | inl same ↦ other (ap (λ j. get_or xs j 0) (sym same) ∙ e)
          | inr less ↦ none p (omega arith) e
        ])
      ]
    ]

-- the root stands at the first place of the tree, and the other rows of the tree are placed
tree_row : (M : Square) (root : ℕ) (row_of : List (Option ℕ)) (u v : List ℤ) (columns tree_rows : List ℕ) (row_distances distances : List ℤ) (origins : List ℕ) (done : ℕ) →
    IsTree M root row_of u v columns tree_rows row_distances distances origins done → OwnersDiffer M.size root row_of → done < M.size →
    (q : ℕ) → q < done → get_or tree_rows (q + 1) 0 < root
tree_row M root row_of u v columns tree_rows row_distances distances origins done tree own left q h =
    own.within (get_or columns q 0) (get_or tree_rows (q + 1) 0) (omega (arith, tree.order.within q, tree.columns_count)) (tree.joined q h)

-- each row of the tree is its root or one before that
pub tree_rows-within : (M : Square) (root : ℕ) (row_of : List (Option ℕ)) (u v : List ℤ) (columns tree_rows : List ℕ) (row_distances distances : List ℤ) (origins : List ℕ) (done : ℕ) →
    IsTree M root row_of u v columns tree_rows row_distances distances origins done → OwnersDiffer M.size root row_of → done < M.size →
    (p : ℕ) → p < done + 1 → get_or tree_rows p 0 ≤ root
tree_rows-within M root row_of u v columns tree_rows row_distances distances origins done tree own left p h =
    elim (cases_eq p 0) [
      | inl e ↦ omega (arith, ap (λ j. get_or tree_rows j 0) e, tree.root_row)
      | inr ne ↦
          let q = p - 1 in
          let at : q + 1 ≡ p = omega arith in
          let less = tree_row M root row_of u v columns tree_rows row_distances distances origins done tree own left q (omega arith) in
          omega (arith, ap (λ j. get_or tree_rows j 0) at, less)
    ]

-- no row stands in the tree twice
pub tree_rows-differ : (M : Square) (root : ℕ) (row_of : List (Option ℕ)) (u v : List ℤ) (columns tree_rows : List ℕ) (row_distances distances : List ℤ) (origins : List ℕ) (done : ℕ) →
    IsTree M root row_of u v columns tree_rows row_distances distances origins done → OwnersDiffer M.size root row_of → done < M.size →
    (p q : ℕ) → p < done + 1 → q < done + 1 → get_or tree_rows p 0 ≡ get_or tree_rows q 0 → p ≡ q
tree_rows-differ M root row_of u v columns tree_rows row_distances distances origins done tree own left p q hp hq e =
    let less = tree_row M root row_of u v columns tree_rows row_distances distances origins done tree own left in
    elim (cases_eq p 0) [
      | inl p_zero ↦ elim (cases_eq q 0) [
        | inl q_zero ↦ p_zero ∙ sym q_zero
        | inr q_more ↦
            let t = q - 1 in
            let at : t + 1 ≡ q = omega arith in
            let below = less t (omega arith) in
            absurd (omega (arith, ap (λ j. get_or tree_rows j 0) p_zero, tree.root_row, ap (λ j. get_or tree_rows j 0) at, below, e))
      ]
      | inr p_more ↦
          let s = p - 1 in
          let at_p : s + 1 ≡ p = omega arith in
          elim (cases_eq q 0) [
            | inl q_zero ↦
                let below = less s (omega arith) in
                absurd (omega (arith, ap (λ j. get_or tree_rows j 0) q_zero, tree.root_row, ap (λ j. get_or tree_rows j 0) at_p, below, e))
            | inr q_more ↦
                let t = q - 1 in
                let at_q : t + 1 ≡ q = omega arith in
                let same : get_or tree_rows (t + 1) 0 ≡ get_or tree_rows (s + 1) 0 =
                ap (λ j. get_or tree_rows j 0) at_q ∙ sym e ∙ sym (ap (λ j. get_or tree_rows j 0) at_p) in
                let s_done : s < done = omega arith in
                let t_done : t < done = omega arith in
                let columns_same : get_or columns s 0 ≡ get_or columns t 0 =
                own.distinct (get_or columns s 0) (get_or columns t 0) (get_or tree_rows (s + 1) 0)
                (omega (arith, tree.order.within s, tree.columns_count)) (omega (arith, tree.order.within t, tree.columns_count))
                (tree.joined s s_done) (tree.joined t t_done ∙ ap (λ i. Some i) same) in
                let places_same = tree.order.distinct s t (omega (arith, tree.columns_count)) (omega (arith, tree.columns_count)) columns_same in
                omega arith
          ]
    ]

-- a tree's rows are no further away than its columns
pub row_distances-within : (M : Square) (root : ℕ) (row_of : List (Option ℕ)) (u v : List ℤ) (columns tree_rows : List ℕ) (row_distances distances : List ℤ) (origins : List ℕ) (done m : ℕ) →
    IsTree M root row_of u v columns tree_rows row_distances distances origins done → done < M.size → AllWithin m distances →
    (p : ℕ) → p < done + 1 → unsigned_abs (number_at row_distances p) ≤ m
row_distances-within M root row_of u v columns tree_rows row_distances distances origins done m tree left range p h =
    elim (cases_eq p 0) [
      | inl e ↦ let at = ap (λ t. number_at row_distances t) e ∙ tree.root_distance in omega (arith, ints, at)
      | inr ne ↦
          let q = p - 1 in
          let at : q + 1 ≡ p = omega arith in
          let same : number_at row_distances p ≡ number_at distances (get_or columns q 0) = ap (λ t. number_at row_distances t) (sym at) ∙ tree.reached q (omega arith) in
          subst (λ (x : ℤ). unsigned_abs x ≤ m) (sym same)
          (range.each (get_or columns q 0) (omega (arith, tree.order.within q, tree.columns_count, tree.distances_count)))
    ]

-- a tree whose next column is free has a path from that column back to the root
pub IsPath-tree : (M : Square) (root : ℕ) (row_of : List (Option ℕ)) (u v : List ℤ) (columns tree_rows : List ℕ) (row_distances distances : List ℤ) (origins : List ℕ) (done : ℕ) →
    IsTree M root row_of u v columns tree_rows row_distances distances origins done → done < M.size → owner_of row_of (get_or columns done 0) ≡ None →
    IsPath columns tree_rows origins done row_of
IsPath-tree M root row_of u v columns tree_rows row_distances distances origins done tree left free = record {
  order = tree.order;
  left = omega (arith, tree.columns_count);
  tree_rows_count = tree.tree_rows_count ∙ sym tree.columns_count;
  origins_count = tree.origins_count ∙ sym tree.columns_count;
  joined = tree.joined;
  earlier = λ q h.
      elim (cases_lt q done) [
        | inl before ↦ tree.earlier q before
        | inr last ↦
            let o = tree.origin (get_or columns q 0) (omega (arith, tree.order.within q, tree.columns_count)) in
            omega (arith, o)
      ];
  free = free;
}

-- the dual of a column before and after the shift: a scanned column's falls, another's stays
data Lowered (row_of : List (Option ℕ)) (columns tree_rows : List ℕ) (row_distances distances : List ℤ) (done : ℕ) (path : ℤ) (v new : List ℤ) (k : ℕ) : Type 0 where
  scanned : (q : ℕ) → q < done → get_or columns q 0 ≡ k → owner_of row_of k ≡ Some (get_or tree_rows (q + 1) 0) → number_at row_distances (q + 1) ≡ number_at distances k →
      number_at distances k ≤ℤ path → number_at new k ≡ number_at v k -ℤ (path -ℤ number_at distances k) → Lowered row_of columns tree_rows row_distances distances done path v new k
  open_column : (q : ℕ) → done ≤ q → q < length columns → get_or columns q 0 ≡ k → path ≤ℤ number_at distances k → number_at new k ≡ number_at v k → Lowered row_of columns tree_rows row_distances distances done path v new k

-- everything about one phase, once the duals are shifted
pub record Phase (M : Square) (root : ℕ) (matching : List ℕ) (row_of : List (Option ℕ)) (u v : List ℤ) (columns tree_rows : List ℕ) (row_distances distances : List ℤ) (origins : List ℕ) (done : ℕ) (path : ℤ) (new_u new_v : List ℤ) : Type 0 where
  pub before : IsPartial M root matching row_of u v
  pub below : root < M.size
  pub left : done < M.size
  pub tree : IsTree M root row_of u v columns tree_rows row_distances distances origins done
  pub next : IsNext columns distances done
  pub free : owner_of row_of (get_or columns done 0) ≡ None
  pub path_is : path ≡ number_at distances (get_or columns done 0)
  pub u_count : length new_u ≡ M.size
  pub v_count : length new_v ≡ M.size
  pub raises : RaisesRows tree_rows row_distances (done + 1) path u new_u
  pub lowers : LowersColumns columns distances done path v new_v

lowered : (M : Square) (root : ℕ) (matching : List ℕ) (row_of : List (Option ℕ)) (u v : List ℤ) (columns tree_rows : List ℕ) (row_distances distances : List ℤ) (origins : List ℕ) (done : ℕ) (path : ℤ) (new_u new_v : List ℤ) →
    Phase M root matching row_of u v columns tree_rows row_distances distances origins done path new_u new_v → (k : ℕ) → k < M.size →
    Lowered row_of columns tree_rows row_distances distances done path v new_v k
lowered M root matching row_of u v columns tree_rows row_distances distances origins done path new_u new_v h k hk =
    let tree = h.tree in
    let place = each_reached columns k tree.order (omega (arith, tree.columns_count)) in
    let q = place.0 in
    let at = ap (λ j. number_at distances j) place.2 in
    let path_is = h.path_is in
    elim (cases_lt q done) [
      | inl before ↦
          let asc = tree.ascending q done before (omega arith) h.left in
          scanned q before place.2 (ap (λ j. owner_of row_of j) (sym place.2) ∙ tree.joined q before) (tree.reached q before ∙ at)
          (omega (arith, ints, at, path_is, asc))
          (subst (λ (j : ℕ). number_at new_v j ≡ number_at v j -ℤ (path -ℤ number_at distances j)) place.2 (h.lowers.scanned q before))
      | inr after ↦
          let near = h.next.nearest q after place.1 in
          open_column q after place.1 place.2 (omega (arith, ints, at, path_is, near))
          (subst (λ (j : ℕ). number_at new_v j ≡ number_at v j) place.2 (h.lowers.others q after place.1))
    ]

-- the dual of a tree's row rises, another's stays
row_raised : (M : Square) (root : ℕ) (matching : List ℕ) (row_of : List (Option ℕ)) (u v : List ℤ) (columns tree_rows : List ℕ) (row_distances distances : List ℤ) (origins : List ℕ) (done : ℕ) (path : ℤ) (new_u new_v : List ℤ) →
    Phase M root matching row_of u v columns tree_rows row_distances distances origins done path new_u new_v → (p i : ℕ) → p < done + 1 → get_or tree_rows p 0 ≡ i →
    number_at new_u i ≡ number_at u i +ℤ (path -ℤ number_at row_distances p)
row_raised M root matching row_of u v columns tree_rows row_distances distances origins done path new_u new_v h p i hp e =
    subst (λ (j : ℕ). number_at new_u j ≡ number_at u j +ℤ (path -ℤ number_at row_distances p)) e (h.raises.tree p hp)

-- no dual of a column rises
v_falls : (M : Square) (root : ℕ) (matching : List ℕ) (row_of : List (Option ℕ)) (u v : List ℤ) (columns tree_rows : List ℕ) (row_distances distances : List ℤ) (origins : List ℕ) (done : ℕ) (path : ℤ) (new_u new_v : List ℤ) →
    Phase M root matching row_of u v columns tree_rows row_distances distances origins done path new_u new_v → (k : ℕ) → k < M.size → number_at new_v k ≤ℤ number_at v k
v_falls M root matching row_of u v columns tree_rows row_distances distances origins done path new_u new_v h k hk =
    elim (lowered M root matching row_of u v columns tree_rows row_distances distances origins done path new_u new_v h k hk) [
      | scanned q before at owner reach near is ↦ omega (arith, ints, near, is)
      | open_column q after within at near is ↦ omega (arith, ints, is)
    ]

-- the shifted duals fit one row more
new_below : (M : Square) (root : ℕ) (matching : List ℕ) (row_of : List (Option ℕ)) (u v : List ℤ) (columns tree_rows : List ℕ) (row_distances distances : List ℤ) (origins : List ℕ) (done : ℕ) (path : ℤ) (new_u new_v : List ℤ) →
    Phase M root matching row_of u v columns tree_rows row_distances distances origins done path new_u new_v → (i k : ℕ) → i < root + 1 → k < M.size →
    (number_at new_u i +ℤ number_at new_v k) ≤ℤ entry_of M i k
new_below M root matching row_of u v columns tree_rows row_distances distances origins done path new_u new_v h i k hi hk =
    elim (find_place tree_rows i (done + 1)) [
      | inl found ↦
          let p = found.0 in
          let raised = row_raised M root matching row_of u v columns tree_rows row_distances distances origins done path new_u new_v h p i found.1 found.2 in
          let p_done : p < done + 1 = found.1 in
          let relaxed : number_at distances k ≤ℤ (number_at row_distances p +ℤ reduced_cost M u v i k) =
          subst (λ (j : ℕ). number_at distances k ≤ℤ (number_at row_distances p +ℤ reduced_cost M u v j k)) found.2 (h.tree.relaxed p k (omega arith) hk) in
          elim (lowered M root matching row_of u v columns tree_rows row_distances distances origins done path new_u new_v h k hk) [
            | scanned q before at owner reach near is ↦ omega (arith, ints, raised, relaxed, is)
            | open_column q after within at near is ↦ omega (arith, ints, raised, relaxed, near, is)
          ]
      | inr none ↦
          let stays = h.raises.others i none in
          let not_root : i ≢ root = λ e. none 0 (omega arith) (h.tree.root_row ∙ sym e) in
          let old = h.before.fits.below i k (omega arith) hk in
          let falls = v_falls M root matching row_of u v columns tree_rows row_distances distances origins done path new_u new_v h k hk in
          omega (arith, ints, stays, old, falls)
    ]

FitsRows-phase : (M : Square) (root : ℕ) (matching : List ℕ) (row_of : List (Option ℕ)) (u v : List ℤ) (columns tree_rows : List ℕ) (row_distances distances : List ℤ) (origins : List ℕ) (done : ℕ) (path : ℤ) (new_u new_v : List ℤ) →
    Phase M root matching row_of u v columns tree_rows row_distances distances origins done path new_u new_v → OwnersDiffer M.size root row_of → FitsRows M (root + 1) new_u new_v
FitsRows-phase M root matching row_of u v columns tree_rows row_distances distances origins done path new_u new_v h own = record {
  u_count = h.u_count;
  v_count = h.v_count;
  below = new_below M root matching row_of u v columns tree_rows row_distances distances origins done path new_u new_v h;
  rest = λ i from hi.
      h.raises.others i (λ p hp e.
      let w = tree_rows-within M root row_of u v columns tree_rows row_distances distances origins done h.tree own h.left p hp in
      omega (arith, w, e))
      ∙ h.before.fits.rest i (omega arith) hi;
  falls = λ k hk.
      let old = h.before.fits.falls k hk in
      let falls = v_falls M root matching row_of u v columns tree_rows row_distances distances origins done path new_u new_v h k hk in
      omega (arith, ints, old, falls);
  level = λ some.
      let z = get_or columns done 0 in
      let hz : z < M.size = omega (arith, h.tree.order.within done, h.tree.columns_count, h.left) in
      (z, hz, h.lowers.others done (omega arith) (omega (arith, h.tree.columns_count, h.left)) ∙ h.before.free z hz h.free);
}

-- a matched pair stays tight
tight_kept : (M : Square) (root : ℕ) (matching : List ℕ) (row_of : List (Option ℕ)) (u v : List ℤ) (columns tree_rows : List ℕ) (row_distances distances : List ℤ) (origins : List ℕ) (done : ℕ) (path : ℤ) (new_u new_v : List ℤ) →
    Phase M root matching row_of u v columns tree_rows row_distances distances origins done path new_u new_v → (i : ℕ) → i < root → IsTight M new_u new_v i (get_or matching i 0)
tight_kept M root matching row_of u v columns tree_rows row_distances distances origins done path new_u new_v h i hi =
    let k = get_or matching i 0 in
    let hk : k < M.size = h.before.matches.column i hi in
    let owner_i = h.before.matches.owner i hi in
    let tight = h.before.tight i hi in
    elim (lowered M root matching row_of u v columns tree_rows row_distances distances origins done path new_u new_v h k hk) [
      | scanned q before at owner reach near is ↦
          let both : Some (get_or tree_rows (q + 1) 0) ≡ Some i = sym owner ∙ owner_i in
          let row : get_or tree_rows (q + 1) 0 ≡ i = cc in
          let raised = row_raised M root matching row_of u v columns tree_rows row_distances distances origins done path new_u new_v h (q + 1) i (omega arith) row in
          omega (arith, ints, raised, reach, is, tight)
      | open_column q after within at near is ↦
          let none : (p : ℕ) → p < done + 1 → get_or tree_rows p 0 ≢ i =
          λ p hp e.
          elim (cases_eq p 0) [
            | inl first ↦ let a = ap (λ j. get_or tree_rows j 0) first in let r = h.tree.root_row in omega (arith, a, r, e)
            | inr later ↦
                let s = p - 1 in
                let s_done : s < done = omega arith in
                let at_p : s + 1 ≡ p = omega arith in
                let joined : owner_of row_of (get_or columns s 0) ≡ Some i = h.tree.joined s s_done ∙ ap (λ j. Some j) (ap (λ j. get_or tree_rows j 0) at_p ∙ e) in
                let s_within : get_or columns s 0 < M.size = omega (arith, h.tree.order.within s, h.tree.columns_count, h.left) in
                let there = (h.before.matches.owned (get_or columns s 0) i s_within joined).1 in
                let same = h.tree.order.distinct s q (omega (arith, h.tree.columns_count, h.left)) within (sym there ∙ sym at) in
                omega arith
          ] in
          let stays = h.raises.others i none in
          omega (arith, ints, stays, is, tight)
    ]

-- an edge of the tree has become tight
tight_edge : (M : Square) (root : ℕ) (matching : List ℕ) (row_of : List (Option ℕ)) (u v : List ℤ) (columns tree_rows : List ℕ) (row_distances distances : List ℤ) (origins : List ℕ) (done : ℕ) (path : ℤ) (new_u new_v : List ℤ) →
    Phase M root matching row_of u v columns tree_rows row_distances distances origins done path new_u new_v → (i k : ℕ) → TakesEdge columns tree_rows origins done i k → IsTight M new_u new_v i k
tight_edge M root matching row_of u v columns tree_rows row_distances distances origins done path new_u new_v h i k e =
    let at_done : e.at ≤ done = e.scanned in
    let left : done < M.size = h.left in
    let hk : k < M.size = omega (arith, h.tree.order.within e.at, h.tree.columns_count, e.is) in
    let o = get_or origins k 0 in
    let o_done : o ≤ done = h.tree.origin k hk in
    let raised = row_raised M root matching row_of u v columns tree_rows row_distances distances origins done path new_u new_v h o i (omega arith) e.row in
    let edge : number_at distances k ≡ number_at row_distances o +ℤ reduced_cost M u v i k =
    subst (λ (j : ℕ). number_at distances k ≡ number_at row_distances o +ℤ reduced_cost M u v j k) e.row (h.tree.edge k hk) in
    elim (lowered M root matching row_of u v columns tree_rows row_distances distances origins done path new_u new_v h k hk) [
      | scanned q before at owner reach near is ↦ omega (arith, ints, raised, edge, is)
      | open_column q after within at near is ↦
          let same = h.tree.order.distinct e.at q (omega (arith, h.tree.columns_count)) within (e.is ∙ sym at) in
          let last : e.at ≡ done = omega (arith, same, at_done, after) in
          let path_at : path ≡ number_at distances k = h.path_is ∙ ap (λ j. number_at distances j) (ap (λ t. get_or columns t 0) (sym last) ∙ e.is) in
          omega (arith, ints, raised, edge, is, path_at)
    ]

IsPartial-more : (M : Square) (root : ℕ) (matching : List ℕ) (row_of : List (Option ℕ)) (u v : List ℤ) (columns tree_rows : List ℕ) (row_distances distances : List ℤ) (origins : List ℕ) (done : ℕ) (path : ℤ) (new_u new_v : List ℤ) (new_matching : List ℕ) (new_row_of : List (Option ℕ)) →
    Phase M root matching row_of u v columns tree_rows row_distances distances origins done path new_u new_v → OwnersDiffer M.size root row_of →
    IsMatching M.size (root + 1) new_matching new_row_of → Augments root columns tree_rows origins done matching new_matching row_of new_row_of →
    IsPartial M (root + 1) new_matching new_row_of new_u new_v
IsPartial-more M root matching row_of u v columns tree_rows row_distances distances origins done path new_u new_v new_matching new_row_of h own matches augments = record {
  fits = FitsRows-phase M root matching row_of u v columns tree_rows row_distances distances origins done path new_u new_v h own;
  matches = matches;
  tight = λ i hi.
      elim (augments.moves i hi) [
        | inl same ↦
            subst (λ (k : ℕ). IsTight M new_u new_v i k) (sym same.1)
            (tight_kept M root matching row_of u v columns tree_rows row_distances distances origins done path new_u new_v h i same.0)
        | inr edge ↦ tight_edge M root matching row_of u v columns tree_rows row_distances distances origins done path new_u new_v h i (get_or new_matching i 0) edge
      ];
  free = λ k hk e.
      let was = augments.keeps k (omega (arith, h.before.matches.row_of_count)) e in
      elim (lowered M root matching row_of u v columns tree_rows row_distances distances origins done path new_u new_v h k hk) [
        | scanned q before at owner reach near is ↦ absurd (cc)
        | open_column q after within at near is ↦ is ∙ h.before.free k hk was
      ];
}

-- the same, from what the exchange says of the tree's first row
pub IsPartial-placed : (M : Square) (root : ℕ) (matching : List ℕ) (row_of : List (Option ℕ)) (u v : List ℤ) (columns tree_rows : List ℕ) (row_distances distances : List ℤ) (origins : List ℕ) (done : ℕ) (path : ℤ) (new_u new_v : List ℤ) (new_matching : List ℕ) (new_row_of : List (Option ℕ)) →
    Phase M root matching row_of u v columns tree_rows row_distances distances origins done path new_u new_v → OwnersDiffer M.size root row_of →
    IsMatching (length columns) (get_or tree_rows 0 0 + 1) new_matching new_row_of → Augments (get_or tree_rows 0 0) columns tree_rows origins done matching new_matching row_of new_row_of →
    IsPartial M (root + 1) new_matching new_row_of new_u new_v
IsPartial-placed M root matching row_of u v columns tree_rows row_distances distances origins done path new_u new_v new_matching new_row_of h own matches augments =
    IsPartial-more M root matching row_of u v columns tree_rows row_distances distances origins done path new_u new_v new_matching new_row_of h own
    (subst (λ (n : ℕ). IsMatching n (root + 1) new_matching new_row_of) h.tree.columns_count
    (subst (λ (r : ℕ). IsMatching (length columns) (r + 1) new_matching new_row_of) h.tree.root_row matches))
    (subst (λ (r : ℕ). Augments r columns tree_rows origins done matching new_matching row_of new_row_of) h.tree.root_row augments)

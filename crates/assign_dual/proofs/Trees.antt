-- The tree of shortest alternating paths: how it starts, and how a column and its row join it.
use Rattle.std.proofs.Common.{◌≡◌, ℕ, ◌+◌, ◌*◌, ◌<◌, ◌≤◌, List, length, get_or, set, map, arith, sym, ◌∙◌, ap, subst, inl, inr, get_or-set_other, get_or-set_same}
use Rattle.std.specs.Prelude.{ℤ, pos, ◌+ℤ◌, ◌-ℤ◌, ◌≤ℤ◌, Option, Some, None, unsigned_abs, unwrap_or}
use Rattle.std.proofs.lemmas.Int.{ints}
use Rattle.std.proofs.lemmas.Bool.{cases_lt}
use Rattle.std.proofs.lemmas.List.{length-set, length-map, get_or-map}
use Rattle.qap_cost.specs.Bijection.{IsBijection}
use Rattle.qap_cost.specs.Matrix.{Square}
use Rattle.qap_cost.specs.Row.{IsRow}
use Rattle.qap_cost.proofs.Bijections.{each_reached}
use Rattle.qap_cost.specs.Range.{AllWithin}
use Rattle.assign_dual.specs.Partial.{FitsRows, OwnersDiffer, owner_of}
use Rattle.assign_dual.specs.Tree.{IsTree, IsNext, reduced_cost}
use Rattle.assign_dual.specs.Steps.{StartsRow, KeepsScanned, Relaxes, TakesShorter}
use Rattle.assign_dual.proofs.Ranges.{entry-within}
use Rattle.assign_dual.specs.Number.{number_at}

-- fewer rows than columns leave a column without a row
no_room : (n r : ℕ) (row_of : List (Option ℕ)) → OwnersDiffer n r row_of → r < n → length row_of ≡ n →
    ((k : ℕ) → k < n → (i : ℕ) × (owner_of row_of k ≡ Some i)) → ⊥
no_room n r row_of own less count all =
    let value : Option ℕ → ℕ = λ o. unwrap_or o 0 in
    let rows = map value row_of in
    let rows_count : length rows ≡ n = length-map row_of value ∙ count in
    let is : (k i : ℕ) → k < n → owner_of row_of k ≡ Some i → get_or rows k 0 ≡ i =
    λ k i hk e. get_or-map value row_of k None 0 (omega (arith, count)) ∙ ap value e in
    let order : IsBijection rows = record {
      within = λ k hk.
          let a = all k (omega (arith, rows_count)) in
          omega (arith, rows_count, is k a.0 (omega (arith, rows_count)) a.1, own.within k a.0 (omega (arith, rows_count)) a.1);
      distinct = λ k l hk hl e.
          let a = all k (omega (arith, rows_count)) in
          let b = all l (omega (arith, rows_count)) in
          let same : a.0 ≡ b.0 = sym (is k a.0 (omega (arith, rows_count)) a.1) ∙ e ∙ is l b.0 (omega (arith, rows_count)) b.1 in
          own.distinct k l a.0 (omega (arith, rows_count)) (omega (arith, rows_count)) a.1 (b.1 ∙ ap (λ i. Some i) (sym same));
    } in
    let last = each_reached rows r order (omega (arith, rows_count)) in
    let a = all last.0 (omega (arith, rows_count, last.1)) in
    let at = is last.0 a.0 (omega (arith, rows_count, last.1)) a.1 in
    let below = own.within last.0 a.0 (omega (arith, rows_count, last.1)) a.1 in
    omega (arith, last.2, at, below)

-- where the next column has a row, there is a further column
pub room : (M : Square) (root : ℕ) (row_of : List (Option ℕ)) (u v : List ℤ) (columns tree_rows : List ℕ) (row_distances distances : List ℤ) (origins : List ℕ) (done row : ℕ) →
    IsTree M root row_of u v columns tree_rows row_distances distances origins done → OwnersDiffer M.size root row_of → root < M.size → length row_of ≡ M.size →
    done < M.size → owner_of row_of (get_or columns done 0) ≡ Some row → done + 1 < M.size
room M root row_of u v columns tree_rows row_distances distances origins done row tree own less count left owner =
    elim (cases_lt (done + 1) M.size) [
      | inl fits ↦ fits
      | inr full ↦ absurd (no_room M.size root row_of own less count (λ k hk.
          let place = each_reached columns k tree.order (omega (arith, tree.columns_count)) in
          elim (cases_lt place.0 done) [
            | inl scanned ↦ (get_or tree_rows (place.0 + 1) 0, ap (λ j. owner_of row_of j) (sym place.2) ∙ tree.joined place.0 scanned)
            | inr after ↦
                let same : done ≡ place.0 = omega (arith, place.1, tree.columns_count) in
                (row, ap (λ j. owner_of row_of j) (sym place.2) ∙ ap (λ q. owner_of row_of (get_or columns q 0)) (sym same) ∙ owner)
          ]))
    ]

-- the columns that aren't scanned may change places
pub IsTree-chosen : (M : Square) (root : ℕ) (row_of : List (Option ℕ)) (u v : List ℤ) (columns tree_rows : List ℕ) (row_distances distances : List ℤ) (origins : List ℕ) (done : ℕ) (new : List ℕ) →
    IsTree M root row_of u v columns tree_rows row_distances distances origins done → IsBijection new → length new ≡ length columns → KeepsScanned columns new done →
    IsTree M root row_of u v new tree_rows row_distances distances origins done
IsTree-chosen M root row_of u v columns tree_rows row_distances distances origins done new tree order count keeps = record {
  order = order;
  columns_count = count ∙ tree.columns_count;
  tree_rows_count = tree.tree_rows_count;
  row_distances_count = tree.row_distances_count;
  distances_count = tree.distances_count;
  origins_count = tree.origins_count;
  root_row = tree.root_row;
  root_distance = tree.root_distance;
  joined = λ q h. ap (λ k. owner_of row_of k) (keeps.same q h) ∙ tree.joined q h;
  reached = λ q h. tree.reached q h ∙ ap (λ k. number_at distances k) (sym (keeps.same q h));
  relaxed = tree.relaxed;
  origin = tree.origin;
  edge = tree.edge;
  earlier = λ q h.
      let e = ap (λ k. get_or origins k 0) (keeps.same q h) in
      let old = tree.earlier q h in
      omega (arith, e, old);
  ascending = λ p q hp le hq.
      let first = ap (λ k. number_at distances k) (keeps.same p hp) in
      elim (cases_lt q done) [
        | inl scanned ↦
            let second = ap (λ k. number_at distances k) (keeps.same q scanned) in
            let old = tree.ascending p q hp le hq in
            omega (arith, ints, first, second, old)
        | inr after ↦
            let place = keeps.later q after (omega (arith, tree.columns_count)) in
            let second = ap (λ k. number_at distances k) place.3 in
            let old = tree.ascending p place.0 hp (omega (arith, place.1)) (omega (arith, place.2, tree.columns_count)) in
            omega (arith, ints, first, second, old)
      ];
}

-- the tree of the root alone
pub IsTree-start : (M : Square) (root : ℕ) (row_of : List (Option ℕ)) (u v : List ℤ) (columns tree_rows : List ℕ) (row_distances distances : List ℤ) (origins : List ℕ) (row : List ℤ) →
    IsBijection columns → length columns ≡ M.size → length tree_rows ≡ M.size → length row_distances ≡ M.size → length distances ≡ M.size → length origins ≡ M.size →
    root < M.size → FitsRows M root u v → IsRow M.size M.entries root row → StartsRow row v distances origins →
    IsTree M root row_of u v columns (set tree_rows 0 root) (set row_distances 0 (pos 0)) distances origins 0
IsTree-start M root row_of u v columns tree_rows row_distances distances origins row order columns_count tree_rows_count row_distances_count distances_count origins_count below fits is_row starts =
    let root_row : get_or (set tree_rows 0 root) 0 0 ≡ root = get_or-set_same tree_rows 0 root 0 (omega arith) in
    let root_distance : number_at (set row_distances 0 (pos 0)) 0 ≡ pos 0 = get_or-set_same row_distances 0 (pos 0) (pos 0) (omega arith) in
    let edge : (k : ℕ) → k < M.size → number_at distances k ≡ number_at (set row_distances 0 (pos 0)) 0 +ℤ reduced_cost M u v (get_or (set tree_rows 0 root) 0 0) k =
    λ k hk.
    let is = starts.distance k (omega (arith, is_row.count)) in
    let entry = is_row.entries k hk in
    let zero_dual = fits.rest root (omega arith) below in
    let at_root = ap (λ i. reduced_cost M u v i k) root_row in
    omega (arith, ints, is, entry, zero_dual, at_root, root_distance) in
    record {
      order = order;
      columns_count = columns_count;
      tree_rows_count = length-set tree_rows 0 root ∙ tree_rows_count;
      row_distances_count = length-set row_distances 0 (pos 0) ∙ row_distances_count;
      distances_count = distances_count;
      origins_count = origins_count;
      root_row = root_row;
      root_distance = root_distance;
      joined = λ q h. absurd (omega arith);
      reached = λ q h. absurd (omega arith);
      relaxed = λ p k h hk.
          let at_zero : 0 ≡ p = omega arith in
          let e = edge k hk in
          let first : number_at distances k ≤ℤ (number_at (set row_distances 0 (pos 0)) 0 +ℤ reduced_cost M u v (get_or (set tree_rows 0 root) 0 0) k) = omega (arith, ints, e) in
          subst (λ (t : ℕ). number_at distances k ≤ℤ (number_at (set row_distances 0 (pos 0)) t +ℤ reduced_cost M u v (get_or (set tree_rows 0 root) t 0) k)) at_zero first;
      origin = λ k hk. omega (arith, starts.origin k (omega (arith, is_row.count)));
      edge = λ k hk.
          let o = starts.origin k (omega (arith, is_row.count)) in
          edge k hk ∙ ap (λ t. number_at (set row_distances 0 (pos 0)) t +ℤ reduced_cost M u v (get_or (set tree_rows 0 root) t 0) k) (sym o);
      earlier = λ q h. absurd (omega arith);
      ascending = λ p q h le hq. absurd (omega arith);
    }

-- the entries of a row
pub row_within : (M : Square) (i : ℕ) (row : List ℤ) (m : ℕ) → AllWithin m M.entries → i < M.size → IsRow M.size M.entries i row → AllWithin m row
row_within M i row m range below is = record {
  each = λ k h.
      let hk : k < M.size = omega (arith, is.count) in
      subst (λ (x : ℤ). unsigned_abs x ≤ m) (sym (is.entries k hk)) (entry-within M m range i k);
}

-- the first distances
pub StartsRow-within : (row v distances : List ℤ) (origins : List ℕ) (m : ℕ) → StartsRow row v distances origins → length distances ≡ length row → length v ≡ length row →
    AllWithin m row → AllWithin (2 * m) v → AllWithin (3 * m) distances
StartsRow-within row v distances origins m starts distances_count v_count row_range v_range = record {
  each = λ k h.
      let is = starts.distance k (omega (arith, distances_count)) in
      let entry : unsigned_abs (get_or row k (pos 0)) ≤ m = row_range.each k (omega (arith, distances_count)) in
      let column : unsigned_abs (get_or v k (pos 0)) ≤ 2 * m = v_range.each k (omega (arith, distances_count, v_count)) in
      omega (arith, ints, is);
}

-- what the relaxation of the next column's row does to every column, the scanned ones included
relaxes_each : (M : Square) (root : ℕ) (row_of : List (Option ℕ)) (u v : List ℤ) (columns tree_rows : List ℕ) (row_distances distances : List ℤ) (origins : List ℕ) (done row : ℕ) (entries : List ℤ) (base : ℤ) (new_distances : List ℤ) (new_origins : List ℕ) →
    IsTree M root row_of u v columns tree_rows row_distances distances origins done → IsNext columns distances done → FitsRows M root u v →
    done < M.size → row < root → IsRow M.size M.entries row entries → base ≡ number_at distances (get_or columns done 0) -ℤ number_at u row →
    Relaxes entries v base (done + 1) columns distances origins new_distances new_origins →
    (k : ℕ) → k < M.size →
    TakesShorter (number_at distances k) (number_at new_distances k) (number_at distances (get_or columns done 0) +ℤ reduced_cost M u v row k) (get_or origins k 0) (get_or new_origins k 0) (done + 1)
relaxes_each M root row_of u v columns tree_rows row_distances distances origins done row entries base new_distances new_origins tree next fits left less is_row base_is relaxes k hk =
    let place = each_reached columns k tree.order (omega (arith, tree.columns_count)) in
    let q = place.0 in
    let near = number_at distances (get_or columns done 0) in
    let entry = is_row.entries k hk in
    let below = fits.below row k less hk in
    elim (cases_lt q (done + 1)) [
      | inl scanned ↦
          let same = relaxes.before q scanned place.1 in
          let d : number_at new_distances k ≡ number_at distances k = subst (λ (j : ℕ). number_at new_distances j ≡ number_at distances j) place.2 same.0 in
          let o : get_or new_origins k 0 ≡ get_or origins k 0 = subst (λ (j : ℕ). get_or new_origins j 0 ≡ get_or origins j 0) place.2 same.1 in
          let at : number_at distances (get_or columns q 0) ≡ number_at distances k = ap (λ j. number_at distances j) place.2 in
          let bound : number_at distances k ≤ℤ near =
          elim (cases_lt q done) [
            | inl before ↦ let a = tree.ascending q done before (omega arith) left in omega (arith, ints, a, at)
            | inr last ↦
                let same_place : q ≡ done = omega (arith, scanned, last) in
                let e = ap (λ t. number_at distances (get_or columns t 0)) same_place in
                omega (arith, ints, e, at)
          ] in
          record {
            at_most_old = omega (arith, ints, d);
            at_most_candidate = omega (arith, ints, d, bound, below);
            either = inl (d, o);
          }
      | inr after ↦
          let shorter : TakesShorter (number_at distances k) (number_at new_distances k) ((base +ℤ number_at entries k) -ℤ number_at v k) (get_or origins k 0) (get_or new_origins k 0) (done + 1) =
          subst (λ (j : ℕ). TakesShorter (number_at distances j) (number_at new_distances j) ((base +ℤ number_at entries j) -ℤ number_at v j) (get_or origins j 0) (get_or new_origins j 0) (done + 1)) place.2 (relaxes.from_place q after place.1) in
          let candidate_is : ((base +ℤ number_at entries k) -ℤ number_at v k) ≡ near +ℤ reduced_cost M u v row k = omega (arith, ints, entry, base_is) in
          subst (λ (x : ℤ). TakesShorter (number_at distances k) (number_at new_distances k) x (get_or origins k 0) (get_or new_origins k 0) (done + 1)) candidate_is shorter
    ]

-- the next column's row joins the tree
pub IsTree-joined : (M : Square) (root : ℕ) (row_of : List (Option ℕ)) (u v : List ℤ) (columns tree_rows : List ℕ) (row_distances distances : List ℤ) (origins : List ℕ) (done row : ℕ) (entries : List ℤ) (base value : ℤ) (new_distances : List ℤ) (new_origins : List ℕ) →
    IsTree M root row_of u v columns tree_rows row_distances distances origins done → IsNext columns distances done → FitsRows M root u v →
    done + 1 < M.size → owner_of row_of (get_or columns done 0) ≡ Some row → row < root → IsRow M.size M.entries row entries →
    value ≡ number_at distances (get_or columns done 0) → base ≡ number_at distances (get_or columns done 0) -ℤ number_at u row →
    length new_distances ≡ M.size → length new_origins ≡ M.size →
    Relaxes entries v base (done + 1) columns distances origins new_distances new_origins →
    IsTree M root row_of u v columns (set tree_rows (done + 1) row) (set row_distances (done + 1) value) new_distances new_origins (done + 1)
IsTree-joined M root row_of u v columns tree_rows row_distances distances origins done row entries base value new_distances new_origins tree next fits left owner less is_row value_is base_is new_distances_count new_origins_count relaxes =
    let n = M.size in
    let near = number_at distances (get_or columns done 0) in
    let rows = set tree_rows (done + 1) row in
    let reach = set row_distances (done + 1) value in
    let each = relaxes_each M root row_of u v columns tree_rows row_distances distances origins done row entries base new_distances new_origins tree next fits (omega arith) less is_row base_is relaxes in
    let rows_old : (p : ℕ) → p ≤ done → get_or rows p 0 ≡ get_or tree_rows p 0 = λ p h. get_or-set_other tree_rows (done + 1) p row 0 (λ e. omega arith) in
    let rows_new : get_or rows (done + 1) 0 ≡ row = get_or-set_same tree_rows (done + 1) row 0 (omega (arith, tree.tree_rows_count)) in
    let reach_old : (p : ℕ) → p ≤ done → number_at reach p ≡ number_at row_distances p = λ p h. get_or-set_other row_distances (done + 1) p value (pos 0) (λ e. omega arith) in
    let reach_new : number_at reach (done + 1) ≡ near = get_or-set_same row_distances (done + 1) value (pos 0) (omega (arith, tree.row_distances_count)) ∙ value_is in
    let way : ℕ → ℕ → ℤ = λ p k. number_at reach p +ℤ reduced_cost M u v (get_or rows p 0) k in
    let way_old : (p k : ℕ) → p ≤ done → way p k ≡ number_at row_distances p +ℤ reduced_cost M u v (get_or tree_rows p 0) k =
    λ p k h.
    let a = reach_old p h in
    let b = ap (λ i. reduced_cost M u v i k) (rows_old p h) in
    omega (arith, ints, a, b) in
    let way_new : (k : ℕ) → way (done + 1) k ≡ near +ℤ reduced_cost M u v row k =
    λ k.
    let b = ap (λ i. reduced_cost M u v i k) rows_new in
    omega (arith, ints, reach_new, b) in
    let stays : (q : ℕ) → q < done + 1 → (number_at new_distances (get_or columns q 0) ≡ number_at distances (get_or columns q 0)) × (get_or new_origins (get_or columns q 0) 0 ≡ get_or origins (get_or columns q 0) 0) =
    λ q h. relaxes.before q h (omega (arith, tree.columns_count)) in
    record {
      order = tree.order;
      columns_count = tree.columns_count;
      tree_rows_count = length-set tree_rows (done + 1) row ∙ tree.tree_rows_count;
      row_distances_count = length-set row_distances (done + 1) value ∙ tree.row_distances_count;
      distances_count = new_distances_count;
      origins_count = new_origins_count;
      root_row = rows_old 0 (omega arith) ∙ tree.root_row;
      root_distance = reach_old 0 (omega arith) ∙ tree.root_distance;
      joined = λ q h.
          elim (cases_lt q done) [
            | inl before ↦ tree.joined q before ∙ ap (λ i. Some i) (sym (rows_old (q + 1) (omega arith)))
            | inr last ↦
                let same : done ≡ q = omega arith in
                subst (λ (t : ℕ). owner_of row_of (get_or columns t 0) ≡ Some (get_or rows (t + 1) 0)) same (owner ∙ ap (λ i. Some i) (sym rows_new))
          ];
      reached = λ q h.
          elim (cases_lt q done) [
            | inl before ↦ reach_old (q + 1) (omega arith) ∙ tree.reached q before ∙ sym (stays q h).0
            | inr last ↦
                let same : done ≡ q = omega arith in
                subst (λ (t : ℕ). number_at reach (t + 1) ≡ number_at new_distances (get_or columns t 0)) same (reach_new ∙ sym (stays done (omega arith)).0)
          ];
      relaxed = λ p k h hk.
          let s = each k hk in
          elim (cases_lt p (done + 1)) [
            | inl before ↦
                let old = tree.relaxed p k (omega arith) hk in
                let w = way_old p k (omega arith) in
                let a = s.at_most_old in
                omega (arith, ints, old, w, a)
            | inr last ↦
                let same : done + 1 ≡ p = omega arith in
                let a = s.at_most_candidate in
                let w = way_new k in
                let now : number_at new_distances k ≤ℤ way (done + 1) k = omega (arith, ints, w, a) in
                subst (λ (t : ℕ). number_at new_distances k ≤ℤ way t k) same now
          ];
      origin = λ k hk.
          elim (each k hk).either [
            | inl same ↦ omega (arith, same.1, tree.origin k hk)
            | inr new ↦ omega (arith, new.1)
          ];
      edge = λ k hk.
          elim (each k hk).either [
            | inl same ↦
                same.0 ∙ tree.edge k hk ∙ sym (way_old (get_or origins k 0) k (tree.origin k hk)) ∙ ap (λ t. way t k) (sym same.1)
            | inr new ↦ new.0 ∙ sym (way_new k) ∙ ap (λ t. way t k) (sym new.1)
          ];
      earlier = λ q h.
          let same = (stays q h).1 in
          elim (cases_lt q done) [
            | inl before ↦ let old = tree.earlier q before in omega (arith, same, old)
            | inr last ↦
                let old = tree.origin (get_or columns q 0) (omega (arith, tree.order.within q, tree.columns_count)) in
                omega (arith, same, old)
          ];
      ascending = λ p q hp le hq.
          let first = (stays p hp).0 in
          let at_most_near : number_at distances (get_or columns p 0) ≤ℤ near =
          elim (cases_lt p done) [
            | inl before ↦ tree.ascending p done before (omega arith) (omega arith)
            | inr last ↦
                let same : p ≡ done = omega arith in
                let e = ap (λ t. number_at distances (get_or columns t 0)) same in
                omega (arith, ints, e)
          ] in
          let k = get_or columns q 0 in
          let hk : k < n = omega (arith, tree.order.within q, tree.columns_count) in
          let old : number_at distances (get_or columns p 0) ≤ℤ number_at distances k =
          elim (cases_lt p done) [
            | inl before ↦ tree.ascending p q before le hq
            | inr last ↦
                let same : p ≡ done = omega arith in
                let e = ap (λ t. number_at distances (get_or columns t 0)) same in
                let a = next.nearest q (omega arith) (omega (arith, tree.columns_count)) in
                omega (arith, ints, e, a)
          ] in
          let below = fits.below row k less hk in
          elim (each k hk).either [
            | inl same ↦ let e = same.0 in omega (arith, ints, first, old, e)
            | inr new ↦ let e = new.0 in omega (arith, ints, first, at_most_near, below, e)
          ];
    }

-- the new distances are no further from 0 than the old ones
pub Relaxes-within : (M : Square) (root : ℕ) (row_of : List (Option ℕ)) (u v : List ℤ) (columns tree_rows : List ℕ) (row_distances distances : List ℤ) (origins : List ℕ) (done row : ℕ) (entries : List ℤ) (base : ℤ) (new_distances : List ℤ) (new_origins : List ℕ) (m : ℕ) →
    IsTree M root row_of u v columns tree_rows row_distances distances origins done → IsNext columns distances done → FitsRows M root u v →
    done < M.size → row < root → IsRow M.size M.entries row entries → base ≡ number_at distances (get_or columns done 0) -ℤ number_at u row →
    length new_distances ≡ M.size → Relaxes entries v base (done + 1) columns distances origins new_distances new_origins →
    AllWithin (3 * m) distances → AllWithin (3 * m) new_distances
Relaxes-within M root row_of u v columns tree_rows row_distances distances origins done row entries base new_distances new_origins m tree next fits left less is_row base_is count relaxes range = record {
  each = λ k h.
      let hk : k < M.size = omega (arith, count) in
      let s = relaxes_each M root row_of u v columns tree_rows row_distances distances origins done row entries base new_distances new_origins tree next fits left less is_row base_is relaxes k hk in
      let old : unsigned_abs (number_at distances k) ≤ 3 * m = range.each k (omega (arith, tree.distances_count)) in
      let near : unsigned_abs (number_at distances (get_or columns done 0)) ≤ 3 * m =
      range.each (get_or columns done 0) (omega (arith, tree.distances_count, tree.columns_count, tree.order.within done)) in
      let at_most = s.at_most_old in
      let below = fits.below row k less hk in
      elim s.either [
        | inl same ↦ let e = same.0 in omega (arith, ints, e)
        | inr new ↦ let e = new.0 in omega (arith, ints, e, at_most, below)
      ];
}

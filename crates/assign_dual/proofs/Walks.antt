-- The exchange along a path: the placed rows keep a matching, and the column that the walk stands at is free.
use Rattle.std.proofs.Common.{◌≡◌, ◌≢◌, ℕ, ◌+◌, ◌<◌, ◌≤◌, List, length, get_or, set, arith, refl, sym, ◌∙◌, ap, subst, inl, inr, get_or-set_other, get_or-set_same}
use Rattle.std.specs.Prelude.{◌⊎◌, Option, Some, None}
use Rattle.std.proofs.lemmas.Bool.{cases_eq}
use Rattle.std.proofs.lemmas.List.{length-set}
use Rattle.assign_dual.specs.Partial.{IsMatching, owner_of}
use Rattle.assign_dual.specs.Steps.{Augments, IsPath, TakesEdge}

-- the first r rows have columns of their own, and none has the column of the walk; the rows at places of the tree that
-- are still ahead have the columns that they had
pub record Walk (n r : ℕ) (columns tree_rows origins : List ℕ) (done : ℕ) (matching : List ℕ) (row_of : List (Option ℕ)) (new : List ℕ) (new_row_of : List (Option ℕ)) (column place : ℕ) : Type 0 where
  pub new_count : length new ≡ n
  pub row_of_count : length new_row_of ≡ n
  pub at : ℕ
  pub at_done : at ≤ done
  pub at_column : get_or columns at 0 ≡ column
  pub at_place : place ≡ get_or origins column 0
  pub has : (i : ℕ) → i < r → get_or new i 0 < n
  pub owner : (i : ℕ) → i < r → owner_of new_row_of (get_or new i 0) ≡ Some i
  pub owned : (k i : ℕ) → k < n → k ≢ column → owner_of new_row_of k ≡ Some i → (i < r) × (get_or new i 0 ≡ k)
  pub vacant : (i : ℕ) → i < r → get_or new i 0 ≢ column
  pub ahead : (q : ℕ) → q < place → get_or new (get_or tree_rows (q + 1) 0) 0 ≡ get_or columns q 0
  pub moves : (i : ℕ) → i < r → (get_or new i 0 ≡ get_or matching i 0) ⊎ TakesEdge columns tree_rows origins done i (get_or new i 0)
  pub keeps : (k : ℕ) → k < n → owner_of new_row_of k ≡ None → owner_of row_of k ≡ None

-- the walk begins at the free column
pub Walk-start : (r : ℕ) (columns tree_rows origins : List ℕ) (done : ℕ) (matching : List ℕ) (row_of : List (Option ℕ)) →
    IsPath columns tree_rows origins done row_of → IsMatching (length columns) r matching row_of →
    Walk (length columns) r columns tree_rows origins done matching row_of matching row_of (get_or columns done 0) (get_or origins (get_or columns done 0) 0)
Walk-start r columns tree_rows origins done matching row_of path is = record {
  new_count = is.matching_count;
  row_of_count = is.row_of_count;
  at = done;
  at_done = omega arith;
  at_column = refl;
  at_place = refl;
  has = is.column;
  owner = is.owner;
  owned = λ k i hk ne e. is.owned k i hk e;
  vacant = λ i hi e.
      let free = path.free in
      let own = ap (λ k. get_or row_of k None) (sym e) ∙ is.owner i hi in
      cc;
  ahead = λ q lt.
      let less : q < done = omega (arith, path.earlier done (omega arith)) in
      (is.owned (get_or columns q 0) (get_or tree_rows (q + 1) 0) (path.order.within q (omega (arith, path.left))) (path.joined q less)).1;
  moves = λ i hi. inl refl;
  keeps = λ k hk e. e;
}

-- the row at the next place has been placed before
pub Walk-row : (r : ℕ) (columns tree_rows origins : List ℕ) (done : ℕ) (matching : List ℕ) (row_of : List (Option ℕ)) (new : List ℕ) (new_row_of : List (Option ℕ)) (column place q : ℕ) →
    IsPath columns tree_rows origins done row_of → IsMatching (length columns) r matching row_of →
    Walk (length columns) r columns tree_rows origins done matching row_of new new_row_of column place → place ≡ q + 1 →
    get_or tree_rows place 0 < r
Walk-row r columns tree_rows origins done matching row_of new new_row_of column place q path is w at_q =
    let bound : get_or origins column 0 ≤ w.at =
    subst (λ (k : ℕ). get_or origins k 0 ≤ w.at) w.at_column (path.earlier w.at w.at_done) in
    let q_done : q < done = omega (arith, w.at_place, w.at_done, bound) in
    let left : done < length columns = path.left in
    let own = is.owned (get_or columns q 0) (get_or tree_rows (q + 1) 0) (path.order.within q (omega arith)) (path.joined q q_done) in
    subst (λ (j : ℕ). get_or tree_rows j 0 < r) (sym at_q) own.0

-- the row at the next place takes the walk's column, and leaves its own to the walk
pub Walk-more : (r : ℕ) (columns tree_rows origins : List ℕ) (done : ℕ) (matching : List ℕ) (row_of : List (Option ℕ)) (new : List ℕ) (new_row_of : List (Option ℕ)) (column place q : ℕ) →
    IsPath columns tree_rows origins done row_of → IsMatching (length columns) r matching row_of → r < length columns →
    Walk (length columns) r columns tree_rows origins done matching row_of new new_row_of column place → place ≡ q + 1 →
    Walk (length columns) r columns tree_rows origins done matching row_of (set new (get_or tree_rows place 0) column) (set new_row_of column (Some (get_or tree_rows place 0))) (get_or columns q 0) (get_or origins (get_or columns q 0) 0)
Walk-more r columns tree_rows origins done matching row_of new new_row_of column place q path is root w at_q =
    let n = length columns in
    let row = get_or tree_rows place 0 in
    let row_is : get_or tree_rows (q + 1) 0 ≡ row = ap (λ j. get_or tree_rows j 0) (sym at_q) in
    let next = get_or columns q 0 in
    let m = set new row column in
    let o = set new_row_of column (Some row) in
    let bound : get_or origins column 0 ≤ w.at =
    subst (λ (k : ℕ). get_or origins k 0 ≤ w.at) w.at_column (path.earlier w.at w.at_done) in
    let q_done : q < done = omega (arith, w.at_place, w.at_done, bound) in
    let left : done < n = path.left in
    let q_within : q < n = omega arith in
    let own = is.owned next (get_or tree_rows (q + 1) 0) (path.order.within q q_within) (path.joined q q_done) in
    let row_less : row < r = subst (λ (j : ℕ). j < r) row_is own.0 in
    let had : get_or new row 0 ≡ next = ap (λ j. get_or new j 0) (sym row_is) ∙ w.ahead q (omega arith) in
    let column_within : column < n = subst (λ (k : ℕ). k < n) w.at_column (path.order.within w.at (omega (arith, w.at_done))) in
    let in_new : row < length new = omega (arith, w.new_count) in
    let in_row_of : column < length new_row_of = omega (arith, w.row_of_count) in
    let moved : get_or m row 0 ≡ column = get_or-set_same new row column 0 in_new in
    let stays : (i : ℕ) → i ≢ row → get_or m i 0 ≡ get_or new i 0 = λ i ne. get_or-set_other new row i column 0 ne in
    let owns : owner_of o column ≡ Some row = get_or-set_same new_row_of column (Some row) None in_row_of in
    let own_stays : (k : ℕ) → k ≢ column → owner_of o k ≡ owner_of new_row_of k = λ k ne. get_or-set_other new_row_of column k (Some row) None ne in
    let apart : next ≢ column = λ e. w.vacant row row_less (had ∙ e) in
    record {
      new_count = length-set new row column ∙ w.new_count;
      row_of_count = length-set new_row_of column (Some row) ∙ w.row_of_count;
      at = q;
      at_done = omega arith;
      at_column = refl;
      at_place = refl;
      has = λ i hi.
          elim (cases_eq i row) [
            | inl e ↦ omega (arith, ap (λ j. get_or m j 0) e ∙ moved, column_within)
            | inr ne ↦ omega (arith, stays i ne, w.has i hi)
          ];
      owner = λ i hi.
          elim (cases_eq i row) [
            | inl e ↦ ap (λ j. owner_of o (get_or m j 0)) e ∙ ap (λ k. owner_of o k) moved ∙ owns ∙ ap (λ j. Some j) (sym e)
            | inr ne ↦ ap (λ k. owner_of o k) (stays i ne) ∙ own_stays (get_or new i 0) (w.vacant i hi) ∙ w.owner i hi
          ];
      owned = λ k i hk ne e.
          elim (cases_eq k column) [
            | inl here ↦
                let is_row : Some row ≡ Some i = sym owns ∙ ap (λ j. owner_of o j) (sym here) ∙ e in
                let same : row ≡ i = cc in (
                  subst (λ (j : ℕ). j < r) same row_less,
                  ap (λ j. get_or m j 0) (sym same) ∙ moved ∙ sym here,
                )
            | inr other ↦
                let old = w.owned k i hk other (sym (own_stays k other) ∙ e) in
                let ne_row : i ≢ row = λ i_row. ne (sym old.1 ∙ ap (λ j. get_or new j 0) i_row ∙ had) in
                (old.0, stays i ne_row ∙ old.1)
          ];
      vacant = λ i hi e.
          elim (cases_eq i row) [
            | inl here ↦ apart (sym e ∙ ap (λ j. get_or m j 0) here ∙ moved)
            | inr ne ↦
                let at_next : get_or new i 0 ≡ next = sym (stays i ne) ∙ e in
                let a : owner_of new_row_of next ≡ Some i = ap (λ k. owner_of new_row_of k) (sym at_next) ∙ w.owner i hi in
                let b : owner_of new_row_of next ≡ Some row = ap (λ k. owner_of new_row_of k) (sym had) ∙ w.owner row row_less in
                let same : i ≡ row = cc in
                ne same
          ];
      ahead = λ s lt.
          let less : s < q = omega (arith, path.earlier q (omega arith)) in
          let old : get_or new (get_or tree_rows (s + 1) 0) 0 ≡ get_or columns s 0 = w.ahead s (omega arith) in
          stays (get_or tree_rows (s + 1) 0) (λ e.
          let same = path.order.distinct s q (omega arith) q_within (sym old ∙ ap (λ j. get_or new j 0) e ∙ had) in
          omega arith)
          ∙ old;
      moves = λ i hi.
          elim (cases_eq i row) [
            | inl e ↦
                let k_is : get_or m i 0 ≡ column = ap (λ j. get_or m j 0) e ∙ moved in
                inr (record {
                  at = w.at;
                  scanned = w.at_done;
                  is = w.at_column ∙ sym k_is;
                  row = ap (λ k. get_or tree_rows (get_or origins k 0) 0) k_is ∙ ap (λ j. get_or tree_rows j 0) (sym w.at_place) ∙ sym e;
                })
            | inr ne ↦ elim (w.moves i hi) [
              | inl same ↦ inl (stays i ne ∙ same)
              | inr edge ↦ inr (subst (λ (k : ℕ). TakesEdge columns tree_rows origins done i k) (sym (stays i ne)) edge)
            ]
          ];
      keeps = λ k hk e.
          elim (cases_eq k column) [
            | inl here ↦ let own_k = ap (λ j. owner_of o j) here ∙ owns in absurd (cc)
            | inr other ↦ w.keeps k hk (sym (own_stays k other) ∙ e)
          ];
    }

-- the root takes the walk's column
pub Walk-matching : (r : ℕ) (columns tree_rows origins : List ℕ) (done : ℕ) (matching : List ℕ) (row_of : List (Option ℕ)) (new : List ℕ) (new_row_of : List (Option ℕ)) (column place : ℕ) →
    IsPath columns tree_rows origins done row_of → r < length columns →
    Walk (length columns) r columns tree_rows origins done matching row_of new new_row_of column place → place ≡ 0 →
    IsMatching (length columns) (r + 1) (set new r column) (set new_row_of column (Some r))
Walk-matching r columns tree_rows origins done matching row_of new new_row_of column place path root w at_root =
    let n = length columns in
    let m = set new r column in
    let o = set new_row_of column (Some r) in
    let column_within : column < n = subst (λ (k : ℕ). k < n) w.at_column (path.order.within w.at (omega (arith, w.at_done, path.left))) in
    let moved : get_or m r 0 ≡ column = get_or-set_same new r column 0 (omega (arith, w.new_count)) in
    let stays : (i : ℕ) → i ≢ r → get_or m i 0 ≡ get_or new i 0 = λ i ne. get_or-set_other new r i column 0 ne in
    let owns : owner_of o column ≡ Some r = get_or-set_same new_row_of column (Some r) None (omega (arith, w.row_of_count)) in
    let own_stays : (k : ℕ) → k ≢ column → owner_of o k ≡ owner_of new_row_of k = λ k ne. get_or-set_other new_row_of column k (Some r) None ne in
    record {
      matching_count = length-set new r column ∙ w.new_count;
      row_of_count = length-set new_row_of column (Some r) ∙ w.row_of_count;
      column = λ i hi.
          elim (cases_eq i r) [
            | inl e ↦ omega (arith, ap (λ j. get_or m j 0) e ∙ moved, column_within)
            | inr ne ↦ omega (arith, stays i ne, w.has i (omega arith))
          ];
      owner = λ i hi.
          elim (cases_eq i r) [
            | inl e ↦ ap (λ j. owner_of o (get_or m j 0)) e ∙ ap (λ k. owner_of o k) moved ∙ owns ∙ ap (λ j. Some j) (sym e)
            | inr ne ↦ ap (λ k. owner_of o k) (stays i ne) ∙ own_stays (get_or new i 0) (w.vacant i (omega arith)) ∙ w.owner i (omega arith)
          ];
      owned = λ k i hk e.
          elim (cases_eq k column) [
            | inl here ↦
                let is_row : Some r ≡ Some i = sym owns ∙ ap (λ j. owner_of o j) (sym here) ∙ e in
                let same : r ≡ i = cc in (
                  omega arith,
                  ap (λ j. get_or m j 0) (sym same) ∙ moved ∙ sym here,
                )
            | inr other ↦
                let old = w.owned k i hk other (sym (own_stays k other) ∙ e) in
                let less : i < r = old.0 in
                (omega arith, stays i (λ x. omega arith) ∙ old.1)
          ];
    }

-- a walk that has arrived at the root augments, once the root's row takes the column at hand
pub Walk-augments : (r : ℕ) (columns tree_rows origins : List ℕ) (done : ℕ) (matching : List ℕ) (row_of : List (Option ℕ)) (new : List ℕ) (new_row_of : List (Option ℕ)) (column place : ℕ) →
    IsPath columns tree_rows origins done row_of → length row_of ≡ length columns → r < length columns → r ≡ get_or tree_rows 0 0 →
    Walk (length columns) r columns tree_rows origins done matching row_of new new_row_of column place → place ≡ 0 →
    Augments r columns tree_rows origins done matching (set new r column) row_of (set new_row_of column (Some r))
Walk-augments r columns tree_rows origins done matching row_of new new_row_of column place path count root is_root w at_root =
    let m = set new r column in
    let o = set new_row_of column (Some r) in
    let column_within : column < length columns = subst (λ (k : ℕ). k < length columns) w.at_column (path.order.within w.at (omega (arith, w.at_done, path.left))) in
    let moved : get_or m r 0 ≡ column = get_or-set_same new r column 0 (omega (arith, w.new_count)) in
    let stays : (i : ℕ) → i ≢ r → get_or m i 0 ≡ get_or new i 0 = λ i ne. get_or-set_other new r i column 0 ne in
    let owns : owner_of o column ≡ Some r = get_or-set_same new_row_of column (Some r) None (omega (arith, w.row_of_count)) in
    record {
      moves = λ i hi.
          elim (cases_eq i r) [
            | inl e ↦
                let k_is : get_or m i 0 ≡ column = ap (λ j. get_or m j 0) e ∙ moved in
                inr (record {
                  at = w.at;
                  scanned = w.at_done;
                  is = w.at_column ∙ sym k_is;
                  row = ap (λ k. get_or tree_rows (get_or origins k 0) 0) k_is ∙ ap (λ j. get_or tree_rows j 0) (sym w.at_place ∙ at_root) ∙ sym is_root ∙ sym e;
                })
            | inr ne ↦
                let less : i < r = omega arith in
                elim (w.moves i less) [
                  | inl same ↦ inl (less, stays i ne ∙ same)
                  | inr edge ↦ inr (subst (λ (k : ℕ). TakesEdge columns tree_rows origins done i k) (sym (stays i ne)) edge)
                ]
          ];
      keeps = λ k hk e.
          elim (cases_eq k column) [
            | inl here ↦ let own_k = ap (λ j. owner_of o j) here ∙ owns in absurd (cc)
            | inr other ↦ w.keeps k (omega (arith, count)) (sym (get_or-set_other new_row_of column k (Some r) None other) ∙ e)
          ];
    }

-- The trees that a search records.
use Rattle.std.proofs.Common.{◌≡◌, ℕ, ◌<◌, List, [], ◌++◌, ◌∷◌, length, refl, sym, ◌∙◌, ap, ap₂, subst, append_assoc, inl, inr, arith, ℤ, true, false}
use Rattle.std.proofs.lemmas.List.{append-nil}
use Rattle.std.specs.Prelude.{None, Some, codes, ◌+ℤ◌}
use Rattle.qap_cost.specs.Instance.{Problem}
use Rattle.qap_cost.specs.Placement.{Placement}
use Rattle.qap_cost.specs.Range.{AllWithin}
use Rattle.qap_lines.specs.LineText.{line_text}
use Rattle.qap_proof.specs.Shape.{IsPermOf, free_count}
use Rattle.qap_proof.specs.Valid.{TakesOn}
use Rattle.qap_symmetry.specs.declared.table.Table.{Table}
use Rattle.pair_duals.specs.CostStep.{step_of}
use Rattle.pair_duals.specs.PairDuals.{Duals, AreDuals, AreOf, Fit}
use Rattle.pair_duals.specs.Reduced.{Form, IsChild, IsLine, IsStart, at, count_of}
use Rattle.pair_duals.specs.Seats.{child_at}
use Rattle.pair_duals.proofs.Forms.{IsFormOf-line}
use Rattle.pair_duals.proofs.Seatings.{facilities_of}
use Rattle.proof_tree.specs.Shape.{AreLimited, AreNodeDuals, ArePairRows, HasShape}
use Rattle.proof_tree.specs.Text.{children_text, image_text, marks, own_text, split_text, tree_text}
use Rattle.proof_tree.specs.Tree.{PairRows, NodeDuals, Tree, leaf, split, by_one}
use Rattle.proof_tree.specs.Valid.{AreListed, Begins, IsLined, Under, Valid, under}
use Rattle.subtree_search.specs.Adding.{Adds, Extends}
use Rattle.subtree_search.specs.Clean.{clean}
use Rattle.subtree_search.specs.Closed.{Reaches, ReachesTrivially}
use Rattle.subtree_search.specs.Images.{TakesFree, table_of}
use Rattle.subtree_search.specs.Kids.{Kid, bare, as_image, as_tree, GrowsBehind, GrowsBy, kid_text, mark_of}
use Rattle.subtree_search.specs.Lines.{child_on as child_on_line, column_on, row_on, side_of}
use Rattle.subtree_search.specs.Premises.{IsNode, limits_of_64}
use Rattle.subtree_search.specs.Recorded.{HasKid, HasProof, HasSplit, HasTree, IsPlain}
use Rattle.subtree_search.specs.Rows.{rows_of}
use Rattle.subtree_search.specs.declared.line.Line.{Line}
use Rattle.subtree_search.specs.declared.line.Line.TheVariants.{Row, Column}
use Rattle.subtree_search.proofs.Cleaning.{Fit-clean, IsChild-clean, IsEven, IsStart-clean}
use Rattle.subtree_search.proofs.RowLists.{AreListed-clean, ArePairRows-of}

-- ---- a node whose line is drawn

nothing_behind : (xs : List ℕ) → xs ++ [] ≡ xs
nothing_behind xs = append-nil xs

append_assoc-behind : (a b c d : List ℕ) → a ++ b ++ c ++ d ≡ a ++ (b ++ c ++ d)
append_assoc-behind a b c d = simp append_assoc refl

free_rows : (I : Problem) (D : Duals) (step : ℕ) (y : Placement) (R : Form) → IsNode I D step y R → free_count y ≡ count_of R
free_rows I D step y R n = omega (arith, n.form.numbers.row_count, (facilities_of y n.placement).count)

limited-64 : (m : ℕ) (u : List ℤ) → length u ≡ m → AllWithin limits_of_64.dual u → AreLimited m u
limited-64 m u count range = record { count = count; limited = record { each = λ j below. let h = range.each j below in omega (arith, h) } }

duals-limited : (I : Problem) (D : Duals) (step : ℕ) (y : Placement) (R : Form) (u : List ℤ) → IsNode I D step y R → length u ≡ count_of R → AllWithin limits_of_64.dual u → AreNodeDuals true (free_count y) (record { own = None; u = u })
duals-limited I D step y R u n count range = record { own = refl; u = limited-64 (free_count y) u (count ∙ sym (free_rows I D step y R n)) range }

lined : (I : Problem) (D : Duals) (y : Placement) (R S : Form) (u v : List ℤ) → IsLine R S u v → IsLined I y (Some (under (clean D) R)) (record { own = None; u = u }) (under (clean D) S)
lined I D y R S u v line = record { start = R; v = v; begins = (refl, refl); line = line }

-- the node of the drawn form
pub IsNode-drawn : (I : Problem) (D : Duals) (step : ℕ) (y : Placement) (R S : Form) (u v : List ℤ) → IsNode I D step y R → IsLine R S u v → IsNode I D step y S
IsNode-drawn I D step y R S u v n line = record { placement = n.placement; size = n.size; sound = n.sound; form = IsFormOf-line I D y R S u v n.placement n.form line }

-- a leaf
pub HasTree-leaf : (I : Problem) (D : Duals) (step : ℕ) (y : Placement) (R S : Form) (u v : List ℤ) (c : ℤ) (old new : List ℕ → Type 0) → IsNode I D step y R → length u ≡ count_of R → AllWithin limits_of_64.dual u → IsLine R S u v
    → Reaches I D.scale c S.value → Adds old new (line_text (codes "x") u) → HasTree I D y R c old new
HasTree-leaf I D step y R S u v c old new n count range line reaches added = record {
  tree = leaf (record { own = None; u = u });
  plain = refl;
  shape = duals-limited I D step y R u n count range;
  valid = λ bound less. (under (clean D) S, lined I D y R S u v line, reaches bound less);
  adds = record { each = λ t h. added.each t h };
}

-- a split
pub HasTree-split : (I : Problem) (D : Duals) (step : ℕ) (y : Placement) (R S : Form) (u v : List ℤ) (c : ℤ) (old new : List ℕ → Type 0) → IsNode I D step y R → length u ≡ count_of R → AllWithin limits_of_64.dual u → IsLine R S u v
    → HasSplit I D y S u c old new → HasTree I D y R c old new
HasTree-split I D step y R S u v c old new n count range line has =
    let free = free_rows I D step y R n in
    let same : count_of S ≡ count_of R = ap length line.rows in
    record {
      tree = split (record { own = None; u = u }) has.side has.number has.children;
      plain = refl;
      shape = (duals-limited I D step y R u n count range, has.own, has.place, omega (arith, has.count, same, free), has.shape);
      valid = λ bound less.
          (under (clean D) S, has.own, lined I D y R S u v line, has.place, omega (arith, has.count, same, n.form.numbers.row_count, (facilities_of y n.placement).count), has.valid bound less);
      adds = record { each = λ t h. has.adds.each t h };
    }

-- ---- pair duals of its own

with_own : PairRows → Tree → Tree
with_own P (leaf d) = leaf (record { own = Some P; u = d.u })
with_own P (split d side number below) = split (record { own = Some P; u = d.u }) side number below

text-own : (P : PairRows) (t : Tree) → IsPlain t → own_text (Some P) ++ tree_text t ≡ tree_text (with_own P t)
unfolding with_own
text-own P (leaf d) plain = ap (λ o. own_text (Some P) ++ (own_text o ++ line_text (codes "x") d.u)) plain
text-own P (split d side number below) plain =
    ap (λ o. own_text (Some P) ++ (own_text o ++ split_text side number (marks below) d.u ++ children_text below)) plain
    ∙ sym (append_assoc (own_text (Some P)) (split_text side number (marks below) d.u) (children_text below))

shape-own : (y : Placement) (P : PairRows) (t : Tree) → ArePairRows (free_count y) P → HasShape y true t → HasShape y false (with_own P t)
unfolding with_own
shape-own y P (leaf d) rows h = record { own = rows; u = h.u }
shape-own y P (split d side number below) rows h = (record { own = rows; u = h.0.u }, h.1, h.2, h.3, h.4)

-- the line of a node that takes its form from above is one that starts from its own pair duals, where these give the form
lined-own : (I : Problem) (y : Placement) (D : Duals) (R : Form) (P : PairRows) (d : NodeDuals) (now : Under) → AreListed y P D → Fit I D → IsStart I D y R → d.own ≡ None → IsLined I y (Some (under D R)) d now → IsLined I y None (record { own = Some P; u = d.u }) now
lined-own I y D R P d now listed fit start plain h =
    let begins : Begins I y (Some (under D R)) None now.duals h.start = subst (λ o. Begins I y (Some (under D R)) o now.duals h.start) plain h.begins in
    record {
      start = h.start;
      v = h.v;
      begins = (
        subst (AreListed y P) (sym begins.0) listed,
        subst (Fit I) (sym begins.0) fit,
        subst (λ (E : Duals). IsStart I E y h.start) (sym begins.0) (subst (IsStart I D y) (sym begins.1) start),
      );
      line = h.line;
    }

valid-own : (I : Problem) (step : ℕ) (bound : ℤ) (y : Placement) (D : Duals) (R : Form) (P : PairRows) (t : Tree) → AreListed y P D → Fit I D → IsStart I D y R → IsPlain t → Valid I step bound y (Some (under D R)) t → Valid I step bound y None (with_own P t)
unfolding with_own
valid-own I step bound y D R P (leaf d) listed fit start plain h = (h.0, lined-own I y D R P d h.0 listed fit start plain h.1, h.2)
valid-own I step bound y D R P (split d side number below) listed fit start plain h = (h.0, h.1, lined-own I y D R P d h.0 listed fit start plain h.2, h.3, h.4, h.5)

-- the node that the pair duals belong to
pub HasProof-own : (I : Problem) (D : Duals) (step : ℕ) (y : Placement) (R : Form) (c : ℤ) (old mid new : List ℕ → Type 0) → AreDuals limits_of_64 D → AreOf y D → IsNode I D step y R → IsStart I D y R → Adds old mid (own_text (Some (rows_of D))) → HasTree I D y R c mid new
    → HasProof I y c old new
HasProof-own I D step y R c old mid new duals of n start own has =
    let P = rows_of D in
    let even = duals.same_count in
    let free : length D.facilities ≡ free_count y = omega (arith, ap length of.facilities, (facilities_of y n.placement).count) in
    record {
      tree = with_own P has.tree;
      shape = shape-own y P has.tree (subst (λ (m : ℕ). ArePairRows m P) free (ArePairRows-of D duals)) has.shape;
      valid = λ bound less.
          valid-own I (step_of I) bound y (clean D) R P has.tree (AreListed-clean y D of) (Fit-clean I D even n.sound.fit) (IsStart-clean I D y R even n.placement start) has.plain (has.valid bound less);
      adds = record {
        each = λ t h. subst new (append_assoc t (own_text (Some P)) (tree_text has.tree) ∙ ap (λ (s : List ℕ). t ++ s) (text-own P has.tree has.plain)) (has.adds.each (t ++ own_text (Some P)) (own.each t h));
      };
    }

-- ---- children

-- a child that its parent prunes needs no text
pub HasKid-pruned : (I : Problem) (D : Duals) (y : Placement) (R : Form) (line : Line) (k : ℕ) (c : ℤ) (ends old : List ℕ → Type 0) (h g : ℕ) → h ≡ row_on line k → g ≡ column_on line k → Reaches I D.scale c (R.value +ℤ at R h g) → HasKid I D y R line k c ends old old
HasKid-pruned I D y R line k c ends old h g row column reaches =
    let here : Reaches I D.scale c (R.value +ℤ at R (row_on line k) (column_on line k)) = subst (Reaches I D.scale c) (ap₂ (λ (a b : ℕ). R.value +ℤ at R a b) row column) reaches in
    record {
      kid = bare;
      shape = tt;
      valid = λ bound less. inl (here bound less);
      grows = record { each = λ t before after ends_there long had. subst old (sym (nothing_behind (t ++ before ++ 46 ∷ after))) had };
    }

-- closed by the least numbers of its own form
pub HasKid-trivial : (I : Problem) (D : Duals) (step : ℕ) (y : Placement) (R S : Form) (line : Line) (k : ℕ) (c : ℤ) (ends old : List ℕ → Type 0) (h g : ℕ) → IsEven D → IsNode I D step y R → h < count_of R → g < count_of R → h ≡ row_on line k → g ≡ column_on line k
    → IsChild I D R h g S → ReachesTrivially I D.scale c S → HasKid I D y R line k c ends old old
HasKid-trivial I D step y R S line k c ends old h g even n hh hg row column child closes =
    let clean_child = IsChild-clean I D y R S h g even n.placement n.form.numbers hh hg child in
    let here : IsChild I (clean D) R (row_on line k) (column_on line k) S = subst (λ (a : ℕ). IsChild I (clean D) R a (column_on line k) S) row (subst (λ (b : ℕ). IsChild I (clean D) R h b S) column clean_child) in
    record {
      kid = bare;
      shape = tt;
      valid = λ bound less. inr (record { form = S; u = closes.u; v = closes.v; child = here; rows = closes.rows; columns = closes.columns; reaches = closes.reaches bound less });
      grows = record { each = λ t before after ends_there long had. subst old (sym (nothing_behind (t ++ before ++ 46 ∷ after))) had };
    }

-- marked, and then with a text
pub marked : (kid : Kid) (ends : List ℕ → Type 0) (k : ℕ) (old mid new : List ℕ → Type 0) → mark_of kid ≡ 43 → ((t before after : List ℕ) → ends t → length before ≡ k → old (t ++ before ++ 46 ∷ after) → mid (t ++ before ++ 43 ∷ after)) → Adds mid new (kid_text kid) → GrowsBy kid ends k old new
marked kid ends k old mid new mark marks added = record {
  each = λ t before after ends_there long had.
      subst (λ (m : ℕ). new (t ++ before ++ m ∷ after ++ kid_text kid)) (sym mark) (added.each (t ++ before ++ 43 ∷ after) (marks t before after ends_there long had));
}

takes-on : (I : Problem) (y : Placement) (line : Line) (m : List ℕ) (j k : ℕ) → TakesFree I y (table_of line) m j k → TakesOn (side_of line) I y j k m
takes-on I y (Row h) m j k takes = takes
takes-on I y (Column g) m j k takes = takes

kept-by : (I : Problem) (y : Placement) (line : Line) (m : List ℕ) (j k : ℕ) → TakesFree I y (table_of line) m j k → IsPermOf y.size m
kept-by I y (Row h) m j k takes = record { permutation = takes.keeps.permutation; count = takes.keeps.count }
kept-by I y (Column g) m j k takes = record { permutation = takes.keeps.permutation; count = takes.keeps.count }

-- an image has the text of its permutation
pub HasKid-image : (I : Problem) (D : Duals) (y : Placement) (R : Form) (line : Line) (k : ℕ) (c : ℤ) (ends old mid new : List ℕ → Type 0) (table : Table) (m : List ℕ) (j : ℕ) → j < k → table ≡ table_of line → TakesFree I y table m j k
    → ((t before after : List ℕ) → ends t → length before ≡ k → old (t ++ before ++ 46 ∷ after) → mid (t ++ before ++ 43 ∷ after)) → Adds mid new (image_text (by_one j m)) → HasKid I D y R line k c ends old new
HasKid-image I D y R line k c ends old mid new table m j earlier same takes marks added =
    let here : TakesFree I y (table_of line) m j k = subst (λ (t : Table). TakesFree I y t m j k) same takes in
    record {
      kid = as_image (by_one j m);
      shape = (earlier, kept-by I y line m j k here);
      valid = λ bound less. (earlier, takes-on I y line m j k here);
      grows = marked (as_image (by_one j m)) ends k old mid new refl marks added;
    }

-- a child that is searched has the text of its tree
pub HasKid-tree : (I : Problem) (D : Duals) (step : ℕ) (y x : Placement) (R S : Form) (line : Line) (k : ℕ) (c : ℤ) (ends old mid new : List ℕ → Type 0) (h g : ℕ) → IsEven D → IsNode I D step y R → h < count_of R → g < count_of R → h ≡ row_on line k → g ≡ column_on line k
    → x ≡ child_at y h g → IsChild I D R h g S → ((t before after : List ℕ) → ends t → length before ≡ k → old (t ++ before ++ 46 ∷ after) → mid (t ++ before ++ 43 ∷ after)) → HasTree I D x S c mid new → HasKid I D y R line k c ends old new
HasKid-tree I D step y x R S line k c ends old mid new h g even n hh hg row column is child marks has =
    let clean_child = IsChild-clean I D y R S h g even n.placement n.form.numbers hh hg child in
    let here : IsChild I (clean D) R (row_on line k) (column_on line k) S = subst (λ (a : ℕ). IsChild I (clean D) R a (column_on line k) S) row (subst (λ (b : ℕ). IsChild I (clean D) R h b S) column clean_child) in
    let node : x ≡ child_on_line y line k = is ∙ ap₂ (child_at y) row column in
    record {
      kid = as_tree has.tree;
      shape = subst (λ (z : Placement). HasShape z true has.tree) node has.shape;
      valid = λ bound less. (S, here, subst (λ (z : Placement). Valid I (step_of I) bound z (Some (under (clean D) S)) has.tree) node (has.valid bound less));
      grows = marked (as_tree has.tree) ends k old mid new refl marks has.adds;
    }

-- ---- what stands before stays

-- a text extends itself
pub Extends-same : (old : List ℕ → Type 0) → Extends old old
Extends-same old = record { each = λ t h. ([], subst old (sym (nothing_behind t)) h) }

-- what extends a text with something added extends the text
pub Extends-added : (old mid new : List ℕ → Type 0) (s : List ℕ) → Adds old mid s → Extends mid new → Extends old new
Extends-added old mid new s added more = record {
  each = λ t h.
      let behind = more.each (t ++ s) (added.each t h) in (s ++ behind.0, subst new (append_assoc t s behind.0) behind.1);
}

-- a text with something added extends it
pub Extends-adds : (old new : List ℕ → Type 0) (s : List ℕ) → Adds old new s → Extends old new
Extends-adds old new s added = record { each = λ t h. (s, added.each t h) }

-- a text grows behind a mark by nothing
pub GrowsBehind-same : (ends : List ℕ → Type 0) (k : ℕ) (old : List ℕ → Type 0) → GrowsBehind ends k old old
GrowsBehind-same ends k old = record { each = λ t before after there long had. (before ++ 46 ∷ after, subst old (append_assoc t before (46 ∷ after)) had) }

-- it grows behind the mark of a child that gets a text
pub GrowsBehind-marked : (ends : List ℕ → Type 0) (k : ℕ) (old mid new : List ℕ → Type 0) → ((t before after : List ℕ) → ends t → length before ≡ k → old (t ++ before ++ 46 ∷ after) → mid (t ++ before ++ 43 ∷ after)) → Extends mid new → GrowsBehind ends k old new
GrowsBehind-marked ends k old mid new marks more = record {
  each = λ t before after there long had.
      let behind = more.each (t ++ before ++ 43 ∷ after) (marks t before after there long had) in
      (before ++ 43 ∷ after ++ behind.0, subst new (append_assoc-behind t before (43 ∷ after) behind.0) behind.1);
}

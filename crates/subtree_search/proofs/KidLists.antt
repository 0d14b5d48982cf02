-- One more child of a split.
use Rattle.std.proofs.Common.{◌≡◌, ℕ, ◌+◌, ◌-◌, ◌<◌, List, [], ◌∷◌, ◌++◌, length, replicate, refl, sym, ◌∙◌, ap, subst, append_assoc, arith, ℤ, suc}
use Rattle.std.specs.Prelude.{◌≤ℤ◌, pos}
use Rattle.std.proofs.lemmas.Int.{ints}
use Rattle.std.proofs.lemmas.List.{append-nil}
use Rattle.qap_cost.specs.Instance.{Problem}
use Rattle.qap_cost.specs.Placement.{Placement}
use Rattle.qap_lines.specs.LineText.{numbers_text}
use Rattle.qap_proof.specs.Cell.{IsPlaceOf, own_on}
use Rattle.qap_proof.specs.Text.{letter}
use Rattle.qap_proof.specs.declared.side.Side.{Side}
use Rattle.pair_duals.specs.CostStep.{step_of}
use Rattle.pair_duals.specs.PairDuals.{Duals}
use Rattle.pair_duals.specs.Reduced.{Form, count_of}
use Rattle.proof_tree.specs.Shape.{AllHaveShape}
use Rattle.proof_tree.specs.Text.{children_text, marks, split_text}
use Rattle.proof_tree.specs.Tree.{Children, no_children, closed, image, grown, child_count}
use Rattle.proof_tree.specs.Valid.{AllValid, Under, under}
use Rattle.subtree_search.specs.Adding.{Adds, Extends, front_text}
use Rattle.subtree_search.specs.Clean.{clean}
use Rattle.subtree_search.specs.Kids.{Kid, bare, as_image, as_tree, GrowsBehind, HasKidShape, IsValidKid, behind, kid_text, mark_of}
use Rattle.subtree_search.specs.Lines.{own_of, side_of}
use Rattle.subtree_search.specs.Recorded.{HasBegun, HasKid, HasSplit, begun_text}
use Rattle.subtree_search.specs.declared.line.Line.{Line}

count-behind : (ts : Children) (kid : Kid) → child_count (behind ts kid) ≡ child_count ts + 1
count-behind no_children bare = refl
count-behind no_children (as_image m) = refl
count-behind no_children (as_tree t) = refl
count-behind (closed rest) kid = let h = count-behind rest kid in omega (arith, h)
count-behind (image m rest) kid = let h = count-behind rest kid in omega (arith, h)
count-behind (grown t rest) kid = let h = count-behind rest kid in omega (arith, h)

marks-behind : (ts : Children) (kid : Kid) → marks (behind ts kid) ≡ marks ts ++ mark_of kid ∷ []
marks-behind no_children bare = refl
marks-behind no_children (as_image m) = refl
marks-behind no_children (as_tree t) = refl
marks-behind (closed rest) kid = ap (λ l. 46 ∷ l) (marks-behind rest kid)
marks-behind (image m rest) kid = ap (λ l. 43 ∷ l) (marks-behind rest kid)
marks-behind (grown t rest) kid = ap (λ l. 43 ∷ l) (marks-behind rest kid)

count-marks : (ts : Children) → length (marks ts) ≡ child_count ts
count-marks no_children = refl
count-marks (closed rest) = let h = count-marks rest in omega (arith, h)
count-marks (image m rest) = let h = count-marks rest in omega (arith, h)
count-marks (grown t rest) = let h = count-marks rest in omega (arith, h)

text-behind : (ts : Children) (kid : Kid) → children_text (behind ts kid) ≡ children_text ts ++ kid_text kid
text-behind no_children bare = refl
text-behind no_children (as_image m) = append-nil _
text-behind no_children (as_tree t) = append-nil _
text-behind (closed rest) kid = text-behind rest kid
text-behind (image m rest) kid = ap (λ l. kid_text (as_image m) ++ l) (text-behind rest kid) ∙ sym (append_assoc (kid_text (as_image m)) (children_text rest) (kid_text kid))
text-behind (grown t rest) kid = ap (λ l. kid_text (as_tree t) ++ l) (text-behind rest kid) ∙ sym (append_assoc (kid_text (as_tree t)) (children_text rest) (kid_text kid))

valid-behind : (ts : Children) (kid : Kid) (I : Problem) (step : ℕ) (bound : ℤ) (y : Placement) (now : Under) (side : Side) (own c d : ℕ) → d ≡ c + child_count ts
    → AllValid I step bound y now side own c ts → IsValidKid I step bound y now side own d kid → AllValid I step bound y now side own c (behind ts kid)
valid-behind no_children bare I step bound y now side own c d at h k = (subst (λ (e : ℕ). IsValidKid I step bound y now side own e bare) (omega (arith, at)) k, tt)
valid-behind no_children (as_image m) I step bound y now side own c d at h k = (subst (λ (e : ℕ). IsValidKid I step bound y now side own e (as_image m)) (omega (arith, at)) k, tt)
valid-behind no_children (as_tree t) I step bound y now side own c d at h k =
    let here : IsValidKid I step bound y now side own c (as_tree t) = subst (λ (e : ℕ). IsValidKid I step bound y now side own e (as_tree t)) (omega (arith, at)) k in
    (here.0, here.1, here.2, tt)
valid-behind (closed rest) kid I step bound y now side own c d at h k = (h.0, valid-behind rest kid I step bound y now side own (c + 1) d (omega (arith, at)) h.1 k)
valid-behind (image m rest) kid I step bound y now side own c d at h k = (h.0, valid-behind rest kid I step bound y now side own (c + 1) d (omega (arith, at)) h.1 k)
valid-behind (grown t rest) kid I step bound y now side own c d at h k = (h.0, h.1, h.2, valid-behind rest kid I step bound y now side own (c + 1) d (omega (arith, at)) h.3 k)

shape-behind : (ts : Children) (kid : Kid) (y : Placement) (side : Side) (own c d : ℕ) → d ≡ c + child_count ts → AllHaveShape y side own c ts → HasKidShape y side own d kid → AllHaveShape y side own c (behind ts kid)
shape-behind no_children bare y side own c d at h k = tt
shape-behind no_children (as_image m) y side own c d at h k = (subst (λ (e : ℕ). HasKidShape y side own e (as_image m)) (omega (arith, at)) k, tt)
shape-behind no_children (as_tree t) y side own c d at h k = (subst (λ (e : ℕ). HasKidShape y side own e (as_tree t)) (omega (arith, at)) k, tt)
shape-behind (closed rest) kid y side own c d at h k = shape-behind rest kid y side own (c + 1) d (omega (arith, at)) h k
shape-behind (image m rest) kid y side own c d at h k = (h.0, shape-behind rest kid y side own (c + 1) d (omega (arith, at)) h.1 k)
shape-behind (grown t rest) kid y side own c d at h k = (h.0, shape-behind rest kid y side own (c + 1) d (omega (arith, at)) h.1 k)

-- ---- the text

-- at a mark
open_at : (t front ms dots us texts : List ℕ) → t ++ (front ++ ms ++ 46 ∷ dots ++ us ++ 10 ∷ [] ++ texts) ≡ (t ++ front) ++ ms ++ 46 ∷ (dots ++ us ++ 10 ∷ [] ++ texts)
open_at t front ms dots us texts = simp append_assoc refl

-- with another mark, and a text
close_at : (t front ms dots us texts added : List ℕ) (mark : ℕ) → (t ++ front) ++ ms ++ mark ∷ (dots ++ us ++ 10 ∷ [] ++ texts) ++ added ≡ t ++ (front ++ (ms ++ mark ∷ []) ++ dots ++ us ++ 10 ∷ [] ++ (texts ++ added))
close_at t front ms dots us texts added mark = simp append_assoc refl

-- before the first child, and behind the last
begin_split : (a b dots us : List ℕ) → a ++ b ++ 32 ∷ dots ++ us ++ 10 ∷ [] ≡ (a ++ b ++ 32 ∷ []) ++ [] ++ dots ++ us ++ 10 ∷ [] ++ []
begin_split a b dots us =
    sym (append-nil ((a ++ b ++ 32 ∷ []) ++ [] ++ dots ++ us ++ 10 ∷ []) ∙ ap (λ (l : List ℕ). l ++ dots ++ us ++ 10 ∷ []) (append-nil (a ++ b ++ 32 ∷ [])) ∙ ap (λ (l : List ℕ). l ++ us ++ 10 ∷ []) (append_assoc (a ++ b) (32 ∷ []) dots))

end_split : (a b ms us texts : List ℕ) → (a ++ b ++ 32 ∷ []) ++ ms ++ [] ++ us ++ 10 ∷ [] ++ texts ≡ a ++ b ++ 32 ∷ ms ++ us ++ 10 ∷ [] ++ texts
end_split a b ms us texts = ap (λ (l : List ℕ). l ++ us ++ 10 ∷ [] ++ texts) (append-nil ((a ++ b ++ 32 ∷ []) ++ ms) ∙ append_assoc (a ++ b) (32 ∷ []) ms)

-- ---- a split under way

-- with no children
pub HasBegun-none : (I : Problem) (D : Duals) (y : Placement) (R : Form) (u : List ℤ) (line : Line) (number : ℕ) (c : ℤ) (ends old new : List ℕ → Type 0) → length u ≡ count_of R
    → Adds old new (split_text (side_of line) number (replicate (length u) 46) u) → ((t : List ℕ) → old t → ends (t ++ front_text (side_of line) number)) → HasBegun I D y R u line number 0 c ends old new
HasBegun-none I D y R u line number c ends old new count added place =
    let left : length u ≡ count_of R - 0 = omega (arith, count) in
    let is : split_text (side_of line) number (replicate (length u) 46) u ≡ begun_text (side_of line) number u no_children (count_of R - 0) =
    ap (λ (n : ℕ). split_text (side_of line) number (replicate n 46) u) left ∙ begin_split (letter (side_of line)) (numbers_text (pos (number + 1) ∷ [])) (replicate (count_of R - 0) 46) (numbers_text u) in
    record {
      children = no_children;
      count = refl;
      shape = tt;
      valid = λ bound less. tt;
      place = place;
      adds = record { each = λ t h. subst (λ (s : List ℕ). new (t ++ s)) is (added.each t h) };
    }

-- by a line whose side, and whose numbers, are those
pub HasBegun-start : (I : Problem) (D : Duals) (y : Placement) (R : Form) (u : List ℤ) (line : Line) (number : ℕ) (c : ℤ) (ends old new : List ℕ → Type 0) (side : Side) (us : List ℤ) → side ≡ side_of line → us ≡ u → length u ≡ count_of R
    → Adds old new (split_text side number (replicate (length us) 46) us) → ((t : List ℕ) → old t → ends (t ++ front_text side number)) → HasBegun I D y R u line number 0 c ends old new
HasBegun-start I D y R u line number c ends old new side us on by count added place =
    HasBegun-none I D y R u line number c ends old new count
    (subst (λ (s : Side). Adds old new (split_text s number (replicate (length u) 46) u)) on (subst (λ (xs : List ℤ). Adds old new (split_text side number (replicate (length xs) 46) xs)) by added))
    (subst (λ (s : Side). (t : List ℕ) → old t → ends (t ++ front_text s number)) on place)

-- with one more, for a cost that is no more
pub HasBegun-more : (I : Problem) (D : Duals) (y : Placement) (R : Form) (u : List ℤ) (line : Line) (number n : ℕ) (c d : ℤ) (ends old mid new : List ℕ → Type 0) → n < count_of R → d ≤ℤ c
    → HasBegun I D y R u line number n c ends old mid → HasKid I D y R line n d ends mid new → HasBegun I D y R u line number (n + 1) d ends old new
HasBegun-more I D y R u line number n c d ends old mid new below less begun next =
    let ts = begun.children in
    let kid = next.kid in
    let side = side_of line in
    let own = own_of line in
    let front = front_text side number in
    let left = count_of R - (n + 1) in
    let us = numbers_text u in
    let dots = replicate left 46 in
    let texts = children_text ts in
    let at : n ≡ 0 + child_count ts = omega (arith, begun.count) in
    let one : count_of R - n ≡ suc left = omega (arith, below) in
    record {
      children = behind ts kid;
      count = omega (arith, begun.count, count-behind ts kid);
      shape = shape-behind ts kid y side own 0 n at begun.shape next.shape;
      valid = λ bound small. valid-behind ts kid I (step_of I) bound y (under (clean D) R) side own 0 n at (begun.valid bound (omega (arith, ints, small, less))) (next.valid bound small);
      place = begun.place;
      adds = record {
        each = λ t h.
            let before : mid (t ++ begun_text side number u ts (suc left)) = subst (λ (m : ℕ). mid (t ++ begun_text side number u ts m)) one (begun.adds.each t h) in
            let opened = subst mid (open_at t front (marks ts) dots us texts) before in
            let grown = next.grows.each (t ++ front) (marks ts) (dots ++ us ++ 10 ∷ [] ++ texts) (begun.place t h) (count-marks ts ∙ begun.count) opened in
            let closed = subst new (close_at t front (marks ts) dots us texts (kid_text kid) (mark_of kid)) grown in
            let marked : new (t ++ (front ++ marks (behind ts kid) ++ dots ++ us ++ 10 ∷ [] ++ (texts ++ kid_text kid))) =
            subst (λ (ms : List ℕ). new (t ++ (front ++ ms ++ dots ++ us ++ 10 ∷ [] ++ (texts ++ kid_text kid)))) (sym (marks-behind ts kid)) closed in
            subst (λ (s : List ℕ). new (t ++ (front ++ marks (behind ts kid) ++ dots ++ us ++ 10 ∷ [] ++ s))) (sym (text-behind ts kid)) marked;
      };
    }

-- with all
pub HasSplit-all : (I : Problem) (D : Duals) (y : Placement) (R : Form) (u : List ℤ) (line : Line) (number n : ℕ) (c : ℤ) (ends old new : List ℕ → Type 0) → n ≡ count_of R → IsPlaceOf (own_on (side_of line) y) number (own_of line)
    → HasBegun I D y R u line number n c ends old new → HasSplit I D y R u c old new
HasSplit-all I D y R u line number n c ends old new all place begun =
    let ts = begun.children in
    let none : count_of R - n ≡ 0 = omega (arith, all) in
    let is : begun_text (side_of line) number u ts 0 ≡ split_text (side_of line) number (marks ts) u ++ children_text ts =
    end_split (letter (side_of line)) (numbers_text (pos (number + 1) ∷ [])) (marks ts) (numbers_text u) (children_text ts) in
    record {
      side = side_of line;
      number = number;
      own = own_of line;
      place = place;
      children = ts;
      count = begun.count ∙ all;
      shape = begun.shape;
      valid = begun.valid;
      adds = record {
        each = λ t h. subst (λ (s : List ℕ). new (t ++ s)) is (subst (λ (m : ℕ). new (t ++ begun_text (side_of line) number u ts m)) none (begun.adds.each t h));
      };
    }

-- what was added before the split stays, whatever becomes of it
pub Extends-begun : (I : Problem) (D : Duals) (y : Placement) (R : Form) (u : List ℤ) (line : Line) (number n : ℕ) (c : ℤ) (ends old mid new : List ℕ → Type 0) → n < count_of R → HasBegun I D y R u line number n c ends old mid → GrowsBehind ends n mid new → Extends old new
Extends-begun I D y R u line number n c ends old mid new below begun grows =
    let ts = begun.children in
    let front = front_text (side_of line) number in
    let left = count_of R - (n + 1) in
    let us = numbers_text u in
    let dots = replicate left 46 in
    let texts = children_text ts in
    let one : count_of R - n ≡ suc left = omega (arith, below) in
    record {
      each = λ t h.
          let before : mid (t ++ begun_text (side_of line) number u ts (suc left)) = subst (λ (m : ℕ). mid (t ++ begun_text (side_of line) number u ts m)) one (begun.adds.each t h) in
          let opened = subst mid (open_at t front (marks ts) dots us texts) before in
          let more = grows.each (t ++ front) (marks ts) (dots ++ us ++ 10 ∷ [] ++ texts) (begun.place t h) (count-marks ts ∙ begun.count) opened in
          (front ++ more.0, subst new (append_assoc t front more.0) more.1);
    }

-- The children of a split, in a text that begins with those of one.
use Rattle.std.proofs.Common.{◌≡◌, ◌≢◌, ℕ, ◌+◌, ◌<◌, ◌≤◌, ◌++◌, List, [], ◌∷◌, length, take, drop, get_or, ℤ, pos, unsigned_abs, refl, sym, ◌∙◌, ap, subst, inl, inr, arith, append_assoc}
use Rattle.std.specs.Prelude.{codes, Bool, true, Option, Some, Result, Ok, Err, IfErr}
use Rattle.std.specs.Io.KnownBytes.{Consumes}
use Rattle.std.proofs.lemmas.List.{append_cancel_right, drop_at, drop_more, length-drop, length-map, nil_from_length, take_at}
use Rattle.qap_cost.specs.Instance.{Problem}
use Rattle.qap_cost.specs.Placement.{Placement, IsPlacement}
use Rattle.qap_cost.specs.Range.{AllLimited}
use Rattle.qap_io.specs.Number.{from_one}
use Rattle.qap_lines.proofs.Limits.{AllLimited-append}
use Rattle.qap_lines.proofs.Locations.{AllLimited-permutation, from_one-injective}
use Rattle.qap_lines.proofs.Lines.{IsLine-unique}
use Rattle.qap_lines.proofs.NumberLists.{AllLimited-one, IsLine-line_text}
use Rattle.qap_lines.specs.Line.{HasNoLine, IsLine}
use Rattle.qap_lines.specs.LineText.{numbers_text}
use Rattle.pair_duals.specs.Reduced.{Form, IsChild, count_of}
use Rattle.qap_proof.specs.Cell.{own_on}
use Rattle.qap_proof.specs.Shape.{free_count}
use Rattle.qap_proof.specs.declared.error.ProofError.{ProofError}
use Rattle.qap_proof.specs.declared.side.Side.{Side}
use Rattle.proof_tree.proofs.Splits.{IsCellOf-child, IsPlacement-cell}
use Rattle.proof_tree.specs.Shape.{AllHaveShape, HasShape, IsImageOf}
use Rattle.proof_tree.specs.Text.{children_text, image_text, marks, tree_text}
use Rattle.proof_tree.specs.Tree.{Children, Image, Tree, by_both, by_one, closed, column_of, child_on, grown, image, no_children, row_of}
use Rattle.proof_tree.specs.Valid.{AllValid, Under, Valid, under}
use Rattle.proof_check.specs.Completeness.{Any, BeginsChildren, BeginsTree, BeginsWithLine, Leaves, LeavesOthers, RefusesImage}
use Rattle.proof_check.specs.Fault.{IsReadFault}
use Rattle.proof_check.specs.Walk.{own_of}
use Rattle.proof_check.proofs.SameForms.{one_child}
use Rattle.proof_check.proofs.Passing.{bare_high, line_known, own_cases}
use Rattle.proof_check.proofs.PassingLines.{Valid-same, cell_of_form}
use Rattle.proof_check.proofs.TreeLines.{one_numbers, IsLine-bare, IsLine-own, bare_line, below_text, no_line-both, no_line-one}

-- ---- first lines

-- the numbers of an image
abbrev image_numbers : Image → List ℤ
image_numbers (by_one j p) = pos (j + 1) ∷ from_one p
image_numbers (by_both j p q) = pos (j + 1) ∷ (from_one p ++ from_one q)

-- the letter of its line
abbrev pub image_letter : Image → List ℕ
image_letter (by_one j p) = codes "m"
image_letter (by_both j p q) = codes "g"

one_source : (j i : ℕ) (zs xs : List ℤ) → pos (j + 1) ∷ zs ≡ pos (i + 1) ∷ xs → j ≡ i
one_source j i zs xs is =
    let more : j + 1 ≡ i + 1 = ap (λ l. unsigned_abs (get_or l 0 (pos 0))) is in
    omega (arith, more)

image_limited : (m : Image) (n c : ℕ) → c ≤ 256 → IsImageOf n c m → AllLimited (image_numbers m)
image_limited (by_one j p) n c few h = AllLimited-append (pos (j + 1) ∷ []) (from_one p) (AllLimited-one (pos (j + 1)) (omega (arith, h.0, few))) (AllLimited-permutation p h.1.permutation)
image_limited (by_both j p q) n c few h =
    AllLimited-append (pos (j + 1) ∷ []) (from_one p ++ from_one q) (AllLimited-one (pos (j + 1)) (omega (arith, h.0, few)))
    (AllLimited-append (from_one p) (from_one q) (AllLimited-permutation p h.1.permutation) (AllLimited-permutation q h.2.permutation))

-- the first line of a text
pub record HasFirst (text : List ℕ) : Type 0 where
  pub line : List ℕ
  pub rest : List ℕ
  pub first : IsLine text line rest

-- the line of an image, and what follows it
pub IsLine-image : (m : Image) (n c : ℕ) (rest : List ℕ) → c ≤ 256 → IsImageOf n c m → IsLine (image_text m ++ rest) (image_letter m ++ numbers_text (image_numbers m)) rest
IsLine-image (by_one j p) n c rest few h = IsLine-line_text rest (codes "m") (image_numbers (by_one j p)) no_line-one (image_limited (by_one j p) n c few h)
IsLine-image (by_both j p q) n c rest few h = IsLine-line_text rest (codes "g") (image_numbers (by_both j p q)) no_line-both (image_limited (by_both j p q) n c few h)

image_text-is : (m : Image) → (image_letter m ++ numbers_text (image_numbers m)) ++ 10 ∷ [] ≡ image_text m
image_text-is (by_one j p) = refl
image_text-is (by_both j p q) = refl

-- the first line of a tree, and what follows it
tree_first : (t : Tree) (y : Placement) (above : Bool) (rest : List ℕ) → IsPlacement y → HasShape y above t → HasFirst (tree_text t ++ rest)
tree_first t y above rest is shape =
    elim (own_cases (own_of t)) [
      | inl none ↦ record { line = bare_line t; rest = below_text t ++ rest; first = IsLine-bare t y above rest is shape none }
      | inr some ↦ record { line = _; rest = _; first = IsLine-own t y above some.0 rest shape some.1 }
    ]

-- its first byte is no `m` or `g`
pub tree_high : (t : Tree) (y : Placement) (above : Bool) (rest line after : List ℕ) → IsPlacement y → HasShape y above t → IsLine (tree_text t ++ rest) line after → 112 ≤ get_or line 0 0
tree_high t y above rest line after is shape first =
    elim (own_cases (own_of t)) [
      | inl none ↦
          let same = ap (λ l. get_or l 0 0) (IsLine-unique (tree_text t ++ rest) line after (bare_line t) (below_text t ++ rest) first (IsLine-bare t y above rest is shape none)).0 in
          omega (arith, bare_high t, same)
      | inr some ↦ let same = ap (λ l. get_or l 0 0) (IsLine-unique (tree_text t ++ rest) line after _ _ first (IsLine-own t y above some.0 rest shape some.1)).0 in omega (arith, same)
    ]

-- ---- one child after another

-- a tree with another property
pub tree_with : (P Q : Tree → Type 0) (y : Placement) (above : Bool) (line : List ℕ) (old : Option (List ℕ)) (rest : List ℕ) (h : BeginsTree y above P line old rest) → Q h.tree → BeginsTree y above Q line old rest
tree_with P Q y above line old rest h holds = record { tree = h.tree; current = h.current; shape = h.shape; holds = holds }

-- children with a weaker property
pub children_with : (P Q : Children → Type 0) (y : Placement) (side : Side) (own c : ℕ) (marked : List ℕ) (old : Option (List ℕ)) (rest : List ℕ) → ((ts : Children) → P ts → Q ts) → BeginsChildren y side own c P marked old rest → BeginsChildren y side own c Q marked old rest
children_with P Q y side own c marked old rest f h = record { children = h.children; known = h.known; marks_are = h.marks_are; shapes = h.shapes; holds = f h.children h.holds }

module _ (y : Placement) (side : Side) (own : ℕ) (P : Children → Type 0) where
  abbrev Begins : ℕ → List ℕ → Option (List ℕ) → List ℕ → Type 0
  Begins c marked old rest = BeginsChildren y side own c P marked old rest

  -- all children were read: what follows them is left
  pub children_end : (c : ℕ) (old : Option (List ℕ)) (rest : List ℕ) → Begins c [] old rest → old ≡ Some rest
  children_end c old rest h = ended h.children h.marks_are h.known
    where
      ended : (ts : Children) → marks ts ≡ [] → old ≡ Some (children_text ts ++ rest) → old ≡ Some rest
      ended no_children e known = known
      ended (closed ts) e known = absurd (omega (arith, ap length e))
      ended (image m ts) e known = absurd (omega (arith, ap length e))
      ended (grown t ts) e known = absurd (omega (arith, ap length e))

  -- a child that is closed without a text
  pub closed_child : (c : ℕ) (more : List ℕ) (old : Option (List ℕ)) (rest : List ℕ) → Begins c (46 ∷ more) old rest → BeginsChildren y side own (c + 1) (λ ts. P (closed ts)) more old rest
  closed_child c more old rest h = go h.children h.marks_are h.known h.shapes h.holds
    where
      go : (ts : Children) → marks ts ≡ 46 ∷ more → old ≡ Some (children_text ts ++ rest) → AllHaveShape y side own c ts → P ts → BeginsChildren y side own (c + 1) (λ ts. P (closed ts)) more old rest
      go no_children e known shapes holds = absurd (omega (arith, ap length e))
      go (closed ts) e known shapes holds = record { children = ts; known = known; marks_are = ap (drop 1) e; shapes = shapes; holds = holds }
      go (image m ts) e known shapes holds = absurd (let first : 43 ≡ 46 = ap (λ l. get_or l 0 0) e in omega (arith, first))
      go (grown t ts) e known shapes holds = absurd (let first : 43 ≡ 46 = ap (λ l. get_or l 0 0) e in omega (arith, first))

  -- a child with a text begins with a line
  pub child_begins : (c : ℕ) (more : List ℕ) (old : Option (List ℕ)) (rest : List ℕ) → IsPlacement y → own < length (own_on side y) → c + length y.facilities < y.size → Begins c (43 ∷ more) old rest → (line after : List ℕ) × BeginsWithLine old line after
  child_begins c more old rest is free few h = go h.children h.marks_are h.known h.shapes
    where
      go : (ts : Children) → marks ts ≡ 43 ∷ more → old ≡ Some (children_text ts ++ rest) → AllHaveShape y side own c ts → (line after : List ℕ) × BeginsWithLine old line after
      go no_children e known shapes = absurd (omega (arith, ap length e))
      go (closed ts) e known shapes = absurd (let first : 46 ≡ 43 = ap (λ l. get_or l 0 0) e in omega (arith, first))
      go (image m ts) e known shapes = (
        _,
        _,
        record {
          text = _;
          known = known ∙ ap Some (append_assoc (image_text m) (children_text ts) rest);
          first = IsLine-image m y.size c (children_text ts ++ rest) (omega (arith, few, is.small)) shapes.0;
        },
      )
      go (grown t ts) e known shapes =
          let cell = IsCellOf-child side y own c is free few in
          let l = tree_first t (child_on side y own c) true (children_text ts ++ rest) (IsPlacement-cell y (row_of side own c) (column_of side own c) is cell) shapes.0 in
          (l.line, l.rest, record { text = _; known = known ∙ ap Some (append_assoc (tree_text t) (children_text ts) rest); first = l.first })

  -- a child whose line begins with an `m` or a `g` is an image
  pub record IsImageHere (c : ℕ) (more line : List ℕ) (new : Option (List ℕ)) (rest : List ℕ) : Type 0 where
    pub moved : Image
    pub is : line ++ 10 ∷ [] ≡ image_text moved
    pub shape : IsImageOf y.size c moved
    pub others : BeginsChildren y side own (c + 1) (λ ts. P (image moved ts)) more new rest

  pub image_here : (c : ℕ) (more line : List ℕ) (old new : Option (List ℕ)) (rest : List ℕ) → IsPlacement y → own < length (own_on side y) → c + length y.facilities < y.size → Consumes old new (line ++ 10 ∷ []) → HasNoLine line → get_or line 0 0 ≤ 109 → Begins c (43 ∷ more) old rest
      → IsImageHere c more line new rest
  image_here c more line old new rest is free few read whole low h = go h.children h.marks_are h.known h.shapes h.holds
    where
      go : (ts : Children) → marks ts ≡ 43 ∷ more → old ≡ Some (children_text ts ++ rest) → AllHaveShape y side own c ts → P ts → IsImageHere c more line new rest
      go no_children e known shapes holds = absurd (omega (arith, ap length e))
      go (closed ts) e known shapes holds = absurd (let first : 46 ≡ 43 = ap (λ l. get_or l 0 0) e in omega (arith, first))
      go (image m ts) e known shapes holds =
          let first = IsLine-image m y.size c (children_text ts ++ rest) (omega (arith, few, is.small)) shapes.0 in
          let now = line_known old new line _ (children_text ts ++ rest) read whole (record { text = _; known = known ∙ ap Some (append_assoc (image_text m) (children_text ts) rest); first = first }) in
          record {
            moved = m;
            is = ap (λ l. l ++ 10 ∷ []) now.0 ∙ image_text-is m;
            shape = shapes.0;
            others = record { children = ts; known = now.1; marks_are = ap (drop 1) e; shapes = shapes.1; holds = holds };
          }
      go (grown t ts) e known shapes holds =
          let cell = IsCellOf-child side y own c is free few in
          let node_is = IsPlacement-cell y (row_of side own c) (column_of side own c) is cell in
          let l = tree_first t (child_on side y own c) true (children_text ts ++ rest) node_is shapes.0 in
          let now = line_known old new line l.line l.rest read whole (record { text = _; known = known ∙ ap Some (append_assoc (tree_text t) (children_text ts) rest); first = l.first }) in
          let high = tree_high t (child_on side y own c) true (children_text ts ++ rest) l.line l.rest node_is shapes.0 l.first in
          let same = ap (λ x. get_or x 0 0) now.0 in
          absurd (omega (arith, high, same, low))

  -- another child is a tree
  pub record IsTreeHere (c : ℕ) (more line : List ℕ) (new : Option (List ℕ)) (rest : List ℕ) : Type 0 where
    pub after : List ℕ
    pub begins : BeginsTree (child_on side y own c) true Any line new after
    pub later : Children
    pub marks_are : marks later ≡ more
    pub shapes : AllHaveShape y side own (c + 1) later
    pub after_is : after ≡ children_text later ++ rest
    pub holds : P (grown begins.tree later)

  pub tree_here : (c : ℕ) (more line : List ℕ) (old new : Option (List ℕ)) (rest : List ℕ) → IsPlacement y → own < length (own_on side y) → c + length y.facilities < y.size → Consumes old new (line ++ 10 ∷ []) → HasNoLine line
      → get_or line 0 0 ≢ 109 → get_or line 0 0 ≢ 103 → Begins c (43 ∷ more) old rest → IsTreeHere c more line new rest
  tree_here c more line old new rest is free few read whole no_m no_g h = go h.children h.marks_are h.known h.shapes h.holds
    where
      no_letter : (m : Image) → get_or line 0 0 ≡ get_or (image_letter m ++ numbers_text (image_numbers m)) 0 0 → ⊥
      no_letter (by_one j p) e = no_m e
      no_letter (by_both j p q) e = no_g e

      go : (ts : Children) → marks ts ≡ 43 ∷ more → old ≡ Some (children_text ts ++ rest) → AllHaveShape y side own c ts → P ts → IsTreeHere c more line new rest
      go no_children e known shapes holds = absurd (omega (arith, ap length e))
      go (closed ts) e known shapes holds = absurd (let first : 46 ≡ 43 = ap (λ l. get_or l 0 0) e in omega (arith, first))
      go (image m ts) e known shapes holds =
          let first = IsLine-image m y.size c (children_text ts ++ rest) (omega (arith, few, is.small)) shapes.0 in
          let now = line_known old new line _ (children_text ts ++ rest) read whole (record { text = _; known = known ∙ ap Some (append_assoc (image_text m) (children_text ts) rest); first = first }) in
          absurd (no_letter m (ap (λ l. get_or l 0 0) now.0))
      go (grown t ts) e known shapes holds =
          let cell = IsCellOf-child side y own c is free few in
          let node_is = IsPlacement-cell y (row_of side own c) (column_of side own c) is cell in
          let l = tree_first t (child_on side y own c) true (children_text ts ++ rest) node_is shapes.0 in
          let read_is = line_known old new line l.line l.rest read whole (record { text = _; known = known ∙ ap Some (append_assoc (tree_text t) (children_text ts) rest); first = l.first }) in
          record {
            after = children_text ts ++ rest;
            begins = record {
              tree = t;
              current = record { unread = l.rest; known = read_is.1; first = subst (λ (x : List ℕ). IsLine (tree_text t ++ (children_text ts ++ rest)) x l.rest) (sym read_is.0) l.first };
              shape = shapes.0;
              holds = tt;
            };
            later = ts;
            marks_are = ap (drop 1) e;
            shapes = shapes.1;
            after_is = refl;
            holds = holds;
          }

  -- the children after it
  pub tree_others : (Q : Children → Type 0) (c : ℕ) (more line : List ℕ) (new last : Option (List ℕ)) (rest : List ℕ) (h : IsTreeHere c more line new rest) → Q h.later → last ≡ Some h.after → BeginsChildren y side own (c + 1) Q more last rest
  tree_others Q c more line new last rest h holds left = record { children = h.later; known = left ∙ ap Some h.after_is; marks_are = h.marks_are; shapes = h.shapes; holds = holds }

  -- the first child of a list of marks
  pub next_begins : (c d mark : ℕ) (marked : List ℕ) (old : Option (List ℕ)) (rest : List ℕ) → c < length marked → get_or marked c 0 ≡ mark → Begins d (drop c marked) old rest → Begins d (mark ∷ drop (c + 1) marked) old rest
  next_begins c d mark marked old rest inside is h =
      subst (λ (l : List ℕ). Begins d l old rest) (drop_more marked c 0 inside ∙ ap (λ m. m ∷ drop (c + 1) marked) is) h

-- ---- a child with a text

-- the line of an image
pub LeavesOthers-image : {T : Type 0} (y : Placement) (side : Side) (own c : ℕ) (line : List ℕ) (old new : Option (List ℕ)) (r : Result T ProofError) → IsPlacement y → own < length (own_on side y) → c + length y.facilities < y.size → Consumes old new (line ++ 10 ∷ []) → HasNoLine line → get_or line 0 0 ≤ 109
    → IfErr r (RefusesImage y.size c line) → IfErr r IsReadFault → LeavesOthers y side own c 43 old new r
LeavesOthers-image y side own c line old new (Ok x) is free few read whole low h class = λ more rest has.
    let m = image_here y side own Any c more line old new rest is free few read whole low has in m.others
LeavesOthers-image y side own c line old new (Err e) is free few read whole low h class = (
  class,
  λ more rest has.
      let m = image_here y side own Any c more line old new rest is free few read whole low has in
      h m.moved m.is m.shape,
)

-- a tree
pub LeavesOthers-tree : {T : Type 0} (y : Placement) (side : Side) (own c : ℕ) (line : List ℕ) (old new last : Option (List ℕ)) (r : Result T ProofError) → IsPlacement y → own < length (own_on side y) → c + length y.facilities < y.size → Consumes old new (line ++ 10 ∷ []) → HasNoLine line
    → get_or line 0 0 ≢ 109 → get_or line 0 0 ≢ 103 → Leaves (BeginsTree (child_on side y own c) true Any line new) last r → LeavesOthers y side own c 43 old last r
LeavesOthers-tree y side own c line old new last (Ok x) is free few read whole no_m no_g h = λ more rest has.
    let t = tree_here y side own Any c more line old new rest is free few read whole no_m no_g has in
    tree_others y side own Any Any c more line new last rest t tt (h t.after t.begins)
LeavesOthers-tree y side own c line old new last (Err e) is free few read whole no_m no_g h = (
  h.0,
  λ more rest has.
      let t = tree_here y side own Any c more line old new rest is free few read whole no_m no_g has in
      h.1 t.after t.begins,
)

-- where the child is valid, its tree is
pub tree_valid : (I : Problem) (step : ℕ) (bound : ℤ) (y : Placement) (now : Under) (side : Side) (own c : ℕ) (R : Form) (t : Tree) (ts : Children) → IsPlacement y → own < length (own_on side y) → c + length y.facilities < y.size → count_of now.form ≡ free_count y → IsChild I now.duals now.form (row_of side own c) (column_of side own c) R
    → AllValid I step bound y now side own c (grown t ts) → Valid I step bound (child_on side y own c) (Some (under now.duals R)) t
tree_valid I step bound y now side own c R t ts is free few count child valid =
    let inside = cell_of_form now.form y side own c is count free few in
    let same = one_child I now.duals now.form valid.0 R (row_of side own c) (column_of side own c) inside.row valid.1 child in
    Valid-same t I step bound (child_on side y own c) now.duals valid.0 R same valid.2

-- a line is that of one image
pub one_image : (m k : Image) (n c : ℕ) → c ≤ 256 → IsImageOf n c m → IsImageOf n c k → image_text m ≡ image_text k → m ≡ k
one_image (by_one j p) (by_one i q) n c few h k is =
    let zs = one_numbers (codes "m") (image_numbers (by_one j p)) (image_numbers (by_one i q)) (image_limited (by_one j p) n c few h) (image_limited (by_one i q) n c few k) (append_cancel_right _ (codes "m" ++ numbers_text (image_numbers (by_one i q))) (10 ∷ []) is) in
    let same = one_source j i (from_one p) (from_one q) zs in
    let perms = from_one-injective p q (ap (drop 1) zs) in
    λ x. by_one (same x) (perms x)
one_image (by_both j p s) (by_both i q t) n c few h k is =
    let zs = one_numbers (codes "g") (image_numbers (by_both j p s)) (image_numbers (by_both i q t)) (image_limited (by_both j p s) n c few h) (image_limited (by_both i q t) n c few k) (append_cancel_right _ (codes "g" ++ numbers_text (image_numbers (by_both i q t))) (10 ∷ []) is) in
    let same = one_source j i (from_one p ++ from_one s) (from_one q ++ from_one t) zs in
    let all = ap (drop 1) zs in
    let long = length-map p (λ z. pos (z + 1)) ∙ h.1.count in
    let long' = length-map q (λ z. pos (z + 1)) ∙ k.1.count in
    let front = from_one-injective p q (sym (take_at (from_one p) (from_one s) n long) ∙ ap (take n) all ∙ take_at (from_one q) (from_one t) n long') in
    let back = from_one-injective s t (sym (drop_at (from_one p) (from_one s) n long) ∙ ap (drop n) all ∙ drop_at (from_one q) (from_one t) n long') in
    λ x. by_both (same x) (front x) (back x)
one_image (by_one j p) (by_both i q t) n c few h k is = absurd (let first : 109 ≡ 103 = ap (λ l. get_or l 0 0) is in omega (arith, first))
one_image (by_both j p s) (by_one i q) n c few h k is = absurd (let first : 103 ≡ 109 = ap (λ l. get_or l 0 0) is in omega (arith, first))

-- ---- all children

-- where the known bytes begin with children that have a property, this many were read, and the others are left, from the last number on
pub record IsPassed (y : Placement) (side : Side) (own first : ℕ) (P : ℕ → Children → Type 0) (last count : ℕ) (marked : List ℕ) (old new : Option (List ℕ)) : Type 0 where
  pub each : (rest : List ℕ) → BeginsChildren y side own first (P first) marked old rest → BeginsChildren y side own last (P last) (drop count marked) new rest

pub IsPassed-none : (y : Placement) (side : Side) (own first : ℕ) (P : ℕ → Children → Type 0) (last : ℕ) (marked : List ℕ) (a : Option (List ℕ)) → first ≡ last → IsPassed y side own first P last 0 marked a a
IsPassed-none y side own first P last marked a same = record { each = λ rest h. subst (λ (k : ℕ). BeginsChildren y side own k (P k) marked a rest) same h }

-- one child more
pub IsPassed-more : (y : Placement) (side : Side) (own first : ℕ) (P : ℕ → Children → Type 0) (last next c mark : ℕ) (marked : List ℕ) (a b d : Option (List ℕ)) → last + 1 ≡ next → c < length marked → get_or marked c 0 ≡ mark → IsPassed y side own first P last c marked a b
    → ((more rest : List ℕ) → BeginsChildren y side own last (P last) (mark ∷ more) b rest → BeginsChildren y side own (last + 1) (P (last + 1)) more d rest) → IsPassed y side own first P next (c + 1) marked a d
IsPassed-more y side own first P last next c mark marked a b d same inside is h step_ = record {
  each = λ rest has.
      subst (λ (k : ℕ). BeginsChildren y side own k (P k) (drop (c + 1) marked) d rest) same (step_ (drop (c + 1) marked) rest (next_begins y side own (P last) c last mark marked b rest inside is (h.each rest has)));
}

-- the child that is next
pub passed_next : (y : Placement) (side : Side) (own first : ℕ) (P : ℕ → Children → Type 0) (last c mark : ℕ) (marked : List ℕ) (a b : Option (List ℕ)) (rest : List ℕ) → c < length marked → get_or marked c 0 ≡ mark → IsPassed y side own first P last c marked a b
    → BeginsChildren y side own first (P first) marked a rest → BeginsChildren y side own last (P last) (mark ∷ drop (c + 1) marked) b rest
passed_next y side own first P last c mark marked a b rest inside is h has = next_begins y side own (P last) c last mark marked b rest inside is (h.each rest has)

-- all children
pub IsPassed-all : (y : Placement) (side : Side) (own first : ℕ) (P : ℕ → Children → Type 0) (last c : ℕ) (marked : List ℕ) (a b : Option (List ℕ)) (rest : List ℕ) → length marked ≤ c → IsPassed y side own first P last c marked a b → BeginsChildren y side own first (P first) marked a rest → b ≡ Some rest
IsPassed-all y side own first P last c marked a b rest all h has =
    let none : drop c marked ≡ [] = nil_from_length (drop c marked) (omega (arith, length-drop c marked, all)) in
    children_end y side own (P last) last b rest (subst (λ (l : List ℕ). BeginsChildren y side own last (P last) l b rest) none (h.each rest has))

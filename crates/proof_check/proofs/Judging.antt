-- What the check of one part of a tree says of the whole: what was read is valid, or a fault of content was found there.
use Rattle.std.proofs.Common.{◌≡◌, ℕ, ◌+◌, ◌-◌, ◌<◌, ◌≤◌, ◌++◌, List, [], ◌∷◌, length, drop, take, get_or, ℤ, sym, ◌∙◌, subst, arith}
use Rattle.std.specs.Prelude.{true, Option, None, Some, Result, Ok, Err, IfOk, MatchOption}
use Rattle.std.proofs.lemmas.List.{length-drop, take_all}
use Rattle.qap_cost.specs.Instance.{Problem}
use Rattle.qap_cost.specs.Placement.{Placement, IsPlacement}
use Rattle.qap_lines.specs.Line.{HasNoLine}
use Rattle.pair_duals.specs.Reduced.{Form, IsChild, count_of}
use Rattle.qap_proof.specs.Cell.{own_on}
use Rattle.qap_proof.specs.Shape.{free_count}
use Rattle.qap_proof.specs.declared.error.ProofError.{ProofError}
use Rattle.qap_proof.specs.declared.leaf.Leaf.{Leaf}
use Rattle.qap_proof.specs.declared.side.Side.{Side}
use Rattle.proof_tree.specs.Image.{IsImage}
use Rattle.proof_tree.specs.Tree.{child_on, column_of, row_of}
use Rattle.proof_tree.specs.Valid.{AllValid, IsClosed, Under, Valid, under}
use Rattle.proof_check.specs.Completeness.{Any, BeginsTree, Finds, HasChildren, HasOthers, HasTree, Leaves, PassesOthers}
use Rattle.proof_check.specs.Fault.{content, kind_of}
use Rattle.proof_check.specs.Flow.{Flow, Passes}
use Rattle.proof_check.specs.Walk.{JudgesImage, PushesLeaf, SkimsChildren, SkimsTree, WalksChildren, WalksTree}
use Rattle.proof_check.proofs.PassingChildren.{IsPassed, children_with, closed_child, image_here, one_image, passed_next, tree_here, tree_others, tree_valid, tree_with}
use Rattle.proof_check.proofs.TreeWalks.{SkimsChildren-closed, SkimsChildren-grown, SkimsChildren-image, SkimsChildren-next, SkimsChildren-others, WalksChildren-closed, WalksChildren-grown, WalksChildren-image}

-- a call that is `Ok` found no fault, or one
abbrev pub Judges : Type 0 → (ProofError → Type 0) → Result (Option ProofError) ProofError → Type 0
Judges Sound Found r = IfOk r (λ fault. MatchOption fault Sound Found)

-- what a call found in a part is what its caller found
pub judged : (r : Result (Option ProofError) ProofError) (A B : Type 0) (F G : ProofError → Type 0) → (A → B) → ((e : ProofError) → F e → G e) → Judges A F r → Judges B G r
judged (Ok None) A B F G f g h = f h
judged (Ok (Some e)) A B F G f g h = g e h
judged (Err e) A B F G f g h = tt

module _ (I : Problem) (step : ℕ) (bound cost : ℤ) (y : Placement) (now : Under) (side : Side) (own c : ℕ) where
  -- what the check of one child says
  abbrev pub JudgesChild : ℕ → Flow → Flow → List Leaf → List Leaf → Result (Option ProofError) ProofError → Type 0
  JudgesChild mark old new before after r =
      Judges (WalksChildren I step bound cost y now side own c (mark ∷ []) old new before after × PassesOthers I step bound y now side own c mark old.left new.left)
      (Finds (SkimsChildren y side own c (mark ∷ []) old new) (HasOthers I step bound y now side own c mark old.left)) r

  -- a child without a text reaches the bound
  pub closed_sound : (a : Flow) (before after : List Leaf) → PushesLeaf (λ g. IsClosed I step g now (row_of side own c) (column_of side own c)) bound cost (child_on side y own c) before after
      → WalksChildren I step bound cost y now side own c (46 ∷ []) a a before after × PassesOthers I step bound y now side own c 46 a.left a.left
  closed_sound a before after pushed = (
    WalksChildren-closed I step bound cost y now side own c a before after pushed,
    λ more rest h.
        let others = closed_child y side own (AllValid I step bound y now side own c) c more a.left rest h in
        record { children = others.children; known = others.known; marks_are = others.marks_are; shapes = others.shapes; holds = others.holds.1 },
  )

  -- or it does not
  pub closed_found : (a : Flow) (e : ProofError) → kind_of e ≡ content → (IsClosed I step bound now (row_of side own c) (column_of side own c) → ⊥)
      → Finds (SkimsChildren y side own c (46 ∷ []) a a) (HasOthers I step bound y now side own c 46 a.left) e
  closed_found a e kind none = record {
    kind = kind;
    skimmed = SkimsChildren-closed y side own c a;
    refused = λ rest h. let others = closed_child y side own (AllValid I step bound y now side own c) c h.0 a.left rest h.1 in none others.holds.0;
  }

  -- the line of an image
  pub image_judged : (line : List ℕ) (a b : Flow) (before : List Leaf) (r : Result (Option ProofError) ProofError) → IsPlacement y → own < length (own_on side y) → c + length y.facilities < y.size → Passes a b (line ++ 10 ∷ []) → HasNoLine line → get_or line 0 0 ≤ 109
      → IfOk r (JudgesImage I y side own c line) → JudgesChild 43 a b before before r
  image_judged line a b before (Ok None) is free few read whole low h = (
    WalksChildren-image I step bound cost y now side own c line h.moved a b before read h.is h.shape h.judged,
    λ more rest has.
        let here = image_here y side own (AllValid I step bound y now side own c) c more line a.left b.left rest is free few read.consumed whole low has in
        children_with _ (AllValid I step bound y now side own (c + 1)) y side own (c + 1) more b.left rest (λ ts valid. valid.1) here.others,
  )
  image_judged line a b before (Ok (Some e)) is free few read whole low h = record {
    kind = h.judged.0;
    skimmed = SkimsChildren-image y side own c line h.moved a b read h.is h.shape;
    refused = λ rest has.
        let here = image_here y side own (AllValid I step bound y now side own c) c has.0 line a.left b.left rest is free few read.consumed whole low has.1 in
        let same : here.moved ≡ h.moved = one_image here.moved h.moved y.size c (omega (arith, few, is.small)) here.shape h.shape (sym here.is ∙ h.is) in
        h.judged.1 (subst (IsImage I y side own c) same here.others.holds.0);
  }
  image_judged line a b before (Err e) is free few read whole low h = tt

  -- a child with a tree
  pub tree_judged : (R : Form) (line : List ℕ) (a b d : Flow) (before after : List Leaf) (r : Result (Option ProofError) ProofError) → IsPlacement y → own < length (own_on side y) → c + length y.facilities < y.size → count_of now.form ≡ free_count y → Passes a b (line ++ 10 ∷ []) → HasNoLine line
      → (get_or line 0 0 ≡ 109 → ⊥) → (get_or line 0 0 ≡ 103 → ⊥) → IsChild I now.duals now.form (row_of side own c) (column_of side own c) R → Leaves (BeginsTree (child_on side y own c) true Any line b.left) d.left r
      → Judges (WalksTree I step bound cost (child_on side y own c) (Some (under now.duals R)) line b d before after) (Finds (SkimsTree (child_on side y own c) true line b d) (HasTree I step bound (child_on side y own c) (Some (under now.duals R)) line b.left)) r
      → JudgesChild 43 a d before after r
  tree_judged R line a b d before after (Ok None) is free few count read whole no_m no_g child passed h = (
    WalksChildren-grown I step bound cost y now side own c R line a b d before after read child h,
    λ more rest has.
        let P = AllValid I step bound y now side own c in
        let here = tree_here y side own P c more line a.left b.left rest is free few read.consumed whole no_m no_g has in
        tree_others y side own P (AllValid I step bound y now side own (c + 1)) c more line b.left d.left rest here here.holds.3 (passed here.after here.begins),
  )
  tree_judged R line a b d before after (Ok (Some e)) is free few count read whole no_m no_g child passed h = record {
    kind = h.kind;
    skimmed = SkimsChildren-grown y side own c line a b d read h.skimmed;
    refused = λ rest has.
        let P = AllValid I step bound y now side own c in
        let here = tree_here y side own P c has.0 line a.left b.left rest is free few read.consumed whole no_m no_g has.1 in
        let valid = tree_valid I step bound y now side own c R here.begins.tree here.later is free few count child here.holds in
        h.refused here.after (tree_with Any (Valid I step bound (child_on side y own c) (Some (under now.duals R))) (child_on side y own c) true line b.left here.after here.begins valid);
  }
  tree_judged R line a b d before after (Err e) is free few count read whole no_m no_g child passed h = tt

-- a fault of one child is one of all
pub child_found : (I : Problem) (step : ℕ) (bound : ℤ) (y : Placement) (now : Under) (side : Side) (own c mark : ℕ) (marked others : List ℕ) (a b d f : Flow) (e : ProofError) → c < length marked → get_or marked c 0 ≡ mark → others ≡ drop (c + 1) marked → SkimsChildren y side own 0 (take c marked) a b
    → IsPassed y side own 0 (AllValid I step bound y now side own) c c marked a.left b.left → Finds (SkimsChildren y side own c (mark ∷ []) b d) (HasOthers I step bound y now side own c mark b.left) e → SkimsChildren y side own (c + 1) others d f
    → Finds (SkimsChildren y side own 0 marked a f) (HasChildren I step bound y now side own 0 marked a.left) e
child_found I step bound y now side own c mark marked others a b d f e inside is rest_is read passed found rest_read = record {
  kind = found.kind;
  skimmed = SkimsChildren-others y side own (c + 1) marked a d f (omega (arith, inside)) (SkimsChildren-next y side own 0 c c mark marked a b d (omega arith) inside is read found.skimmed)
      (subst (λ (l : List ℕ). SkimsChildren y side own (c + 1) l d f) rest_is rest_read);
  refused = λ rest has. found.refused rest (drop (c + 1) marked, passed_next y side own 0 (AllValid I step bound y now side own) c c mark marked a.left b.left rest inside is passed has);
}

-- what is left of a list of marks
pub others_are : (marked lent : List ℕ) (c : ℕ) → lent ≡ take (length marked - c) (drop c marked) → lent ≡ drop c marked
others_are marked lent c is = is ∙ take_all (length marked - c) (drop c marked) (omega (arith, length-drop c marked))

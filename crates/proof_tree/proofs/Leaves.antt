-- The leaves of a proof with values below its cost: each value is valid, and up to the cost they cover the root.
use Rattle.std.proofs.Common.{◌≡◌, ℕ, ◌+◌, ◌<◌, ◌++◌, ◌∷◌, [], List, length, ℤ, pos, refl, sym, ◌∙◌, ap, subst, inl, inr, arith}
use Rattle.std.specs.Prelude.{Option, Some, None, All, neg_ℤ, ◌⊎◌, ◌<ℤ◌, ◌≤ℤ◌}
use Rattle.std.proofs.lemmas.Int.{ints}
use Rattle.std.proofs.lemmas.List.Elements.{All-append, All-cons, All-head, All-nil}
use Rattle.qap_cost.specs.Instance.{Problem}
use Rattle.qap_cost.specs.Limits.{max_value}
use Rattle.qap_cost.specs.Placement.{Placement, IsPlacement}
use Rattle.pair_duals.specs.CostStep.{DividesCosts, step_of}
use Rattle.pair_duals.specs.Reduced.{IsNonNegative}
use Rattle.pair_duals.proofs.Forms.{IsFormOf-child, value-le}
use Rattle.qap_proof.proofs.Covers.{Bounded-none, all_left, all_right}
use Rattle.qap_proof.proofs.Validity.{Bounded}
use Rattle.qap_proof.specs.Cell.{own_on}
use Rattle.qap_proof.specs.Cover.{IsAtLeast, IsBounded, IsCovering, IsShown, cover_of, leaf as leaf_at}
use Rattle.qap_proof.specs.declared.leaf.Leaf.{Leaf}
use Rattle.qap_proof.specs.declared.side.Side.{Side}
use Rattle.proof_tree.specs.Claim.{IsPairProof, PairClaim, PairProves}
use Rattle.proof_tree.specs.Leaves.{AllHaveLeaves, HasLeaves, IsLeafBelow}
use Rattle.proof_tree.specs.Tree.{Tree, leaf, split, Children, no_children, closed, image, grown, child_count, row_of, column_of, child_on}
use Rattle.proof_tree.specs.Valid.{AllValid, IsClosed, ReachesBound, Under, Valid, under}
use Rattle.proof_tree.proofs.Reaching.{Bounded-closed, Bounded-reached}
use Rattle.proof_tree.proofs.Splits.{IsCellOf-child, IsPlacement-cell, child_found, image_bounded}
use Rattle.proof_tree.proofs.Validity.{IsGood, MayBeGood, drawn, earlier_more}

mutual
  -- a tree with leaves is valid
  pub HasLeaves-valid : (t : Tree) (I : Problem) (step : ℕ) (bound cost : ℤ) (y : Placement) (above : Option Under) (ls : List Leaf) → HasLeaves I step bound cost y above t ls → Valid I step bound y above t
  HasLeaves-valid (leaf d) I step bound cost y above ls h = (h.0, h.1, h.2.reached)
  HasLeaves-valid (split d side number children) I step bound cost y above ls h = (h.0, h.1, h.2, h.3, h.4, AllHaveLeaves-valid children I step bound cost y h.0 side h.1 0 ls h.5)

  AllHaveLeaves-valid : (ts : Children) (I : Problem) (step : ℕ) (bound cost : ℤ) (y : Placement) (now : Under) (side : Side) (own c : ℕ) (ls : List Leaf) → AllHaveLeaves I step bound cost y now side own c ts ls → AllValid I step bound y now side own c ts
  AllHaveLeaves-valid no_children I step bound cost y now side own c ls h = tt
  AllHaveLeaves-valid (closed rest) I step bound cost y now side own c ls h = (h.3.reached, AllHaveLeaves-valid rest I step bound cost y now side own (c + 1) h.1 h.4)
  AllHaveLeaves-valid (image m rest) I step bound cost y now side own c ls h = (h.0, AllHaveLeaves-valid rest I step bound cost y now side own (c + 1) ls h.1)
  AllHaveLeaves-valid (grown t rest) I step bound cost y now side own c ls h = (
    h.0,
    h.4,
    HasLeaves-valid t I step bound cost (child_on side y own c) (Some (under now.duals h.0)) h.1 h.5,
    AllHaveLeaves-valid rest I step bound cost y now side own (c + 1) h.2 h.6,
  )

-- the leaf's value is valid, and at least the bound
record IsSound (I : Problem) (bound : ℤ) (l : Leaf) : Type 0 where
  shown : IsShown I l
  least : IsAtLeast bound l

-- each leaf's value is valid; and up to the cost, a bound for all leaves is one for the node
record IsCovered (I : Problem) (bound cost : ℤ) (y : Placement) (ls : List Leaf) : Type 0 where
  sound : All (IsSound I bound) ls
  covers : (g : ℤ) → g ≤ℤ cost → All (IsBounded I g) ls → Bounded I g y

covered_leaf : (I : Problem) (Reaches : ℤ → Type 0) (bound cost : ℤ) (y : Placement) (ls : List Leaf) → I.size ≡ y.size → ((g : ℤ) → Reaches g → Bounded I g y) → IsLeafBelow Reaches bound cost y ls → IsCovered I bound cost y ls
covered_leaf I Reaches bound cost y ls same bounds h =
    elim h.listed [
      | inl enough ↦ record {
        sound = subst (All (IsSound I bound)) (sym enough.1) (All-nil (IsSound I bound));
        covers = λ g most all p done. let past = bounds cost enough.0 p done in omega (arith, ints, most, past);
      }
      | inr below ↦
          let z = below.0 in
          let own : IsSound I bound (leaf_at y z) = record {
            shown = λ p permutes done. bounds z below.1.reached p done;
            least = below.1.greatest bound h.reached;
          } in
          record {
            sound = subst (All (IsSound I bound)) (sym below.3) (All-cons (IsSound I bound) (leaf_at y z) [] own (All-nil (IsSound I bound)));
            covers = λ g most all.
                Bounded-none I y g same (All-head (IsBounded I g) (leaf_at y z) [] (subst (All (IsBounded I g)) below.3 all));
          }
    ]

-- each leaf's value is valid; and up to the cost, where the children before number c are bounded, a bound for all leaves is one for all
record AreCovered (I : Problem) (bound cost : ℤ) (y : Placement) (side : Side) (own c count : ℕ) (ls : List Leaf) : Type 0 where
  sound : All (IsSound I bound) ls
  covers : (g : ℤ) → g ≤ℤ cost → All (IsBounded I g) ls → ((j : ℕ) → j < c → Bounded I g (child_on side y own j)) → (j : ℕ) → j < c + count → Bounded I g (child_on side y own j)

covered_more : (I : Problem) (bound cost : ℤ) (y : Placement) (side : Side) (own c count : ℕ) (here others ls : List Leaf) → ls ≡ here ++ others → IsCovered I bound cost (child_on side y own c) here
    → AreCovered I bound cost y side own (c + 1) count others → AreCovered I bound cost y side own c (1 + count) ls
covered_more I bound cost y side own c count here others ls is h k = record {
  sound = subst (All (IsSound I bound)) (sym is) (All-append (IsSound I bound) here others h.sound k.sound);
  covers = λ g most all earlier j less.
      let both = subst (All (IsBounded I g)) is all in
      let one = h.covers g most (all_left (IsBounded I g) here others both) in
      k.covers g most (all_right (IsBounded I g) here others both) (earlier_more I g y side own c earlier one) j (omega arith);
}

mutual
  covered : (t : Tree) (I : Problem) (step : ℕ) (bound cost : ℤ) (y : Placement) (above : Option Under) (ls : List Leaf) → IsPlacement y → I.size ≡ y.size → DividesCosts I step → MayBeGood I y above → HasLeaves I step bound cost y above t ls
      → IsCovered I bound cost y ls
  covered (leaf d) I step bound cost y above ls is same divides good h =
      let now = h.0 in
      let k = drawn I y above d now is same good h.1 in
      covered_leaf I (λ g. ReachesBound step g now.duals.scale now.form.value) bound cost y ls same (λ g reaches.
      Bounded-reached I step now.duals.scale g now.form.value y same divides reaches (λ p done. value-le I now.duals y now.form p is k.good.fit k.good.form k.least done)) h.2
  covered (split d side number children) I step bound cost y above ls is same divides good h =
      let now = h.0 in
      let own = h.1 in
      let k = drawn I y above d now is same good h.2 in
      let all = all_covered children I step bound cost y now side own 0 ls is same divides k.good k.least h.3.within (omega (arith, h.4)) h.5 in
      record {
        sound = all.sound;
        covers = λ g most bounded p done.
            let found = child_found side y own p is h.3.within done in
            all.covers g most bounded (λ j less. absurd (omega arith)) found.0 (omega (arith, found.1, h.4)) p found.2;
      }

  all_covered : (ts : Children) (I : Problem) (step : ℕ) (bound cost : ℤ) (y : Placement) (now : Under) (side : Side) (own c : ℕ) (ls : List Leaf) → IsPlacement y → I.size ≡ y.size → DividesCosts I step → IsGood I y now → IsNonNegative now.form
      → own < length (own_on side y) → c + child_count ts + length y.facilities ≡ y.size → AllHaveLeaves I step bound cost y now side own c ts ls → AreCovered I bound cost y side own c (child_count ts) ls
  all_covered no_children I step bound cost y now side own c ls is same divides good least free count h = record {
    sound = subst (All (IsSound I bound)) (sym h) (All-nil (IsSound I bound));
    covers = λ g most all earlier j less. earlier j (omega arith);
  }
  all_covered (closed rest) I step bound cost y now side own c ls is same divides good least free count h =
      let row = row_of side own c in
      let column = column_of side own c in
      let cell = IsCellOf-child side y own c is free (omega (arith, count)) in
      let n = good.form.numbers in
      let here = covered_leaf I (λ g. IsClosed I step g now row column) bound cost (child_on side y own c) h.0 same (λ g reaches.
      Bounded-closed I step g y now row column is (IsPlacement-cell y row column is cell) same divides (omega (arith, n.row_count, cell.row)) (omega (arith, n.column_count, cell.column)) good.fit good.form least reaches) h.3 in
      covered_more I bound cost y side own c (child_count rest) h.0 h.1 ls h.2 here
      (all_covered rest I step bound cost y now side own (c + 1) h.1 is same divides good least free (omega (arith, count)) h.4)
  all_covered (image m rest) I step bound cost y now side own c ls is same divides good least free count h =
      let others = all_covered rest I step bound cost y now side own (c + 1) ls is same divides good least free (omega (arith, count)) h.1 in
      record {
        sound = others.sound;
        covers = λ g most all earlier j less.
            let here = image_bounded side I g y own c m is same free (omega (arith, count)) h.0 earlier in
            others.covers g most all (earlier_more I g y side own c earlier here) j (omega arith);
      }
  all_covered (grown t rest) I step bound cost y now side own c ls is same divides good least free count h =
      let row = row_of side own c in
      let column = column_of side own c in
      let cell = IsCellOf-child side y own c is free (omega (arith, count)) in
      let n = good.form.numbers in
      let form = IsFormOf-child I now.duals y now.form h.0 row column is (omega (arith, n.row_count, cell.row)) (omega (arith, n.column_count, cell.column)) good.form h.4 in
      let here = covered t I step bound cost (child_on side y own c) (Some (under now.duals h.0)) h.1 (IsPlacement-cell y row column is cell) same divides (record { fit = good.fit; form = form }) h.5 in
      covered_more I bound cost y side own c (child_count rest) h.1 h.2 ls h.3 here
      (all_covered rest I step bound cost y now side own (c + 1) h.2 is same divides good least free (omega (arith, count)) h.6)

-- the leaves of a proof that proves its bound cover its root up to its cost
pub IsCovering-leaves : (I : Problem) (C : PairClaim) (ls : List Leaf) → IsPairProof C → DividesCosts I (step_of I) → PairProves I C → HasLeaves I (step_of I) C.bound C.cost C.root None C.tree ls → IsCovering (cover_of I C.root C.cost ls)
IsCovering-leaves I C ls proof divides proved h =
    let size : I.size ≡ C.root.size = sym proved.same_size ∙ sym proof.root.size in
    let all = covered C.tree I (step_of I) C.bound C.cost C.root None ls proof.root.placement size divides tt h in
    let limited = proof.bound.limited in
    let floor : neg_ℤ (pos max_value) ≤ℤ C.bound = omega (arith, ints, limited) in
    record {
      reached = (C.permutation, record { bijection = proof.permutation.bijection; same_size = proved.same_size }, proved.cost);
      limited = proof.cost;
      least = λ k d below. let least = (all.sound k d below).least in omega (arith, ints, least, floor);
      shown = λ k d below. (all.sound k d below).shown;
      covers = λ g most bounded p permutes done. all.covers g most bounded p done;
      placement = proof.root.placement;
      same_size = sym size;
    }

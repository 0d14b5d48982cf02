-- What proofs show together is so.
use Rattle.std.proofs.Common.{◌≡◌, ℕ, ◌+◌, ◌<◌, ◌≤◌, ◌≢◌, ◌++◌, ◌∷◌, drop, set, take, List, [], length, get_or, ℤ, pos, refl, sym, ◌∙◌, ap, subst, inl, inr, arith}
use Rattle.std.specs.Int.{int_min}
use Rattle.std.specs.Prelude.{◌≤ℤ◌, ◌<ℤ◌, ◌⊎◌, neg_ℤ, All, Contains, map}
use Rattle.std.proofs.lemmas.Int.{by_lt_z, clamps, ints}
use Rattle.std.proofs.Math.Seq.{take-append_seam}
use Rattle.std.proofs.lemmas.Bool.{cases_lt}
use Rattle.std.proofs.lemmas.List.{get_or-map, get_or-set_other, get_or-set_same, get_or_default, length-map, length-set}
use Rattle.std.proofs.lemmas.List.Elements.{All-cons, All-contains, All-head, All-map, All-tail, Contains-append_right, Contains-get_or}
use Rattle.qap_cost.specs.Instance.{Problem, IsInstance}
use Rattle.qap_cost.specs.Limits.{max_value}
use Rattle.qap_cost.specs.Objective.{NoneCostsLess, Permutes, cost_of}
use Rattle.qap_cost.specs.Placement.{Placement, Completes}
use Rattle.qap_cost.specs.Range.{IsLimited}
use Rattle.qap_proof.proofs.Covers.{leaves_bound, leaves_shown, leaves_at_least}
use Rattle.qap_proof.proofs.Validity.{Proves-NoneCompletesForLess}
use Rattle.qap_proof.specs.Acceptance.{IsVerdictOf, ProvesFor}
use Rattle.qap_lines.specs.Bound.{IsBoundFor}
use Rattle.qap_proof.specs.Claim.{Claim, claim_of, IsProof, NoneCompletesForLess, Proves}
use Rattle.qap_proof.specs.Cover.{AreAmong, AreLeaves, AreRaised, CoverValue, Establishes, HasPart, IsAdmitted, IsAtLeast, IsBounded, IsCovering, IsLeastOf, IsRaised, IsRaisedValue, IsShown, IsSoOf, IsVerdictOn, cover_of, leaf}
use Rattle.qap_proof.specs.Tree.{cut, whole}
use Rattle.qap_proof.specs.declared.acceptance.Verdict.{Verdict}
use Rattle.qap_proof.specs.declared.acceptance.Verdict.TheVariants.{Optimal, Gap, Part}
use Rattle.qap_proof.specs.declared.leaf.Leaf.{Leaf}

-- a limited number is no less than the least one
limited_least : (g : ℤ) → IsLimited g → neg_ℤ (pos max_value) ≤ℤ g
limited_least g h = omega (arith, ints, h)

-- what a proof of the whole shows alone
pub IsCovering-opened : (I : Problem) (C : Claim) (ls : List Leaf) → IsProof C → Proves I C → AreLeaves I (whole C.root) C.tree ls → IsCovering (cover_of I C.root C.cost ls)
IsCovering-opened I C ls shape proved are =
    let size : I.size ≡ C.root.size = sym proved.same_size ∙ sym shape.root.size in
    let floor : neg_ℤ (pos max_value) ≤ℤ C.bound = limited_least C.bound shape.bound.limited in record {
      reached = (C.permutation, record { bijection = shape.permutation.bijection; same_size = proved.same_size }, proved.cost);
      limited = shape.cost;
      least = λ k d below.
          let here = leaves_at_least C.tree I C.bound C.root ls shape.root.placement size proved.tree are k d below in
          omega (arith, ints, floor, here);
      shown = leaves_shown C.tree I C.bound C.root ls shape.root.placement size proved.tree are;
      covers = λ g most all. leaves_bound C.tree I g C.bound C.root ls shape.root.placement size proved.tree are all;
      placement = shape.root.placement;
      same_size = sym size;
    }

-- what completes a leaf completes a part whose placements are among the leaf's
pub completes_part : (I : Problem) (y x : Placement) (p : List ℕ) → y.size ≡ I.size → Permutes I p → AreAmong y x → Completes x p → Completes y p
completes_part I y x p size permutes among done = record {
  bijection = done.bijection;
  same_size = permutes.same_size ∙ sym size;
  agrees = λ t below.
      let at = among t below in
      ap (λ f. get_or p f 0) (sym at.facility) ∙ done.agrees at.turn at.placed ∙ at.location;
}

raised_shown : (I : Problem) (root : Placement) (g : ℤ) (old new : Leaf) → root.size ≡ I.size → NoneCompletesForLess I root g → IsRaised root g old new → IsShown I old → IsShown I new
raised_shown I root g old new size part raised shown p permutes done =
    let here : Completes old.node p = subst (λ (x : Placement). Completes x p) raised.0 done in
    elim raised.1 [
      | inl up ↦ subst (λ z. z ≤ℤ cost_of I p) (sym up.2) (part p permutes (completes_part I root old.node p size permutes up.1 here))
      | inr stays ↦ subst (λ z. z ≤ℤ cost_of I p) (sym stays.1) (shown p permutes here)
    ]

raised_least : (root : Placement) (g b : ℤ) (old new : Leaf) → IsRaised root g old new → IsAtLeast b old → IsAtLeast b new
raised_least root g b old new raised least =
    elim raised.1 [
      | inl up ↦ omega (arith, ints, up.0, up.2, least)
      | inr stays ↦ omega (arith, ints, stays.1, least)
    ]

-- the lesser of two costs
pub record IsLesser (a b c : ℤ) : Type 0 where
  pub is : ((b <ℤ a) × (c ≡ b)) ⊎ ((a ≤ℤ b) × (c ≡ a))

-- the minimum of two costs is the lesser one
pub IsLesser-min : (a b : ℤ) → IsLesser a b (int_min a b)
IsLesser-min a b =
    by_lt_z b a
    (λ less. record { is = inl (less, omega (arith, ints, clamps, less)) })
    (λ most. record { is = inr (most, omega (arith, ints, clamps, most)) })

-- a root without facilities is empty, and whatever permutes the instance completes it
empty_list : (xs : List ℕ) → length xs ≡ 0 → xs ≡ []
empty_list [] none = refl
empty_list (y ∷ xs) none = absurd (omega (arith, none))

completes_empty : (I : Problem) (x : Placement) (p : List ℕ) → x.size ≡ I.size → length x.facilities ≡ 0 → Permutes I p → Completes x p
completes_empty I x p size none permutes = record {
  bijection = permutes.bijection;
  same_size = permutes.same_size ∙ sym size;
  agrees = λ t below. absurd (omega (arith, none, below));
}

-- where nothing is placed, a bound for what completes the root is one for all permutations
pub NoneCostsLess-empty : (I : Problem) (x : Placement) (g : ℤ) → x.size ≡ I.size → length x.facilities ≡ 0 → NoneCompletesForLess I x g → NoneCostsLess I g
NoneCostsLess-empty I x g size none h p permutes = h p permutes (completes_empty I x p size none permutes)

least_bounded : (c : CoverValue) (g : ℤ) → IsCovering c → IsLeastOf (c.cost ∷ map (λ (l : Leaf). l.value) c.leaves) g → All (IsBounded c.instance g) c.leaves
least_bounded c g h least k d below p permutes done =
    let all : All (λ z. g ≤ℤ z) (map (λ (l : Leaf). l.value) c.leaves) = All-tail (λ z. g ≤ℤ z) c.cost (map (λ (l : Leaf). l.value) c.leaves) least.least in
    let counted : length (map (λ (l : Leaf). l.value) c.leaves) ≡ length c.leaves = length-map c.leaves (λ (l : Leaf). l.value) in
    let here : g ≤ℤ (get_or c.leaves k d).value =
    subst (λ z. g ≤ℤ z) (get_or-map (λ (l : Leaf). l.value) c.leaves k d (d.value) below) (all k d.value (omega (arith, below, counted))) in
    let shown = h.shown k d below p permutes done in
    omega (arith, ints, here, shown)

-- the least of the cost and of what the leaves show is a number that a bound may be
pub IsBoundFor-least : (c : CoverValue) (g : ℤ) → IsCovering c → IsLeastOf (c.cost ∷ map (λ (l : Leaf). l.value) c.leaves) g → IsBoundFor c.cost g
IsBoundFor-least c g h least =
    let at_most : g ≤ℤ c.cost = All-head (λ z. g ≤ℤ z) c.cost (map (λ (l : Leaf). l.value) c.leaves) least.least in
    let floor : neg_ℤ (pos max_value) ≤ℤ g = All-contains (λ z. neg_ℤ (pos max_value) ≤ℤ z) (c.cost ∷ map (λ (l : Leaf). l.value) c.leaves) g
    (All-cons (λ z. neg_ℤ (pos max_value) ≤ℤ z) c.cost (map (λ (l : Leaf). l.value) c.leaves) (limited_least c.cost h.limited)
    (All-map (λ z. neg_ℤ (pos max_value) ≤ℤ z) (λ (l : Leaf). l.value) c.leaves h.least)) least.one in
    record { limited = omega (arith, ints, floor, at_most, h.limited); at_most = at_most }

-- what the verdict says is so
pub IsSoOf-verdict : (c : CoverValue) (v : Verdict) → IsCovering c → IsVerdictOn c v → IsSoOf c.instance c.root v
IsSoOf-verdict c v h on = by v (on.says [] cut)
  where
    none_below : NoneCompletesForLess c.instance c.root on.bound
    none_below =
        h.covers on.bound (All-head (λ z. on.bound ≤ℤ z) c.cost (map (λ (l : Leaf). l.value) c.leaves) on.least.least) (least_bounded c on.bound h on.least)

    by : (w : Verdict) → IsVerdictOf (claim_of c.root c.cost on.bound [] cut) w → IsSoOf c.instance c.root w
    by (Optimal z) says = record {
      reached = (h.reached.0, h.reached.1, h.reached.2 ∙ says.2);
      least = NoneCostsLess-empty c.instance c.root z h.same_size says.0 (subst (NoneCompletesForLess c.instance c.root) (says.1 ∙ says.2) none_below);
    }
    by (Gap g z) says = (
      (h.reached.0, h.reached.1, h.reached.2 ∙ says.2),
      NoneCostsLess-empty c.instance c.root g h.same_size says.0 (subst (NoneCompletesForLess c.instance c.root) says.1 none_below),
      says.3,
    )
    by (Part g) says = subst (NoneCompletesForLess c.instance c.root) says.1 none_below

-- the number is the cost or what one of the leaves shows, and none of the cost and of what the first leaves show is below it
pub record IsBounding (c : ℤ) (ls : List Leaf) (i : ℕ) (g : ℤ) : Type 0 where
  pub one : Contains (c ∷ map (λ (l : Leaf). l.value) ls) g
  pub at_most : g ≤ℤ c
  pub least : (k : ℕ) (d : Leaf) → k < i → g ≤ℤ (get_or ls k d).value

-- the number that bounds the cost and all leaves is the least of the cost and of what the leaves show
pub IsLeastOf-bounding : (c : ℤ) (ls : List Leaf) (i : ℕ) (g : ℤ) → length ls ≤ i → IsBounding c ls i g → IsLeastOf (c ∷ map (λ (l : Leaf). l.value) ls) g
IsLeastOf-bounding c ls i g past h = record {
  one = h.one;
  least = All-cons (λ z. g ≤ℤ z) c (map (λ (l : Leaf). l.value) ls) h.at_most
      (All-map (λ z. g ≤ℤ z) (λ (l : Leaf). l.value) ls (λ k d below. h.least k d (omega (arith, below, past))));
}

-- the first leaves are raised, and the others are as they were
pub record AreRaisedTo (root : Placement) (bound : ℤ) (i : ℕ) (old new : List Leaf) : Type 0 where
  pub same : length new ≡ length old
  pub raised : (k : ℕ) (d : Leaf) → k < i → IsRaised root bound (get_or old k d) (get_or new k d)
  pub others : (k : ℕ) (d : Leaf) → i ≤ k → get_or new k d ≡ get_or old k d

-- with one leaf more, the number is the lesser of the one so far and of what this leaf shows
pub IsBounding-more : (c : ℤ) (ls : List Leaf) (i : ℕ) (g h : ℤ) (l : Leaf) → i < length ls → l ≡ get_or ls i l → h ≡ int_min g l.value → IsBounding c ls i g → IsBounding c ls (i + 1) h
IsBounding-more c ls i g h l within is min_is b =
    let value : Leaf → ℤ = λ k. k.value in
    let lesser = IsLesser-min g l.value in
    let same : h ≡ int_min g l.value = min_is in
    record {
      one = elim lesser.is [
        | inl less ↦
            let at : get_or (map value ls) i l.value ≡ l.value = get_or-map value ls i l l.value within ∙ ap value (sym is) in
            let counted : length (map value ls) ≡ length ls = length-map ls value in
            let there : Contains (map value ls) (get_or (map value ls) i l.value) = Contains-get_or (map value ls) i l.value (omega (arith, within, counted)) in
            subst (Contains (c ∷ map value ls)) (at ∙ sym less.1 ∙ sym same) (Contains-append_right (c ∷ []) (map value ls) (get_or (map value ls) i l.value) there)
        | inr stays ↦ subst (Contains (c ∷ map value ls)) (sym stays.1 ∙ sym same) b.one
      ];
      at_most = let at_most = b.at_most in omega (arith, ints, clamps, at_most, same);
      least = λ k d below.
          elim (cases_lt k i) [
            | inl before ↦ let old = b.least k d before in omega (arith, ints, clamps, old, same)
            | inr past ↦
                let here : k ≡ i = omega arith in
                let own : (get_or ls k d).value ≡ l.value = ap (λ (j : ℕ). (get_or ls j d).value) here ∙ ap value (get_or_default ls i d l within ∙ sym is) in
                omega (arith, ints, clamps, own, same)
          ];
    }

-- of the first 0 leaves none is raised: all are as they were
pub AreRaisedTo-none : (root : Placement) (bound : ℤ) (ls : List Leaf) → AreRaisedTo root bound 0 ls ls
AreRaisedTo-none root bound ls = record { same = refl; raised = λ k d below. absurd (omega (arith, below)); others = λ k d below. refl }

-- with its raised value in its place, one leaf more is raised
pub AreRaisedTo-more : (root : Placement) (bound : ℤ) (i : ℕ) (old new : List Leaf) (l : Leaf) (z : ℤ) → i < length old → l ≡ get_or new i l → IsRaisedValue root bound l z → AreRaisedTo root bound i old new
    → AreRaisedTo root bound (i + 1) old (set new i (leaf l.node z))
AreRaisedTo-more root bound i old new l z within is raised h =
    let inside : i < length new = omega (arith, within, h.same) in record {
      same = length-set new i (leaf l.node z) ∙ h.same;
      raised = λ k d below.
          elim (cases_lt k i) [
            | inl before ↦
                let other : k ≢ i = omega arith in
                subst (IsRaised root bound (get_or old k d)) (sym (get_or-set_other new i k (leaf l.node z) d other)) (h.raised k d before)
            | inr past ↦
                let here : k ≡ i = omega arith in
                let was : l ≡ get_or old k d = is ∙ get_or_default new i l d inside ∙ h.others i d (omega arith) ∙ ap (λ (j : ℕ). get_or old j d) (sym here) in
                let now : get_or (set new i (leaf l.node z)) k d ≡ leaf l.node z = ap (λ (j : ℕ). get_or (set new i (leaf l.node z)) j d) here ∙ get_or-set_same new i (leaf l.node z) d inside in
                subst (λ (m : Leaf). IsRaised root bound m (get_or (set new i (leaf l.node z)) k d)) was
                (subst (IsRaised root bound l) (sym now) (refl, raised))
          ];
      others = λ k d past.
          let other : k ≢ i = omega arith in
          get_or-set_other new i k (leaf l.node z) d other ∙ h.others k d (omega arith);
    }

-- once the first leaves are all of them, the leaves are raised
pub AreRaised-all : (root : Placement) (bound : ℤ) (i : ℕ) (old new : List Leaf) → length old ≤ i → AreRaisedTo root bound i old new → AreRaised root bound old new
AreRaised-all root bound i old new past h = (h.same, λ k d below. h.raised k d (omega (arith, below, past)))

-- what the proof of a part establishes
pub Establishes-proved : (I : Problem) (text : List ℕ) (y : Placement) (d g : ℤ) → IsInstance I → ProvesFor I text y d g → Establishes I y d g
Establishes-proved I text y d g instance h =
    let C = h.proof in
    let shape = h.is_text.proof in record {
      same_size = ap (λ (w : Placement). w.size) (sym h.root) ∙ shape.root.size ∙ h.proved.same_size;
      limited = subst IsLimited h.cost shape.cost;
      reached = (C.permutation, record { bijection = shape.permutation.bijection; same_size = h.proved.same_size }, h.proved.cost ∙ h.cost);
      bounded = subst (λ (w : Placement). NoneCompletesForLess I w g) h.root
          (subst (NoneCompletesForLess I C.root) h.bound (Proves-NoneCompletesForLess I C instance shape h.proved));
    }

-- a cover stays one when what another proof establishes is added
pub IsCovering-admitted : (I : Problem) (x : Placement) (c e : ℤ) (old new : List Leaf) (y : Placement) (d g : ℤ) → Establishes I y d g → e ≡ int_min c d → AreRaised y g old new
    → IsCovering (cover_of I x c old) → IsCovering (cover_of I x e new)
IsCovering-admitted I x c e old new y d g part min_is raised h =
    let lesser : IsLesser c d e = subst (IsLesser c d) (sym min_is) (IsLesser-min c d) in record {
      reached = elim lesser.is [
        | inl less ↦ (part.reached.0, part.reached.1, part.reached.2 ∙ sym less.1)
        | inr stays ↦ (h.reached.0, h.reached.1, h.reached.2 ∙ sym stays.1)
      ];
      limited = elim lesser.is [
        | inl less ↦ subst IsLimited (sym less.1) part.limited
        | inr stays ↦ subst IsLimited (sym stays.1) h.limited
      ];
      least = λ k l below.
          let within : k < length old = omega (arith, raised.0, below) in
          raised_least y g (neg_ℤ (pos max_value)) (get_or old k l) (get_or new k l) (raised.1 k l within) (h.least k l within);
      shown = λ k l below.
          let within : k < length old = omega (arith, raised.0, below) in
          raised_shown I y g (get_or old k l) (get_or new k l) part.same_size part.bounded (raised.1 k l within) (h.shown k l within);
      covers = λ b most all.
          h.covers b (at_most b most) (λ k l within.
          let below : k < length new = omega (arith, raised.0, within) in
          subst (λ (w : Placement). NoneCompletesForLess I w b) (raised.1 k l within).0 (all k l below));
      placement = h.placement;
      same_size = h.same_size;
    }
  where
    at_most : (b : ℤ) → b ≤ℤ e → b ≤ℤ c
    at_most b most =
        elim (IsLesser-min c d).is [
          | inl less ↦ omega (arith, ints, most, min_is, less.0, less.1)
          | inr stays ↦ omega (arith, ints, most, min_is, stays.1)
        ]

-- where what the proof of a part establishes is added, the part is
pub HasPart-admitted : (I : Problem) (old new : CoverValue) (text : List ℕ) (y : Placement) (d g : ℤ) → I ≡ old.instance → ProvesFor I text y d g → IsAdmitted y d g old new → HasPart text old new
HasPart-admitted I old new text y d g here proved h =
    let C = proved.proof in record {
      proof = C;
      is_text = proved.is_text;
      proved = subst (λ (J : Problem). Proves J C) here proved.proved;
      instance = h.instance;
      root = h.root;
      cost = h.cost ∙ ap (λ (z : ℤ). int_min old.cost z) (sym proved.cost);
      leaves = subst (λ (z : ℤ). AreRaised C.root z old.leaves new.leaves) (sym proved.bound)
          (subst (λ (w : Placement). AreRaised w g old.leaves new.leaves) (sym proved.root) h.leaves);
    }

-- a list that was written whole in the place of one of its length
pub written_whole : (n : ℕ) (old new : List Leaf) → n ≡ length old → length new ≡ length old → take n (new ++ drop (length new) old) ≡ new
written_whole n old new counted same =
    let at : n ≡ length new = counted ∙ sym same in
    ap (λ (k : ℕ). take k (new ++ drop (length new) old)) at ∙ take-append_seam new (drop (length new) old)

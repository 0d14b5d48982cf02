-- Completions of a node with the extra facilities of charges that keep facilities off forbidden locations.
use Rattle.std.proofs.Common.{◌≡◌, ◌∙◌, ℕ, true, false, List, ap, arith, get_or, refl, subst, sym, take}
use Rattle.std.specs.Prelude.{ℤ, ◌≤ℤ◌}
use Rattle.std.proofs.lemmas.Int.{ints}
use Rattle.qap_cost.specs.Instance.{Problem}
use Rattle.qap_cost.specs.Objective.{Permutes, cost_of}
use Rattle.qap_cost.specs.Placement.{Completes, Placement}
use Rattle.plan_charge.specs.Charges.{cost_with}
use Rattle.plan_charge.specs.Extended.{extended_list}
use Rattle.plan_charge.specs.Forbidden.{UsesNone, UsesSome, is_forbidden}
use Rattle.plan_charge.specs.Restricted.{IsAllowed, IsCharged, Restricts}
use Rattle.plan_charge.specs.declared.charges.Charges.{Charges}
use Rattle.plan_charge.specs.declared.forbidden.Forbidden.{Forbidden}
use Rattle.plan_charge.proofs.Charged.{cost_of-extended}
use Rattle.plan_charge.proofs.Extensions.{extended-Completes, front-Completes, front-extended}

permutes : (I J : Problem) (x y : Placement) (old : Charges) (f : Forbidden) (p : List ℕ) → Restricts I x old f J y → Completes x p → Permutes I p
permutes I J x y old f p r completes = record {
  bijection = completes.bijection;
  same_size = completes.same_size ∙ r.size;
}

-- with the extra facilities a completion costs what it does under the new charges
new-cost : (I J : Problem) (x y : Placement) (old : Charges) (f : Forbidden) (p : List ℕ) (r : Restricts I x old f J y) → Completes x p → cost_of J (extended_list r.charges.count p) ≡ cost_with I r.charges p
new-cost I J x y old f p r completes = cost_of-extended I J r.charges p r.forbids.charges r.extended (permutes I J x y old f p r completes)

-- an allowed one uses no forbidden location of the instance
spares : (I J : Problem) (x y : Placement) (old : Charges) (f : Forbidden) (p : List ℕ) → Restricts I x old f J y → IsAllowed x f p → UsesNone I.size f p
spares I J x y old f p r allowed = subst (λ n. UsesNone n f p) r.size allowed.none

pub longer-allowed : (I J : Problem) (x y : Placement) (old : Charges) (f : Forbidden) (p : List ℕ) (r : Restricts I x old f J y) → IsAllowed x f p
    → Completes y (extended_list r.charges.count p) × (cost_of J (extended_list r.charges.count p) ≡ cost_with I old p)
longer-allowed I J x y old f p r allowed = (
  extended-Completes r.charges.count x y p r.placement r.node allowed.completes,
  new-cost I J x y old f p r allowed.completes ∙ r.forbids.same p (permutes I J x y old f p r allowed.completes) (spares I J x y old f p r allowed),
)

pub shorter-is : (I J : Problem) (x y : Placement) (old : Charges) (f : Forbidden) (q : List ℕ) (r : Restricts I x old f J y) → Completes y q → q ≡ extended_list r.charges.count (take x.size q)
shorter-is I J x y old f q r completes = front-extended r.charges.count x y q r.placement r.node completes

pub shorter-allowed : (I J : Problem) (x y : Placement) (old : Charges) (f : Forbidden) (start q : List ℕ) (r : Restricts I x old f J y) → IsAllowed x f start → Completes y q
    → cost_of J q ≤ℤ cost_of J (extended_list r.charges.count start) → IsAllowed x f (take x.size q)
shorter-allowed I J x y old f start q r allowed completes most =
    let p = take x.size q in
    let front : Completes x p = front-Completes r.charges.count x y q r.placement r.node completes in
    let start_perm = permutes I J x y old f start r allowed.completes in
    let perm = permutes I J x y old f p r front in
    let at_q : cost_of J q ≡ cost_with I r.charges p = ap (cost_of J) (shorter-is I J x y old f q r completes) ∙ new-cost I J x y old f p r front in
    let at_start = new-cost I J x y old f start r allowed.completes in
    record {
      completes = front;
      none = λ i row.
          elim (is_forbidden x.size f i (get_or p i 0)) as (λ t. is_forbidden x.size f i (get_or p i 0) ≡ t → is_forbidden x.size f i (get_or p i 0) ≡ false) [
            | true ↦ λ taken.
                let some : UsesSome I.size f p = record {
                  facility = i;
                  has_row = row;
                  taken = subst (λ n. is_forbidden n f i (get_or p i 0) ≡ true) r.size taken;
                } in
                let less = r.forbids.less start p start_perm perm (spares I J x y old f start r allowed) some in
                absurd (omega (arith, ints, most, at_q, at_start, less))
            | false ↦ λ spared. spared
          ] refl;
    }

-- what is found among the completions of the larger node, from an allowed start
pub IsCharged-found : (I J : Problem) (x y : Placement) (old : Charges) (f : Forbidden) (start q : List ℕ) (cost g : ℤ) (r : Restricts I x old f J y) → IsAllowed x f start → Completes y q → cost_of J q ≡ cost
    → cost ≤ℤ cost_of J (extended_list r.charges.count start) → ((s : List ℕ) → Completes y s → g ≤ℤ cost_of J s) → g ≤ℤ cost → IsCharged I x old f start (take x.size q) cost g
IsCharged-found I J x y old f start q cost g r allowed completes costs most none_less at_most =
    let p = take x.size q in
    let found = shorter-allowed I J x y old f start q r allowed completes (omega (arith, ints, costs, most)) in
    let begun = longer-allowed I J x y old f start r allowed in
    let at_start = begun.1 in
    record {
      allowed = found;
      costs = sym (longer-allowed I J x y old f p r found).1 ∙ sym (ap (cost_of J) (shorter-is I J x y old f q r completes)) ∙ costs;
      no_dearer = omega (arith, ints, most, at_start);
      none_less = λ s ok.
          let longer = longer-allowed I J x y old f s r ok in
          let low = none_less (extended_list r.charges.count s) longer.0 in
          let is = longer.1 in
          omega (arith, ints, low, is);
      at_most = at_most;
    }

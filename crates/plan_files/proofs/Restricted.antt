-- What a search of the larger instance of a restriction has found.
use Rattle.std.proofs.Common.{◌≡◌, ◌∙◌, ℕ, ◌-◌, List, ap, arith, subst, sym}
use Rattle.std.specs.Prelude.{ℤ}
use Rattle.qap_cost.specs.Bijection.{IsPerm}
use Rattle.qap_cost.specs.Instance.{IsInstance, Problem}
use Rattle.qap_cost.specs.Objective.{Permutes}
use Rattle.qap_cost.specs.Placement.{Completes, Placement}
use Rattle.plan_charge.specs.Extended.{extended_list}
use Rattle.plan_charge.specs.Restricted.{IsAllowed, IsCharged, Restricts}
use Rattle.plan_charge.specs.declared.charges.Charges.{Charges}
use Rattle.plan_charge.specs.declared.forbidden.Forbidden.{Forbidden}

-- the start with the extra facilities
pub first-is : (I J : Problem) (x y : Placement) (c : Charges) (f : Forbidden) (start first : List ℕ) (n m : ℕ) (r : Restricts I x c f J y) → n ≡ I.size → m ≡ J.size → first ≡ extended_list (m - n) start
    → first ≡ extended_list r.charges.count start
first-is I J x y c f start first n m r small large is =
    let size = r.extended.size in
    let count : m - n ≡ r.charges.count = omega (arith, small, large, size) in
    is ∙ ap (λ k. extended_list k start) count

-- a completion of the larger node is a permutation of the larger instance
pub permutes-larger : (I J : Problem) (x y : Placement) (c : Charges) (f : Forbidden) (q : List ℕ) → Restricts I x c f J y → Completes y q → Permutes J q
permutes-larger I J x y c f q r completes =
    let size = r.extended.size in
    let node = r.node.size in
    let same = r.size in
    let long = completes.same_size in
    record {
      bijection = completes.bijection;
      same_size = omega (arith, size, node, same, long);
    }

-- an allowed permutation is one
pub allowed-IsPerm : (I : Problem) (x : Placement) (f : Forbidden) (p : List ℕ) → IsInstance I → x.size ≡ I.size → IsAllowed x f p → IsPerm p
allowed-IsPerm I x f p instance same allowed =
    let long = allowed.completes.same_size in
    let positive = instance.positive in
    let small = instance.small in
    record {
      bijection = allowed.completes.bijection;
      positive = omega (arith, long, same, positive);
      small = omega (arith, long, same, small);
    }

-- the same with other names
pub IsCharged-same : (I : Problem) (x : Placement) (c : Charges) (f : Forbidden) (start p newer : List ℕ) (cost g new_cost new_bound : ℤ) → IsCharged I x c f start p cost g → newer ≡ p → new_cost ≡ cost → new_bound ≡ g
    → IsCharged I x c f start newer new_cost new_bound
IsCharged-same I x c f start p newer cost g new_cost new_bound charged permutation cost_is bound_is =
    subst (λ l. IsCharged I x c f start l new_cost new_bound) (sym permutation)
    (subst (λ z. IsCharged I x c f start p z new_bound) (sym cost_is)
    (subst (λ z. IsCharged I x c f start p cost z) (sym bound_is) charged))

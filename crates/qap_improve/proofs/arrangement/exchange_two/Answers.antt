use Rattle.std.proofs.Common.{ℕ, List, refl, subst, sym}
use Rattle.qap_cost.specs.Objective.{Permutes}
use Rattle.qap_improve.specs.Arrangement.{AreExchanged, IsTable, content}
use Rattle.qap_improve.specs.declared.facility_table.Content.TheVariants.{Flows, FlowsBack, Distances, DistancesBack}
use Rattle.qap_improve.proofs.Arrangements.{IsTable-same, distances-exchanged, distances_back-exchanged}
use Rattle.qap_improve.proofs.Exchanges.{Permutes-exchanging}
use Rattle.qap_improve.proofs.arrangement.exchange_two.Goals as goal

pub returns-clause-arrangement : goal.returns-clause-arrangement
returns-clause-arrangement c =
    let I = c.args.instance.now in
    let p = c.args.arrangement.now.locations.items in
    let q = c.swap.new.locations.items in
    let r = c.args.r in
    let s = c.args.s in
    let a = c.requires.arrangement in
    let size = a.permutation.same_size in
    let there = c.exchange_in.new.table.items in
    let back = c.exchange_in-2.new.table.items in
    record {
      permutation = subst (λ (t : List ℕ). Permutes I t) (sym c.swap.ensures) (Permutes-exchanging I p r s c.requires.two c.requires.first c.requires.second a.permutation);
      flows = IsTable-same I.size (content I p Flows) (content I q Flows) c.args.arrangement.now.flows.items (λ i j. refl) a.flows;
      flows_back = IsTable-same I.size (content I p FlowsBack) (content I q FlowsBack) c.args.arrangement.now.flows_back.items (λ i j. refl) a.flows_back;
      distances = subst (λ (t : List ℕ). IsTable I.size (content I t Distances) there) (sym c.swap.ensures)
          (distances-exchanged I p r s c.args.arrangement.now.distances.items there size c.requires.two c.requires.first c.requires.second a.distances
          (subst (λ (m : ℕ). AreExchanged m r s c.args.arrangement.now.distances.items there) c.size-n.ensures.value c.exchange_in.ensures));
      distances_back = subst (λ (t : List ℕ). IsTable I.size (content I t DistancesBack) back) (sym c.swap.ensures)
          (distances_back-exchanged I p r s c.args.arrangement.now.distances_back.items back size c.requires.two c.requires.first c.requires.second a.distances_back
          (subst (λ (m : ℕ). AreExchanged m r s c.args.arrangement.now.distances_back.items back) c.size-n.ensures.value c.exchange_in-2.ensures));
      small = a.small;
    }

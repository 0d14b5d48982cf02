use Rattle.std.proofs.Common.{◌≡◌, ℕ, ℤ, List, ap₂, to_z, of_z, ◌∙◌, sym, rules}
use Rattle.std.specs.Int.{w128}
use Rattle.std.proofs.lemmas.Int.{to_z-of_z}
use Rattle.qap_search.specs.Law.Replacement.{Best}
use Rattle.qap_search.specs.Node.Thought.{candidate_of}
use Rattle.qap_search.proofs.WorkerLemmas.BestSteps.{least_either, standing_cost, written_anew}
use Rattle.qap_search.proofs.worker.best_steps.write_anew.Goals as goal

pub returns-in_default : goal.returns-in_default
returns-in_default c = λ I best thought there costs. absurd ((rw c.in_default.is at c.in_ok-perm.ensures) best there)

pub returns : goal.returns
returns c = λ I best thought there costs.
    let l = c.args.last.now in
    let cost_same : to_z w128 (of_z w128 c.args.cost) ≡ c.args.cost = to_z-of_z w128 c.args.cost c.ranges.cost in
    let thought_same : to_z w128 (of_z w128 l.thought.cost) ≡ l.thought.cost = search rules in
    let least_same : to_z w128 (of_z w128 c.min-standing.result) ≡ c.min-standing.result = search rules in
    let old : Best = record { cost = to_z w128 (of_z w128 c.args.cost); permutation = c.in-Some.perm } in
    let make : ℤ → List ℕ → Best = λ z p. record { cost = z; permutation = p } in
    let perm = (rw c.in-Some.is at c.in_ok-perm.ensures) best there in
    let is : best ≡ old = ap₂ make (costs ∙ sym cost_same) perm in
    let decided = (rw c.in-Some-2.is at c.in_ok-tuples.ensures) I thought in
    let either = least_either l.thought.cost (to_z w128 (of_z w128 c.args.cost)) c.min-standing.result (rw thought_same at c.min-standing.ensures.value) in
    rw least_same (written_anew I l best old c.min-standing.result c.in-Some-2.tuples.items c.args.txn.now c.put.new.txn is decided
    (λ new better. standing_cost (candidate_of l.thought) old new c.min-standing.result better (rw thought_same at c.min-standing.ensures.self_bound) c.min-standing.ensures.other_bound either)
    c.in_ok-put.ensures.same c.in_ok-put.ensures.written)

use Rattle.std.proofs.Common.{◌≡◌, ◌∙◌, ap, of_z, refl, rules, sym, to_z}
use Rattle.std.specs.Int.{w128}
use Rattle.qap_cost.specs.Objective.{Permutes, cost_of}
use Rattle.plan_check.proofs.Provings.{least_kept, least_of_all, none_kept_for_less}
use Rattle.plan_check.proofs.proving.proved_bound.Goals as goal

pub returns-clause-proved : goal.returns-clause-proved
returns-clause-proved c =
    let stated = c.in_ok-stated.stated in
    let bound : to_z w128 (of_z w128 stated.bound) ≡ stated.bound = search rules in
    let cost : stated.cost ≡ cost_of c.args.instance.now c.args.permutation.now = search rules in
    rw bound (record {
      root = c.in_ok-root.root;
      same = c.in_ok-root.ensures.same;
      proves = rw cost at c.in_ok-stated.ensures.proves;
      none_less = none_kept_for_less c.args.instance.now c.args.fixed.now c.in_ok-root.root stated.bound c.in_ok-root.ensures.same c.in_ok-stated.ensures.none_less;
    })

pub returns-clause-least_kept : goal.returns-clause-least_kept
returns-clause-least_kept c =
    let I = c.args.instance.now in
    let x = c.args.fixed.now in
    let p = c.args.permutation.now in
    let stated = c.in_ok-stated.stated in
    let bound : to_z w128 (of_z w128 stated.bound) ≡ stated.bound = search rules in
    let permutes : Permutes I p = record { bijection = c.requires.kept.bijection; same_size = c.requires.kept.same_size ∙ c.requires.same_size } in
    let none = none_kept_for_less I x c.in_ok-root.root stated.bound c.in_ok-root.ensures.same c.in_ok-stated.ensures.none_less in
    rw bound (λ reaches. least_kept I x p (cost_of I p) stated.bound permutes c.requires.kept refl none reaches)

pub returns-clause-least : goal.returns-clause-least
returns-clause-least c =
    let I = c.args.instance.now in
    let x = c.args.fixed.now in
    let p = c.args.permutation.now in
    let stated = c.in_ok-stated.stated in
    let bound : to_z w128 (of_z w128 stated.bound) ≡ stated.bound = search rules in
    let permutes : Permutes I p = record { bijection = c.requires.kept.bijection; same_size = c.requires.kept.same_size ∙ c.requires.same_size } in
    let none = none_kept_for_less I x c.in_ok-root.root stated.bound c.in_ok-root.ensures.same c.in_ok-stated.ensures.none_less in
    rw bound (λ reaches empty. least_of_all I x (cost_of I p) c.requires.same_size empty (least_kept I x p (cost_of I p) stated.bound permutes c.requires.kept refl none reaches))

pub returns-then-stated-cost-clause-refused : goal.returns-then-stated-cost-clause-refused
returns-then-stated-cost-clause-refused c = (
  c.in_ok-root.root,
  c.in_ok-root.ensures.same,
  record {
    cost = c.in_ok-stated.stated.cost;
    bound = c.in_ok-stated.stated.bound;
    proves = c.in_ok-stated.ensures.proves;
    other = λ same. c.if-stated-cost.true (ap (of_z w128) (same ∙ sym c.cost.ensures.value));
  },
)

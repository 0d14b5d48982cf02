use Rattle.std.proofs.lemmas.List.FromFn.{length-range_with_len}
use Rattle.qap_cost.specs.Bijection.{IsPerm}
use Rattle.plan_file.proofs.Identities.{IsPerm-range}
use Rattle.plan_file.proofs.keeping.identity.Goals as goal

pub unreachable-requires : goal.unreachable-requires
unreachable-requires c =
    let i = c.size.ensures.instance in
    let is = c.in_ok-locations.ensures {u = tt} in
    let whole : IsPerm c.in_ok-locations.locations.items = rw (is, c.size.ensures.value) (IsPerm-range c.args.instance.now.size i.positive i.small) in
    (c.in-Err.ensures {u = tt}).2 whole

pub returns-clause-permutes : goal.returns-clause-permutes
returns-clause-permutes c =
    let is = c.in-Ok.ensures {u = tt} in
    let items = c.in_ok-locations.ensures {u = tt} in
    rw is.0 (record {
      bijection = is.1.bijection;
      same_size = rw (items, c.size.ensures.value) (length-range_with_len 0 c.args.instance.now.size);
    })

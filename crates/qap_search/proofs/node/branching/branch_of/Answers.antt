use Rattle.std.proofs.Common.{length, arith}
use Rattle.qap_cost.proofs.Placements.{IsPlacement-depth}
use Rattle.qap_search.proofs.CertificateLemmas.Certificates.{free_facility_count}
use Rattle.qap_search.proofs.CertificateLemmas.Finishing.{none_counted}
use Rattle.qap_search.proofs.node.branching.branch_of.Goals as goal

pub returns-then-is_empty : goal.returns-then-is_empty
returns-then-is_empty c =
    let x = c.args.node.now in
    let placement = c.placement_law.ensures in
    let count = free_facility_count x placement in
    let depth = IsPlacement-depth x placement in
    let none = none_counted (length c.args.matching.now) c.is_empty.result c.is_empty.ensures c.if-is_empty.true in
    omega (arith, count, depth, none, c.requires.matching.count)

use Rattle.std.proofs.Common.{◌≡◌, ◌≢◌, ◌++◌, ◌∷◌, [], length, ap, sym, ◌∙◌, rules, arith}
use Rattle.number_list.specs.NumberList.{numbers_held}
use Rattle.qap_cost.specs.Placement.{root_of}
use Rattle.qap_search.specs.Tuples.Piece.{node_list}
use Rattle.qap_search.proofs.CertificateLemmas.Taking.{none_other_node}
use Rattle.qap_search.proofs.certificate.tree_building.decision_at_root.Goals as goal

pub returns : goal.returns
returns c = λ n.
    let nodes = c.args.nodes.now.items in
    let taken = c.in_ok-node.field-0 in
    let is : nodes ≡ c.pop.new.self.items ++ taken ∷ [] = search rules in
    let some = c.if-len-eq0.false in
    let other : numbers_held taken.node ≢ node_list (root_of n) = λ e. some (c.len.ensures ∙ ap length (c.numbers.ensures ∙ e)) in
    none_other_node (root_of n) nodes c.pop.new.self.items taken is other

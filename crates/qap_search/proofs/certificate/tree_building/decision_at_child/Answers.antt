use Rattle.std.proofs.Common.{◌≡◌, ◌≢◌, ◌++◌, ◌∷◌, [], sym, ◌∙◌, rules}
use Rattle.std.proofs.lemmas.Bool.{false≢true}
use Rattle.number_list.specs.NumberList.{numbers_held}
use Rattle.qap_cost.specs.Placement.{placing}
use Rattle.qap_search.specs.Tuples.Piece.{node_list}
use Rattle.qap_search.proofs.CertificateLemmas.Taking.{none_other_node}
use Rattle.qap_search.proofs.certificate.tree_building.decision_at_child.Goals as goal

pub returns : goal.returns
returns c =
    let x = placing c.args.parent.now c.args.facility c.args.location in
    let nodes = c.args.nodes.now.items in
    let taken = c.in_ok-node.field-0 in
    let is : nodes ≡ c.pop.new.self.items ++ taken ∷ [] = search rules in
    let other : numbers_held taken.node ≢ node_list x = λ e. false≢true (sym c.if-is_child.false ∙ c.is_child.ensures.1 (c.numbers.ensures ∙ e)) in
    none_other_node x nodes c.pop.new.self.items taken is other

use Rattle.std.proofs.Common.{◌≡◌, List, map, sym, subst, ap, ◌∙◌, take_all, arith}
use Rattle.std.specs.Prelude.{All}
use Rattle.subtree_search.specs.Opens.{node_of}
use Rattle.subtree_search.specs.declared.split.OpenChild.{OpenChild}
use Rattle.std.specs.Prelude.{pos}
use Rattle.part_search.specs.Covers.{HasValue}
use Rattle.part_search.specs.Ground.{node_part}
use Rattle.part_search.specs.Tuples.{open_of}
use Rattle.part_search.specs.declared.open_node.Open.{Open}
use Rattle.part_search.proofs.Children.{covered, nodes_more, values_more}
use Rattle.part_search.proofs.ground.children_of.Goals as goal

abbrev none : OpenChild
none = record { facility = 0; location = 0; value = pos 0 }

pub loop-i-preserved : goal.loop-i-preserved
loop-i-preserved c =
    let made = c.in_ok-child_of.ensures {u = tt} in
    let items = (c.in_ok-push.ensures {u = tt}).items in
    let at = c.args.at.now in
    let i = c.loop-i.i in
    let below = c.loop-i-test.true in
    record {
      nodes = nodes_more at.node c.loop-i.opens.items c.push.new.self.items c.in_ok-child_of.field-0 c.args.children.now i none items below made.node c.loop-i.invariant.nodes;
      values = λ I d opened h.
          subst (λ (l : List Open). All (HasValue I d) (map open_of l)) (sym items)
          (values_more I c.args.scale d at c.in_ok-child_of.field-0 _ c.loop-i.opens.items made.node made.value (opened i none below) h (c.loop-i.invariant.values I d opened h));
    }

pub returns : goal.returns
returns c = λ I k opened settled.
    let at = c.args.at.now in
    let nodes : map node_part c.loop-i.opens.items ≡ map (node_of at.node) c.args.children.now =
    c.loop-i.invariant.nodes ∙ ap (map (node_of at.node)) (take_all c.loop-i.i c.args.children.now (omega arith)) in
    record { values = λ d h. c.loop-i.invariant.values I d opened h; covers = covered I at.node k c.loop-i.opens.items c.args.children.now nodes settled }

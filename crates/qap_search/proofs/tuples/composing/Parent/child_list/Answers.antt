use Rattle.std.proofs.lemmas.Result.{IfOk-weaker}
use Rattle.number_list.specs.NumberList.{numbers_held}
use Rattle.qap_search.proofs.NodeLemmas.NodeLists.{child_list, short_child}
use Rattle.qap_search.proofs.tuples.composing.Parent.child_list.Goals as goal

pub returns-clause-list : goal.returns-clause-list
returns-clause-list c =
    let parent = c.args.self.now in
    IfOk-weaker c.with_two.result _ _
    (λ list e. child_list parent.node.now (numbers_held parent.list) (numbers_held list) c.args.facility c.args.location c.requires e)
    c.with_two.ensures

pub returns-clause-short : goal.returns-clause-short
returns-clause-short c =
    let parent = c.args.self.now in
    IfOk-weaker c.with_two.result _ _
    (λ list e. short_child parent.node.now (numbers_held parent.list) (numbers_held list) c.args.facility c.args.location c.requires e)
    c.with_two.ensures

use Rattle.std.proofs.Common.{refl, sym, ap₂, ◌∙◌}
use Rattle.std.proofs.lemmas.Result.{IfOk-weaker}
use Rattle.number_list.specs.NumberList.{numbers_held}
use Rattle.number_list.specs.Turns.{by_turns}
use Rattle.qap_search.specs.Node.NodeList.{IsListOf}
use Rattle.qap_search.proofs.NodeLemmas.NodeLists.{short_list}
use Rattle.qap_search.proofs.tuples.composing.list_of.Goals as goal

pub returns-clause-list : goal.returns-clause-list
returns-clause-list c =
    IfOk-weaker c.by_turns.result _ _
    (λ list e. record { placement = c.facilities.ensures.placement; size = refl; is = sym (e ∙ ap₂ by_turns c.facilities.ensures.value c.places.ensures.value) })
    c.by_turns.ensures

pub returns-clause-short : goal.returns-clause-short
returns-clause-short c =
    IfOk-weaker c.by_turns.result (λ list. IsListOf c.args.node.now (numbers_held list)) _ (λ list listed. short_list c.args.node.now (numbers_held list) listed) (returns-clause-list c)

use Rattle.serde_json.specs.View.{items_view, view}
use Rattle.plan_check.proofs.Values.{list_of, no_list}
use Rattle.plan_check.proofs.lookup.items_in.Goals as goal

pub returns-in-Some : goal.returns-in-Some
returns-in-Some c = rw c.deref.ensures.value (list_of (view c.args.value.now) (items_view c.in-Some.items.now.items) (c.in-Some.ensures))

pub returns-in-None : goal.returns-in-None
returns-in-None c = λ ds. no_list (view c.args.value.now) ds c.in-None.ensures

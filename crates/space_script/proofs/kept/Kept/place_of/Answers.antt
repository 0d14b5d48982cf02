-- The number is looked for among the keys.
use Rattle.std.proofs.Common.{List, ap, subst}
use Rattle.std.specs.Prelude.{MatchOption}
use Rattle.space_txn.specs.Txn.{TxnValue}
use Rattle.space_script.specs.Kept.{KeptValue}
use Rattle.space_script.specs.Session.{NoneKept, StandsAt}
use Rattle.space_script.proofs.Numbered.{placed}
use Rattle.space_script.proofs.kept.Kept.place_of.Goals as goal

pub returns : goal.returns
returns c =
    subst (λ (ts : List TxnValue). MatchOption c.get_index_of.result (NoneKept ts c.args.number) (λ place. (t : TxnValue) × StandsAt ts c.args.number place t)) (ap (λ (v : KeptValue). v.items) c.self.view_is)
    (placed c.args.number c.self.inside.by_number.entries c.get_index_of.result c.self.invariant c.get_index_of.ensures.index)

use Rattle.std.proofs.Common.{List, subst}
use Rattle.std.specs.Prelude.{◌≡◌, ◌≢◌, All, IfNone, IfSome}
use Rattle.std.specs.List.{HoldsAt}
use Rattle.space_txn.specs.declared.live.Live.{Live}
use Rattle.tuple_space.proofs.NumberLemmas.{place_none, place_some}
use Rattle.space_txn.proofs.transactions.Transactions.place_of.Goals as goal

pub returns-clause-none : goal.returns-clause-none
returns-clause-none c =
    subst (λ (ts : List Live). IfNone c.get_index_of.result (All (λ (t : Live). t.number ≢ c.args.number) ts)) c.self.view_is
    (place_none (λ (t : Live). t.number) c.args.number c.self.inside.by_number.entries c.get_index_of.result c.self.invariant.numbered c.get_index_of.ensures.index)

pub returns-clause-found : goal.returns-clause-found
returns-clause-found c =
    subst (λ (ts : List Live). IfSome c.get_index_of.result (HoldsAt (λ (t : Live). t.number ≡ c.args.number) ts)) c.self.view_is
    (place_some (λ (t : Live). t.number) c.args.number c.self.inside.by_number.entries c.get_index_of.result c.self.invariant.numbered c.get_index_of.ensures.index)

use Rattle.std.proofs.Common.{◌<◌, ◌∙◌, List, length, subst, sym}
use Rattle.std.specs.Map.{values_of}
use Rattle.space_txn.specs.declared.live.Live.{Live}
use Rattle.space_txn.proofs.LiveLemmas.{IsAt, live_at, live_none}
use Rattle.space_txn.proofs.transactions.Transactions.is_live.Goals as goal

pub returns-in-Some : goal.returns-in-Some
returns-in-Some c =
    let ts = values_of c.self.inside.by_number.entries in
    let i = c.in-Some.place in
    let within = subst (λ (l : List Live). i < length l) (sym c.self.view_is) c.in-Some.ensures.place in
    let found = subst (λ (l : List Live). IsAt c.args.number l i) (sym c.self.view_is) c.in-Some.ensures.found in
    rw (c.as_slice-rows.ensures ∙ c.values.ensures.rest, ← c.self.view_is) (live_at c.args.moment c.args.number ts i (record { number = 0; end = 0 }) c.self.invariant.rising within found)

pub returns-in-None : goal.returns-in-None
returns-in-None c = sym (live_none c.args.moment c.args.number c.args.self.now c.in-None.ensures.none)

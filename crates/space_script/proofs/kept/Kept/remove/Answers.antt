-- The transaction at a place is taken out.
use Rattle.std.proofs.Common.{◌∙◌, ◌≡◌, List, Some, ap, slice_get, subst, sym}
use Rattle.std.specs.Prelude.{ℕ, remove}
use Rattle.std.specs.Map.{values_of}
use Rattle.space_txn.specs.Txn.{TxnValue}
use Rattle.space_script.specs.Kept.{AreNumbered, KeptValue}
use Rattle.space_script.specs.Session.{NoneKept}
use Rattle.space_script.proofs.Numbered.{are_numbered, none_found, numbered-remove, pair_at, values_are}
use Rattle.space_script.proofs.kept.Kept.remove.Goals as goal

pub invariant_of-self : goal.invariant_of-self
invariant_of-self c =
    let ps = c.self.inside.by_number.entries in
    are_numbered _ (remove (values_of ps) c.args.place)
    (c.shift_remove_index.ensures.entries ∙ ap (λ l. remove l c.args.place) c.self.invariant ∙ numbered-remove (values_of ps) c.args.place)

pub returns-clause-value : goal.returns-clause-value
returns-clause-value c =
    let same = ap (λ (v : KeptValue). v.items) c.self.view_is in
    subst (λ (ts : List TxnValue). slice_get ts c.args.place ≡ Some c.in-Some.txn) same
    (pair_at c.self.inside.by_number.entries c.args.place c.in-Some.field-0-0 c.in-Some.txn c.self.invariant (sym c.shift_remove_index.ensures.entry ∙ c.in-Some.is)).0

pub returns-clause-rest : goal.returns-clause-rest
returns-clause-rest c =
    let ps = c.self.inside.by_number.entries in
    values_are _ (remove (values_of ps) c.args.place)
    (c.shift_remove_index.ensures.entries ∙ ap (λ l. remove l c.args.place) c.self.invariant ∙ numbered-remove (values_of ps) c.args.place)
    ∙ ap (λ (v : KeptValue). remove v.items c.args.place) c.self.view_is

pub returns-clause-others : goal.returns-clause-others
returns-clause-others c =
    let ps = c.self.inside.by_number.entries in
    let named = (pair_at ps c.args.place c.in-Some.field-0-0 c.in-Some.txn c.self.invariant (sym c.shift_remove_index.ensures.entry ∙ c.in-Some.is)).1 in
    let left = c.shift_remove_index.new.self.entries in
    let each : AreNumbered left = are_numbered _ (remove (values_of ps) c.args.place)
    (c.shift_remove_index.ensures.entries ∙ ap (λ l. remove l c.args.place) c.self.invariant ∙ numbered-remove (values_of ps) c.args.place) in
    subst (λ (n : ℕ). NoneKept (values_of left) n) named (none_found c.in-Some.field-0-0 left each c.in-Some.ensures.updates.1)

-- A transaction of a new number goes last.
use Rattle.std.proofs.Common.{◌∙◌, ◌++◌, ◌∷◌, [], List, ap, subst, sym}
use Rattle.std.specs.Map.{values_of}
use Rattle.space_txn.specs.Txn.{TxnValue}
use Rattle.space_script.specs.Kept.{KeptValue}
use Rattle.space_script.specs.Session.{NoneKept}
use Rattle.space_script.proofs.Numbered.{are_numbered, numbered_new, values_are}
use Rattle.space_script.proofs.kept.Kept.push.Goals as goal

pub invariant_of-self : goal.invariant_of-self
invariant_of-self c =
    let ps = c.self.inside.by_number.entries in
    let new = subst (λ (ts : List TxnValue). NoneKept ts c.args.txn.number) (sym (ap (λ (v : KeptValue). v.items) c.self.view_is)) c.requires.new in
    are_numbered _ (values_of ps ++ c.args.txn ∷ []) (rw (c.unwrap.ensures, c.number.ensures) at c.insert.ensures.entries ∙ numbered_new ps c.args.txn c.self.invariant new)

pub returns : goal.returns
returns c =
    let ps = c.self.inside.by_number.entries in
    let new = subst (λ (ts : List TxnValue). NoneKept ts c.args.txn.number) (sym (ap (λ (v : KeptValue). v.items) c.self.view_is)) c.requires.new in
    values_are _ (values_of ps ++ c.args.txn ∷ []) (rw (c.unwrap.ensures, c.number.ensures) at c.insert.ensures.entries ∙ numbered_new ps c.args.txn c.self.invariant new)
    ∙ ap (λ (v : KeptValue). v.items ++ c.args.txn ∷ []) c.self.view_is

-- One more write stands where the transaction stands.
use Rattle.std.proofs.Common.{◌∙◌, List, ap, refl, set, sym}
use Rattle.std.specs.Map.{values_of}
use Rattle.std.proofs.lemmas.Option.{same_Some}
use Rattle.space_txn.specs.Txn.{TxnValue}
use Rattle.space_script.specs.Kept.{KeptValue}
use Rattle.space_script.specs.Session.{with_write}
use Rattle.space_script.proofs.Numbered.{set_same, written_numbered, written_values}
use Rattle.space_script.proofs.kept.Kept.out_in.Goals as goal
use Rattle.space_script.proofs.kept.Kept.out_in.Goals.{in-Ok, in-Err}

pub invariant_of-self : goal.invariant_of-self
invariant_of-self c =
    let ps = c.self.inside.by_number.entries in
    let old = c.in-Some.txn.now in
    elim c.match-out_in.branch [
      | in-Ok w ↦ rw w.in-Ok.ensures.ok (written_numbered ps c.args.place old (with_write old c.args.tuple c.args.lease) c.self.invariant (sym c.in-Some.ensures.value) refl)
      | in-Err w ↦ rw w.in-Err.ensures.err (written_numbered ps c.args.place old old c.self.invariant (sym c.in-Some.ensures.value) refl)
    ]

pub returns-clause-ok : goal.returns-clause-ok
returns-clause-ok c =
    let ps = c.self.inside.by_number.entries in
    let old = c.in-Some.txn.now in
    let after : TxnValue → TxnValue = λ t. with_write t c.args.tuple c.args.lease in
    let same = ap (λ (v : KeptValue). v.items) c.self.view_is in
    elim c.match-out_in.branch [
      | in-Ok w ↦ rw (w.result-is, w.in-Ok.ensures.ok) (λ t at.
          let this = same_Some old t (c.in-Some.ensures.value ∙ rw (← same) at at) in
          written_values ps c.args.place old (after old) c.self.invariant (sym c.in-Some.ensures.value) refl
          ∙ ap (λ (ts : List TxnValue). set ts c.args.place (after old)) same ∙ ap (λ (x : TxnValue). set c.args.self.now.items c.args.place (after x)) this)
      | in-Err w ↦ rw w.result-is tt
    ]

pub returns-clause-err : goal.returns-clause-err
returns-clause-err c =
    let ps = c.self.inside.by_number.entries in
    let old = c.in-Some.txn.now in
    elim c.match-out_in.branch [
      | in-Ok w ↦ rw w.result-is tt
      | in-Err w ↦ rw (w.result-is, w.in-Err.ensures.err) (
          written_values ps c.args.place old old c.self.invariant (sym c.in-Some.ensures.value) refl
          ∙ set_same (values_of ps) c.args.place old (sym c.in-Some.ensures.value) ∙ ap (λ (v : KeptValue). v.items) c.self.view_is)
    ]

-- A search changes no number.
use Rattle.std.proofs.Common.{◌≡◌, ◌∙◌, List, Some, ap, set, slice_get, subst, sym}
use Rattle.std.specs.Prelude.{IfOk, IfSome}
use Rattle.std.specs.Map.{values_of}
use Rattle.space_txn.specs.Finding.{Shows}
use Rattle.space_txn.specs.Txn.{TxnValue}
use Rattle.space_script.specs.Kept.{KeptValue}
use Rattle.space_script.proofs.Going.{inp_number}
use Rattle.space_script.proofs.Numbered.{get_set, written_numbered, written_values}
use Rattle.space_script.proofs.kept.Kept.inp_in.Goals as goal

pub invariant_of-self : goal.invariant_of-self
invariant_of-self c =
    let named = inp_number _ _ _ _ _ _ c.inp_in.ensures.step in
    written_numbered c.self.inside.by_number.entries c.args.place c.in-Some.txn.now c.inp_in.new.txn c.self.invariant (sym c.in-Some.ensures.value) named

pub returns-clause-step : goal.returns-clause-step
returns-clause-step c =
    let named = inp_number _ _ _ _ _ _ c.inp_in.ensures.step in
    let same = ap (λ (v : KeptValue). v.items) c.self.view_is in
    record {
      t = c.in-Some.txn.now;
      after = c.inp_in.new.txn;
      there = subst (λ (ts : List TxnValue). slice_get ts c.args.place ≡ Some c.in-Some.txn.now) same (sym c.in-Some.ensures.value);
      step = c.inp_in.ensures.step;
      stands = written_values c.self.inside.by_number.entries c.args.place c.in-Some.txn.now c.inp_in.new.txn c.self.invariant (sym c.in-Some.ensures.value) named
          ∙ ap (λ (ts : List TxnValue). set ts c.args.place c.inp_in.new.txn) same;
    }

pub returns-clause-found : goal.returns-clause-found
returns-clause-found c = λ t at.
    let ps = c.self.inside.by_number.entries in
    let named = inp_number _ _ _ _ _ _ c.inp_in.ensures.step in
    let written = written_values ps c.args.place c.in-Some.txn.now c.inp_in.new.txn c.self.invariant (sym c.in-Some.ensures.value) named in
    let here = get_set (values_of ps) c.args.place c.in-Some.txn.now c.inp_in.new.txn t (sym c.in-Some.ensures.value) (sym (ap (λ l. slice_get l c.args.place) written) ∙ at) in
    subst (λ (x : TxnValue). IfOk c.inp_in.result (λ what. IfSome what (Shows c.args.template.now x))) (sym here) c.inp_in.ensures.found

use Rattle.std.proofs.Common.{◌<◌, ◌∙◌, List, ap, subst, sym, length}
use Rattle.std.specs.Prelude.{remove}
use Rattle.std.specs.Map.{values_of}
use Rattle.std.proofs.lemmas.List.Quantifiers.{all_pairs_remove}
use Rattle.tuple_space.proofs.NumberLemmas.{are_numbered, numbered-remove, values_are}
use Rattle.space_txn.specs.declared.live.Live.{Live}
use Rattle.space_txn.proofs.LiveLemmas.{AreRising, others_at, others_missing}
use Rattle.space_txn.proofs.transactions.Transactions.remove.Goals as goal

pub invariant_of-self : goal.invariant_of-self
invariant_of-self c =
    let ps = c.self.inside.by_number.entries in
    let i = c.in-Some.place in
    let left = c.shift_remove_index.ensures.entries ∙ ap (λ l. remove l i) c.self.invariant.numbered ∙ numbered-remove (λ (t : Live). t.number) (values_of ps) i in
    let values = values_are (λ (t : Live). t.number) c.shift_remove_index.new.self.entries (remove (values_of ps) i) left in
    let within = subst (λ (ts : List Live). i < length ts) (sym c.self.view_is) c.in-Some.ensures.place in
    record {
      numbered = are_numbered (λ (t : Live). t.number) c.shift_remove_index.new.self.entries (remove (values_of ps) i) left;
      rising = subst AreRising (sym values) (all_pairs_remove (λ (t : Live) (u : Live). t.number < u.number) (values_of ps) i within c.self.invariant.rising);
    }

pub returns-in-Some : goal.returns-in-Some
returns-in-Some c =
    let ps = c.self.inside.by_number.entries in
    let i = c.in-Some.place in
    let left = c.shift_remove_index.ensures.entries ∙ ap (λ l. remove l i) c.self.invariant.numbered ∙ numbered-remove (λ (t : Live). t.number) (values_of ps) i in
    values_are (λ (t : Live). t.number) c.shift_remove_index.new.self.entries (remove (values_of ps) i) left
    ∙ ap (λ (ts : List Live). remove ts i) c.self.view_is
    ∙ others_at c.args.number c.args.self.now i (subst AreRising c.self.view_is c.self.invariant.rising) c.in-Some.ensures.place c.in-Some.ensures.found

pub returns-in_default : goal.returns-in_default
returns-in_default c = others_missing c.args.number c.args.self.now c.in_default.ensures.none

use Rattle.std.proofs.Common.{◌<◌, ◌∙◌, List, ap, length, set, subst, sym}
use Rattle.std.specs.Map.{values_of}
use Rattle.tuple_space.proofs.NumberLemmas.{written_numbered, written_values}
use Rattle.space_txn.specs.Live.{renewed_row, renewed_rows}
use Rattle.space_txn.specs.declared.live.Live.{Live}
use Rattle.space_txn.proofs.LiveLemmas.{AreRising, IsAt, here, number_stays, renewed_at, renewed_missing, rising_renewed}
use Rattle.space_txn.proofs.transactions.Transactions.renew.Goals as goal

pub returns-in_default : goal.returns-in_default
returns-in_default c = renewed_missing c.args.number c.args.end c.args.self.now c.in_default.ensures.none

pub invariant_of-self : goal.invariant_of-self
invariant_of-self c =
    let ps = c.self.inside.by_number.entries in
    let i = c.in-Some.place in
    let n = c.args.number in
    let end = c.args.end in
    let old = c.in-Some-get_index_mut.row.now in
    let at = sym c.in-Some-get_index_mut.ensures.value in
    let rising = c.self.invariant.rising in
    let within = subst (λ (ts : List Live). i < length ts) (sym c.self.view_is) c.in-Some.ensures.place in
    let found = subst (λ (ts : List Live). IsAt n ts i) (sym c.self.view_is) c.in-Some.ensures.found in
    let values = written_values (λ (t : Live). t.number) ps i old (renewed_row n end old) c.self.invariant.numbered at (number_stays n end old) in
    let rows = ap (λ (t : Live). set (values_of ps) i (renewed_row n end t)) (here (values_of ps) i old at) ∙ renewed_at n end (values_of ps) i old rising within found in
    rw c.renewed_row.ensures (record {
      numbered = written_numbered (λ (t : Live). t.number) ps i old (renewed_row n end old) c.self.invariant.numbered at (number_stays n end old);
      rising = subst AreRising (sym (values ∙ rows)) (rising_renewed n end (values_of ps) rising);
    })

pub returns : goal.returns
returns c =
    let ps = c.self.inside.by_number.entries in
    let i = c.in-Some.place in
    let n = c.args.number in
    let end = c.args.end in
    let old = c.in-Some-get_index_mut.row.now in
    let at = sym c.in-Some-get_index_mut.ensures.value in
    let within = subst (λ (ts : List Live). i < length ts) (sym c.self.view_is) c.in-Some.ensures.place in
    let found = subst (λ (ts : List Live). IsAt n ts i) (sym c.self.view_is) c.in-Some.ensures.found in
    let values = written_values (λ (t : Live). t.number) ps i old (renewed_row n end old) c.self.invariant.numbered at (number_stays n end old) in
    let rows = ap (λ (t : Live). set (values_of ps) i (renewed_row n end t)) (here (values_of ps) i old at) ∙ renewed_at n end (values_of ps) i old c.self.invariant.rising within found in
    rw c.renewed_row.ensures (values ∙ rows ∙ ap (renewed_rows n end) c.self.view_is)

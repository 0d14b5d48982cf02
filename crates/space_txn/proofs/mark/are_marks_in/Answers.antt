-- Nobody has marks where nobody holds an entry.
use Rattle.std.proofs.Common.{◌≡◌, List, sym, subst}
use Rattle.std.specs.Prelude.{◌↔◌, IsTrue}
use Rattle.space_txn.specs.declared.mark.Mark.{Mark}
use Rattle.space_txn.proofs.MarkLemmas.{marks_held}
use Rattle.space_txn.proofs.mark.are_marks_in.Goals as goal

pub returns : goal.returns
returns c =
    let same = marks_held c.args.number c.held.result.now c.args.space.now.entries c.held.ensures.rising c.held.ensures.held in
    subst (λ (l : List Mark). IsTrue c.are_marks_at.result ↔ (c.args.marks.now.items ≡ l)) (sym same) c.are_marks_at.ensures

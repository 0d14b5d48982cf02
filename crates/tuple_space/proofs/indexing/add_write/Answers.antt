use Rattle.std.proofs.Common.{◌+◌, ℕ, subst, sym, arith}
use Rattle.std.proofs.lemmas.Bool.{cond-false}
use Rattle.tuple_space.specs.Index.{AreUpTo}
use Rattle.tuple_space.proofs.IndexLemmas.{added_up}
use Rattle.tuple_space.proofs.indexing.add_write.Goals as goal

pub returns-clause-ordered : goal.returns-clause-ordered
returns-clause-ordered c =
    let x = c.args.write.now in
    let last = c.args.last in
    subst (λ (n : ℕ). AreUpTo n c.add_entry.new.buckets.items) (sym (cond-false x.taken last (last + 1) c.if-write.false))
    (added_up x.tuple last (last + 1) c.args.buckets.now.items c.add_entry.new.buckets.items (omega arith) c.in_ok-add_entry.ensures.put c.requires.ordered)

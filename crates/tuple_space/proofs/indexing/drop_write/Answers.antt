use Rattle.std.proofs.Common.{◌+◌, ◌∙◌, ap, eqb, sym}
use Rattle.std.specs.Prelude.{◌&&◌, not}
use Rattle.tuple_space.specs.Index.{has_class, is_put}
use Rattle.tuple_space.proofs.IndexLemmas.{dropped_order, dropped_put}
use Rattle.tuple_space.proofs.indexing.drop_write.Goals as goal

pub returns-clause-dropped : goal.returns-clause-dropped
returns-clause-dropped c = λ k n.
    let x = c.args.write.now in
    let number = c.args.last + 1 in
    let old = c.args.buckets.now.items in
    dropped_put x.tuple number old c.drop_entry.new.buckets.items c.drop_entry.ensures.dropped k n
    ∙ sym (ap (λ b. is_put k n old && not (not b && (has_class k x.tuple && eqb n number))) c.if-write.false)

pub returns-clause-ordered : goal.returns-clause-ordered
returns-clause-ordered c =
    dropped_order c.args.write.now.tuple (c.args.last + 1) c.args.buckets.now.items c.drop_entry.new.buckets.items c.drop_entry.ensures.dropped c.requires.ordered

use Rattle.std.proofs.Common.{◌∙◌, ap}
use Rattle.tuple_space.specs.Index.{list_at}
use Rattle.tuple_space.proofs.IndexLemmas.{list_at_push}
use Rattle.tuple_space.proofs.index.grow.Goals as goal

pub loop-alloc-preserved : goal.loop-alloc-preserved
loop-alloc-preserved c = λ k.
    ap (list_at k) c.in_ok-push.ensures.items ∙ list_at_push c.loop-alloc.lists.items k c.new.result c.new.ensures ∙ c.loop-alloc.invariant k

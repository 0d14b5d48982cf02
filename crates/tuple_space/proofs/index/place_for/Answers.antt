use Rattle.std.proofs.Common.{◌∙◌, ap, refl, subst, sym}
use Rattle.tuple_space.specs.Index.{AreOnce, numbers_of}
use Rattle.tuple_space.specs.declared.index.Bucket.{Bucket}
use Rattle.tuple_space.proofs.IndexLemmas.{numbers_push, once_push}
use Rattle.tuple_space.proofs.index.place_for.Goals as goal

pub returns-clause-same : goal.returns-clause-same
returns-clause-same c = λ k.
    let b : Bucket = record { word = c.in_ok-word.word; count = c.args.count; by_length = c.new-by_length.result; by_value = c.with_hasher-by_value.result } in
    ap (numbers_of k) c.in_ok-push.ensures.items ∙ numbers_push c.args.buckets.now.items b c.new-by_length.ensures.items c.with_hasher-by_value.ensures.empty k

pub returns-clause-once : goal.returns-clause-once
returns-clause-once c = λ once.
    let b : Bucket = record { word = c.in_ok-word.word; count = c.args.count; by_length = c.new-by_length.result; by_value = c.with_hasher-by_value.result } in
    let none = rw c.deref.ensures.value at c.in_default.ensures.none in
    subst AreOnce (sym c.in_ok-push.ensures.items) (once_push c.args.buckets.now.items b c.args.word.now c.args.count c.in_ok-word.ensures.items refl none once)

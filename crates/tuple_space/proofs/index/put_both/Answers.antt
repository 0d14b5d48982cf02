use Rattle.tuple_space.specs.Index.{list_at, list_under}
use Rattle.tuple_space.specs.declared.index.Bucket.{Bucket}
use Rattle.tuple_space.proofs.IndexLemmas.{put_at, put_slots}
use Rattle.tuple_space.proofs.index.put_both.Goals as goal

pub returns-in_default-clause-put : goal.returns-in_default-clause-put
returns-in_default-clause-put c =
    let old = c.args.bucket.now in
    let new : Bucket = record { word = old.word; count = old.count; by_length = c.put_number.new.lists; by_value = c.put_value.new.lists } in
    put_slots old new c.args.length c.args.value c.args.number
    (put_at (λ l. list_at l old.by_length.items) (λ l. list_at l new.by_length.items) c.args.length c.args.number c.in_ok-put_number.ensures.put c.in_ok-put_number.ensures.others)
    (put_at (λ v. list_under v old.by_value) (λ v. list_under v new.by_value) c.args.value c.args.number c.in_default.ensures.put c.in_default.ensures.others)

use Rattle.std.proofs.Common.{◌≡◌, ◌∷◌, ◌++◌, [], refl, subst}
use Rattle.std.specs.Prelude.{None, OnOk, Option, ℕ}
use Rattle.tuple_space.specs.Index.{IsPutIn, list_at}
use Rattle.tuple_space.specs.Slots.{second_length}
use Rattle.tuple_space.specs.declared.index.Bucket.{Bucket}
use Rattle.tuple_space.proofs.IndexLemmas.{ok_then, put_at, put_length}
use Rattle.tuple_space.proofs.index.put_in.Goals as goal

pub returns-in-None-clause-put : goal.returns-in-None-clause-put
returns-in-None-clause-put c =
    let old = c.args.bucket.now in
    let new : Bucket = record { word = old.word; count = old.count; by_length = c.put_number.new.lists; by_value = old.by_value } in
    let long = c.second_length-length.result in
    let n = c.args.number in
    let r = c.put_number.result in
    let put : OnOk r (IsPutIn long None n old new) =
    ok_then (list_at long new.by_length.items ≡ list_at long old.by_length.items ++ n ∷ []) (IsPutIn long None n old new) r
    (λ there. put_length old new long n (put_at (λ l. list_at l old.by_length.items) (λ l. list_at l new.by_length.items) long n there c.put_number.ensures.others) refl) c.put_number.ensures.put in
    subst (λ (o : Option ℕ). OnOk r (IsPutIn (second_length c.args.tuple.now) o n old new)) c.in-None.ensures
    (subst (λ (l : ℕ). OnOk r (IsPutIn l None n old new)) c.second_length-length.ensures put)

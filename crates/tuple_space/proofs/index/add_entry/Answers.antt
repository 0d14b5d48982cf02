use Rattle.std.proofs.Common.{◌≡◌, ◌∙◌, ◌∷◌, ◌++◌, [], ap, cond, false, length, subst, sym, true}
use Rattle.std.specs.List.{AllWithin, HoldsAt}
use Rattle.std.proofs.Math.ListN.{set}
use Rattle.std.proofs.lemmas.List.{length-map}
use Rattle.tuple_match.specs.Field.{field_value}
use Rattle.tuple_space.specs.Index.{AreSame, HasSame, IsAdded, IsPutIn, has_class, is_of}
use Rattle.tuple_space.specs.Slots.{second_length, second_value}
use Rattle.tuple_space.specs.declared.index.Bucket.{Bucket}
use Rattle.tuple_space.proofs.IndexLemmas.{IsFirstOf, added_classless, added_there, err_then, ok_then, once_set, same_there}
use Rattle.tuple_space.proofs.index.add_entry.Goals as goal

pub returns-clause-err : goal.returns-clause-err
returns-clause-err c =
    let buckets = c.place_for.new.buckets.items in
    let i = c.in_ok-place.place in
    let b = c.index_mut.result.now in
    let bytes = c.in-Some.word.now in
    let counted : length c.fields.result.now ≡ length c.args.tuple.now = sym (length-map c.fields.result.now field_value) ∙ ap length c.fields.ensures.value in
    let is = c.index_mut.ensures.value in
    let first : IsFirstOf bytes (length c.args.tuple.now) buckets i b = record {
      within = c.in_ok-place.ensures.place;
      is = is;
      of = ap (is_of bytes (length c.args.tuple.now)) is ∙ subst (λ n. HoldsAt (λ (x : Bucket). is_of bytes n x ≡ true) buckets i) counted c.in_ok-place.ensures.is b;
      before = subst (λ n. AllWithin (λ (x : Bucket). is_of bytes n x ≡ false) buckets 0 i) counted c.in_ok-place.ensures.before;
    } in
    let new = c.put_in.new.bucket in
    err_then (HasSame b new) (AreSame c.args.buckets.now.items (set buckets i new)) c.put_in.result
    (λ same k. same_there buckets i b new c.args.tuple.now bytes c.in-Some.ensures first c.put_in.ensures.key same k ∙ c.place_for.ensures.same k) c.put_in.ensures.err

pub returns-clause-once : goal.returns-clause-once
returns-clause-once c = λ once.
    once_set c.place_for.new.buckets.items c.in_ok-place.place c.index_mut.result.now c.put_in.new.bucket c.index_mut.ensures.value c.put_in.ensures.key (c.place_for.ensures.once once)

pub returns-clause-put : goal.returns-clause-put
returns-clause-put c =
    let buckets = c.place_for.new.buckets.items in
    let i = c.in_ok-place.place in
    let b = c.index_mut.result.now in
    let bytes = c.in-Some.word.now in
    let counted : length c.fields.result.now ≡ length c.args.tuple.now = sym (length-map c.fields.result.now field_value) ∙ ap length c.fields.ensures.value in
    let is = c.index_mut.ensures.value in
    let first : IsFirstOf bytes (length c.args.tuple.now) buckets i b = record {
      within = c.in_ok-place.ensures.place;
      is = is;
      of = ap (is_of bytes (length c.args.tuple.now)) is ∙ subst (λ n. HoldsAt (λ (x : Bucket). is_of bytes n x ≡ true) buckets i) counted c.in_ok-place.ensures.is b;
      before = subst (λ n. AllWithin (λ (x : Bucket). is_of bytes n x ≡ false) buckets 0 i) counted c.in_ok-place.ensures.before;
    } in
    let new = c.put_in.new.bucket in
    let tuple = c.args.tuple.now in
    let n = c.args.number in
    ok_then (IsPutIn (second_length tuple) (second_value tuple) n b new) (IsAdded tuple n c.args.buckets.now.items (set buckets i new)) c.put_in.result
    (λ put k. added_there buckets i b new tuple bytes c.in-Some.ensures first c.put_in.ensures.key n put k
    ∙ ap (λ l. l ++ cond (has_class k tuple) (n ∷ []) []) (c.place_for.ensures.same k)) c.put_in.ensures.put

pub returns-in_default-clause-put : goal.returns-in_default-clause-put
returns-in_default-clause-put c = added_classless c.args.buckets.now.items c.args.tuple.now c.args.number c.in_default.ensures

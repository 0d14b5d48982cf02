use Rattle.std.proofs.Common.{◌≡◌, ◌∙◌, ap, false, length, subst, sym, true}
use Rattle.std.proofs.lemmas.List.{length-map}
use Rattle.std.specs.List.{AllWithin, HoldsAt}
use Rattle.std.specs.Prelude.{All}
use Rattle.tuple_match.specs.Field.{field_value}
use Rattle.tuple_space.specs.Index.{is_of}
use Rattle.tuple_space.specs.declared.index.Bucket.{Bucket}
use Rattle.tuple_space.proofs.IndexLemmas.{IsFirstOf, dropped_classless, dropped_nowhere, dropped_there, once_set, rising_there}
use Rattle.tuple_space.proofs.index.drop_entry.Goals as goal

pub returns-in_default-clause-dropped : goal.returns-in_default-clause-dropped
returns-in_default-clause-dropped c = dropped_classless c.args.buckets.now.items c.args.tuple.now c.args.number c.in_default.ensures

pub take_from-requires : goal.take_from-requires
take_from-requires c =
    let bytes = c.in-Some.word.now in
    let counted : length c.fields.result.now ≡ length c.args.tuple.now = sym (length-map c.fields.result.now field_value) ∙ ap length c.fields.ensures.value in
    let buckets = c.args.buckets.now.items in
    let i = c.in-Some-place_of_bucket.place in
    let b = c.index_mut.result.now in
    let is = c.index_mut.ensures.value in
    let found = rw c.deref.ensures.value at c.in-Some-place_of_bucket.ensures in
    let first : IsFirstOf bytes (length c.args.tuple.now) buckets i b = record {
      within = found.place;
      is = is;
      of = ap (is_of bytes (length c.args.tuple.now)) is ∙ subst (λ n. HoldsAt (λ (x : Bucket). is_of bytes n x ≡ true) buckets i) counted found.is b;
      before = subst (λ n. AllWithin (λ (x : Bucket). is_of bytes n x ≡ false) buckets 0 i) counted found.before;
    } in
    rising_there buckets i b bytes (length c.args.tuple.now) first c.requires

pub returns-in-Some-place_of_bucket-clause-dropped : goal.returns-in-Some-place_of_bucket-clause-dropped
returns-in-Some-place_of_bucket-clause-dropped c =
    let bytes = c.in-Some.word.now in
    let counted : length c.fields.result.now ≡ length c.args.tuple.now = sym (length-map c.fields.result.now field_value) ∙ ap length c.fields.ensures.value in
    let buckets = c.args.buckets.now.items in
    let i = c.in-Some-place_of_bucket.place in
    let b = c.index_mut.result.now in
    let is = c.index_mut.ensures.value in
    let found = rw c.deref.ensures.value at c.in-Some-place_of_bucket.ensures in
    let first : IsFirstOf bytes (length c.args.tuple.now) buckets i b = record {
      within = found.place;
      is = is;
      of = ap (is_of bytes (length c.args.tuple.now)) is ∙ subst (λ n. HoldsAt (λ (x : Bucket). is_of bytes n x ≡ true) buckets i) counted found.is b;
      before = subst (λ n. AllWithin (λ (x : Bucket). is_of bytes n x ≡ false) buckets 0 i) counted found.before;
    } in
    dropped_there buckets i b c.take_from.new.bucket c.args.tuple.now bytes c.in-Some.ensures first c.take_from.ensures.key c.args.number c.take_from.ensures.taken

pub returns-in-Some-place_of_bucket-clause-once : goal.returns-in-Some-place_of_bucket-clause-once
returns-in-Some-place_of_bucket-clause-once c = λ once.
    once_set c.args.buckets.now.items c.in-Some-place_of_bucket.place c.index_mut.result.now c.take_from.new.bucket c.index_mut.ensures.value c.take_from.ensures.key once

pub returns-in_default-place_of_bucket-clause-dropped : goal.returns-in_default-place_of_bucket-clause-dropped
returns-in_default-place_of_bucket-clause-dropped c =
    let bytes = c.in-Some.word.now in
    let counted : length c.fields.result.now ≡ length c.args.tuple.now = sym (length-map c.fields.result.now field_value) ∙ ap length c.fields.ensures.value in
    let none = rw c.deref.ensures.value at c.in_default-place_of_bucket.ensures.none in
    dropped_nowhere c.args.buckets.now.items c.args.tuple.now c.args.number bytes c.in-Some.ensures (subst (λ n. All (λ (x : Bucket). is_of bytes n x ≡ false) c.args.buckets.now.items) counted none)

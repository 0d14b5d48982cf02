use Rattle.std.proofs.Common.{◌≡◌, ℕ, eqb, sym, subst}
use Rattle.std.specs.Prelude.{◌&&◌, Option, filter, not}
use Rattle.tuple_space.specs.Index.{list_at, list_under}
use Rattle.tuple_space.specs.Slots.{is_value}
use Rattle.tuple_space.specs.declared.index.Bucket.{Bucket}
use Rattle.tuple_space.specs.declared.index.Slot.TheVariants.{Length, Value}
use Rattle.tuple_space.proofs.IndexLemmas.{filter_all, taken_at, taken_slots}
use Rattle.tuple_space.proofs.index.take_from.Goals as goal

pub take_number-requires : goal.take_number-requires
take_number-requires c = c.requires (Length c.second_length.result)

pub take_value-requires : goal.take_value-requires
take_value-requires c = c.requires (Value c.in-Some.value)

pub returns-in-Some-clause-taken : goal.returns-in-Some-clause-taken
returns-in-Some-clause-taken c =
    let old = c.args.bucket.now in
    let new : Bucket = record { word = old.word; count = old.count; by_length = c.take_number.new.lists; by_value = c.take_value.new.lists } in
    let n = c.args.number in
    taken_slots c.args.tuple.now n old new
    (subst (λ (p : ℕ). (l : ℕ) → list_at l new.by_length.items ≡ filter (λ m. not (eqb p l && eqb m n)) (list_at l old.by_length.items)) c.second_length.ensures
    (taken_at (λ l. list_at l old.by_length.items) (λ l. list_at l new.by_length.items) c.second_length.result n c.take_number.ensures.gone c.take_number.ensures.others))
    (subst (λ (o : Option ℕ). (v : ℕ) → list_under v new.by_value ≡ filter (λ m. not (is_value o v && eqb m n)) (list_under v old.by_value)) c.in-Some.ensures
    (taken_at (λ v. list_under v old.by_value) (λ v. list_under v new.by_value) c.in-Some.value n c.take_value.ensures.gone c.take_value.ensures.others))

pub returns-in_default-clause-taken : goal.returns-in_default-clause-taken
returns-in_default-clause-taken c =
    let old = c.args.bucket.now in
    let new : Bucket = record { word = old.word; count = old.count; by_length = c.take_number.new.lists; by_value = old.by_value } in
    let n = c.args.number in
    taken_slots c.args.tuple.now n old new
    (subst (λ (p : ℕ). (l : ℕ) → list_at l new.by_length.items ≡ filter (λ m. not (eqb p l && eqb m n)) (list_at l old.by_length.items)) c.second_length.ensures
    (taken_at (λ l. list_at l old.by_length.items) (λ l. list_at l new.by_length.items) c.second_length.result n c.take_number.ensures.gone c.take_number.ensures.others))
    (subst (λ (o : Option ℕ). (v : ℕ) → list_under v new.by_value ≡ filter (λ m. not (is_value o v && eqb m n)) (list_under v old.by_value)) c.in_default.ensures
    (λ v. sym (filter_all (list_under v old.by_value))))

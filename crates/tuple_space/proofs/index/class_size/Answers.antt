use Rattle.std.proofs.Common.{◌∙◌, ap, length, sym}
use Rattle.tuple_space.specs.Index.{Class, class_of, is_of, list_at}
use Rattle.tuple_space.specs.declared.index.Bucket.{Bucket}
use Rattle.tuple_space.proofs.IndexLemmas.{IsFirstOf, numbers_none, numbers_there}
use Rattle.tuple_space.proofs.index.class_size.Goals as goal

pub returns-in_default : goal.returns-in_default
returns-in_default c =
    ap length (sym (numbers_none (class_of c.args.word.now c.args.count c.args.numbers) c.args.buckets.now c.in_default.ensures.none))

pub returns : goal.returns
returns c =
    let buckets = c.args.buckets.now in
    let bytes = c.args.word.now in
    let class : Class = class_of bytes c.args.count c.args.numbers in
    let place = c.in-Some.place in
    let b = c.index-buckets-place.result in
    let is = c.index-buckets-place.is in
    let first : IsFirstOf bytes c.args.count buckets place b = record {
      within = c.in-Some.ensures.place;
      is = is;
      of = ap (is_of bytes c.args.count) is ∙ c.in-Some.ensures.is b;
      before = c.in-Some.ensures.before;
    } in
    let counted = rw c.deref.ensures.value at c.count_at.ensures in
    counted ∙ ap (λ (x : Bucket). length (list_at c.args.numbers x.by_length.items)) (sym is) ∙ ap length (sym (numbers_there class bytes c.args.count buckets place b first first.of))

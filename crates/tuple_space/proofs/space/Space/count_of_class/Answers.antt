use Rattle.std.proofs.Common.{◌∙◌, ap, count_by}
use Rattle.tuple_space.specs.Index.{class_of, has_class}
use Rattle.tuple_space.specs.Space.{SpaceValue}
use Rattle.tuple_space.specs.declared.entry.Entry.{Entry}
use Rattle.tuple_space.proofs.ClassLemmas.{class_counted}
use Rattle.tuple_space.proofs.space.Space.count_of_class.Goals as goal

pub returns : goal.returns
returns c =
    let s = c.self.inside in
    let class = class_of c.args.word.now c.args.fields c.args.numbers in
    let spelled = rw c.as_bytes.ensures.value at c.class_size.ensures in
    let stands = rw c.deref.ensures.value at spelled in
    stands ∙ class_counted class s.buckets.items s.entries.items c.self.invariant.2 c.self.invariant.0.rising
    ∙ ap (λ (w : SpaceValue). count_by (λ (e : Entry). has_class class e.tuple) w.entries) c.self.view_is

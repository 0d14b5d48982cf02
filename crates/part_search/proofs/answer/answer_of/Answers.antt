use Rattle.std.proofs.Common.{◌≡◌, ℤ, length, to_z, of_z, rules, subst, sym}
use Rattle.std.specs.Int.{w128}
use Rattle.shared_space.specs.Law.{Content}
use Rattle.space_txn.specs.Content.{content_of}
use Rattle.part_search.specs.Answer.{IsAnswer, SurveysFirst}
use Rattle.part_search.specs.Ran.{IsReadFrom}
use Rattle.part_search.proofs.Answers.{answered, read_from}
use Rattle.part_search.proofs.answer.answer_of.Goals as goal

pub returns-clause-answer : goal.returns-clause-answer
returns-clause-answer c = λ S same searched.
    let bound : to_z w128 (of_z w128 c.lesser-bound.result) ≡ c.lesser-bound.result = search rules in
    let s = c.in_ok-best.field-0 in
    let surveyed = subst (λ (l : Content). SurveysFirst c.args.instance.now l (length l) s) c.deref.ensures.value (c.in_ok-best.ensures {u = tt}) in
    subst (λ (g : ℤ). IsAnswer S (record { best = c.in-Some.best; bound = g; nodes = c.commits-nodes.result; open_nodes = s.open_nodes })) (sym bound)
    (answered c.commits-nodes.result S c.args.instance.now _ c.in-Ok.tuples.items s c.in-Some.best c.lesser-bound.result same c.in-Ok.ensures.ok searched surveyed c.in-Some.is c.lesser-bound.ensures.below c.lesser-bound.ensures.least c.lesser-bound.ensures.none)

pub returns-clause-read : goal.returns-clause-read
returns-clause-read c =
    let bound : to_z w128 (of_z w128 c.lesser-bound.result) ≡ c.lesser-bound.result = search rules in
    let content = content_of c.args.space in
    let s = c.in_ok-best.field-0 in
    let surveyed = subst (λ (l : Content). SurveysFirst c.args.instance.now l (length l) s) c.deref.ensures.value (c.in_ok-best.ensures {u = tt}) in
    subst (λ (g : ℤ). IsReadFrom content (record { best = c.in-Some.best; bound = g; nodes = c.commits-nodes.result; open_nodes = s.open_nodes })) (sym bound)
    (read_from c.commits-nodes.result c.args.instance.now _ c.in-Ok.tuples.items s c.in-Some.best c.lesser-bound.result c.in-Ok.ensures.ok surveyed c.in-Some.is c.lesser-bound.ensures.least)

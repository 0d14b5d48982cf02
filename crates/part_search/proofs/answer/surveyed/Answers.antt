use Rattle.std.proofs.Common.{◌≡◌, ◌<◌, false, rules, sym, ◌∙◌, ap, length, to_z, of_z}
use Rattle.std.specs.Prelude.{List}
use Rattle.std.specs.Int.{w128}
use Rattle.tuple_match.specs.Matching.{does_match}
use Rattle.tuple_match.specs.PatternValue.{PatternValue}
use Rattle.part_search.specs.Tuples.{is_open}
use Rattle.part_search.proofs.Answers.{survey_best, survey_none, survey_value}
use Rattle.part_search.proofs.Lists.{any_default}
use Rattle.part_search.proofs.answer.surveyed.Goals as goal
use Rattle.part_search.proofs.answer.surveyed.Goals.{then-matches, else-matches+in_ok-best+in-Some, else-matches+in_ok-best+in_default}

pub loop-i-preserved : goal.loop-i-preserved
loop-i-preserved c =
    let I = c.args.instance.now in
    let tuples = c.args.tuples.now in
    let i = c.loop-i.i in
    let t = c.index-tuples-i.result in
    let inside : i < length tuples = c.loop-i-test.true in
    elim c.if-matches.branch [
      | then-matches w ↦
          let u = w.index-tuples-i-then-matches in
          let same : to_z w128 (of_z w128 w.value_of.result) ≡ w.value_of.result = search rules in
          let kept = survey_value I tuples i u.result _ c.loop-i.all w.with_value-all.result u.is inside (λ o here. same ∙ w.value_of.ensures o here) w.with_value-all.ensures.best w.with_value-all.ensures.least w.with_value-all.ensures.some c.loop-i.invariant in
          rw w.all-is kept
      | else-matches+in_ok-best+in-Some w ↦
          let closed : is_open t ≡ false = sym ((w.if-matches.ensures {u = tt}).test ∙ ap (λ (p : List PatternValue). does_match p t) (c.in_ok-template.ensures {u = tt})) in
          let u = w.index-tuples-i-else-matches in
          let found = rw w.in-Some.is at (w.in_ok-best.ensures {u = tt}) in
          let here = u.is ∙ any_default tuples i u.result t inside ∙ sym c.index-tuples-i.is in
          survey_best I tuples i t w.in-Some.best c.loop-i.all c.if-matches.all c.index-tuples-i.is inside closed (found.0 ∙ here) found.1 (w.all-is ∙ w.with_best-all.ensures) c.loop-i.invariant
      | else-matches+in_ok-best+in_default w ↦
          let closed : is_open t ≡ false = sym ((w.if-matches.ensures {u = tt}).test ∙ ap (λ (p : List PatternValue). does_match p t) (c.in_ok-template.ensures {u = tt})) in
          survey_none I tuples i t c.loop-i.all c.if-matches.all c.index-tuples-i.is inside closed w.all-is c.loop-i.invariant
    ]

use Rattle.std.proofs.Common.{◌≡◌, ◌+◌, ◌++◌, List, [], ℤ, ℕ, pos, refl, subst, sym, drop, get_or, map, rules, string_bytes, to_z, of_z}
use Rattle.std.specs.Int.{w128}
use Rattle.std.proofs.lemmas.Int.{ints}
use Rattle.std.proofs.lemmas.List.{append-nil, drop_all}
use Rattle.plan_table.specs.Spelling.{Spells}
use Rattle.plan_answer.specs.Answer.{cost_scale}
use Rattle.plan_answer.specs.Listing.{ArePairLines}
use Rattle.plan_answer.specs.declared.pairs.Pair.{Pair}
use Rattle.plan_answer.proofs.PairLines.{GoesBefore, one_more}
use Rattle.plan_answer.proofs.listing.pair_lines.Goals as goal

pub loop-pair-init : goal.loop-pair-init
loop-pair-init c =
    let names = map string_bytes c.args.problem.now.departments.items in
    λ rest lines. subst (λ (text : List ℕ). ArePairLines names (cost_scale c.args.problem.now) c.args.pairs.now (text ++ rest)) (sym c.new-text.ensures.items) lines

pub loop-pair-preserved : goal.loop-pair-preserved
loop-pair-preserved c =
    let names = map string_bytes c.args.problem.now.departments.items in
    let scale = cost_scale c.args.problem.now in
    let pairs = c.args.pairs.now in
    let none : Pair = record { from = 0; to = 0; cost = pos 0 } in
    let x : Pair = get_or pairs c.loop-pair.pair-index none in
    let same : to_z w128 (of_z w128 c.from.result) ≡ x.cost = search (rules, ints) in
    let spelled : Spells c.deref.result.now x.cost scale = subst (λ (z : ℤ). Spells c.deref.result.now z scale) same (rw c.deref.ensures.value c.in_ok-cost.ensures) in
    let more = one_more names scale pairs c.loop-pair.pair-index none c.loop-pair.text.items _ _ _ c.loop-pair-test.true c.department_name-from.ensures c.department_name-to.ensures spelled c.loop-pair.invariant in
    subst (GoesBefore names scale pairs (drop (c.loop-pair.pair-index + 1) pairs)) (sym c.in_ok-push_pair.ensures) more

pub returns : goal.returns
returns c =
    let names = map string_bytes c.args.problem.now.departments.items in
    let scale = cost_scale c.args.problem.now in
    let pairs = c.args.pairs.now in
    let over : drop c.loop-pair.pair-index pairs ≡ [] = search (rules, drop_all) in
    subst (ArePairLines names scale pairs) (append-nil c.loop-pair.text.items) (c.loop-pair.invariant [] (subst (λ (ys : List Pair). ArePairLines names scale ys []) (sym over) refl))

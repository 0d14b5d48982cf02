use Rattle.std.proofs.Common.{drop, map, string_bytes}
use Rattle.plan_answer.specs.Answer.{cost_scale}
use Rattle.plan_answer.proofs.PairLines.{GoesBefore}
use Rattle.plan_answer.proofs.listing.pair_lines.Given as goal

abbrev pub invariant-loop-pair : goal.invariant-loop-pair
invariant-loop-pair l = GoesBefore (map string_bytes l.problem.departments.items) (cost_scale l.problem) l.pairs (drop l.pair-index l.pairs) l.text.items

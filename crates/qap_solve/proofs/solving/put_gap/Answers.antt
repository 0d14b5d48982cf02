use Rattle.std.proofs.Common.{◌≡◌, ◌∙◌, subst, rules, to_z, of_z}
use Rattle.std.specs.Int.{w128}
use Rattle.std.specs.Io.KnownBytes.{Appends}
use Rattle.qap_io.specs.Writing.{AppendsBeginning}
use Rattle.qap_text.specs.WrittenSolution.{solution_text}
use Rattle.qap_text.specs.Gap.{gap_line}
use Rattle.qap_solve.proofs.Unwritten.{sends_behind, stops_before}
use Rattle.qap_solve.proofs.solving.put_gap.Goals as goal

pub returns-in-Ok-put : goal.returns-in-Ok-put
returns-in-Ok-put g c =
    let C = c.args.certificate.now in
    let first = gap_line C.bound C.cost in
    let contents = g.W.Write.contents in
    let old = c.args.writer.now in
    let middle = c.put.new.writer in
    let is : c.as_bytes.result.now ≡ first = c.as_bytes.ensures.value ∙ c.in-Ok.ensures in
    let wrote = c.in-Ok-put.ensures in
    let kept : middle.failures ≡ old.failures = wrote.count in
    let same : to_z w128 (of_z w128 c.cost.result) ≡ c.cost.result = search rules in
    let sent = rw (same, c.cost.ensures.value, c.perm.ensures.value) at c.put_solution.ensures in
    sends_behind contents old middle c.put_solution.new.writer first (solution_text C.cost C.permutation) c.put_solution.result
    (subst (Appends (contents old.inner) (contents middle.inner)) is wrote.whole) kept sent

pub returns : goal.returns
returns g c =
    let C = c.args.certificate.now in
    let first = gap_line C.bound C.cost in
    let contents = g.W.Write.contents in
    let old = c.args.writer.now in
    let new = c.put.new.writer in
    let is : c.as_bytes.result.now ≡ first = c.as_bytes.ensures.value ∙ c.in-Ok.ensures in
    let stopped = c.in-Err.ensures in
    stops_before contents old new first (solution_text C.cost C.permutation) (subst (AppendsBeginning (contents old.inner) (contents new.inner)) is stopped.beginning) stopped.failed

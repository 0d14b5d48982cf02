use Rattle.std.proofs.Common.{◌++◌, ◌∷◌, [], length, pos, ℤ, to_z, of_z, subst}
use Rattle.std.specs.Int.{w128}
use Rattle.std.specs.Prelude.{codes}
use Rattle.std.proofs.lemmas.Int.{to_z-of_z}
use Rattle.qap_io.specs.Number.{from_one}
use Rattle.qap_lines.specs.LineText.{line_text, head_text}
use Rattle.qap_lines.specs.Writing.{Writes}
use Rattle.qap_lines.proofs.WrittenTexts.{HasWritten-then, HasStopped-then, HasStopped-longer, Writes-then, fails_with}
use Rattle.qap_lines.proofs.writing.write_head.Goals as goal

pub returns-in_err-write_version : goal.returns-in_err-write_version
returns-in_err-write_version g c =
    let p = c.args.perm.now in
    let first = line_text c.args.name.now (pos c.args.version ∷ []) in
    let size = line_text (codes "n") (pos (length p) ∷ []) in
    let cost = line_text (codes "cost") (c.args.cost ∷ []) in
    let permutation = line_text (codes "perm") (from_one p) in
    let contents = g.W.Write.contents in
    let old = c.args.writer.now in
    let new = c.write_version.new.writer in
    let e = c.in_err-write_version.field-0.0 in
    let longer = HasStopped-longer contents old new in
    fails_with contents old new (first ++ size ++ cost ++ permutation) c.from_residual.result e c.from_residual.ensures.1
    (longer (first ++ size ++ cost) permutation e (longer (first ++ size) cost e (longer first size e c.in_err-write_version.ensures)))

pub returns-in_err-write_size : goal.returns-in_err-write_size
returns-in_err-write_size g c =
    let p = c.args.perm.now in
    let first = line_text c.args.name.now (pos c.args.version ∷ []) in
    let size = line_text (codes "n") (pos (length p) ∷ []) in
    let cost = line_text (codes "cost") (c.args.cost ∷ []) in
    let permutation = line_text (codes "perm") (from_one p) in
    let contents = g.W.Write.contents in
    let old = c.args.writer.now in
    let new = c.write_size.new.writer in
    let e = c.in_err-write_size.field-0.0 in
    let stopped = HasStopped-then contents old c.write_version.new.writer new first size e c.in_ok-write_version.ensures c.in_err-write_size.ensures in
    let longer = HasStopped-longer contents old new in
    fails_with contents old new (first ++ size ++ cost ++ permutation) c.from_residual-in_err-write_size.result e c.from_residual-in_err-write_size.ensures.1
    (longer (first ++ size ++ cost) permutation e (longer (first ++ size) cost e stopped))

pub returns-in_err-write_cost : goal.returns-in_err-write_cost
returns-in_err-write_cost g c =
    let p = c.args.perm.now in
    let first = line_text c.args.name.now (pos c.args.version ∷ []) in
    let size = line_text (codes "n") (pos (length p) ∷ []) in
    let stated = to_z w128 (of_z w128 c.args.cost) in
    let cost = line_text (codes "cost") (stated ∷ []) in
    let permutation = line_text (codes "perm") (from_one p) in
    let contents = g.W.Write.contents in
    let old = c.args.writer.now in
    let middle = c.write_size.new.writer in
    let new = c.write_cost.new.writer in
    let e = c.in_err-write_cost.field-0.0 in
    let two = HasWritten-then contents old c.write_version.new.writer middle first size c.in_ok-write_version.ensures c.in_ok-write_size.ensures in
    let stopped = HasStopped-then contents old middle new (first ++ size) cost e two c.in_err-write_cost.ensures in
    let r = c.from_residual-in_err-write_cost.result in
    subst (λ (z : ℤ). Writes contents old new (head_text c.args.name.now c.args.version z p) r) (to_z-of_z w128 c.args.cost c.ranges.cost)
    (fails_with contents old new (first ++ size ++ cost ++ permutation) r e c.from_residual-in_err-write_cost.ensures.1
    (HasStopped-longer contents old new (first ++ size ++ cost) permutation e stopped))

pub returns : goal.returns
returns g c =
    let p = c.args.perm.now in
    let first = line_text c.args.name.now (pos c.args.version ∷ []) in
    let size = line_text (codes "n") (pos (length p) ∷ []) in
    let stated = to_z w128 (of_z w128 c.args.cost) in
    let cost = line_text (codes "cost") (stated ∷ []) in
    let permutation = line_text (codes "perm") (from_one p) in
    let contents = g.W.Write.contents in
    let old = c.args.writer.now in
    let middle = c.write_size.new.writer in
    let last = c.write_cost.new.writer in
    let new = c.write_permutation.new.writer in
    let two = HasWritten-then contents old c.write_version.new.writer middle first size c.in_ok-write_version.ensures c.in_ok-write_size.ensures in
    let three = HasWritten-then contents old middle last (first ++ size) cost two c.in_ok-write_cost.ensures in
    let r = c.write_permutation.result in
    subst (λ (z : ℤ). Writes contents old new (head_text c.args.name.now c.args.version z p) r) (to_z-of_z w128 c.args.cost c.ranges.cost)
    (Writes-then contents old last new (first ++ size ++ cost) permutation r three c.write_permutation.ensures)

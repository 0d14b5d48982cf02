use Rattle.std.proofs.Common.{◌++◌}
use Rattle.qap_lines.proofs.WrittenTexts.{HasStopped-longer, Writes-then, fails_with}
use Rattle.qap_cert.specs.Text.{head_text, bound_text}
use Rattle.qap_cert.specs.declared.version.Version.TheVariants.{Second}
use Rattle.qap_cert.proofs.writing.write_front.Goals as goal

pub returns-in_err-write_first : goal.returns-in_err-write_first
returns-in_err-write_first g c =
    let C = c.args.certificate.now in
    let old = c.args.writer.now in
    let new = c.write_first.new.writer in
    let contents = g.W.Write.contents in
    let e = c.in_err-write_first.field-0.0 in
    let head = head_text Second C in
    let line = bound_text C.cost C.bound in
    fails_with contents old new (head ++ line) c.from_residual.result e c.from_residual.ensures.1 (HasStopped-longer contents old new head line e c.in_err-write_first.ensures)

pub returns : goal.returns
returns g c =
    let C = c.args.certificate.now in
    Writes-then g.W.Write.contents c.args.writer.now c.write_first.new.writer c.write_bound_line.new.writer (head_text Second C) (bound_text C.cost C.bound) c.write_bound_line.result c.in_ok-write_first.ensures c.write_bound_line.ensures

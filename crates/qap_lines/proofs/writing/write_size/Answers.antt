use Rattle.std.proofs.Common.{◌∙◌, pos, to_z, ap, arith}
use Rattle.std.specs.Int.{w128}
use Rattle.std.specs.Prelude.{codes}
use Rattle.std.proofs.lemmas.Int.{to_z_pos}
use Rattle.qap_lines.proofs.WrittenTexts.{writes_number}
use Rattle.qap_lines.proofs.writing.write_size.Goals as goal

pub returns : goal.returns
returns g c =
    let size = c.len.result in
    writes_number g.W.Write.contents c.args.writer.now c.write_one.new.writer (codes "n") c.write_one.result (to_z w128 size) _ (to_z_pos w128 size (omega arith) ∙ ap pos c.len.ensures.value) c.write_one.ensures

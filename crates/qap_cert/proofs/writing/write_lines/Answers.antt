use Rattle.std.proofs.Common.{◌++◌, List, ap, subst}
use Rattle.std.specs.Prelude.{codes, ℕ}
use Rattle.qap_lines.specs.Writing.{HasWritten, HasStopped}
use Rattle.qap_lines.proofs.WrittenTexts.{HasWritten-then, HasStopped-longer, Writes-then, fails_with, stops_in}
use Rattle.qap_cert.specs.Certificate.{Claim}
use Rattle.qap_cert.specs.Text.{head_text, bound_text, tree_text}
use Rattle.qap_cert.specs.declared.version.Version.TheVariants.{Second}
use Rattle.qap_cert.proofs.writing.write_lines.Goals as goal

-- the lines before the tree
abbrev front_of : Claim → List ℕ
front_of C = head_text Second C ++ bound_text C.cost C.bound

pub returns-in_err-write_front : goal.returns-in_err-write_front
returns-in_err-write_front g c =
    let C = c.args.certificate.now in
    let tree = tree_text Second C.tree in
    let contents = g.W.Write.contents in
    let old = c.args.writer.now in
    let new = c.write_front.new.writer in
    let e = c.in_err-write_front.field-0.0 in
    fails_with contents old new (front_of C ++ tree ++ codes "end\n") c.from_residual.result e c.from_residual.ensures.1
    (HasStopped-longer contents old new (front_of C ++ tree) (codes "end\n") e (HasStopped-longer contents old new (front_of C) tree e c.in_err-write_front.ensures))

pub returns-in_err-write_tree : goal.returns-in_err-write_tree
returns-in_err-write_tree g c =
    let C = c.args.certificate.now in
    let contents = g.W.Write.contents in
    let middle = c.write_front.new.writer in
    let new = c.write_tree.new.writer in
    let e = c.in_err-write_tree.field-0.0 in
    let stopped = subst (λ (l : List ℕ). HasStopped contents middle new l e) (ap (tree_text Second) c.tree.ensures.value) c.in_err-write_tree.ensures in
    stops_in contents c.args.writer.now middle new (front_of C) (tree_text Second C.tree) (codes "end\n") c.from_residual-in_err-write_tree.result e c.from_residual-in_err-write_tree.ensures.1 c.in_ok-write_front.ensures stopped

pub returns : goal.returns
returns g c =
    let C = c.args.certificate.now in
    let contents = g.W.Write.contents in
    let old = c.args.writer.now in
    let middle = c.write_front.new.writer in
    let last = c.write_tree.new.writer in
    let tree = subst (λ (l : List ℕ). HasWritten contents middle last l) (ap (tree_text Second) c.tree.ensures.value) c.in_ok-write_tree.ensures in
    Writes-then contents old last c.write_text.new.writer (front_of C ++ tree_text Second C.tree) (codes "end\n") c.write_text.result
    (HasWritten-then contents old middle last (front_of C) (tree_text Second C.tree) c.in_ok-write_front.ensures tree) c.write_text.ensures

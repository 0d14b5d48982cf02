use Rattle.std.proofs.Common.{◌++◌, sym, subst, Bool}
use Rattle.qap_cert.specs.Text.{certificate_text}
use Rattle.qap_cert.specs.declared.version.Version.TheVariants.{Second}
use Rattle.qap_text.specs.WrittenSolution.{solution_text}
use Rattle.qap_solve.specs.Solution.{IsStoppedOutput}
use Rattle.qap_text.specs.Gap.{gap_line}
use Rattle.qap_solve.proofs.Texts.{gap_proof_text, gap_text}
use Rattle.qap_solve.proofs.solving.put_stopped.Goals as goal

pub returns-then-cert : goal.returns-then-cert
returns-then-cert g c = λ nodes stopped.
    let I = c.args.instance.now in
    let C = c.args.certificate.now in
    let none = c.certified_law.ensures.bound I C c.instance_law.ensures stopped.certified in
    let text = certificate_text Second C in
    (text, subst (λ (b : Bool). IsStoppedOutput b I nodes text) (sym c.if-cert.true) (gap_proof_text I nodes C stopped none), c.put_certificate.ensures)

pub returns-else-cert : goal.returns-else-cert
returns-else-cert g c = λ nodes stopped.
    let I = c.args.instance.now in
    let C = c.args.certificate.now in
    let none = c.certified_law.ensures.bound I C c.instance_law.ensures stopped.certified in
    let text = gap_line C.bound C.cost ++ solution_text C.cost C.permutation in
    (text, subst (λ (b : Bool). IsStoppedOutput b I nodes text) (sym c.if-cert.false) (gap_text I nodes C stopped none), c.put_gap.ensures)

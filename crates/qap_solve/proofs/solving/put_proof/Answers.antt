use Rattle.qap_cert.specs.Text.{certificate_text}
use Rattle.qap_cert.specs.declared.version.Version.TheVariants.{Second}
use Rattle.qap_solve.proofs.Texts.{proof_text}
use Rattle.qap_solve.proofs.solving.put_proof.Goals as goal

pub returns : goal.returns
returns g c = λ nodes shape by.
    let I = c.args.instance.now in
    let C = c.args.certificate.now in
    let least = c.certified_law.ensures.least I C c.instance_law.ensures shape by.certified by.closed in
    (certificate_text Second C, proof_text I nodes C shape by least, c.put_certificate.ensures)

use Rattle.qap_proof.proofs.Roots.{IsRooted-none, IsRooted-some}
use Rattle.qap_proof.proofs.root.read_root.Goals as goal

pub returns-in_ok-root-in-None : goal.returns-in_ok-root-in-None
returns-in_ok-root-in-None c =
    let none = rw c.in-None.is at c.in_ok-stated_root.ensures in
    IsRooted-none c.args.n c.args.text.now c.in_ok-root-in-None.field-0 c.requires.positive c.requires.small c.in_ok-root-in-None.ensures.value none

pub returns-in-Some : goal.returns-in-Some
returns-in-Some c =
    let found = rw c.in-Some.is at c.in_ok-stated_root.ensures in
    IsRooted-some c.args.n c.args.text.now c.in-Some.stated.root c.in-Some.stated.rest.now found.0 found.1

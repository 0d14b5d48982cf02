use Rattle.std.proofs.Common.{List, ℕ, subst}
use Rattle.std.specs.Prelude.{codes}
use Rattle.qap_lines.specs.Number.{IsNamed}
use Rattle.qap_lines.proofs.Lines.{IsLine-unique, no_line-line}
use Rattle.qap_lines.proofs.NumberLists.{line_text-is}
use Rattle.qap_proof.proofs.Roots.{AllLimited-by_turns}
use Rattle.qap_proof.specs.Text.{by_turns}
use Rattle.qap_proof.proofs.root.stated_root.Goals as goal

pub returns-in_default : goal.returns-in_default
returns-in_default c = λ line rest zs is named. no_line-line c.args.text.now line rest c.in_default.ensures is

pub returns-in-None : goal.returns-in-None
returns-in-None c =
    let none = rw c.in-None.is at c.in_ok-root.ensures in
    λ line rest zs is named.
    none zs (subst (λ (l : List ℕ). IsNamed (codes "node") l zs) (IsLine-unique c.args.text.now line rest c.in-Some.line.bytes.now c.in-Some.line.rest.now is c.in-Some.ensures).0 named)

pub returns-in-Some-2 : goal.returns-in-Some-2
returns-in-Some-2 c =
    let found = rw c.in-Some-2.is at c.in_ok-root.ensures in
    let x = c.in-Some-2.root in
    (found.0, line_text-is c.args.text.now c.in-Some.line.bytes.now c.in-Some.line.rest.now (codes "node") (by_turns x.facilities x.places) c.in-Some.ensures found.1 (AllLimited-by_turns c.args.n x found.0.root))

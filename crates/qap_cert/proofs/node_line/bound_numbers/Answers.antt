use Rattle.std.proofs.Common.{◌≡◌, subst, arith, rules}
use Rattle.std.specs.Prelude.{MatchOption, Option, Some}
use Rattle.qap_cert.proofs.Duals.{HasDuals-read}
use Rattle.qap_cert.proofs.node_line.bound_numbers.Goals as goal

read_of : {X : Type 0} (P : Type 0) (Q : X → Type 0) (o : Option X) (x : X) → MatchOption o P Q → o ≡ Some x → Q x
read_of P Q o x h is = subst (λ o. MatchOption o P Q) is h

pub returns : goal.returns
returns c =
    let r = read_of _ _ c.in_ok-numbers.field-0 c.in-Some.numbers c.in_ok-numbers.ensures c.in-Some.is in
    HasDuals-read _ c.args.wanted c.args.line.now c.read_numbers.new.first.items r.0 r.1 (omega (arith, r.2, c.count.ensures.value, c.if-numbers-grammar.false)) (r.3.0 (search rules)) r.4

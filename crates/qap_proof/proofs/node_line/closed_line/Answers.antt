use Rattle.std.proofs.Common.{rules, ◌≡◌, ◌-◌, ◌*◌, length, arith}
use Rattle.std.specs.Prelude.{codes}
use Rattle.qap_proof.proofs.NodeLines.{closed_duals}
use Rattle.qap_proof.proofs.node_line.closed_line.Goals as goal

pub returns : goal.returns
returns c =
    let w = 2 * (c.size.result - c.depth.result) in
    let m = c.args.node.now.size - length c.args.node.now.facilities in
    let some = rw c.in-Some.is at c.in_ok-numbers.ensures in
    let free : c.size.result - c.depth.result ≡ m = omega (arith, c.size.ensures.value, c.depth.ensures.value) in
    closed_duals m w (codes "b") c.args.line.now some.0 c.read_numbers.new.first.items c.split_off.new.self.items c.in_ok-v.v.items (omega (arith, free)) some.1 (omega (arith, some.2, c.if-numbers-free.false)) (some.3.0 (search rules)) some.4 (rw (← free) (search rules)) (rw (← free) (search rules))

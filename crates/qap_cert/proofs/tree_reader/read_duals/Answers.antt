use Rattle.std.proofs.Common.{ℕ, ◌-◌, ◌*◌, length, rules, subst}
use Rattle.qap_cert.specs.NodeLine.{HasDuals}
use Rattle.qap_cert.proofs.Duals.{AreDuals-read}
use Rattle.qap_cert.proofs.tree_reader.read_duals.Goals as goal

pub returns : goal.returns
returns c =
    let m = c.args.grammar.size - length c.args.placed.now in
    let placed = c.count.ensures.value in
    let read : HasDuals m (2 * m) c.args.line.now c.bound_numbers.new.first.items =
    subst (λ (k : ℕ). HasDuals m (2 * (c.args.grammar.size - k)) c.args.line.now c.bound_numbers.new.first.items) placed c.in_ok-bound_numbers.ensures in
    AreDuals-read m c.args.line.now c.bound_numbers.new.first.items c.split_off.new.self.items c.in_ok-v.v.items read (rw (← placed) (search rules)) (rw (← placed) (search rules))

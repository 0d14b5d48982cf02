use Rattle.std.proofs.Common.{◌-◌, ◌∙◌, inl, ap, length, take, drop}
use Rattle.std.proofs.lemmas.List.{take_rest}
use Rattle.qap_cost.specs.Placement.{placing}
use Rattle.qap_cert.proofs.Duals.{AreDuals-at}
use Rattle.qap_cert.proofs.Walks.{map_result}
use Rattle.qap_cert.proofs.walking.judge_child_bound.Goals as goal

pub returns : goal.returns
returns c =
    let free = c.args.task.now.grammar.size - c.count.result in
    let duals = c.deref-2.result.now in
    let u = take free c.deref.result.now in
    let v = take (length duals - free) (drop free duals) in
    let read = AreDuals-at c.args.task.now.grammar.size c.count.result (placing c.args.rows.now.node c.args.rows.now.facility c.args.location) c.args.placed.now c.args.bytes.now c.bound_numbers.new.first.items u v
    c.requires.size c.requires.placed c.count.ensures.value c.in_ok-bound_numbers.ensures (ap (take free) c.deref.ensures.value) (take_rest duals free ∙ ap (drop free) c.deref-2.ensures.value) in
    map_result _ _ _ _ c.child_bound_fault.result
    (λ fault told. record { u = u; v = v; duals = read.0; spelled = read.1; told = told })
    (λ e none. inl none)
    c.child_bound_fault.ensures

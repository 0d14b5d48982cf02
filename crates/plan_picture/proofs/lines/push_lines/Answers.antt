use Rattle.std.proofs.Common.{◌≡◌, ◌++◌, ℕ, arith, subst}
use Rattle.plan_picture.specs.Drawing.{flow_mark}
use Rattle.plan_picture.specs.Joining.{joined_to}
use Rattle.plan_picture.proofs.Joining.{three_parts}
use Rattle.plan_picture.proofs.lines.push_lines.Goals as goal

pub returns : goal.returns
returns c =
    let I = c.args.instance.now in
    let f = λ (i : ℕ). joined_to (flow_mark I c.args.permutation.now c.args.centres.now i) i in
    let end : c.loop-i.i ≡ I.size = omega (arith, c.size-i-end.ensures.value) in
    let all : c.loop-i.text.items ≡ c.extend_from_slice.new.self.items ++ joined_to f I.size =
    subst (λ (n : ℕ). c.loop-i.text.items ≡ c.extend_from_slice.new.self.items ++ joined_to f n) end c.loop-i.invariant in
    three_parts _ _ _ _ _ _ _ c.in_ok-extend_from_slice.ensures.items all c.in_ok-extend_from_slice-2.ensures.items

use Rattle.std.proofs.Common.{◌≡◌, ◌∙◌, ap, drop, refl, sym, arith}
use Rattle.std.specs.Prelude.{remove}
use Rattle.tuple_space.proofs.FrontLemmas.{first_removed, later_removed}
use Rattle.tuple_space.proofs.numbers.remove_behind.Goals as goal

pub returns-then-place-eq0-clause-rest : goal.returns-then-place-eq0-clause-rest
returns-then-place-eq0-clause-rest c =
    let items = c.args.items.now.items in
    let first : c.args.place ≡ 0 = omega (arith, c.if-place-eq0.true) in
    first_removed items c.args.removed (omega arith) ∙ ap (remove (drop c.args.removed items)) (sym first)

pub returns-clause-rest : goal.returns-clause-rest
returns-clause-rest c =
    ap (drop c.args.removed) c.remove.ensures.items ∙ later_removed c.args.items.now.items c.args.removed c.args.place _ refl

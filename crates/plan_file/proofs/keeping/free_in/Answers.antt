use Rattle.std.proofs.Common.{◌≡◌, ◌++◌, ◌∷◌, [], ◌∙◌, ap, arith, length, length-append, rules}
use Rattle.plan_file.proofs.Freeings.{IsFixedBelow-more}
use Rattle.plan_file.proofs.keeping.free_in.Goals as goal

pub loop-f-init : goal.loop-f-init
loop-f-init c = record {
  count = ap length c.new-free.ensures.items;
  fixed = λ f k below. absurd (omega (arith, below));
}

pub loop-f-preserved : goal.loop-f-preserved
loop-f-preserved c =
    let free = c.loop-f.free.items in
    let moves = c.is_free.result in
    let pushed : c.push.new.self.items ≡ free ++ moves ∷ [] = search rules in
    record {
      count = ap length pushed ∙ length-append free (moves ∷ []) ∙ omega (arith, c.loop-f.invariant.count);
      fixed = IsFixedBelow-more c.args.node.now c.loop-f.f free c.push.new.self.items moves pushed c.loop-f.invariant.count c.loop-f.invariant.fixed c.is_free.ensures;
    }

pub returns-clause-fixed : goal.returns-clause-fixed
returns-clause-fixed c =
    λ f k below stands.
    c.loop-f.invariant.fixed f k (omega (arith, below, c.size-f-end.ensures.value, c.loop-f-test.false)) stands

use Rattle.std.proofs.Common.{inl, refl, arith}
use Rattle.std.specs.Prelude.{None, false}
use Rattle.proof_tree.specs.Valid.{Valid}
use Rattle.proof_check.specs.Completeness.{Any}
use Rattle.proof_check.proofs.Judging.{judged}
use Rattle.proof_check.proofs.Passing.{BeginsOwn-first, Finds-stronger, Leaves-weaker, root_first}
use Rattle.proof_check.proofs.ReadLines.{starts_first, starts_otherwise}
use Rattle.proof_check.proofs.walking.walk_root.Goals as goal

pub returns-then-starts_with-clause-passed : goal.returns-then-starts_with-clause-passed
returns-then-starts_with-clause-passed g c =
    let line = c.args.walk.now.cursor.line.items in
    let first = starts_first c.deref.result.now line 112 c.starts_with.result c.deref.ensures.value c.if-starts_with.true c.starts_with.ensures.value in
    Leaves-weaker _ _ _ c.walk_own.result (λ rest h. BeginsOwn-first Any c.args.node.now false line _ rest c.requires.placement first h) c.walk_own.ensures.passed

pub returns-then-starts_with-clause-walked : goal.returns-then-starts_with-clause-walked
returns-then-starts_with-clause-walked g c =
    let j = c.args.judge.now in
    let line = c.args.walk.now.cursor.line.items in
    let first = starts_first c.deref.result.now line 112 c.starts_with.result c.deref.ensures.value c.if-starts_with.true c.starts_with.ensures.value in
    judged c.walk_own.result _ _ _ _ (λ w. w) (λ e f. Finds-stronger _ _ _ _ e (λ s. s) (λ rest h. BeginsOwn-first (Valid j.instance.now j.step j.bound c.args.node.now None) c.args.node.now false line _ rest c.requires.placement first h) f) (c.walk_own.ensures.walked None)

pub returns-else-starts_with-clause-passed : goal.returns-else-starts_with-clause-passed
returns-else-starts_with-clause-passed g c = (
  inl refl,
  λ rest h.
      let line = c.args.walk.now.cursor.line.items in
      absurd (starts_otherwise c.deref.result.now line 112 c.starts_with.result (omega arith) c.deref.ensures.value c.if-starts_with.false c.starts_with.ensures.value (root_first Any c.args.node.now line _ rest h)),
)

use Rattle.std.proofs.Common.{inl, refl, arith}
use Rattle.std.specs.Prelude.{false}
use Rattle.proof_check.specs.Completeness.{Any}
use Rattle.proof_check.proofs.Passing.{BeginsOwn-first, Leaves-weaker, root_first}
use Rattle.proof_check.proofs.ReadLines.{starts_first, starts_otherwise}
use Rattle.proof_check.proofs.skimming.skim_root.Goals as goal

pub returns-then-starts_with-clause-passed : goal.returns-then-starts_with-clause-passed
returns-then-starts_with-clause-passed g c =
    let line = c.args.cursor.now.line.items in
    let first = starts_first c.deref.result.now line 112 c.starts_with.result c.deref.ensures.value c.if-starts_with.true c.starts_with.ensures.value in
    Leaves-weaker _ _ _ c.skim_own.result (λ rest h. BeginsOwn-first Any c.args.node.now false line _ rest c.requires.placement first h) c.skim_own.ensures.passed

pub returns-then-starts_with-clause-skimmed : goal.returns-then-starts_with-clause-skimmed
returns-then-starts_with-clause-skimmed g c = c.skim_own.ensures.skimmed false

pub returns-else-starts_with-clause-passed : goal.returns-else-starts_with-clause-passed
returns-else-starts_with-clause-passed g c = (
  inl refl,
  λ rest h.
      let line = c.args.cursor.now.line.items in
      absurd (starts_otherwise c.deref.result.now line 112 c.starts_with.result (omega arith) c.deref.ensures.value c.if-starts_with.false c.starts_with.ensures.value (root_first Any c.args.node.now line _ rest h)),
)

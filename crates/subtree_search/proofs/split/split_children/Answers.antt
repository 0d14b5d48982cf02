use Rattle.std.proofs.Common.{◌<◌, refl, sym, ◌∙◌, subst, arith}
use Rattle.std.proofs.lemmas.Int.{ints}
use Rattle.qap_cost.specs.Placement.{Placement}
use Rattle.pair_duals.specs.Reduced.{count_of}
use Rattle.subtree_search.specs.Evaluated.{IsSkipped}
use Rattle.subtree_search.specs.Lines.{child_on, column_on, row_on}
use Rattle.subtree_search.specs.Opens.{Becomes}
use Rattle.subtree_search.specs.Premises.{IsNode}
use Rattle.subtree_search.proofs.Needing.{All-tried}
use Rattle.subtree_search.proofs.Settling.{All-add, IsSettled-add, IsSettled-child, IsSettled-skipped, settled_all, settled_more}
use Rattle.subtree_search.proofs.split.split_children.Goals as goal

pub number_of-number-requires-clause-node : goal.number_of-number-requires-clause-node
number_of-number-requires-clause-node g c =
    subst (λ (z : Placement). IsNode c.args.task.now.ground.now.instance.now c.args.task.now.ground.now.duals.now c.args.task.now.ground.now.step z c.args.level.now.form) (sym c.in_ok-line.ensures.path) c.requires.node

pub skip-requires : goal.skip-requires
skip-requires g c =
    let I = c.args.task.now.ground.now.instance.now in
    let D = c.args.task.now.ground.now.duals.now in
    let s = c.args.task.now.ground.now.step in
    let R = c.args.level.now.form in
    let kept = c.loop-k.invariant in
    record {
      node = subst (λ (z : Placement). IsNode I D s z R) (sym kept.path) c.requires.node;
      incumbent = kept.incumbent;
      line = c.in_ok-line.ensures.line;
      k_in = omega (arith, c.loop-k-test.true, c.free-k-end.ensures.value);
      symmetries = c.requires.symmetries;
    }

pub loop-k-preserved-then-branch : goal.loop-k-preserved-then-branch
loop-k-preserved-then-branch g c =
    let I = c.args.task.now.ground.now.instance.now in
    let D = c.args.task.now.ground.now.duals.now in
    let y = c.args.path.now in
    let R = c.args.level.now.form in
    let line = c.in_ok-line.line in
    let kept = c.loop-k.invariant in
    let k = c.loop-k.k in
    let cost = c.loop-k.incumbent.cost in
    let below : k < count_of R = omega (arith, c.loop-k-test.true, c.free-k-end.ensures.value) in
    let skipped = subst (λ (z : Placement). IsSkipped I D z R line k cost) kept.path (c.in_ok-skip.ensures.pruned_or_symmetric c.if-branch.true) in
    record {
      incumbent = kept.incumbent;
      no_worse = kept.no_worse;
      path = kept.path;
      opened = kept.opened;
      needed = kept.needed;
      settled = settled_more I y line cost c.loop-k.children.items k kept.settled
          (IsSettled-skipped I D c.args.task.now.ground.now.step y R line k cost c.loop-k.children.items c.requires.node c.requires.least c.in_ok-line.ensures.line below skipped kept.settled);
    }

pub loop-k-preserved : goal.loop-k-preserved
loop-k-preserved g c =
    let I = c.args.task.now.ground.now.instance.now in
    let s = c.args.task.now.ground.now.duals.now.scale in
    let y = c.args.path.now in
    let line = c.in_ok-line.line in
    let kept = c.loop-k.invariant in
    let ensures = c.in_ok-child.ensures in
    let child = c.in_ok-child.child in
    let cost = c.child_left.new.incumbent.cost in
    let old = c.loop-k.children.items in
    let new = c.add.new.children.items in
    record {
      incumbent = ensures.incumbent;
      no_worse = (let one = ensures.no_worse in let other = kept.no_worse in omega (arith, ints, one, other));
      path = ensures.path ∙ kept.path;
      opened = All-add I s y (child_on y line c.loop-k.k) cost child old new
          (subst (λ (z : Placement). Becomes I s z (child_on z line c.loop-k.k) cost child) kept.path ensures.child) c.in_ok-add.ensures kept.opened;
      needed = All-tried I c.args.task.now.ground.now.duals.now c.args.task.now.ground.now.step c.loop-k.path y c.args.level.now.form cost c.args.incumbent.now.cost c.loop-k.incumbent.cost child old new kept.path c.requires.lined ensures.no_worse kept.no_worse ensures.left c.in_ok-add.ensures
          kept.needed;
      settled = settled_more I y line cost new c.loop-k.k (λ j below. IsSettled-add I y (child_on y line j) c.loop-k.incumbent.cost cost child old new c.in_ok-add.ensures ensures.no_worse (kept.settled j below))
          (IsSettled-child I s c.loop-k.path y line (row_on line c.loop-k.k) (column_on line c.loop-k.k) c.loop-k.k cost child old new kept.path refl refl ensures.child c.in_ok-add.ensures);
    }

pub child_left-requires : goal.child_left-requires
child_left-requires g c =
    let I = c.args.task.now.ground.now.instance.now in
    let D = c.args.task.now.ground.now.duals.now in
    let s = c.args.task.now.ground.now.step in
    let R = c.args.level.now.form in
    let kept = c.loop-k.invariant in
    let below : c.loop-k.k < count_of R = omega (arith, c.loop-k-test.true, c.free-k-end.ensures.value) in
    record {
      node = subst (λ (z : Placement). IsNode I D s z R) (sym kept.path) c.requires.node;
      line = c.in_ok-line.ensures.line;
      k_in = below;
      kept = c.in_ok-skip.ensures.kept c.if-branch.false;
      room = omega (arith, c.requires.room, c.loop-k.auto.deeper);
      symmetries = c.requires.symmetries;
      incumbent = kept.incumbent;
    }

pub returns-clause-settled : goal.returns-clause-settled
returns-clause-settled g c =
    let kept = c.loop-k.invariant in
    settled_all c.args.task.now.ground.now.instance.now c.args.task.now.ground.now.duals.now c.args.task.now.ground.now.step c.args.path.now c.args.level.now.form c.in_ok-line.line c.loop-k.incumbent.cost c.loop-k.children.items c.loop-k.k
    c.requires.node c.in_ok-line.ensures.line (omega (arith, c.loop-k-test.false, c.free-k-end.ensures.value)) kept.settled

pub returns-in_err-add-clause-no_worse : goal.returns-in_err-add-clause-no_worse
returns-in_err-add-clause-no_worse g c = let one = c.child_left.ensures.no_worse in let other = c.loop-k.invariant.no_worse in omega (arith, ints, one, other)

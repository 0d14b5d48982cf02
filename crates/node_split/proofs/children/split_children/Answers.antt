use Rattle.std.proofs.Common.{◌<◌, length, sym, ◌∙◌, subst, arith}
use Rattle.std.proofs.lemmas.Int.{ints}
use Rattle.qap_cost.specs.Instance.{Problem}
use Rattle.qap_cost.specs.Placement.{free_facilities}
use Rattle.subtree_search.specs.Images.{free_of, table_of}
use Rattle.subtree_search.specs.Lines.{child_on}
use Rattle.subtree_search.specs.Opens.{Becomes}
use Rattle.subtree_search.proofs.Settling.{All-add, IsSettled-add, IsSettled-become, settled_more}
use Rattle.node_split.specs.Branch.{line_of}
use Rattle.node_split.specs.Split.{IsSplit}
use Rattle.node_split.proofs.Bounds.{IsSettled-image, child_count, line_within, settled_all}
use Rattle.node_split.proofs.children.split_children.Goals as goal

pub loop-k-preserved : goal.loop-k-preserved
loop-k-preserved g c =
    let I = c.args.evaluator.now.rows in
    let y = c.args.split.now.node.now in
    let line = line_of c.args.split.now.branch in
    let cost = c.args.incumbent.now.cost in
    let kept = c.loop-k.invariant in
    let ensures = c.in_ok-child.ensures in
    let child = c.in_ok-child.child in
    let old = c.loop-k.children.items in
    let new = c.add.new.children.items in
    let become = subst (λ (J : Problem). Becomes J 1 y (child_on y line c.loop-k.k) cost child) kept.same ensures.child in
    record {
      same = ensures.same ∙ kept.same;
      opened = All-add I 1 y (child_on y line c.loop-k.k) cost child old new become c.in_ok-add.ensures kept.opened;
      settled = settled_more I y line cost new c.loop-k.k (λ j below. IsSettled-add I y (child_on y line j) cost cost child old new c.in_ok-add.ensures (omega (arith, ints)) (kept.settled j below))
          (IsSettled-become I 1 y (child_on y line c.loop-k.k) cost child old new become c.in_ok-add.ensures);
    }

pub child_left-requires : goal.child_left-requires
child_left-requires g c =
    let kept = c.loop-k.invariant in
    record {
      split = subst (λ (J : Problem). IsSplit J c.args.split.now) (sym kept.same) c.requires;
      k_in = omega (arith, c.loop-k-test.true, child_count c.args.evaluator.now.rows c.args.split.now c.requires);
    }

pub returns-clause-settled : goal.returns-clause-settled
returns-clause-settled g c =
    let kept = c.loop-k.invariant in
    let I = c.args.evaluator.now.rows in
    let s = c.args.split.now in
    let h = c.requires in
    let cost = c.args.incumbent.now.cost in
    settled_all I s.node.now (line_of s.branch) cost c.loop-k.children.items c.loop-k.k h.placement (line_within I s h) (omega (arith, c.loop-k-test.false, child_count I s h, h.evaluated.reduced.size)) kept.settled

pub loop-k-preserved-then-split-k : goal.loop-k-preserved-then-split-k
loop-k-preserved-then-split-k g c =
    let I = c.args.evaluator.now.rows in
    let s = c.args.split.now in
    let y = s.node.now in
    let line = line_of s.branch in
    let kept = c.loop-k.invariant in
    let h = c.requires in
    let inside : c.loop-k.k < length (free_of (table_of line) y) = omega (arith, c.loop-k-test.true, h.images.count) in
    let below : c.loop-k.k < length (free_facilities y) = omega (arith, c.loop-k-test.true, child_count I s h, h.evaluated.reduced.size) in
    record {
      same = kept.same;
      opened = kept.opened;
      settled = settled_more I y line c.args.incumbent.now.cost c.loop-k.children.items c.loop-k.k kept.settled
          (IsSettled-image I y line c.loop-k.k c.args.incumbent.now.cost c.loop-k.children.items h.placement h.size (line_within I s h) below (h.images.each c.loop-k.k inside c.if-split-k.true) kept.settled);
    }

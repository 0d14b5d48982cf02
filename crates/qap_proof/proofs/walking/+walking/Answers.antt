use Rattle.std.proofs.Common.{◌≡◌, ℕ, ◌<◌, ◌++◌, length, inl, inr, refl, ap, ◌∙◌, sym, subst, ⊎_elim, arith}
use Rattle.std.specs.Prelude.{Bool, codes, MatchResult, ◌⊎◌}
use Rattle.std.proofs.lemmas.Result.{err_from_is_err_and}
use Rattle.qap_cost.specs.Placement.{Placement}
use Rattle.qap_lines.specs.Line.{line_after}
use Rattle.qap_proof.proofs.ChildValues.{others_count}
use Rattle.qap_proof.proofs.Telling.{IsToldOf-closed, IsToldOf-split_at, IsToldOfSplit-parts, IsToldOfAll-none, IsToldOfAll-more}
use Rattle.qap_proof.proofs.Walks.{map_result, BeginsWithTree-line, BeginsWithTree-split, BeginsWithTrees-none, BeginsWithTrees-more, BeginsWithTrees-at, IsFaultBefore-at, IsTreeTextFault-line, IsTreeTextFault-among}
use Rattle.qap_proof.specs.NodeLine.{IsNodeLine, pair_of, split_of}
use Rattle.qap_proof.specs.Shape.{free_count, has_duals}
use Rattle.qap_proof.specs.TextFault.{IsLineFault, IsNodeFault, IsTreeTextFault}
use Rattle.qap_proof.specs.Tree.{closed, child, child_of}
use Rattle.qap_proof.specs.Walk.{BeginsWithTree, BeginsWithTrees, IsFaultBefore, IsToldOf, IsToldOfAll, IsToldOfClosed, IsToldOfSplit}
use Rattle.qap_proof.specs.declared.error.ProofError.TheVariants.{OutOfMemory}
use Rattle.qap_proof.specs.declared.node_line.SplitLine.{SplitLine}
use Rattle.qap_proof.specs.declared.tree.Duals.{Duals}
use Rattle.qap_proof.specs.declared.node_line.NodeLine.TheVariants.{Closed, Split as SplitsAt}
use Rattle.qap_proof.proofs.walking.+walking.Goals as goal

pub walk_child-read_node_line-requires : goal.walk_child-read_node_line-requires
walk_child-read_node_line-requires t c =
    let x = c.args.parent.now.node.now in
    omega (arith, c.requires.inside, ap length c.requires.others, others_count c.args.parent.now.split.now.side x c.requires.placement, c.requires.placement.small)

pub walk_child-returns-in_err-read : goal.walk_child-returns-in_err-read
walk_child-returns-in_err-read t c =
    let x = c.args.node.now in
    let s = split_of c.args.parent.now.split.now in
    let e = c.in_err-read.field-0.0 in
    let p = err_from_is_err_and c.from_residual.result c.from_residual.ensures.1 in
    rw (p.1, p.2) (record {
      judged = ⊎_elim inl (λ fault. inr (
          IsTreeTextFault-line (free_count x) x c.args.child (has_duals s.duals) c.args.walked.next c.args.walked.rest.now e
          (subst (λ (b : Bool). IsLineFault c.args.walked.next c.args.walked.rest.now (IsNodeFault x c.args.child b c.args.walked.next) e) c.has_duals-with_duals.ensures fault)))
          (c.in_err-read.ensures {u = tt});
      same = refl;
    })

pub walk_child-judge_cut-fault-requires-clause-inside : goal.walk_child-judge_cut-fault-requires-clause-inside
walk_child-judge_cut-fault-requires-clause-inside t c =
    let x = c.args.parent.now.node.now in
    omega (arith, c.requires.inside, ap length c.requires.others, others_count c.args.parent.now.split.now.side x c.requires.placement)

pub walk_child-returns-in_ok-fault-in-Closed : goal.walk_child-returns-in_ok-fault-in-Closed
walk_child-returns-in_ok-fault-in-Closed t c =
    let I = c.args.judge.now.instance.now in
    let g = c.args.judge.now.bound in
    let s = split_of c.args.parent.now.split.now in
    let x = c.args.parent.now.node.now in
    let y = c.args.node.now in
    let read = c.in_ok-read.ensures in
    let d = pair_of c.in-Closed.duals in
    let said : IsNodeLine y c.args.child c.has_duals-with_duals.result read.line (Closed c.in-Closed.duals) = subst (IsNodeLine y c.args.child c.has_duals-with_duals.result read.line) c.in-Closed.is read.is_node in
    let here = subst (λ (m : Duals). IsToldOfClosed I g y c.args.walked.next c.args.walked.fault c.in_ok-fault-in-Closed.fault (pair_of m)) c.in-Closed.duals-is c.in_ok-fault-in-Closed.ensures.judged in
    let told = subst (λ (z : Placement). IsToldOfClosed I g z c.args.walked.next c.args.walked.fault c.in_ok-fault-in-Closed.fault d) c.requires.node here in
    record {
      judged = BeginsWithTree-line y c.args.child (has_duals s.duals) c.args.walked.next c.args.walked.rest.now read.line c.in_ok-read.read.rest.now (codes "b") (d.u ++ d.v) c.saturating_add-next.result
          (IsToldOf I g (child x s c.args.child) c.args.walked.next c.args.walked.fault c.in_ok-fault-in-Closed.fault) (closed d) said.0 refl refl read.is said.1 c.saturating_add-next.ensures
          (IsToldOf-closed I g (child x s c.args.child) c.args.walked.next c.args.walked.fault c.in_ok-fault-in-Closed.fault d told);
      same = c.in_ok-fault-in-Closed.ensures.same;
    }

pub walk_child-returns-in-Split : goal.walk_child-returns-in-Split
walk_child-returns-in-Split t c =
    let I = c.args.judge.now.instance.now in
    let g = c.args.judge.now.bound in
    let s = split_of c.args.parent.now.split.now in
    let x = c.args.parent.now.node.now in
    let y = c.args.node.now in
    let read = c.in_ok-read.ensures in
    let inner = split_of c.in-Split.split in
    let rest = c.in_ok-read.read.rest.now in
    let said : IsNodeLine y c.args.child c.has_duals-with_duals.result read.line (SplitsAt c.in-Split.split) = subst (IsNodeLine y c.args.child c.has_duals-with_duals.result read.line) c.in-Split.is read.is_node in
    record {
      judged = map_result _ _ _ _ c.walk_split.result
          (λ w h. BeginsWithTree-split y c.args.child (has_duals s.duals) c.args.walked.next c.args.walked.rest.now read.line rest w.rest.now w.next inner
          (IsToldOf I g (child x s c.args.child) c.args.walked.next c.args.walked.fault w.fault) (IsToldOfSplit I g y inner c.args.walked.next c.args.walked.fault w.fault) said.0 read.is said.1 h
          (IsToldOf-split_at I g (child x s c.args.child) y c.args.walked.next c.args.walked.fault w.fault inner h.trees c.requires.node said.0 h.counted h.holds))
          (λ e. ⊎_elim inl (λ fault. inr (IsTreeTextFault-among y c.args.child (has_duals s.duals) c.args.walked.next c.args.walked.rest.now read.line rest inner e said.0 read.is said.1 fault)))
          (subst (λ (m : SplitLine). MatchResult c.walk_split.result
          (λ w. BeginsWithTrees y (split_of m) (free_count y) (line_after c.args.walked.next 1) rest w.rest.now w.next (IsToldOfSplit I g y (split_of m) c.args.walked.next c.args.walked.fault w.fault))
          (λ e. (e ≡ OutOfMemory) ⊎ IsFaultBefore y (split_of m) (line_after c.args.walked.next 1) rest e)) c.in-Split.split-is c.walk_split.ensures.judged);
      same = c.walk_split.ensures.same;
    }

pub walk_children-loop-child-init : goal.walk_children-loop-child-init
walk_children-loop-child-init t c =
    let s = split_of c.args.parent.now.split.now in (
      BeginsWithTrees-none c.args.parent.now.node.now s c.args.line c.args.text.now
          (IsToldOfAll c.args.judge.now.instance.now c.args.judge.now.bound c.args.parent.now.node.now s c.args.line c.args.told c.args.told) (omega (arith, c.ranges.line.fits))
          (IsToldOfAll-none c.args.judge.now.instance.now c.args.judge.now.bound c.args.parent.now.node.now s c.args.line c.args.told),
      c.requires.rows,
    )

pub walk_children-returns-in_err-walked : goal.walk_children-returns-in_err-walked
walk_children-returns-in_err-walked t c =
    let I = c.args.judge.now.instance.now in
    let g = c.args.judge.now.bound in
    let s = split_of c.args.parent.now.split.now in
    let x = c.args.parent.now.node.now in
    let i = c.loop-child.child in
    let e = c.in_err-walked.field-0.0 in
    let few : i < free_count x = omega (arith, c.loop-child-test.true, ap length c.requires.others, others_count c.args.parent.now.split.now.side x c.requires.placement) in
    let p = err_from_is_err_and c.from_residual-in_err-walked.result c.from_residual-in_err-walked.ensures.1 in
    rw (p.1, p.2) (record {
      judged = ⊎_elim inl (λ fault. inr (
          IsFaultBefore-at x s i c.args.line c.args.text.now c.loop-child.walked.rest.now c.loop-child.walked.next (IsToldOfAll I g x s c.args.line c.args.told c.loop-child.walked.fault) e c.loop-child.invariant.0 few
          (subst (λ (y : Placement). IsTreeTextFault (free_count y) y i (has_duals s.duals) c.loop-child.walked.next c.loop-child.walked.rest.now e) c.in_ok-node.ensures fault)))
          (c.in_err-walked.ensures {u = tt}).judged;
      same = c.walk_child.ensures.same ∙ c.loop-child.invariant.1 ∙ sym c.requires.rows;
    })

pub walk_children-loop-child-preserved : goal.walk_children-loop-child-preserved
walk_children-loop-child-preserved t c =
    let I = c.args.judge.now.instance.now in
    let g = c.args.judge.now.bound in
    let s = split_of c.args.parent.now.split.now in
    let x = c.args.parent.now.node.now in
    let i = c.loop-child.child in
    let h = c.loop-child.invariant.0 in
    let walked = c.in_ok-walked.walked in
    let told = IsToldOf I g (child x s i) c.loop-child.walked.next c.loop-child.walked.fault walked.fault in
    let k : BeginsWithTree (child_of x s i) i (has_duals s.duals) c.loop-child.walked.next c.loop-child.walked.rest.now walked.rest.now walked.next told =
    subst (λ (y : Placement). BeginsWithTree y i (has_duals s.duals) c.loop-child.walked.next c.loop-child.walked.rest.now walked.rest.now walked.next told) c.in_ok-node.ensures c.in_ok-walked.ensures.judged in (
      BeginsWithTrees-more x s i c.args.line c.args.text.now c.loop-child.walked.rest.now c.loop-child.walked.next (IsToldOfAll I g x s c.args.line c.args.told c.loop-child.walked.fault)
          (IsToldOfAll I g x s c.args.line c.args.told walked.fault) walked.rest.now walked.next told h k
          (IsToldOfAll-more I g x s c.args.line c.args.told c.loop-child.walked.fault walked.fault i c.loop-child.walked.next h.trees k.tree h.counted (omega (arith, c.ranges.line.fits)) h.next_is h.holds k.holds),
      c.in_ok-walked.ensures.same ∙ c.loop-child.invariant.1,
    )

pub walk_split-returns : goal.walk_split-returns
walk_split-returns t c =
    let I = c.args.judge.now.instance.now in
    let g = c.args.judge.now.bound in
    let s = split_of c.args.split.now in
    let x = c.args.node.now in
    let text = c.args.text.now in
    let next_is : c.saturating_add-next.result ≡ line_after c.args.line 1 = c.saturating_add-next.ensures in
    let many : length c.deref.result.now ≡ free_count x = ap length (c.deref.ensures.value ∙ c.in_ok-others.ensures.value) ∙ others_count c.args.split.now.side x c.free_others.ensures.placement in
    record {
      judged = map_result _ _ _ _ c.walk_children.result
          (λ w h. BeginsWithTrees-at x s (length c.deref.result.now) (free_count x) c.saturating_add-next.result (line_after c.args.line 1) text w.rest.now w.next
          (λ line. IsToldOfAll I g x s line c.in_ok-judged.judged.fault w.fault) (IsToldOfSplit I g x s c.args.line c.args.told w.fault) many next_is h
          (λ ts. IsToldOfSplit-parts I g x s c.args.line c.args.told c.in_ok-judged.judged.fault w.fault ts c.in_ok-judged.ensures.told))
          (λ e. ⊎_elim inl (λ fault. inr (subst (λ (k : ℕ). IsFaultBefore x s k text e) next_is fault)))
          c.walk_children.ensures.judged;
      same = c.walk_children.ensures.same ∙ c.in_ok-judged.ensures.same;
    }

use Rattle.std.proofs.Common.{◌≡◌, ◌++◌, inl, inr, refl, subst, ⊎_elim}
use Rattle.std.specs.Prelude.{codes, false, MatchResult, ◌⊎◌}
use Rattle.qap_lines.specs.Line.{line_after}
use Rattle.qap_proof.proofs.Telling.{IsToldOf-closed, IsToldOf-split}
use Rattle.qap_proof.proofs.Walks.{map_result, BeginsWithTree-line, BeginsWithTree-split, IsTreeTextFault-among}
use Rattle.qap_proof.specs.NodeLine.{IsNodeLine, pair_of, split_of}
use Rattle.qap_proof.specs.Shape.{free_count}
use Rattle.qap_proof.specs.Tree.{closed, whole}
use Rattle.qap_proof.specs.Walk.{BeginsWithTrees, IsFaultBefore, IsToldOf, IsToldOfClosed, IsToldOfSplit}
use Rattle.qap_proof.specs.declared.error.ProofError.TheVariants.{OutOfMemory}
use Rattle.qap_proof.specs.declared.node_line.SplitLine.{SplitLine}
use Rattle.qap_proof.specs.declared.tree.Duals.{Duals}
use Rattle.qap_proof.specs.declared.node_line.NodeLine.TheVariants.{Closed, Split as SplitsAt}
use Rattle.qap_proof.proofs.walking.walk_root.Goals as goal

pub returns-in_ok-fault-in-Closed : goal.returns-in_ok-fault-in-Closed
returns-in_ok-fault-in-Closed c =
    let I = c.args.judge.now.instance.now in
    let g = c.args.judge.now.bound in
    let x = c.args.node.now in
    let read = c.in_ok-read.ensures in
    let d = pair_of c.in-Closed.duals in
    let said : IsNodeLine x 0 false read.line (Closed c.in-Closed.duals) = subst (IsNodeLine x 0 false read.line) c.in-Closed.is read.is_node in
    let told = subst (λ (m : Duals). IsToldOfClosed I g x c.args.line c.args.told c.in_ok-fault-in-Closed.fault (pair_of m)) c.in-Closed.duals-is c.in_ok-fault-in-Closed.ensures.judged in
    BeginsWithTree-line x 0 false c.args.line c.args.text.now read.line c.in_ok-read.read.rest.now (codes "b") (d.u ++ d.v) c.saturating_add-next.result
    (IsToldOf I g (whole x) c.args.line c.args.told c.in_ok-fault-in-Closed.fault) (closed d) said.0 refl refl read.is said.1 c.saturating_add-next.ensures
    (IsToldOf-closed I g (whole x) c.args.line c.args.told c.in_ok-fault-in-Closed.fault d told)

pub returns-in-Split : goal.returns-in-Split
returns-in-Split c =
    let I = c.args.judge.now.instance.now in
    let g = c.args.judge.now.bound in
    let x = c.args.node.now in
    let read = c.in_ok-read.ensures in
    let s = split_of c.in-Split.split in
    let rest = c.in_ok-read.read.rest.now in
    let said : IsNodeLine x 0 false read.line (SplitsAt c.in-Split.split) = subst (IsNodeLine x 0 false read.line) c.in-Split.is read.is_node in
    map_result _ _ _ _ c.walk_split.result
    (λ w h. BeginsWithTree-split x 0 false c.args.line c.args.text.now read.line rest w.rest.now w.next s
    (IsToldOf I g (whole x) c.args.line c.args.told w.fault) (IsToldOfSplit I g x s c.args.line c.args.told w.fault) said.0 read.is said.1 h
    (IsToldOf-split I g (whole x) c.args.line c.args.told w.fault s h.trees said.0 h.counted h.holds))
    (λ e. ⊎_elim inl (λ fault. inr (IsTreeTextFault-among x 0 false c.args.line c.args.text.now read.line rest s e said.0 read.is said.1 fault)))
    (subst (λ (m : SplitLine). MatchResult c.walk_split.result
    (λ w. BeginsWithTrees x (split_of m) (free_count x) (line_after c.args.line 1) rest w.rest.now w.next (IsToldOfSplit I g x (split_of m) c.args.line c.args.told w.fault))
    (λ e. (e ≡ OutOfMemory) ⊎ IsFaultBefore x (split_of m) (line_after c.args.line 1) rest e)) c.in-Split.split-is c.walk_split.ensures.judged)

use Rattle.std.proofs.Common.{rules, inl, inr, refl, ⊎_elim}
use Rattle.std.proofs.lemmas.Result.{err_from_is_err_and}
use Rattle.qap_proof.proofs.NodeLines.{no_saying}
use Rattle.qap_proof.specs.TextFault.{closes, splits, mirrors}
use Rattle.qap_proof.specs.declared.side.Side.TheVariants.{Facility, Location}
use Rattle.qap_proof.proofs.node_line.judge_line.Goals as goal

pub returns-in_err-duals : goal.returns-in_err-duals
returns-in_err-duals c =
    let p = err_from_is_err_and c.from_residual.result c.from_residual.ensures.1 in
    rw (p.1, p.2) (⊎_elim inl (λ f. inr (inr (closes f.0, f.1, f.2))) (c.in_err-duals.ensures {u = tt}))

pub returns-in_err-split : goal.returns-in_err-split
returns-in_err-split c =
    let p = err_from_is_err_and c.from_residual-in_err-split.result c.from_residual-in_err-split.ensures.1 in
    rw (p.1, p.2) (⊎_elim inl (λ f. inr (inr (splits Facility f.0 f.1, (f.2, f.3), f.4))) (c.in_err-split.ensures {u = tt}))

pub returns-in_err-split-2 : goal.returns-in_err-split-2
returns-in_err-split-2 c =
    let p = err_from_is_err_and c.from_residual-in_err-split-2.result c.from_residual-in_err-split-2.ensures.1 in
    rw (p.1, p.2) (⊎_elim inl (λ f. inr (inr (splits Location f.0 f.1, (f.2, f.3), f.4))) (c.in_err-split-2.ensures {u = tt}))

pub returns-in_err-child : goal.returns-in_err-child
returns-in_err-child c =
    let p = err_from_is_err_and c.from_residual-in_err-child.result c.from_residual-in_err-child.ensures.1 in
    rw (p.1, p.2) (⊎_elim inl (λ f. inr (inr (mirrors f.first f.others, (f.counted, f.named), f.fault c.args.node.now c.args.has_duals))) (c.in_err-child.ensures {u = tt}))

pub returns-in-None : goal.returns-in-None
returns-in-None c =
    let none_b = rw c.in_default.is at c.in_ok-duals.ensures in
    let none_s = rw c.in_default-2.is at c.in_ok-split.ensures in
    let none_t = rw c.in_default-3.is at c.in_ok-split-2.ensures in
    let none_m = rw c.in-None.is at c.in_ok-child.ensures in
    inr (inl (refl, no_saying c.args.node.now.size c.args.line.now none_b none_s none_t (search rules) none_m))

use Rattle.std.proofs.Common.{◌≡◌, ℕ, ◌++◌, ◌∷◌, [], length, ℤ, pos, to_z, of_z, sym, ◌∙◌, ap, subst, arith}
use Rattle.std.proofs.lemmas.Result.{err_from_is_err_and}
use Rattle.std.specs.Prelude.{codes}
use Rattle.std.specs.Int.{w128}
use Rattle.qap_lines.specs.Bound.{IsBoundFor}
use Rattle.qap_lines.specs.LineText.{line_text}
use Rattle.qap_lines.proofs.Numerals.{reads_wide}
use Rattle.qap_proof.specs.Claim.{IsRoot}
use Rattle.qap_proof.specs.Text.{bound_text}
use Rattle.proof_tree.specs.Text.{tree_text}
use Rattle.proof_check.specs.Acceptance.{ReadsHead}
use Rattle.proof_check.specs.Flow.{Passes}
use Rattle.proof_check.specs.Walk.{ReadsBehind}
use Rattle.proof_check.specs.Completeness.{HasBound}
use Rattle.proof_check.proofs.HeadSteps.{IsAtRoot-read, at_cost, at_perm, at_size, bound_current, root_begins, root_current}
use Rattle.proof_check.proofs.Heads.{head_read}
use Rattle.proof_check.proofs.head.read_head.Goals as goal

pub returns-clause-read : goal.returns-clause-read
returns-clause-read g c =
    let a = c.args.reader.now in
    let h = c.read_bound.new.reader in
    let last = c.read_bound.new.cursor.line.items in
    let x = c.in_ok-root.root in
    let n = c.in_ok-n.ensures.read in
    let cost = c.in_ok-cost.cost in
    let p = c.in_ok-perm.perm in
    let bound = c.in_ok-bound.bound in
    let costs = c.in_ok-cost.ensures.read in
    let perm = c.in_ok-perm.ensures.read in
    let root = c.in_ok-root.ensures.read in
    let cost_is : to_z w128 (of_z w128 cost) ≡ cost = reads_wide cost (omega (arith, costs.0)) in
    let bounds = subst (λ (z : ℤ). IsBoundFor z bound × ReadsBehind c.read_root.new.cursor.line.items (bound_text z bound) last c.read_root.new.reader h) cost_is c.in_ok-bound.ensures.read in
    let bound_is : to_z w128 (of_z w128 bound) ≡ bound = reads_wide bound (omega (arith, bounds.0.limited)) in
    let size = subst (λ (k : ℕ). Passes c.read_header.new.reader c.read_size.new.reader (line_text (codes "n") (pos k ∷ []))) (sym perm.1) n.2 in
    subst (λ (z : ℤ). ReadsHead x z (to_z w128 (of_z w128 bound)) p last a h) (sym cost_is)
    (subst (λ (z : ℤ). ReadsHead x cost z p last a h) (sym bound_is)
    (record {
      cost = costs.0;
      bound = bounds.0;
      permutation = perm.0;
      root = subst (λ (k : ℕ). IsRoot k x) (sym perm.1) root.0;
      consumed = head_read a _ _ _ _ _ _ h _ _ _ _ c.advance.new.cursor.line.items _ c.read_root.new.cursor.line.items _ last c.in_ok-read_header.ensures.read size costs.1 perm.2 c.in_ok-advance.ensures.read root.1 bounds.1;
    }))

pub returns-in_err-n-clause-passed : goal.returns-in_err-n-clause-passed
returns-in_err-n-clause-passed g c =
    let e = err_from_is_err_and c.from_residual-in_err-n.result c.from_residual-in_err-n.ensures.1 in
    rw (e.1, e.2) (λ x z b p t rest h.
    let known = at_size x z b p t _ _ rest h c.in_ok-read_header.ensures.read.consumed in
    (c.in_err-n.ensures {u = tt}).refused (length p) h.permutation.positive h.permutation.small _ known)

pub returns-in_err-cost-clause-passed : goal.returns-in_err-cost-clause-passed
returns-in_err-cost-clause-passed g c =
    let e = err_from_is_err_and c.from_residual-in_err-cost.result c.from_residual-in_err-cost.ensures.1 in
    rw (e.1, e.2) (λ x z b p t rest h.
    let known = at_size x z b p t _ _ rest h c.in_ok-read_header.ensures.read.consumed in
    let n = c.in_ok-n.ensures.read in
    let sized = at_cost x z b p (tree_text t ++ rest) c.in_ok-n.n _ _ h.permutation n.1 known n.2.consumed in
    (c.in_err-cost.ensures {u = tt}).refused z h.cost _ sized.1)

pub returns-in_err-perm-clause-passed : goal.returns-in_err-perm-clause-passed
returns-in_err-perm-clause-passed g c =
    let e = err_from_is_err_and c.from_residual-in_err-perm.result c.from_residual-in_err-perm.ensures.1 in
    rw (e.1, e.2) (λ x z b p t rest h.
    let known = at_size x z b p t _ _ rest h c.in_ok-read_header.ensures.read.consumed in
    let n = c.in_ok-n.ensures.read in
    let sized = at_cost x z b p (tree_text t ++ rest) c.in_ok-n.n _ _ h.permutation n.1 known n.2.consumed in
    let cost = c.in_ok-cost.ensures.read in
    let costed = at_perm x z b p (tree_text t ++ rest) c.in_ok-cost.cost _ _ h.cost cost.0 sized.1 cost.1.consumed in
    (c.in_err-perm.ensures {u = tt}).refused p h.permutation sized.0 _ costed.1)

pub returns-in_err-advance-clause-passed : goal.returns-in_err-advance-clause-passed
returns-in_err-advance-clause-passed g c =
    let e = err_from_is_err_and c.from_residual-in_err-advance.result c.from_residual-in_err-advance.ensures.1 in
    rw (e.1, e.2) (λ x z b p t rest h.
    let n = c.in_ok-n.ensures.read in
    let cost = c.in_ok-cost.ensures.read in
    let perm = c.in_ok-perm.ensures.read in
    let here = IsAtRoot-read x z b p t c.in_ok-n.n c.in_ok-cost.cost c.in_ok-perm.perm _ _ _ _ _ rest h c.in_ok-read_header.ensures.read.consumed n.1 n.2.consumed cost.0 cost.1.consumed perm.0 perm.2.consumed in
    let begins = root_begins x z b p t _ _ rest h here.known in
    (c.in_err-advance.ensures {u = tt}).refused begins.0 begins.1 begins.2)

pub returns-in_err-root-clause-passed : goal.returns-in_err-root-clause-passed
returns-in_err-root-clause-passed g c =
    let e = err_from_is_err_and c.from_residual-in_err-root.result c.from_residual-in_err-root.ensures.1 in
    rw (e.1, e.2) (λ x z b p t rest h.
    let n = c.in_ok-n.ensures.read in
    let cost = c.in_ok-cost.ensures.read in
    let perm = c.in_ok-perm.ensures.read in
    let here = IsAtRoot-read x z b p t c.in_ok-n.n c.in_ok-cost.cost c.in_ok-perm.perm _ _ _ _ _ rest h c.in_ok-read_header.ensures.read.consumed n.1 n.2.consumed cost.0 cost.1.consumed perm.0 perm.2.consumed in
    let read = c.in_ok-advance.ensures in
    let rooted = root_current x z b p t _ _ _ rest c.advance.new.cursor.line.items c.in_ok-n.n h here.known read.read.consumed read.whole here.size in
    (c.in_err-root.ensures {u = tt}).passed x _ rooted)

pub returns-in_err-bound-clause-passed : goal.returns-in_err-bound-clause-passed
returns-in_err-bound-clause-passed g c =
    let e = err_from_is_err_and c.from_residual-in_err-bound.result c.from_residual-in_err-bound.ensures.1 in
    rw (e.1, e.2) (λ x z b p t rest h.
    let n = c.in_ok-n.ensures.read in
    let cost = c.in_ok-cost.ensures.read in
    let perm = c.in_ok-perm.ensures.read in
    let here = IsAtRoot-read x z b p t c.in_ok-n.n c.in_ok-cost.cost c.in_ok-perm.perm _ _ _ _ _ rest h c.in_ok-read_header.ensures.read.consumed n.1 n.2.consumed cost.0 cost.1.consumed perm.0 perm.2.consumed in
    let read = c.in_ok-advance.ensures in
    let rooted = root_current x z b p t _ _ _ rest c.advance.new.cursor.line.items c.in_ok-n.n h here.known read.read.consumed read.whole here.size in
    let root = c.in_ok-root.ensures.passed x _ rooted in
    let cost_is : to_z w128 (of_z w128 c.in_ok-cost.cost) ≡ c.in_ok-cost.cost = reads_wide c.in_ok-cost.cost (omega (arith, cost.0)) in
    let bounded = bound_current x z b p t _ _ rest c.read_root.new.cursor.line.items h root.1 in
    let same : z ≡ to_z w128 (of_z w128 c.in_ok-cost.cost) = sym (cost_is ∙ here.cost_is) in
    let bounded_is = subst (λ (k : ℤ). HasBound k b c.read_root.new.cursor.line.items c.read_root.new.reader.left (tree_text t ++ rest)) same bounded in
    (c.in_err-bound.ensures {u = tt}).passed b _ bounded_is)

pub returns-clause-passed : goal.returns-clause-passed
returns-clause-passed g c = λ x z b p t rest h.
    let n = c.in_ok-n.ensures.read in
    let cost = c.in_ok-cost.ensures.read in
    let perm = c.in_ok-perm.ensures.read in
    let here = IsAtRoot-read x z b p t c.in_ok-n.n c.in_ok-cost.cost c.in_ok-perm.perm _ _ _ _ _ rest h c.in_ok-read_header.ensures.read.consumed n.1 n.2.consumed cost.0 cost.1.consumed perm.0 perm.2.consumed in
    let read = c.in_ok-advance.ensures in
    let rooted = root_current x z b p t _ _ _ rest c.advance.new.cursor.line.items c.in_ok-n.n h here.known read.read.consumed read.whole here.size in
    let root = c.in_ok-root.ensures.passed x _ rooted in
    let cost_is : to_z w128 (of_z w128 c.in_ok-cost.cost) ≡ c.in_ok-cost.cost = reads_wide c.in_ok-cost.cost (omega (arith, cost.0)) in
    let bounded = bound_current x z b p t _ _ rest c.read_root.new.cursor.line.items h root.1 in
    let same : z ≡ to_z w128 (of_z w128 c.in_ok-cost.cost) = sym (cost_is ∙ here.cost_is) in
    let bounded_is = subst (λ (k : ℤ). HasBound k b c.read_root.new.cursor.line.items c.read_root.new.reader.left (tree_text t ++ rest)) same bounded in
    let found = c.in_ok-bound.ensures.passed b _ bounded_is in
    let limited = h.bound.limited in
    (record { root_is = root.0; cost_is = sym same; bound_is = ap (λ k. to_z w128 (of_z w128 k)) found.0 ∙ reads_wide b (omega (arith, limited)); perm_is = here.perm }, found.1)

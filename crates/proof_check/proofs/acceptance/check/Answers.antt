use Rattle.std.proofs.Common.{[], ◌≡◌, ◌^◌, ◌≤◌, List, ℤ, rules, unsigned_abs, to_z, of_z, sym, ◌∙◌, ap₂, subst, arith}
use Rattle.std.specs.Prelude.{None, codes, if◌then◌else◌, ◌≤ℤ◌}
use Rattle.std.proofs.lemmas.Result.{err_from_is_err_and}
use Rattle.std.specs.Int.{w128}
use Rattle.qap_lines.proofs.Numerals.{reads_wide}
use Rattle.qap_proof.specs.declared.leaf.Leaf.{Leaf}
use Rattle.proof_check.specs.Acceptance.{CopiesLeaves}
use Rattle.proof_check.specs.Completeness.{HasTree}
use Rattle.proof_check.specs.Judge.{IsGreatestBelow}
use Rattle.proof_check.specs.Walk.{WalksTree}
use Rattle.proof_check.proofs.Accepting.{BeginsTree-text, HasHead-text, CopiesLeaves-all, HasTree-text, ReadsProof-all, content_refused, fits_text, read_refused}
use Rattle.proof_check.proofs.Closing.{far_read}
use Rattle.proof_check.proofs.acceptance.check.Goals as goal

pub walk_root-requires-clause-judge : goal.walk_root-requires-clause-judge
walk_root-requires-clause-judge g c =
    let h = c.below-below.ensures in
    let k = c.below-enough.ensures in
    let limit = c.limit-limit.result in
    let stated = to_z w128 (of_z w128 c.in_ok-head.head.bound) in
    let small : unsigned_abs c.below-below.result ≤ 10 ^ 30 = h.small in
    let small' : unsigned_abs c.below-enough.result ≤ 10 ^ 30 = k.small in
    let limited : unsigned_abs limit ≤ 10 ^ 24 = c.limit-limit.ensures.limited in
    record {
      low = subst (IsGreatestBelow c.args.step stated) (sym (far_read c.below-below.result (omega (arith, small)))) h;
      high = subst (IsGreatestBelow c.args.step (to_z w128 (of_z w128 limit))) (sym (far_read c.below-enough.result (omega (arith, small')))) k;
      at_most = subst (λ (z : ℤ). stated ≤ℤ z) (sym (far_read limit (omega (arith, limited)))) c.limit-limit.ensures.at_least;
    }

pub returns-in_err-head-clause-fault : goal.returns-in_err-head-clause-fault
returns-in_err-head-clause-fault g c =
    let e = err_from_is_err_and c.from_residual.result c.from_residual.ensures.1 in
    let I = c.args.instance.now in
    let old = c.args.reader.now in
    let refused = c.in_err-head.ensures {u = tt} in
    rw (e.1, e.2) (read_refused I old.left _ refused.class (λ C text known is_text. refused.passed C.root C.cost C.bound C.permutation C.tree (codes "end\n") (HasHead-text C text old.left known is_text)))

pub returns-in_err-skim_root-clause-fault : goal.returns-in_err-skim_root-clause-fault
returns-in_err-skim_root-clause-fault g c =
    let e = err_from_is_err_and c.from_residual-in_err-skim_root.result c.from_residual-in_err-skim_root.ensures.1 in
    let I = c.args.instance.now in
    let old = c.args.reader.now in
    let x = c.in_ok-head.head.root in
    let cost = c.in_ok-head.head.cost in
    let bound = c.in_ok-head.head.bound in
    let perm = c.in_ok-head.head.perm in
    let head = c.in_ok-head.ensures.read in
    let line = c.read_head.new.cursor.line.items in
    let b = c.read_head.new.reader in
    let refused = (c.in_err-skim_root.ensures {u = tt}).passed in
    rw (e.1, e.2) (read_refused I old.left _ refused.0 (λ C text known is_text.
    let here = c.in_ok-head.ensures.passed C.root C.cost C.bound C.permutation C.tree (codes "end\n") (HasHead-text C text old.left known is_text) in
    let begins = BeginsTree-text C text x cost bound perm line b.left is_text here.0 here.1 in
    refused.1 (codes "end\n") begins))

pub returns-in_err-read_end-clause-fault : goal.returns-in_err-read_end-clause-fault
returns-in_err-read_end-clause-fault g c =
    let e = err_from_is_err_and c.from_residual-in_err-read_end.result c.from_residual-in_err-read_end.ensures.1 in
    let I = c.args.instance.now in
    let old = c.args.reader.now in
    let x = c.in_ok-head.head.root in
    let cost = c.in_ok-head.head.cost in
    let bound = c.in_ok-head.head.bound in
    let perm = c.in_ok-head.head.perm in
    let head = c.in_ok-head.ensures.read in
    let line = c.read_head.new.cursor.line.items in
    let b = c.read_head.new.reader in
    let refused = c.in_err-read_end.ensures {u = tt} in
    rw (e.1, e.2) (read_refused I old.left _ refused.class (λ C text known is_text.
    let here = c.in_ok-head.ensures.passed C.root C.cost C.bound C.permutation C.tree (codes "end\n") (HasHead-text C text old.left known is_text) in
    let begins = BeginsTree-text C text x cost bound perm line b.left is_text here.0 here.1 in
    refused.refused (c.in_ok-skim_root.ensures.passed (codes "end\n") begins)))

pub returns-in-Some-clause-fault : goal.returns-in-Some-clause-fault
returns-in-Some-clause-fault g c =
    let I = c.args.instance.now in
    let old = c.args.reader.now in
    let x = c.in_ok-head.head.root in
    let cost = c.in_ok-head.head.cost in
    let bound = c.in_ok-head.head.bound in
    let perm = c.in_ok-head.head.perm in
    let head = c.in_ok-head.ensures.read in
    let line = c.read_head.new.cursor.line.items in
    let b = c.read_head.new.reader in
    let limited : unsigned_abs cost ≤ 10 ^ 24 = head.cost in
    let cost_is : to_z w128 (of_z w128 cost) ≡ cost = reads_wide cost (omega (arith, limited)) in
    let found = c.in-Some.ensures in
    content_refused I x cost bound perm _ old _ _ found.0 (ReadsProof-all x cost bound perm line old b _ _ head c.in_ok-skim_root.ensures.skimmed c.in_ok-read_end.ensures.read) (λ C text known is_text proved.
    let here = c.in_ok-head.ensures.passed C.root C.cost C.bound C.permutation C.tree (codes "end\n") (HasHead-text C text old.left known is_text) in
    let fits = fits_text I C x cost bound perm proved here.0 in
    found.1 fits.0 (fits.1 ∙ sym cost_is))

pub returns-in_err-fault-clause-fault : goal.returns-in_err-fault-clause-fault
returns-in_err-fault-clause-fault g c =
    let e = err_from_is_err_and c.from_residual-in_err-fault.result c.from_residual-in_err-fault.ensures.1 in
    let I = c.args.instance.now in
    let old = c.args.reader.now in
    let x = c.in_ok-head.head.root in
    let cost = c.in_ok-head.head.cost in
    let bound = c.in_ok-head.head.bound in
    let perm = c.in_ok-head.head.perm in
    let head = c.in_ok-head.ensures.read in
    let line = c.read_head.new.cursor.line.items in
    let b = c.read_head.new.reader in
    let refused = (c.in_err-fault.ensures {u = tt}).passed in
    rw (e.1, e.2) (read_refused I old.left _ refused.0 (λ C text known is_text.
    let here = c.in_ok-head.ensures.passed C.root C.cost C.bound C.permutation C.tree (codes "end\n") (HasHead-text C text old.left known is_text) in
    let begins = BeginsTree-text C text x cost bound perm line b.left is_text here.0 here.1 in
    refused.1 (codes "end\n") begins))

pub returns-in_err-read_end-2-clause-fault : goal.returns-in_err-read_end-2-clause-fault
returns-in_err-read_end-2-clause-fault g c =
    let e = err_from_is_err_and c.from_residual-in_err-read_end-2.result c.from_residual-in_err-read_end-2.ensures.1 in
    let I = c.args.instance.now in
    let old = c.args.reader.now in
    let x = c.in_ok-head.head.root in
    let cost = c.in_ok-head.head.cost in
    let bound = c.in_ok-head.head.bound in
    let perm = c.in_ok-head.head.perm in
    let head = c.in_ok-head.ensures.read in
    let line = c.read_head.new.cursor.line.items in
    let b = c.read_head.new.reader in
    let refused = c.in_err-read_end-2.ensures {u = tt} in
    rw (e.1, e.2) (read_refused I old.left _ refused.class (λ C text known is_text.
    let here = c.in_ok-head.ensures.passed C.root C.cost C.bound C.permutation C.tree (codes "end\n") (HasHead-text C text old.left known is_text) in
    let begins = BeginsTree-text C text x cost bound perm line b.left is_text here.0 here.1 in
    refused.refused (c.in_ok-fault.ensures.passed (codes "end\n") begins)))

pub returns-in-Some-fault-clause-fault : goal.returns-in-Some-fault-clause-fault
returns-in-Some-fault-clause-fault g c =
    let I = c.args.instance.now in
    let old = c.args.reader.now in
    let x = c.in_ok-head.head.root in
    let cost = c.in_ok-head.head.cost in
    let bound = c.in_ok-head.head.bound in
    let perm = c.in_ok-head.head.perm in
    let head = c.in_ok-head.ensures.read in
    let line = c.read_head.new.cursor.line.items in
    let b = c.read_head.new.reader in
    let limited' : unsigned_abs bound ≤ 10 ^ 24 = head.bound.limited in
    let bound_is : to_z w128 (of_z w128 bound) ≡ bound = reads_wide bound (omega (arith, limited')) in
    let found = rw c.in-Some-fault.is at c.in_ok-fault.ensures.walked in
    content_refused I x cost bound perm _ old _ _ found.kind (ReadsProof-all x cost bound perm line old b _ _ head found.skimmed c.in_ok-read_end-2.ensures.read) (λ C text known is_text proved.
    let here = c.in_ok-head.ensures.passed C.root C.cost C.bound C.permutation C.tree (codes "end\n") (HasHead-text C text old.left known is_text) in
    let has = subst (λ (z : ℤ). HasTree I c.args.step z x None line b.left (codes "end\n")) (sym bound_is) (HasTree-text I c.args.step C text x cost bound perm line b.left c.requires.step is_text proved here.0 here.1) in
    found.refused (codes "end\n") has)

pub returns-in-None-clause-leaves : goal.returns-in-None-clause-leaves
returns-in-None-clause-leaves g c =
    let I = c.args.instance.now in
    let old = c.args.reader.now in
    let x = c.in_ok-head.head.root in
    let cost = c.in_ok-head.head.cost in
    let bound = c.in_ok-head.head.bound in
    let perm = c.in_ok-head.head.perm in
    let head = c.in_ok-head.ensures.read in
    let line = c.read_head.new.cursor.line.items in
    let b = c.read_head.new.reader in
    let limited : unsigned_abs cost ≤ 10 ^ 24 = head.cost in
    let cost_is : to_z w128 (of_z w128 cost) ≡ cost = reads_wide cost (omega (arith, limited)) in
    let limited' : unsigned_abs bound ≤ 10 ^ 24 = head.bound.limited in
    let bound_is : to_z w128 (of_z w128 bound) ≡ bound = reads_wide bound (omega (arith, limited')) in
    let limit = c.limit-limit.result in
    let leaves = c.walk_root.new.walk.leaves.items in
    let d = c.walk_root.new.reader in
    let near : unsigned_abs limit ≤ 10 ^ 24 = c.limit-limit.ensures.limited in
    let none : c.new-leaves.result.items ≡ [] = search rules in
    let limit_is : to_z w128 (of_z w128 limit) ≡ (if c.args.with_leaves then cost else bound) =
    far_read limit (omega (arith, near)) ∙ c.limit-limit.ensures.value ∙ ap₂ (λ (y z : ℤ). if c.args.with_leaves then y else z) cost_is bound_is in
    let fits = rw c.in_default.is at c.perm_fault.ensures in
    let walked = rw c.in-None.is at c.in_ok-fault.ensures.walked in
    let e = c.read_end-2.new.reader in
    subst (λ (z : ℤ). CopiesLeaves I old e x z (to_z w128 (of_z w128 bound)) (if c.args.with_leaves then z else to_z w128 (of_z w128 bound)) perm leaves) (sym cost_is)
    (subst (λ (z : ℤ). CopiesLeaves I old e x cost z (if c.args.with_leaves then cost else z) perm leaves) (sym bound_is)
    (CopiesLeaves-all I c.args.step x cost bound (if c.args.with_leaves then cost else bound) perm line old b d e leaves c.requires.step head fits.0 (fits.1 ∙ cost_is)
    (subst (λ (z : ℤ). WalksTree I c.args.step bound z x None line b d [] leaves) limit_is
    (subst (λ (z : ℤ). WalksTree I c.args.step z (to_z w128 (of_z w128 limit)) x None line b d [] leaves) bound_is
    (subst (λ (l : List Leaf). WalksTree I c.args.step (to_z w128 (of_z w128 bound)) (to_z w128 (of_z w128 limit)) x None line b d l leaves) none walked)))
    c.in_ok-read_end-2.ensures.read))

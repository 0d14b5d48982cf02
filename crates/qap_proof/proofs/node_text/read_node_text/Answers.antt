use Rattle.std.proofs.Common.{◌≡◌, ◌++◌, ◌∙◌, List, ℕ, ap, length, sym, ⊎_elim}
use Rattle.std.specs.Prelude.{codes}
use Rattle.qap_proof.proofs.NodeTexts.{found_text, no_text}
use Rattle.qap_proof.proofs.Roots.{some_listed}
use Rattle.qap_proof.specs.declared.error.ProofError.TheVariants.{OutOfMemory, RootBad}
use Rattle.qap_proof.proofs.node_text.read_node_text.Goals as goal

pub returns-in-Ok : goal.returns-in-Ok
returns-in-Ok c =
    let text = c.args.text.now in
    let line : c.deref.result.now ≡ codes "node " ++ text = c.deref.ensures.value ∙ c.in_ok-extend_from_slice.ensures.items ∙ ap (λ (xs : List ℕ). xs ++ text) c.in_ok-line.ensures.items in
    found_text c.args.size text c.deref.result.now c.in-Ok.found line (some_listed (length text) c.if-is_empty.ensures) c.in-Ok.ensures

pub returns-in-Err-RootBad : goal.returns-in-Err-RootBad
returns-in-Err-RootBad c =
    let text = c.args.text.now in
    let line : c.deref.result.now ≡ codes "node " ++ text = c.deref.ensures.value ∙ c.in_ok-extend_from_slice.ensures.items ∙ ap (λ (xs : List ℕ). xs ++ text) c.in_ok-line.ensures.items in
    ⊎_elim
    (λ memory. let other : RootBad c.in-Err-RootBad.field-0-0 ≡ OutOfMemory = sym c.in-Err-RootBad.field-0-is ∙ memory in cc)
    (λ told. no_text c.args.size text c.deref.result.now told.1 line (some_listed (length text) c.if-is_empty.ensures) told.2 told.3)
    (c.in-Err-RootBad.ensures {u = tt})

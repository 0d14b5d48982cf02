use Rattle.std.proofs.Common.{◌≡◌, ℕ, ◌∙◌, inl, inr, ⊎_elim, ap, sym, subst, to_z, of_z, ◌≤◌, ◌^◌, arith}
use Rattle.std.specs.Prelude.{ℤ, unsigned_abs}
use Rattle.std.specs.Int.{w128}
use Rattle.std.proofs.lemmas.Result.{err_from_is_err_and}
use Rattle.std.proofs.lemmas.Int.{to_z-of_z, fits_signed_from_abs}
use Rattle.qap_cost.specs.Instance.{Problem}
use Rattle.qap_cost.specs.Placement.{Placement, root_of}
use Rattle.qap_cert.specs.Certificate.{Certifies}
use Rattle.qap_cert.specs.Fault.{IsTreeFault}
use Rattle.qap_cert.specs.Tree.{Node, node_of}
use Rattle.qap_cert.specs.Valid.{Valid}
use Rattle.qap_cert.proofs.Validity.{Certifies-NoneCostsLess, Certifies-IsLeast}
use Rattle.qap_cert.proofs.checking.check.Goals as goal

pub returns-clause-bound : goal.returns-clause-bound
returns-clause-bound c =
    let I = c.args.instance.now in
    let C = c.args.certificate.now in
    let within : unsigned_abs c.bound.result ≤ 10 ^ 24 = subst (λ (z : ℤ). unsigned_abs z ≤ 10 ^ 24) (sym c.bound.ensures.value) c.bound.ensures.certificate.bound.limited in
    let g = to_z w128 (of_z w128 c.bound.result) in
    let bound : g ≡ C.bound = to_z-of_z w128 c.bound.result (fits_signed_from_abs w128 c.bound.result (omega (arith, within))) ∙ c.bound.ensures.value in
    let root : c.in_ok-root.root ≡ root_of I.size = c.in_ok-root.ensures.value ∙ ap root_of c.size.ensures.value in
    let valid : Valid I C.bound (root_of I.size) C.tree =
    subst (λ (z : ℤ). Valid I z (root_of I.size) C.tree) bound
    (subst (λ (y : Placement). Valid I g y C.tree) root
    (subst (λ (t : Node). Valid I g c.in_ok-root.root t) c.tree.ensures.value
    (subst (λ (J : Problem). Valid J g c.in_ok-root.root (node_of c.tree.result.now)) c.in_ok-ranked.ensures.value c.in_ok-check_tree.ensures.0))) in
    let certified : Certifies I C = record { same_size = c.in_ok-judge_stated.ensures.0; cost = c.in_ok-judge_stated.ensures.1; tree = valid } in
    Certifies-NoneCostsLess I C c.size.ensures.instance certified

pub returns-clause-least : goal.returns-clause-least
returns-clause-least c =
    let I = c.args.instance.now in
    let C = c.args.certificate.now in
    let within : unsigned_abs c.bound.result ≤ 10 ^ 24 = subst (λ (z : ℤ). unsigned_abs z ≤ 10 ^ 24) (sym c.bound.ensures.value) c.bound.ensures.certificate.bound.limited in
    let g = to_z w128 (of_z w128 c.bound.result) in
    let bound : g ≡ C.bound = to_z-of_z w128 c.bound.result (fits_signed_from_abs w128 c.bound.result (omega (arith, within))) ∙ c.bound.ensures.value in
    let root : c.in_ok-root.root ≡ root_of I.size = c.in_ok-root.ensures.value ∙ ap root_of c.size.ensures.value in
    let valid : Valid I C.bound (root_of I.size) C.tree =
    subst (λ (z : ℤ). Valid I z (root_of I.size) C.tree) bound
    (subst (λ (y : Placement). Valid I g y C.tree) root
    (subst (λ (t : Node). Valid I g c.in_ok-root.root t) c.tree.ensures.value
    (subst (λ (J : Problem). Valid J g c.in_ok-root.root (node_of c.tree.result.now)) c.in_ok-ranked.ensures.value c.in_ok-check_tree.ensures.0))) in
    let certified : Certifies I C = record { same_size = c.in_ok-judge_stated.ensures.0; cost = c.in_ok-judge_stated.ensures.1; tree = valid } in
    Certifies-IsLeast I C c.size.ensures.instance c.bound.ensures.certificate certified

pub returns-in_err-check_tree-clause-verdict : goal.returns-in_err-check_tree-clause-verdict
returns-in_err-check_tree-clause-verdict c =
    let I = c.args.instance.now in
    let C = c.args.certificate.now in
    let e = c.in_err-check_tree.field-0.0 in
    let within : unsigned_abs c.bound.result ≤ 10 ^ 24 = subst (λ (z : ℤ). unsigned_abs z ≤ 10 ^ 24) (sym c.bound.ensures.value) c.bound.ensures.certificate.bound.limited in
    let g = to_z w128 (of_z w128 c.bound.result) in
    let bound : g ≡ C.bound = to_z-of_z w128 c.bound.result (fits_signed_from_abs w128 c.bound.result (omega (arith, within))) ∙ c.bound.ensures.value in
    let root : c.in_ok-root.root ≡ root_of I.size = c.in_ok-root.ensures.value ∙ ap root_of c.size.ensures.value in
    let line = c.tree_line-line.result in
    let p = err_from_is_err_and c.from_residual-in_err-check_tree.result c.from_residual-in_err-check_tree.ensures.1 in
    rw (p.1, p.2) (⊎_elim inl (λ fault. inr (inr (inr (
      c.in_ok-judge_stated.ensures.0,
      c.in_ok-judge_stated.ensures.1,
      subst (λ (n : ℕ). IsTreeFault I C.bound (root_of I.size) n C.tree e) c.tree_line-line.ensures
          (subst (λ (z : ℤ). IsTreeFault I z (root_of I.size) line C.tree e) bound
          (subst (λ (y : Placement). IsTreeFault I g y line C.tree e) root
          (subst (λ (t : Node). IsTreeFault I g c.in_ok-root.root line t e) c.tree.ensures.value
          (subst (λ (J : Problem). IsTreeFault J g c.in_ok-root.root line (node_of c.tree.result.now) e) c.in_ok-ranked.ensures.value fault)))),
    ))))
    (c.in_err-check_tree.ensures {u = tt}))

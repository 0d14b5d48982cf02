use Rattle.std.proofs.Common.{◌≡◌, [], ◌∷◌, ◌++◌, ℤ, inl, inr, sym, subst, ⊎_elim, arith, to_z, of_z}
use Rattle.std.specs.Prelude.{codes}
use Rattle.qap_cost.specs.Range.{IsLimited}
use Rattle.qap_cert.specs.Head.{HasHead}
use Rattle.qap_lines.specs.LineText.{line_text}
use Rattle.qap_cert.specs.TextFault.{IsFaultFromBound}
use Rattle.std.specs.Int.{w128}
use Rattle.std.proofs.lemmas.Result.{err_from_is_err_and}
use Rattle.qap_cert.proofs.ReadTexts.{IsTextFault-behind, HasHead-read}
use Rattle.qap_lines.proofs.Numerals.{reads_wide}
use Rattle.qap_cert.proofs.reader.read_head.Goals as goal

pub returns-in_err-cost : goal.returns-in_err-cost
returns-in_err-cost c =
    let p = err_from_is_err_and c.from_residual-in_err-cost.result c.from_residual-in_err-cost.ensures.1 in
    let size = c.in_ok-size.ensures in
    rw (p.1, p.2) (inr (inr (
      c.in_ok-version.version,
      record {
        rest = _;
        is = c.in_ok-version.ensures;
        holds =
            inr (c.in_ok-size.size, size.0, size.1, record { rest = _; is = size.2; holds = inl (c.in_err-cost.ensures {u = tt}) });
      },
    )))

pub returns-in_err-perm : goal.returns-in_err-perm
returns-in_err-perm c =
    let p = err_from_is_err_and c.from_residual-in_err-perm.result c.from_residual-in_err-perm.ensures.1 in
    let size = c.in_ok-size.ensures in
    let cost = c.in_ok-cost.ensures in
    rw (p.1, p.2) (⊎_elim inl (λ fault. inr (inr (
      c.in_ok-version.version,
      record {
        rest = _;
        is = c.in_ok-version.ensures;
        holds =
            inr (
              c.in_ok-size.size,
              size.0,
              size.1,
              record {
                rest = _;
                is = size.2;
                holds = inr (c.in_ok-cost.cost, cost.0, record { rest = _; is = cost.1; holds = inl fault });
              },
            );
      },
    )))
    (c.in_err-perm.ensures {u = tt}))

pub returns-in_err-bounded : goal.returns-in_err-bounded
returns-in_err-bounded c =
    let p = err_from_is_err_and c.from_residual-in_err-bounded.result c.from_residual-in_err-bounded.ensures.1 in
    let n = c.in_ok-size.size in
    let size = c.in_ok-size.ensures in
    let cost = c.in_ok-cost.ensures in
    let perm = c.in_ok-perm.ensures in
    let same : to_z w128 (of_z w128 c.in_ok-cost.cost) ≡ c.in_ok-cost.cost = reads_wide c.in_ok-cost.cost (omega (arith, cost.0)) in
    let fault = subst (λ (z : ℤ). IsFaultFromBound c.in_ok-version.version n z c.in_ok-perm.rest.now c.in_err-bounded.field-0.0) same (c.in_err-bounded.ensures {u = tt} n) in
    rw (p.1, p.2) (inr (IsTextFault-behind c.in_ok-version.version n c.in_ok-cost.cost c.in_ok-perm.perm c.args.text.now c.in_ok-version.rest.now c.in_ok-size.rest.now c.in_ok-cost.rest.now
    c.in_ok-perm.rest.now c.in_err-bounded.field-0.0 size.0 size.1 cost.0 perm.0 perm.1 c.in_ok-version.ensures size.2 cost.1 perm.2 fault))

pub returns : goal.returns
returns c =
    let v = c.in_ok-version.version in
    let n = c.in_ok-size.size in
    let cost = c.in_ok-cost.cost in
    let read = c.in_ok-bounded.bounded in
    let size = c.in_ok-size.ensures in
    let perm = c.in_ok-perm.ensures in
    let cost_is : to_z w128 (of_z w128 cost) ≡ cost = reads_wide cost (omega (arith, c.in_ok-cost.ensures.0)) in
    let wide = to_z w128 (of_z w128 cost) in
    let limited : IsLimited wide = subst IsLimited (sym cost_is) c.in_ok-cost.ensures.0 in
    let line : c.in_ok-size.rest.now ≡ line_text (codes "cost") (wide ∷ []) ++ c.in_ok-cost.rest.now =
    subst (λ (z : ℤ). c.in_ok-size.rest.now ≡ line_text (codes "cost") (z ∷ []) ++ c.in_ok-cost.rest.now) (sym cost_is) c.in_ok-cost.ensures.1 in
    let bounded = c.in_ok-bounded.ensures in
    let bound_is : to_z w128 (of_z w128 read.bound) ≡ read.bound = reads_wide read.bound (omega (arith, bounded.1.limited)) in
    let head : HasHead c.args.text.now v wide read.bound c.in_ok-perm.perm read.line read.rest.now =
    HasHead-read v n wide read.bound c.in_ok-perm.perm read.line c.args.text.now c.in_ok-version.rest.now c.in_ok-size.rest.now c.in_ok-cost.rest.now c.in_ok-perm.rest.now read.rest.now
    size.0 size.1 limited perm.0 perm.1 c.in_ok-version.ensures size.2 line perm.2 bounded.0 bounded.1 bounded.2 bounded.3 bounded.4 in
    (subst (λ (z : ℤ). HasHead c.args.text.now v wide z c.in_ok-perm.perm read.line read.rest.now) (sym bound_is) head, sym perm.1)

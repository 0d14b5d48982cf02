use Rattle.std.proofs.Common.{◌≡◌, [], ◌∷◌, ◌++◌, ℤ, inl, inr, sym, subst, ⊎_elim, arith, to_z, of_z}
use Rattle.std.specs.Prelude.{codes}
use Rattle.std.specs.Int.{w128}
use Rattle.std.proofs.lemmas.Result.{err_from_is_err_and}
use Rattle.qap_cost.specs.Range.{IsLimited}
use Rattle.qap_lines.specs.LineText.{line_text}
use Rattle.qap_lines.proofs.Numerals.{reads_wide}
use Rattle.qap_proof.proofs.HeadTexts.{Front, IsTextFault-behind, HasHead-read}
use Rattle.qap_proof.specs.Head.{HasHead}
use Rattle.qap_proof.specs.TextFault.{IsFaultFromBound}
use Rattle.qap_proof.proofs.reader.read_head.Goals as goal

pub returns-in_err-cost : goal.returns-in_err-cost
returns-in_err-cost c =
    let p = err_from_is_err_and c.from_residual-in_err-cost.result c.from_residual-in_err-cost.ensures.1 in
    let size = c.in_ok-size.ensures in
    rw (p.1, p.2) (inr (inr (record {
      rest = _;
      is = c.in_ok-rest.ensures;
      holds =
          inr (c.in_ok-size.size, size.0, size.1, record { rest = _; is = size.2; holds = inl (c.in_err-cost.ensures {u = tt}) });
    })))

pub returns-in_err-perm : goal.returns-in_err-perm
returns-in_err-perm c =
    let p = err_from_is_err_and c.from_residual-in_err-perm.result c.from_residual-in_err-perm.ensures.1 in
    let size = c.in_ok-size.ensures in
    let cost = c.in_ok-cost.ensures in
    rw (p.1, p.2) (⊎_elim inl (λ fault. inr (inr (record {
      rest = _;
      is = c.in_ok-rest.ensures;
      holds =
          inr (
            c.in_ok-size.size,
            size.0,
            size.1,
            record {
              rest = _;
              is = size.2;
              holds = inr (c.in_ok-cost.cost, cost.0, record { rest = _; is = cost.1; holds = inl fault });
            },
          );
    })))
    (c.in_err-perm.ensures {u = tt}))

pub returns-in_err-rooted : goal.returns-in_err-rooted
returns-in_err-rooted c =
    let p = err_from_is_err_and c.from_residual-in_err-rooted.result c.from_residual-in_err-rooted.ensures.1 in
    let size = c.in_ok-size.ensures in
    let cost = c.in_ok-cost.ensures in
    let perm = c.in_ok-perm.ensures in
    let front : Front c.in_ok-size.size c.in_ok-cost.cost c.in_ok-perm.perm c.args.text.now c.in_ok-rest.rest.now c.in_ok-size.rest.now c.in_ok-cost.rest.now c.in_ok-perm.rest.now = record {
      some = size.0;
      small = size.1;
      limited = cost.0;
      permutation = perm.0;
      sized = perm.1;
      version_is = c.in_ok-rest.ensures;
      size_is = size.2;
      cost_is = cost.1;
      perm_is = perm.2;
    } in
    rw (p.1, p.2) (⊎_elim inl (λ fault. inr (IsTextFault-behind c.in_ok-size.size c.in_ok-cost.cost c.in_ok-perm.perm c.args.text.now c.in_ok-rest.rest.now c.in_ok-size.rest.now c.in_ok-cost.rest.now
    c.in_ok-perm.rest.now c.in_err-rooted.field-0.0 front (inl fault)))
    (c.in_err-rooted.ensures {u = tt}))

pub returns-in_err-bounded : goal.returns-in_err-bounded
returns-in_err-bounded c =
    let p = err_from_is_err_and c.from_residual-in_err-bounded.result c.from_residual-in_err-bounded.ensures.1 in
    let size = c.in_ok-size.ensures in
    let cost = c.in_ok-cost.ensures in
    let perm = c.in_ok-perm.ensures in
    let rooted = c.in_ok-rooted.rooted in
    let front : Front c.in_ok-size.size c.in_ok-cost.cost c.in_ok-perm.perm c.args.text.now c.in_ok-rest.rest.now c.in_ok-size.rest.now c.in_ok-cost.rest.now c.in_ok-perm.rest.now = record {
      some = size.0;
      small = size.1;
      limited = cost.0;
      permutation = perm.0;
      sized = perm.1;
      version_is = c.in_ok-rest.ensures;
      size_is = size.2;
      cost_is = cost.1;
      perm_is = perm.2;
    } in
    let same : to_z w128 (of_z w128 c.in_ok-cost.cost) ≡ c.in_ok-cost.cost = reads_wide c.in_ok-cost.cost (omega (arith, cost.0)) in
    let fault = subst (λ (z : ℤ). IsFaultFromBound rooted.root z rooted.line rooted.rest.now c.in_err-bounded.field-0.0) same (c.in_err-bounded.ensures {u = tt} rooted.root) in
    rw (p.1, p.2) (inr (IsTextFault-behind c.in_ok-size.size c.in_ok-cost.cost c.in_ok-perm.perm c.args.text.now c.in_ok-rest.rest.now c.in_ok-size.rest.now c.in_ok-cost.rest.now
    c.in_ok-perm.rest.now c.in_err-bounded.field-0.0 front (c.in_ok-rooted.ensures.fault c.in_ok-cost.cost c.in_err-bounded.field-0.0 fault)))

pub returns : goal.returns
returns c =
    let n = c.in_ok-size.size in
    let cost = c.in_ok-cost.cost in
    let size = c.in_ok-size.ensures in
    let perm = c.in_ok-perm.ensures in
    let rooted = c.in_ok-rooted.rooted in
    let read = c.in_ok-bounded.bounded in
    let bounded = c.in_ok-bounded.ensures in
    let wide = to_z w128 (of_z w128 cost) in
    let cost_is : wide ≡ cost = reads_wide cost (omega (arith, c.in_ok-cost.ensures.0)) in
    let limited : IsLimited wide = subst IsLimited (sym cost_is) c.in_ok-cost.ensures.0 in
    let line : c.in_ok-size.rest.now ≡ line_text (codes "cost") (wide ∷ []) ++ c.in_ok-cost.rest.now =
    subst (λ (z : ℤ). c.in_ok-size.rest.now ≡ line_text (codes "cost") (z ∷ []) ++ c.in_ok-cost.rest.now) (sym cost_is) c.in_ok-cost.ensures.1 in
    let front : Front n wide c.in_ok-perm.perm c.args.text.now c.in_ok-rest.rest.now c.in_ok-size.rest.now c.in_ok-cost.rest.now c.in_ok-perm.rest.now = record {
      some = size.0;
      small = size.1;
      limited = limited;
      permutation = perm.0;
      sized = perm.1;
      version_is = c.in_ok-rest.ensures;
      size_is = size.2;
      cost_is = line;
      perm_is = perm.2;
    } in
    let bound_is : to_z w128 (of_z w128 read.bound) ≡ read.bound = reads_wide read.bound (omega (arith, bounded.0.limited)) in
    let head : HasHead c.args.text.now rooted.root wide read.bound c.in_ok-perm.perm read.line read.rest.now =
    HasHead-read n wide read.bound c.in_ok-perm.perm c.args.text.now c.in_ok-rest.rest.now c.in_ok-size.rest.now c.in_ok-cost.rest.now c.in_ok-perm.rest.now rooted.root rooted.line read.line
    rooted.rest.now read.rest.now front c.in_ok-rooted.ensures bounded.0 bounded.1 bounded.2 bounded.3 in
    subst (λ (z : ℤ). HasHead c.args.text.now rooted.root wide z c.in_ok-perm.perm read.line read.rest.now) (sym bound_is) head

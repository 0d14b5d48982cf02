use Rattle.std.proofs.Common.{ℕ, List, Bor, inl, inr, map, refl, subst}
use Rattle.std.proofs.lemmas.Result.{err_from_is_err_and}
use Rattle.qap_verify.specs.Naming.{AddsEach, AddsFirst}
use Rattle.qap_verify.proofs.naming.joined.Goals as goal

pub returns-in_err-cover : goal.returns-in_err-cover
returns-in_err-cover g c =
    let p = err_from_is_err_and c.from_residual.result c.from_residual.ensures.1 in
    rw (p.1, p.2) (inl (c.in_err-cover.ensures, refl))

pub returns-in_err-add_parts : goal.returns-in_err-add_parts
returns-in_err-add_parts g c =
    let p = err_from_is_err_and c.from_residual-in_err-add_parts.result c.from_residual-in_err-add_parts.ensures.1 in
    let holds = g.D.Sources.holds c.args.sources.now in
    let first = λ (names : List (Bor (List ℕ))). AddsFirst holds g.F.Read.remaining (map (λ name. name.now) names) c.in_ok-cover.cover c.add_parts.new.cover c.in_err-add_parts.field-0.0 in
    rw (p.1, p.2) (inr (record {
      opened = c.in_ok-cover.cover;
      whole = c.in_ok-cover.ensures;
      all = c.add_parts.new.cover;
      reason = inl (subst first c.deref.ensures.value (c.in_err-add_parts.ensures {u = tt}), refl);
    }))

pub returns-in_err-lines : goal.returns-in_err-lines
returns-in_err-lines g c =
    let p = err_from_is_err_and c.from_residual-in_err-lines.result c.from_residual-in_err-lines.ensures.1 in
    let holds = g.D.Sources.holds c.args.sources.now in
    let each = λ (names : List (Bor (List ℕ))). AddsEach holds g.F.Read.remaining (map (λ name. name.now) names) c.in_ok-cover.cover c.add_parts.new.cover in
    rw p.1 (inr (record {
      opened = c.in_ok-cover.cover;
      whole = c.in_ok-cover.ensures;
      all = c.add_parts.new.cover;
      reason = inr (subst each c.deref.ensures.value c.in_ok-add_parts.ensures, inl (p.2, refl));
    }))

pub returns-in_err-verdict : goal.returns-in_err-verdict
returns-in_err-verdict g c =
    let p = err_from_is_err_and c.from_residual-in_err-verdict.result c.from_residual-in_err-verdict.ensures.1 in
    let holds = g.D.Sources.holds c.args.sources.now in
    let each = λ (names : List (Bor (List ℕ))). AddsEach holds g.F.Read.remaining (map (λ name. name.now) names) c.in_ok-cover.cover c.add_parts.new.cover in
    rw (p.1, p.2) (inr (record {
      opened = c.in_ok-cover.cover;
      whole = c.in_ok-cover.ensures;
      all = c.add_parts.new.cover;
      reason = inr (subst each c.deref.ensures.value c.in_ok-add_parts.ensures, c.in_err-verdict.ensures);
    }))

pub returns : goal.returns
returns g c =
    let holds = g.D.Sources.holds c.args.sources.now in
    let each = λ (names : List (Bor (List ℕ))). AddsEach holds g.F.Read.remaining (map (λ name. name.now) names) c.in_ok-cover.cover c.add_parts.new.cover in
    record {
      opened = c.in_ok-cover.cover;
      whole = c.in_ok-cover.ensures;
      all = c.add_parts.new.cover;
      added = subst each c.deref.ensures.value c.in_ok-add_parts.ensures;
      verdict = c.in_ok-verdict.verdict;
      shown = c.in_ok-verdict.ensures;
      ends = c.verdict_status.ensures;
    }

use Rattle.std.proofs.Common.{◌≡◌, ℕ, List, ◌-◌, ◌∷◌, length, reverse, inl, inr, sym, ap, ◌∙◌, subst, ⊎_elim, arith}
use Rattle.std.proofs.lemmas.Result.{err_from_is_err_and}
use Rattle.qap_cert.proofs.Duals.{duals_there}
use Rattle.qap_cert.proofs.Levels.{BeginsWithTrees-one, IsFaultAtLevels-first, IsSplitAt-read, LeadsBehind-closed, LeadsBehind-run, LeadsBehind-split, levels_of-pushed, reverse-last}
use Rattle.qap_cert.proofs.Readings.{IsTreeTextFault-line}
use Rattle.qap_cert.proofs.Walks.{BeginsWithTree-bound}
use Rattle.qap_cert.specs.Levels.{Level, LeadsBehind, levels_of, placed_outside}
use Rattle.qap_cert.specs.Walk.{Any}
use Rattle.qap_cert.proofs.skimming.skim_step.Goals as goal

pub returns-then-here-eq0-clause-read : goal.returns-then-here-eq0-clause-read
returns-then-here-eq0-clause-read c =
    let v = c.args.grammar.version in
    let n = c.args.grammar.size in
    let placed = c.args.placed.now in
    let outer = reverse c.args.left.now.items in
    subst (λ (p : List ℕ). LeadsBehind v n (levels_of placed (c.args.here ∷ outer)) c.args.line c.args.text.now (levels_of p outer) c.args.line c.args.text.now) (sym c.pop.ensures)
    (LeadsBehind-closed v n placed c.args.here (levels_of (placed_outside placed) outer) c.args.line c.args.text.now (omega (arith, c.ranges.line.fits)) (omega (arith, c.if-here-eq0.true)))

pub returns-in_err-first-clause-read : goal.returns-in_err-first-clause-read
returns-in_err-first-clause-read c =
    let v = c.args.grammar.version in
    let n = c.args.grammar.size in
    let placed = c.args.placed.now in
    let e = c.in_err-first.field-0.0 in
    let p = err_from_is_err_and c.from_residual.result c.from_residual.ensures.1 in
    rw (p.1, p.2) (inr (IsFaultAtLevels-first v n placed c.args.here (levels_of (placed_outside placed) (reverse c.args.left.now.items)) c.args.line c.args.text.now e
    (omega (arith, c.ranges.line.fits)) (omega (arith, c.if-here-eq0.false)) (IsTreeTextFault-line v n (n - length placed) placed c.args.line c.args.text.now e (c.in_err-first.ensures {u = tt}))))

pub returns-in-Some-clause-read : goal.returns-in-Some-clause-read
returns-in-Some-clause-read c =
    let v = c.args.grammar.version in
    let n = c.args.grammar.size in
    let placed = c.args.placed.now in
    let f = c.in-Some.facility in
    let first = c.in_ok-first.first in
    let outer = reverse c.args.left.now.items in
    let next = c.saturating_add-next.result in
    let left = c.args.here - 1 in
    let count = n - c.count.result in
    let inner = c.push.new.self in
    let at = IsSplitAt-read v n placed inner count c.args.line c.args.text.now first.bytes.now first.rest.now next f first.facility c.requires.small c.in_ok-first.ensures.0 c.in_ok-first.ensures.1 c.in-Some.is
    c.push.ensures (omega (arith, c.count.ensures.value)) c.saturating_add-next.ensures in
    let pushed : reverse c.push_count-in-Some.new.left.items ≡ count ∷ left ∷ outer =
    reverse-last c.push_count-in-Some.new.left.items c.push_count.new.left.items count c.in_ok-push_count-2.ensures
    ∙ ap (λ l. count ∷ l) (reverse-last c.push_count.new.left.items c.args.left.now.items left c.in_ok-push_count.ensures) in
    subst (λ (levels : List Level). LeadsBehind v n (levels_of placed (c.args.here ∷ outer)) c.args.line c.args.text.now levels next first.rest.now)
    (sym (levels_of-pushed placed inner f count left (reverse c.push_count-in-Some.new.left.items) outer c.push.ensures pushed))
    (LeadsBehind-split v n placed inner count left c.args.here (levels_of (placed_outside placed) outer) c.args.line c.args.text.now first.rest.now next f
    (omega (arith, c.ranges.line.fits)) (omega (arith, c.if-here-eq0.false)) at)

pub returns-in_err-bound_numbers-clause-read : goal.returns-in_err-bound_numbers-clause-read
returns-in_err-bound_numbers-clause-read c =
    let v = c.args.grammar.version in
    let n = c.args.grammar.size in
    let placed = c.args.placed.now in
    let first = c.in_ok-first.first in
    let e = c.in_err-bound_numbers.field-0.0 in
    let p = err_from_is_err_and c.from_residual-in_err-bound_numbers.result c.from_residual-in_err-bound_numbers.ensures.1 in
    rw (p.1, p.2) (⊎_elim inl (λ fault. inr (IsFaultAtLevels-first v n placed c.args.here (levels_of (placed_outside placed) (reverse c.args.left.now.items)) c.args.line c.args.text.now e
    (omega (arith, c.ranges.line.fits)) (omega (arith, c.if-here-eq0.false))
    (IsTreeTextFault-line v n (n - length placed) placed c.args.line c.args.text.now e (inr (first.bytes.now, first.rest.now, c.in_ok-first.ensures.0, fault)))))
    (c.in_err-bound_numbers.ensures {u = tt}))

pub returns-clause-read : goal.returns-clause-read
returns-clause-read c =
    let v = c.args.grammar.version in
    let n = c.args.grammar.size in
    let placed = c.args.placed.now in
    let first = c.in_ok-first.first in
    let outer = reverse c.args.left.now.items in
    let next = c.saturating_add-next.result in
    let left = c.args.here - 1 in
    let duals = duals_there (n - length placed) 0 first.bytes.now c.bound_numbers.new.first.items c.in_ok-bound_numbers.ensures in
    let tree = BeginsWithTree-bound v n placed c.args.line c.args.text.now first.bytes.now first.rest.now next Any duals.0 duals.1 c.in_ok-first.ensures.0 duals.2 duals.3 c.saturating_add-next.ensures tt in
    subst (λ (ls : List ℕ). LeadsBehind v n (levels_of placed (c.args.here ∷ outer)) c.args.line c.args.text.now (levels_of placed ls) next first.rest.now)
    (sym (reverse-last c.push_count.new.left.items c.args.left.now.items left c.in_ok-push_count.ensures))
    (LeadsBehind-run v n placed 1 left c.args.here (levels_of (placed_outside placed) outer) c.args.line c.args.text.now first.rest.now next Any
    (BeginsWithTrees-one v n placed c.args.line c.args.text.now first.rest.now next Any Any tree tt) (omega (arith, c.if-here-eq0.false)))

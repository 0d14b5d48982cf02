use Rattle.std.proofs.Common.{◌≡◌, ℕ, List, ◌-◌, ◌<◌, ◌++◌, [], ◌∷◌, length, get_or, take, drop, map, reverse, inr, refl, sym, ap, ◌∙◌, subst, arith, rules}
use Rattle.std.specs.Prelude.{None}
use Rattle.std.proofs.lemmas.List.{nil_from_length}
use Rattle.std.proofs.lemmas.Result.{err_from_is_err_and}
use Rattle.qap_cost.specs.Placement.{IsFree, placing, free_locations}
use Rattle.qap_cert.proofs.Levels.{IsFaultAtLevels-first, IsSplitAt, IsSplitAt-read, IsToldBehind-closed, IsToldBehind-run, IsToldBehind-split, reverse-last}
use Rattle.qap_cert.proofs.Readings.{IsTreeTextFault-line}
use Rattle.qap_cert.specs.Levels.{IsRunTold, IsToldBehind, OpenSplit, level_of, placed_behind}
use Rattle.qap_cert.specs.NodeLine.{IsNodeLine}
use Rattle.qap_cert.specs.TextFault.{IsTreeTextFault}
use Rattle.qap_cert.specs.Walk.{BeginsWithTrees}
use Rattle.qap_cert.proofs.walking.judge_step.Goals as goal

pub returns-then-is_empty-clause-judged : goal.returns-then-is_empty-clause-judged
returns-then-is_empty-clause-judged c =
    let s = c.args.innermost in
    let none : length c.locations.result.now ≡ 0 = search rules in
    IsToldBehind-closed c.args.task.now.grammar.version c.args.task.now.grammar.size c.args.task.now.ranked.now c.args.task.now.bound s.node s.facility s.locations (reverse c.args.splits.now.items)
    c.args.line c.args.text.now (omega (arith, c.ranges.line.fits)) (nil_from_length s.locations (ap length (sym c.locations.ensures.value) ∙ none))

pub returns-in_err-first-clause-judged : goal.returns-in_err-first-clause-judged
returns-in_err-first-clause-judged c =
    let v = c.args.task.now.grammar.version in
    let n = c.args.task.now.grammar.size in
    let s = c.args.innermost in
    let placed = c.placed-placed.result in
    let e = c.in_err-first.field-0.0 in
    let some : 0 < length c.locations.result.now = search rules in
    let p = err_from_is_err_and c.from_residual.result c.from_residual.ensures.1 in
    rw (p.1, p.2) (inr (IsFaultAtLevels-first v n (placed_behind s) (length s.locations) (map level_of (reverse c.args.splits.now.items)) c.args.line c.args.text.now e
    (omega (arith, c.ranges.line.fits)) (omega (arith, some, ap length c.locations.ensures.value))
    (subst (λ (xs : List ℕ). IsTreeTextFault v n (n - length xs) xs c.args.line c.args.text.now e) c.placed-placed.ensures.value
    (IsTreeTextFault-line v n (n - length placed) placed c.args.line c.args.text.now e (c.in_err-first.ensures {u = tt})))))

pub returns-in_default-clause-judged : goal.returns-in_default-clause-judged
returns-in_default-clause-judged c =
    let v = c.args.task.now.grammar.version in
    let n = c.args.task.now.grammar.size in
    let I = c.args.task.now.ranked.now in
    let g = c.args.task.now.bound in
    let s = c.args.innermost in
    let run = c.in_ok-run.run' in
    let outer = reverse c.args.splits.now.items in
    let rest : OpenSplit = record { node = s.node; facility = s.facility; locations = drop run.count s.locations } in
    subst (λ (splits : List OpenSplit). IsToldBehind v n I g run.fault (s ∷ outer) c.args.line c.args.text.now splits run.next run.rest.now)
    (sym (reverse-last c.push_rest.new.splits.items c.args.splits.now.items rest (c.in_ok-push_rest.ensures {u = tt})))
    (IsToldBehind-run v n I g run.fault s.node s.facility s.locations run.count outer c.args.line c.args.text.now run.rest.now run.next (omega (arith, c.ranges.line.fits))
    (subst (λ (xs : List ℕ). BeginsWithTrees v n xs run.count c.args.line c.args.text.now run.rest.now run.next (IsRunTold I g s.node s.facility (take run.count s.locations) s.locations c.args.line run.fault))
    c.placed-placed.ensures.value c.in_ok-run.ensures.judged) c.in_ok-run.ensures.within)

-- the first of some locations, and the others
first_and_others : (ks : List ℕ) → 0 < length ks → ks ≡ get_or ks 0 0 ∷ drop 1 ks
first_and_others [] some = absurd (omega (arith, some))
first_and_others (k ∷ ks) some = refl

pub returns-clause-judged : goal.returns-clause-judged
returns-clause-judged c =
    let v = c.args.task.now.grammar.version in
    let n = c.args.task.now.grammar.size in
    let I = c.args.task.now.ranked.now in
    let g = c.args.task.now.bound in
    let s = c.args.innermost in
    let first = c.in_ok-first.first in
    let next = c.saturating_add.result in
    let f = c.in-Some.facility in
    let k = get_or s.locations 0 0 in
    let child = placing s.node s.facility k in
    let outer = reverse c.args.splits.now.items in
    let rest : OpenSplit = record { node = s.node; facility = s.facility; locations = drop 1 s.locations } in
    let inner : OpenSplit = record { node = child; facility = f; locations = free_locations child } in
    let some : 0 < length c.locations.result.now = search rules in
    let named = subst (λ (xs : List ℕ). IsNodeLine v n xs first.bytes.now first.facility) c.placed-placed.ensures.value c.in_ok-first.ensures.1 in
    let at : IsSplitAt v n (placed_behind s) (child.facilities ++ f ∷ []) (length (free_locations child)) c.args.line c.args.text.now first.rest.now next f =
    IsSplitAt-read v n (placed_behind s) (child.facilities ++ f ∷ []) (length (free_locations child)) c.args.line c.args.text.now first.bytes.now first.rest.now next f first.facility c.requires.small
    c.in_ok-first.ensures.0 named c.in-Some.is refl
    (omega (arith, c.requires.size, c.in_ok-child.ensures.count, ap (λ (t : OpenSplit). length t.locations) c.in_ok-child.ensures.value)) c.saturating_add.ensures in
    let pushed : reverse c.push_split.new.splits.items ≡ inner ∷ rest ∷ outer =
    reverse-last c.push_split.new.splits.items c.push_rest-2.new.splits.items c.in_ok-child.child (c.in_ok-push_split.ensures {u = tt})
    ∙ ap (λ (t : OpenSplit). t ∷ reverse c.push_rest-2.new.splits.items) c.in_ok-child.ensures.value
    ∙ ap (λ l. inner ∷ l) (reverse-last c.push_rest-2.new.splits.items c.args.splits.now.items rest (c.in_ok-push_rest-2.ensures {u = tt})) in
    subst (λ (splits : List OpenSplit). IsToldBehind v n I g None (s ∷ outer) c.args.line c.args.text.now splits next first.rest.now) (sym pushed)
    (subst (λ (ks : List ℕ). IsToldBehind v n I g None (record { node = s.node; facility = s.facility; locations = ks } ∷ outer) c.args.line c.args.text.now (inner ∷ rest ∷ outer) next first.rest.now)
    (sym (first_and_others s.locations (omega (arith, some, ap length c.locations.ensures.value))))
    (IsToldBehind-split v n I g s.node s.facility k (drop 1 s.locations) child f outer c.args.line c.args.text.now first.rest.now next (omega (arith, c.ranges.line.fits)) refl
    (omega (arith, at.some, c.requires.size)) (subst (λ (m : ℕ). IsFree m child.facilities f) (sym c.requires.size) at.free) at))

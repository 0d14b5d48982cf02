use Rattle.std.proofs.Common.{◌≡◌, ℕ, ℤ, List, ◌+◌, ◌-◌, ◌<◌, ◌≤◌, ◌++◌, [], ◌∷◌, length, get_or, take, inl, inr, sym, ap, subst, ⊎_elim, arith, rules, length-append}
use Rattle.std.specs.Prelude.{Option, Some, None}
use Rattle.std.proofs.lemmas.Result.{err_from_is_err_and}
use Rattle.qap_cost.specs.Instance.{Problem}
use Rattle.qap_cost.specs.Placement.{Placement, placing, IsFreeLocation}
use Rattle.gilmore_lawler.specs.Closing.{AreDuals}
use Rattle.gilmore_lawler.specs.Split.{Split}
use Rattle.qap_lines.specs.Line.{line_after, IsLine}
use Rattle.qap_cert.proofs.Judgements.{AllValid-more, IsTreeFaultAmong-at}
use Rattle.qap_cert.proofs.Readings.{IsTreeTextFault-line}
use Rattle.qap_cert.proofs.Walks.{BeginsWithTree-bound, BeginsWithTrees-none, BeginsWithTrees-more, IsFaultBefore-at}
use Rattle.qap_cert.specs.Levels.{IsRunTold}
use Rattle.qap_cert.specs.NodeLine.{IsNodeLine}
use Rattle.qap_cert.specs.Valid.{AllValid}
use Rattle.qap_cert.specs.Walk.{BeginsWithTree, BeginsWithTrees, ClosesOrTells, IsToldOf}
use Rattle.qap_cert.specs.declared.error.CertError.{CertError}
use Rattle.qap_cert.specs.declared.version.Version.{Version}
use Rattle.qap_cert.proofs.walking.judge_bounds.Goals as goal

-- the split that the rows are of
same_split : (I : Problem) (s : Split) (x y : Placement) (f h : ℕ) → s ≡ record { instance = I; node = y; facility = h } → y ≡ x → h ≡ f → s ≡ record { instance = I; node = x; facility = f }
same_split I s x y f h is node facility = subst (λ (z : Placement). s ≡ record { instance = I; node = z; facility = f }) node (subst (λ (j : ℕ). s ≡ record { instance = I; node = y; facility = j }) facility is)

-- the bound of the child at a location
child_bound : (v : Version) (n : ℕ) (I : Problem) (g : ℤ) (s : Split) (x : Placement) (f : ℕ) (ks ls : List ℕ) (i : ℕ) (placed : List ℕ) (line : ℕ) (text bytes rest : List ℕ) (next : ℕ) (o : Option CertError)
    → s ≡ record { instance = I; node = x; facility = f } → ls ≡ ks → x.size ≡ n → placed ≡ x.facilities ++ f ∷ [] → IsLine text bytes rest → next ≡ line_after line 1
    → ClosesOrTells s.instance g (placing s.node s.facility (get_or ls i 0)) line bytes o → BeginsWithTree v n placed line text rest next (IsToldOf I g (placing x f (get_or ks i 0)) line o)
child_bound v n I g s x f ks ls i placed line text bytes rest next o s_is ls_is size placed_is first next_is told =
    let here = subst (λ (js : List ℕ). ClosesOrTells I g (placing x f (get_or js i 0)) line bytes o) ls_is
    (subst (λ (r : Split). ClosesOrTells r.instance g (placing r.node r.facility (get_or ls i 0)) line bytes o) s_is told) in
    BeginsWithTree-bound v n placed line text bytes rest next (IsToldOf I g (placing x f (get_or ks i 0)) line o) here.u here.v first
    (subst (λ (m : ℕ). AreDuals m here.u here.v) (omega (arith, size, ap length placed_is)) here.duals) here.spelled next_is here.told

-- one child more
run_more : (v : Version) (n : ℕ) (I : Problem) (g : ℤ) (x : Placement) (f : ℕ) (ks : List ℕ) (i : ℕ) (placed : List ℕ) (line : ℕ) (text rest : List ℕ) (next : ℕ) (behind : List ℕ) (after : ℕ) (o : Option CertError)
    → line ≤ 18446744073709551615 → i < length ks → BeginsWithTrees v n placed i line text rest next (AllValid I g x f (take i ks))
    → BeginsWithTree v n placed next rest behind after (IsToldOf I g (placing x f (get_or ks i 0)) next o)
    → BeginsWithTrees v n placed (i + 1) line text behind after (IsRunTold I g x f (take (i + 1) ks) ks line o)
run_more v n I g x f ks i placed line text rest next behind after None small below h child =
    BeginsWithTrees-more v n placed i line text rest next (AllValid I g x f (take i ks)) (AllValid I g x f (take (i + 1) ks)) behind after (IsToldOf I g (placing x f (get_or ks i 0)) next None) h child
    (AllValid-more I g x f ks i h.trees child.tree below h.holds child.holds)
run_more v n I g x f ks i placed line text rest next behind after (Some e) small below h child =
    BeginsWithTrees-more v n placed i line text rest next (AllValid I g x f (take i ks)) (IsRunTold I g x f (take (i + 1) ks) ks line (Some e)) behind after
    (IsToldOf I g (placing x f (get_or ks i 0)) next (Some e)) h child
    (λ us. IsTreeFaultAmong-at I g x f ks i line next h.trees us child.tree e small below h.holds h.next_is child.holds)

pub loop-i-init : goal.loop-i-init
loop-i-init c = (
  omega arith,
  BeginsWithTrees-none c.args.task.now.grammar.version c.args.task.now.grammar.size c.args.placed.now c.args.line c.args.text.now
      (AllValid c.args.task.now.ranked.now c.args.task.now.bound c.args.split.now.node c.args.split.now.facility []) (omega (arith, c.ranges.line.fits)) tt,
  c.requires.first,
  c.requires.no_split,
)

pub judge_child_bound-requires-clause-location : goal.judge_child_bound-requires-clause-location
judge_child_bound-requires-clause-location c =
    let rows = same_split c.args.task.now.ranked.now c.in_ok-rows.rows c.args.split.now.node c.node.result.now c.args.split.now.facility c.facility.result (c.in_ok-rows.ensures {u = tt}) c.node.ensures.value c.facility.ensures.value in
    subst (λ (r : Split). IsFreeLocation r.node (get_or c.locations-locations.result.now c.loop-i.i 0)) (sym rows)
    (subst (λ (ls : List ℕ). IsFreeLocation c.args.split.now.node (get_or ls c.loop-i.i 0)) (sym c.locations-locations.ensures.value)
    (c.locations-locations.ensures.free c.loop-i.i (omega (arith, c.loop-i-test.true, ap length c.locations-locations.ensures.value))))

pub returns-in_err-fault-clause-judged : goal.returns-in_err-fault-clause-judged
returns-in_err-fault-clause-judged c =
    let v = c.args.task.now.grammar.version in
    let n = c.args.task.now.grammar.size in
    let placed = c.args.placed.now in
    let I = c.args.task.now.ranked.now in
    let ks = c.args.split.now.locations in
    let i = c.loop-i.i in
    let e = c.in_err-fault.field-0.0 in
    let h = c.loop-i.invariant in
    let p = err_from_is_err_and c.from_residual-in_err-fault.result c.from_residual-in_err-fault.ensures.1 in
    rw (p.1, p.2) (⊎_elim inl (λ fault. inr (IsFaultBefore-at v n placed i (length ks) c.args.line c.args.text.now c.loop-i.rest.now c.loop-i.next
    (AllValid I c.args.task.now.bound c.args.split.now.node c.args.split.now.facility (take i ks)) e h.1 (omega (arith, c.loop-i-test.true, ap length c.locations-locations.ensures.value))
    (IsTreeTextFault-line v n (n - length placed) placed c.loop-i.next c.loop-i.rest.now e (inr (c.loop-i.here.bytes.now, c.loop-i.here.rest.now, h.2, fault)))))
    (c.in_err-fault.ensures {u = tt}))

pub returns-then-is_some-clause-judged : goal.returns-then-is_some-clause-judged
returns-then-is_some-clause-judged c =
    let v = c.args.task.now.grammar.version in
    let n = c.args.task.now.grammar.size in
    let placed = c.args.placed.now in
    let I = c.args.task.now.ranked.now in
    let g = c.args.task.now.bound in
    let x = c.args.split.now.node in
    let f = c.args.split.now.facility in
    let ks = c.args.split.now.locations in
    let i = c.loop-i.i in
    let h = c.loop-i.invariant in
    let rows = same_split I c.in_ok-rows.rows x c.node.result.now f c.facility.result (c.in_ok-rows.ensures {u = tt}) c.node.ensures.value c.facility.ensures.value in
    run_more v n I g x f ks i placed c.args.line c.args.text.now c.loop-i.rest.now c.loop-i.next c.loop-i.here.rest.now c.saturating_add-next.result c.in_ok-fault.fault
    (omega (arith, c.ranges.line.fits)) (omega (arith, c.loop-i-test.true, ap length c.locations-locations.ensures.value)) h.1
    (child_bound v n I g c.in_ok-rows.rows x f ks c.locations-locations.result.now i placed c.loop-i.next c.loop-i.rest.now c.loop-i.here.bytes.now c.loop-i.here.rest.now c.saturating_add-next.result c.in_ok-fault.fault
    rows c.locations-locations.ensures.value c.requires.size c.requires.placed h.2 c.saturating_add-next.ensures (c.in_ok-fault.ensures {u = tt}))

pub returns-in_err-here-clause-judged : goal.returns-in_err-here-clause-judged
returns-in_err-here-clause-judged c =
    let v = c.args.task.now.grammar.version in
    let n = c.args.task.now.grammar.size in
    let placed = c.args.placed.now in
    let I = c.args.task.now.ranked.now in
    let g = c.args.task.now.bound in
    let x = c.args.split.now.node in
    let f = c.args.split.now.facility in
    let ks = c.args.split.now.locations in
    let i = c.loop-i.i in
    let h = c.loop-i.invariant in
    let e = c.in_err-here.field-0.0 in
    let rows = same_split I c.in_ok-rows.rows x c.node.result.now f c.facility.result (c.in_ok-rows.ensures {u = tt}) c.node.ensures.value c.facility.ensures.value in
    let more = run_more v n I g x f ks i placed c.args.line c.args.text.now c.loop-i.rest.now c.loop-i.next c.loop-i.here.rest.now c.saturating_add-next.result c.in_ok-fault.fault
    (omega (arith, c.ranges.line.fits)) (omega (arith, c.loop-i-test.true, ap length c.locations-locations.ensures.value)) h.1
    (child_bound v n I g c.in_ok-rows.rows x f ks c.locations-locations.result.now i placed c.loop-i.next c.loop-i.rest.now c.loop-i.here.bytes.now c.loop-i.here.rest.now c.saturating_add-next.result c.in_ok-fault.fault
    rows c.locations-locations.ensures.value c.requires.size c.requires.placed h.2 c.saturating_add-next.ensures (c.in_ok-fault.ensures {u = tt})) in
    let p = err_from_is_err_and c.from_residual-in_err-here.result c.from_residual-in_err-here.ensures.1 in
    rw (p.1, p.2) (inr (IsFaultBefore-at v n placed (i + 1) (length ks) c.args.line c.args.text.now c.loop-i.here.rest.now c.saturating_add-next.result
    (IsRunTold I g x f (take (i + 1) ks) ks c.args.line c.in_ok-fault.fault) e more (omega (arith, c.loop-i-test.true, c.if-count-locations.false, ap length c.locations-locations.ensures.value))
    (IsTreeTextFault-line v n (n - length placed) placed c.saturating_add-next.result c.loop-i.here.rest.now e (c.in_err-here.ensures {u = tt}))))

pub returns-then-is_some-2-clause-judged : goal.returns-then-is_some-2-clause-judged
returns-then-is_some-2-clause-judged c =
    let v = c.args.task.now.grammar.version in
    let n = c.args.task.now.grammar.size in
    let placed = c.args.placed.now in
    let I = c.args.task.now.ranked.now in
    let g = c.args.task.now.bound in
    let x = c.args.split.now.node in
    let f = c.args.split.now.facility in
    let ks = c.args.split.now.locations in
    let i = c.loop-i.i in
    let h = c.loop-i.invariant in
    let none : c.in_ok-fault.fault ≡ None = search rules in
    let rows = same_split I c.in_ok-rows.rows x c.node.result.now f c.facility.result (c.in_ok-rows.ensures {u = tt}) c.node.ensures.value c.facility.ensures.value in
    run_more v n I g x f ks i placed c.args.line c.args.text.now c.loop-i.rest.now c.loop-i.next c.loop-i.here.rest.now c.saturating_add-next.result None
    (omega (arith, c.ranges.line.fits)) (omega (arith, c.loop-i-test.true, ap length c.locations-locations.ensures.value)) h.1
    (child_bound v n I g c.in_ok-rows.rows x f ks c.locations-locations.result.now i placed c.loop-i.next c.loop-i.rest.now c.loop-i.here.bytes.now c.loop-i.here.rest.now c.saturating_add-next.result None
    rows c.locations-locations.ensures.value c.requires.size c.requires.placed h.2 c.saturating_add-next.ensures
    (subst (λ (o : Option CertError). ClosesOrTells c.in_ok-rows.rows.instance g (placing c.in_ok-rows.rows.node c.in_ok-rows.rows.facility (get_or c.locations-locations.result.now i 0)) c.loop-i.next c.loop-i.here.bytes.now o) none (c.in_ok-fault.ensures {u = tt})))

pub loop-i-preserved : goal.loop-i-preserved
loop-i-preserved c =
    let v = c.args.task.now.grammar.version in
    let n = c.args.task.now.grammar.size in
    let placed = c.args.placed.now in
    let I = c.args.task.now.ranked.now in
    let g = c.args.task.now.bound in
    let x = c.args.split.now.node in
    let f = c.args.split.now.facility in
    let ks = c.args.split.now.locations in
    let i = c.loop-i.i in
    let h = c.loop-i.invariant in
    let none : c.in_ok-fault.fault ≡ None = search rules in
    let bound_line : c.in_ok-here.here.facility ≡ None = search rules in
    let rows = same_split I c.in_ok-rows.rows x c.node.result.now f c.facility.result (c.in_ok-rows.ensures {u = tt}) c.node.ensures.value c.facility.ensures.value in
    let first = c.in_ok-here.ensures {u = tt} in (
      omega (arith, h.0, ap length h.2.is, length-append c.loop-i.here.bytes.now (10 ∷ c.loop-i.here.rest.now)),
      run_more v n I g x f ks i placed c.args.line c.args.text.now c.loop-i.rest.now c.loop-i.next c.loop-i.here.rest.now c.saturating_add-next.result None
          (omega (arith, c.ranges.line.fits)) (omega (arith, c.loop-i-test.true, ap length c.locations-locations.ensures.value)) h.1
          (child_bound v n I g c.in_ok-rows.rows x f ks c.locations-locations.result.now i placed c.loop-i.next c.loop-i.rest.now c.loop-i.here.bytes.now c.loop-i.here.rest.now c.saturating_add-next.result None
          rows c.locations-locations.ensures.value c.requires.size c.requires.placed h.2 c.saturating_add-next.ensures
          (subst (λ (o : Option CertError). ClosesOrTells c.in_ok-rows.rows.instance g (placing c.in_ok-rows.rows.node c.in_ok-rows.rows.facility (get_or c.locations-locations.result.now i 0)) c.loop-i.next c.loop-i.here.bytes.now o) none (c.in_ok-fault.ensures {u = tt}))),
      first.0,
      subst (IsNodeLine v n placed c.in_ok-here.here.bytes.now) bound_line first.1,
    )

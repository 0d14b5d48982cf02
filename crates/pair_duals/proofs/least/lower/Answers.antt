use Rattle.std.proofs.Common.{◌≡◌, ◌+◌, length, get_or, map, arith, ap, subst, ◌∙◌, sym}
use Rattle.std.specs.Prelude.{ℤ, pos, ◌-ℤ◌}
use Rattle.std.proofs.lemmas.List.{length-map, map-set}
use Rattle.pair_duals.specs.Lines.{IsSmaller}
use Rattle.pair_duals.proofs.Leasts.{LowersPart-none, LowersPart-written, LowersBy-all}
use Rattle.pair_duals.proofs.Values.{value_read, value_within}
use Rattle.pair_duals.proofs.least.lower.Goals as goal

pub difference-left-requires-clause-entry : goal.difference-left-requires-clause-entry
difference-left-requires-clause-entry g c =
    value_within g.N.Number.value c.args.entries.now (c.args.start + c.loop-c.c) c.index-entries-start.result _ c.requires.range c.index-entries-start.is (omega (arith, c.requires.count))

pub loop-c-init : goal.loop-c-init
loop-c-init g c = LowersPart-none _ _ _ _

pub loop-c-preserved : goal.loop-c-preserved
loop-c-preserved g c =
    let value = g.N.Number.value in
    let k = c.loop-c.c in
    let es = map value c.args.entries.now in
    let old = map value c.args.least.now in
    let now = map value c.loop-c.least in
    let own = value c.args.own in
    let start = c.args.start in
    let new = value c.smaller.result in
    let read = value_read value c.args.entries.now (start + k) c.index-entries-start.result c.index-entries-start.is (omega (arith, c.requires.count)) in
    let here = value_read value c.loop-c.least k c.index-least-c.result c.index-least-c.is (omega arith) in
    let left : value c.difference-left.result ≡ get_or es (start + k) (pos 0) -ℤ own = c.difference-left.ensures ∙ ap (λ (z : ℤ). z -ℤ own) read in
    let is : IsSmaller (get_or now k (pos 0)) (get_or es (start + k) (pos 0) -ℤ own) new =
    subst (λ (x : ℤ). IsSmaller x (get_or es (start + k) (pos 0) -ℤ own) new) here (subst (λ (y : ℤ). IsSmaller (value c.index-least-c.result) y new) left c.smaller.ensures) in
    rw (map-set value c.loop-c.least k c.smaller.result)
    (LowersPart-written es start own k old now new c.loop-c.invariant (omega (arith, length-map c.loop-c.least value)) is)

pub returns : goal.returns
returns g c =
    let value = g.N.Number.value in
    let all : c.loop-c.c ≡ length c.args.least.now = omega arith in
    LowersBy-all _ _ _ c.loop-c.c _ _ (length-map c.args.least.now value ∙ sym all) c.loop-c.invariant

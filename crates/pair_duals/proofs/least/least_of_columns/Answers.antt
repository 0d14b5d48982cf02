use Rattle.std.proofs.Common.{◌≡◌, ◌<◌, ◌*◌, ℕ, length, get_or, map, arith, ap, sym, subst, ◌∙◌, List}
use Rattle.std.specs.Prelude.{ℤ, pos}
use Rattle.std.proofs.lemmas.List.{length-map}
use Rattle.pair_duals.specs.Lines.{AreLeastSoFar, LowersBy, TakesRow}
use Rattle.pair_duals.proofs.Leasts.{AreLeast-taken, AreLeastSoFar-first, AreLeastSoFar-more, HasTaken}
use Rattle.pair_duals.proofs.Values.{value_read, value_within}
use Rattle.pair_duals.proofs.least.least_of_columns.Goals as goal
use Rattle.pair_duals.proofs.least.least_of_columns.Goals.{then-r-eq0, else-r-eq0}

pub loop-r-init : goal.loop-r-init
loop-r-init g c = record { count = length-map c.args.v.now g.N.Number.value ∙ c.requires.columns; least = λ h. absurd (omega arith) }

pub lower-requires-clause-own_range : goal.lower-requires-clause-own_range
lower-requires-clause-own_range g c =
    value_within g.N.Number.value c.args.u.now c.loop-r.r c.index-u-r-else-r-eq0.result _ c.requires.u_range c.index-u-r-else-r-eq0.is (omega arith)

pub loop-r-preserved : goal.loop-r-preserved
loop-r-preserved g c =
    let value = g.N.Number.value in
    let r = c.loop-r.r in
    let m = length c.args.u.now in
    let es = map value c.args.entries.now in
    let us = map value c.args.u.now in
    let count : length (map value c.if-r-eq0.v) ≡ m = omega (arith, length-map c.if-r-eq0.v value, c.requires.columns) in
    elim c.if-r-eq0.branch [
      | then-r-eq0 w ↦
          let zero_is : r ≡ 0 = w.if-r-eq0.true in
          let own = value_read value c.args.u.now r w.index-u-r.result w.index-u-r.is (omega arith) ∙ ap (λ (k : ℕ). get_or us k (pos 0)) zero_is in
          let taken : TakesRow es (get_or us 0 (pos 0)) (map value c.if-r-eq0.v) =
          subst (λ (xs : List g.row.N.Denot). TakesRow es (get_or us 0 (pos 0)) (map value xs)) (sym w.v-is) (subst (λ (z : ℤ). TakesRow es z (map value w.take_row.new.least)) own w.take_row.ensures) in
          record {
            count = count;
            least = λ h. subst (λ (k : ℕ). AreLeastSoFar m es us k (map value c.if-r-eq0.v)) (omega arith) (AreLeastSoFar-first m es us (map value c.if-r-eq0.v) count taken);
          }
      | else-r-eq0 w ↦
          let own = value_read value c.args.u.now r w.index-u-r-else-r-eq0.result w.index-u-r-else-r-eq0.is (omega arith) in
          let low : LowersBy es (r * m) (get_or us r (pos 0)) (map value c.loop-r.v) (map value c.if-r-eq0.v) =
          subst (λ (xs : List g.row.N.Denot). LowersBy es (r * m) (get_or us r (pos 0)) (map value c.loop-r.v) (map value xs)) (sym w.v-is) (subst (λ (z : ℤ). LowersBy es (r * m) z (map value c.loop-r.v) (map value w.lower.new.least)) own w.lower.ensures) in
          let some : 0 < r = omega (arith, w.if-r-eq0.false) in
          record { count = count; least = λ h. AreLeastSoFar-more m es us r (map value c.loop-r.v) (map value c.if-r-eq0.v) (c.loop-r.invariant.least some) low }
    ]

pub returns : goal.returns
returns g c =
    let value = g.N.Number.value in
    let m = length c.args.u.now in
    let all : c.loop-r.r ≡ m = omega arith in
    AreLeast-taken m _ _ _ (subst (λ (k : ℕ). HasTaken m (map value c.args.entries.now) (map value c.args.u.now) k (map value c.loop-r.v)) all c.loop-r.invariant)

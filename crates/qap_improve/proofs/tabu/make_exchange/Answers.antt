use Rattle.std.proofs.Common.{◌≡◌, ℕ, ◌+◌, ◌*◌, ◌<◌, ◌≤◌, List, map, get_or, pos, sym, subst, ap, ◌∙◌, arith}
use Rattle.std.specs.Prelude.{ℤ, ◌+ℤ◌, unsigned_abs}
use Rattle.qap_cost.specs.Objective.{cost_of}
use Rattle.qap_improve.specs.Exchange.{exchanging}
use Rattle.qap_improve.specs.Walk.{IsWalk}
use Rattle.qap_improve.specs.declared.tabu.Walk.{Walk}
use Rattle.qap_cost.specs.Instance.{Problem}
use Rattle.qap_improve.specs.Table.{AreDifferences, IsDifference}
use Rattle.qap_improve.proofs.Costs.{cost_of-bounded}
use Rattle.qap_improve.proofs.Exchanges.{exchanging-twice}
use Rattle.qap_improve.proofs.Readings.{fits_large_both, reads_large_both}
use Rattle.qap_improve.proofs.Tables.{IsDifference-bounded, told_difference}
use Rattle.qap_improve.proofs.tabu.make_exchange.Goals as goal

-- what was read at the pair is its difference
told : {X : Type 0} (value : X → ℤ) (limit : ℕ) (I : Problem) (walk : Walk X) (read : List ℤ) (r s n : ℕ) (x y : ℤ) → IsWalk value limit I walk
    → read ≡ map value walk.differences.entries.items → n ≡ I.size → r < s → s < I.size → y ≡ get_or read (r * n + s) (pos 0) → x ≡ y
    → IsDifference I walk.arrangement.locations.items r s x
told value limit I walk read r s n x y w same size order below at is =
    subst (λ (z : ℤ). cost_of I walk.arrangement.locations.items +ℤ z ≡ cost_of I (exchanging walk.arrangement.locations.items r s)) (sym (is ∙ at))
    (told_difference I walk.arrangement.locations.items (map value walk.differences.entries.items) read r s (r * n + s) w.differences.differences same (ap (λ m. r * m + s) size) order below)

bounded : {X : Type 0} (value : X → ℤ) (limit : ℕ) (I : Problem) (walk : Walk X) (r s : ℕ) (x : ℤ) → IsWalk value limit I walk → r < s → s < I.size
    → IsDifference I walk.arrangement.locations.items r s x → unsigned_abs x ≤ 400000000000000000000000
bounded value limit I walk r s x w order below is =
    let bound = IsDifference-bounded I walk.arrangement.locations.items r s x w.instance w.arrangement.permutation (λ e. omega arith) (omega arith) below is in
    omega (arith, bound)

cost_bounded : {X : Type 0} (value : X → ℤ) (limit : ℕ) (I : Problem) (walk : Walk X) → IsWalk value limit I walk → unsigned_abs walk.cost ≤ 400000000000000000000000
cost_bounded value limit I walk w =
    let bound = cost_of-bounded I walk.arrangement.locations.items w.instance w.arrangement.permutation in
    subst (λ (x : ℤ). unsigned_abs x ≤ 400000000000000000000000) (sym w.cost) (omega (arith, bound))

pub overflow_add-walk : goal.overflow_add-walk
overflow_add-walk g c =
    let value = g.N.Number.value in
    let I = c.args.instance.now in
    let walk = c.args.walk.now in
    let w = c.requires.walk in
    let order = c.requires.first in
    let below = c.requires.second in
    fits_large_both walk.cost c.widen.result (cost_bounded value _ I walk w)
    (bounded value _ I walk c.args.r c.args.s c.widen.result w order below
    (told value _ I walk (map value c.deref.result.now) c.args.r c.args.s c.size.result c.widen.result _ w (ap (map value) c.deref.ensures.value) c.size.ensures.value order below c.number_at.ensures c.widen.ensures))

pub update-requires-clause-before : goal.update-requires-clause-before
update-requires-clause-before g c =
    let p = c.args.walk.now.arrangement.locations.items in
    let kept = c.requires.walk.differences in
    let r = c.args.r in
    let s = c.args.s in
    let size = c.requires.walk.arrangement.permutation.same_size in
    let order = c.requires.first in
    let below = c.requires.second in
    record {
      differences = subst (λ (q : List ℕ). AreDifferences c.args.instance.now q (map g.N.Number.value c.args.walk.now.differences.entries.items))
          (sym (ap (λ (q : List ℕ). exchanging q r s) c.exchange_two.ensures.locations ∙ exchanging-twice p r s (λ e. omega arith) (omega arith) (omega arith)))
          kept.differences;
      contrasts = kept.contrasts;
    }

pub returns-clause-walk : goal.returns-clause-walk
returns-clause-walk g c =
    let value = g.N.Number.value in
    let I = c.args.instance.now in
    let walk = c.args.walk.now in
    let w = c.requires.walk in
    let r = c.args.r in
    let s = c.args.s in
    let order = c.requires.first in
    let below = c.requires.second in
    let difference = c.widen.result in
    let is = told value _ I walk (map value c.deref.result.now) r s c.size.result difference _ w (ap (map value) c.deref.ensures.value) c.size.ensures.value order below c.number_at.ensures c.widen.ensures in
    record {
      instance = w.instance;
      limited = w.limited;
      arrangement = c.exchange_two.ensures.arrangement;
      cost = reads_large_both walk.cost difference (cost_bounded value _ I walk w) (bounded value _ I walk r s difference w order below is)
          ∙ ap (λ (x : ℤ). x +ℤ difference) w.cost
          ∙ is
          ∙ ap (cost_of I) (sym c.exchange_two.ensures.locations);
      differences = c.update.ensures;
      best = w.best;
      best_cost = w.best_cost;
    }

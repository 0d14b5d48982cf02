use Rattle.std.proofs.Common.{◌≡◌, ◌≢◌, Bool, ℕ, List, true, sym, subst, arith}
use Rattle.std.specs.Prelude.{◌<ℤ◌, ◌≤ℤ◌}
use Rattle.qap_cost.specs.Objective.{cost_of}
use Rattle.qap_improve.specs.Exchange.{exchanging}
use Rattle.qap_improve.specs.Round.{HasTried}
use Rattle.qap_improve.proofs.Readings.{falls, is_negative}
use Rattle.qap_improve.proofs.descent.exchange_if_gain.Goals as goal

pub returns-then-gains-clause-tried : goal.returns-then-gains-clause-tried
returns-then-gains-clause-tried c =
    let I = c.args.instance.now in
    let p = c.args.arrangement.now.locations.items in
    let q = c.exchange_two.new.arrangement.locations.items in
    let r = c.args.r in
    let s = c.args.s in
    let second = c.requires.second in
    let apart : r ≢ s = λ e. omega arith in
    let is : q ≡ exchanging p r s = c.exchange_two.ensures.locations in
    let change = c.change_at-gains in
    let less : cost_of I (exchanging p r s) <ℤ cost_of I p =
    falls _ change.result _ change.ensures.value (is_negative change.result change.ensures.bounded c.if-gains.true) in
    let tried : HasTried I (λ (t : List ℕ). cost_of I t ≤ℤ cost_of I (exchanging t r s)) p q true =
    record {
      permutation = c.exchange_two.ensures.arrangement.permutation;
      gain = subst (λ (t : List ℕ). cost_of I t <ℤ cost_of I p) (sym is) less;
    } in
    subst (λ (b : Bool). HasTried I (λ (t : List ℕ). cost_of I t ≤ℤ cost_of I (exchanging t r s)) p q b) (sym c.if-gains.true) tried

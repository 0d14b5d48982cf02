use Rattle.std.proofs.Common.{◌+◌, ◌*◌, map, get_or, ap, arith}
use Rattle.qap_improve.specs.Exchange.{exchanging}
use Rattle.qap_improve.proofs.Contrasts.{IsContrast-small, no_contrast}
use Rattle.qap_improve.proofs.Exchanges.{Permutes-exchanging}
use Rattle.qap_improve.proofs.Ranges.{IsDifference-within}
use Rattle.qap_improve.proofs.Tables.{HasMoved-row, HasMoved-written, old_difference, place_inside, same_difference}
use Rattle.qap_improve.proofs.Updates.{IsDifference-updated}
use Rattle.qap_improve.proofs.table.update_row.Goals as goal

pub number_at-old-requires : goal.number_at-old-requires
number_at-old-requires g c =
    place_inside c.args.instance.now.size c.size.result c.args.r c.loop-s.s g.N.Number.value c.loop-s.entries c.size.ensures.value c.requires.row (omega arith) c.loop-s.invariant.count

pub after_exchange-requires-clause-difference : goal.after_exchange-requires-clause-difference
after_exchange-requires-clause-difference g c =
    let I = c.args.instance.now in
    let q = c.args.arrangement.now.locations.items in
    let u = c.args.exchanged.0 in
    let v = c.args.exchanged.1 in
    let r = c.args.r in
    let s = c.loop-s.s in
    let value = g.N.Number.value in
    IsDifference-within g.N.Number.limit I (exchanging q u v) r s (value c.number_at-old.result) c.requires.small c.requires.instance.small
    (Permutes-exchanging I q u v c.requires.two c.requires.first c.requires.second c.requires.arrangement.permutation) (λ e. omega arith) c.requires.row (omega arith)
    (old_difference I q u v (map value c.loop-s.entries) r s (r * c.size.result + s) _ (omega arith) (omega arith) (ap (λ n. r * n + s) c.size.ensures.value) c.number_at-old.ensures c.loop-s.invariant)

pub after_exchange-requires-clause-first : goal.after_exchange-requires-clause-first
after_exchange-requires-clause-first g c =
    IsContrast-small g.N.Number.limit c.args.instance.now c.args.arrangement.now.locations.items c.args.exchanged.0 c.args.exchanged.1 c.args.r _
    c.requires.small c.requires.arrangement.permutation c.requires.first c.requires.second c.requires.row (c.requires.contrasts.each c.args.r no_contrast c.requires.row)

pub after_exchange-requires-clause-second : goal.after_exchange-requires-clause-second
after_exchange-requires-clause-second g c =
    IsContrast-small g.N.Number.limit c.args.instance.now c.args.arrangement.now.locations.items c.args.exchanged.0 c.args.exchanged.1 c.loop-s.s _
    c.requires.small c.requires.arrangement.permutation c.requires.first c.requires.second (omega arith) (c.requires.contrasts.each c.loop-s.s no_contrast (omega arith))

pub put-requires : goal.put-requires
put-requires g c =
    place_inside c.args.instance.now.size c.size.result c.args.r c.loop-s.s g.N.Number.value c.loop-s.entries c.size.ensures.value c.requires.row (omega arith) c.loop-s.invariant.count

pub loop-s-init : goal.loop-s-init
loop-s-init g c =
    HasMoved-row c.args.instance.now c.args.arrangement.now.locations.items c.args.exchanged.0 c.args.exchanged.1 (map g.N.Number.value c.args.entries.now) c.args.r c.requires.above

pub loop-s-preserved : goal.loop-s-preserved
loop-s-preserved g c =
    let I = c.args.instance.now in
    let q = c.args.arrangement.now.locations.items in
    let u = c.args.exchanged.0 in
    let v = c.args.exchanged.1 in
    let r = c.args.r in
    let s = c.loop-s.s in
    let value = g.N.Number.value in
    let xs = c.args.contrasts.now in
    let old = value c.number_at-old.result in
    let place = r * c.size.result + s in
    let at = ap (λ n. r * n + s) c.size.ensures.value in
    HasMoved-written I q u v (map value c.loop-s.entries) _ r s place (value c.after_exchange.result) (omega arith) (omega arith) at c.put.ensures
    (λ others.
    same_difference I q r s _ _ c.after_exchange.ensures
    (IsDifference-updated I q u v r s (get_or xs r no_contrast) (get_or xs s no_contrast) old c.requires.two c.requires.first c.requires.second c.requires.arrangement.permutation.same_size
    (λ e. omega arith) c.requires.row (omega arith) others.first_of_r others.second_of_r others.first_of_s others.second_of_s
    (c.requires.contrasts.each r no_contrast c.requires.row) (c.requires.contrasts.each s no_contrast (omega arith))
    (old_difference I q u v (map value c.loop-s.entries) r s place old (omega arith) (omega arith) at c.number_at-old.ensures c.loop-s.invariant)))
    c.loop-s.invariant

use Rattle.std.proofs.Common.{◌+◌, ◌*◌, map, ap, ◌∙◌, arith}
use Rattle.std.proofs.lemmas.List.{length-map}
use Rattle.qap_improve.proofs.Tables.{Settles-written, place_inside}
use Rattle.qap_improve.proofs.table.write.Goals as goal

pub put-requires : goal.put-requires
put-requires g c =
    place_inside c.args.instance.now.size c.size.result c.args.r c.args.s g.N.Number.value c.args.entries.now c.size.ensures.value (omega (arith, c.requires.order, c.requires.second)) c.requires.second
    (length-map c.args.entries.now g.N.Number.value ∙ c.requires.count)

pub returns : goal.returns
returns g c =
    let value = g.N.Number.value in
    Settles-written c.args.instance.now c.args.arrangement.now.locations.items (map value c.args.entries.now) _ c.args.r c.args.s (c.args.r * c.size.result + c.args.s) (value c.difference_of-difference.result)
    c.requires.order c.requires.second (length-map c.args.entries.now value ∙ c.requires.count) (ap (λ n. c.args.r * n + c.args.s) c.size.ensures.value) c.put.ensures c.difference_of-difference.ensures

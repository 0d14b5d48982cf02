use Rattle.std.proofs.Common.{pos, ap, sym, ◌∙◌}
use Rattle.std.proofs.lemmas.List.{get_or-map}
use Rattle.qap_improve.proofs.table.number_at.Goals as goal

pub returns : goal.returns
returns g c =
    let value = g.N.Number.value in
    let number = c.index-numbers-place.result in
    ap value c.index-numbers-place.is ∙ sym (get_or-map value c.args.numbers.now c.args.place number (pos 0) c.requires)

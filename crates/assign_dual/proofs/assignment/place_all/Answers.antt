use Rattle.std.proofs.Common.{◌≡◌, ◌∙◌, ap, arith, drop, length, map, sym}
use Rattle.std.proofs.lemmas.List.{take_at}
use Rattle.assign_dual.proofs.Least.{IsPartial-same, IsPartial-square}
use Rattle.assign_dual.proofs.assignment.place_all.Goals as goal

pub fill-requires-clause-same_length : goal.fill-requires-clause-same_length
fill-requires-clause-same_length g c = c.requires.entries_count ∙ sym c.size-n.ensures.matrix.count ∙ ap length (sym c.entries.ensures)

pub returns-clause-placed : goal.returns-clause-placed
returns-clause-placed g c =
    let M = c.args.matrix.now in
    let value = g.N.Number.value in
    let entries : map value c.fill.new.target ≡ M.entries = c.fill.ensures ∙ c.entries.ensures in
    let whole = IsPartial-square M _ _ _ _ _ _ c.place_rows.ensures c.size-n.ensures.value entries in
    let lists = c.args.answer.now in
    let matching = c.place_rows.new.matching in
    let u = c.widen.new.target in
    let v = c.widen-2.new.target in
    let matching_is = take_at matching (drop (length matching) lists.matching.items) lists.matching.len (omega (arith, c.requires.matching_count, lists.matching.ok.0, whole.matches.matching_count)) in
    let u_is = take_at u (drop (length u) lists.u.items) lists.u.len (omega (arith, c.requires.u_count, lists.u.ok.0, whole.fits.u_count, ap length c.widen.ensures)) in
    let v_is = take_at v (drop (length v) lists.v.items) lists.v.len (omega (arith, c.requires.v_count, lists.v.ok.0, whole.fits.v_count, ap length c.widen-2.ensures)) in
    record { row_of = _; placed = IsPartial-same M M.size _ _ _ _ _ _ _ whole matching_is (u_is ∙ c.widen.ensures) (v_is ∙ c.widen-2.ensures) }

use Rattle.std.proofs.Common.{◌≡◌, ◌*◌, ◌+◌, ℕ, length, map, set, arith, ap, sym, subst, ◌∙◌, List}
use Rattle.std.proofs.lemmas.List.{length-map, map-set}
use Rattle.pair_duals.specs.Filling.{FillsPart}
use Rattle.pair_duals.specs.Start.{own_entry}
use Rattle.pair_duals.proofs.Fillings.{FillsPart-none, FillsPart-more}
use Rattle.pair_duals.proofs.Values.{place_in_square}
use Rattle.pair_duals.proofs.start.fill_start_row.Goals as goal

pub loop-c-init : goal.loop-c-init
loop-c-init g c = FillsPart-none _ _ _ _

pub loop-c-preserved : goal.loop-c-preserved
loop-c-preserved g c =
    let value = g.N.Number.value in
    let D = c.args.duals.now in
    let m = length D.facilities in
    let r = c.args.r in
    let k = c.loop-c.c in
    let f = own_entry c.args.instance.now D c.args.node.now in
    let same : c.free-m.result ≡ m = c.free-m.ensures.value in
    let inside = place_in_square m r k c.requires.r_in (omega (arith, same)) in
    let written = c.write.ensures ∙ ap (λ (n : ℕ). set c.loop-c.entries (r * n + k) c.start_entry-entry.result) same in
    subst (λ (xs : List g.row.N.Denot). FillsPart m f r (k + 1) (map value c.args.entries.now) (map value xs)) (sym written)
    (rw (map-set value c.loop-c.entries (r * m + k) c.start_entry-entry.result)
    (FillsPart-more m f r k (map value c.args.entries.now) (map value c.loop-c.entries) (value c.start_entry-entry.result) c.loop-c.invariant (omega (arith, inside, length-map c.loop-c.entries value, c.requires.room)) c.start_entry-entry.ensures.value))

pub returns : goal.returns
returns g c =
    let value = g.N.Number.value in
    let D = c.args.duals.now in
    let all : c.loop-c.c ≡ length D.facilities = omega (arith, c.free-m.ensures.value) in
    subst (λ (k : ℕ). FillsPart (length D.facilities) (own_entry c.args.instance.now D c.args.node.now) c.args.r k (map value c.args.entries.now) (map value c.loop-c.entries)) all c.loop-c.invariant

use Rattle.std.proofs.Common.{ℕ, ◌<◌, List, [], length, map, sym, subst, arith}
use Rattle.std.proofs.lemmas.List.{get_or-map, length-map}
use Rattle.qap_verify.specs.Naming.{AddsFile, RefusesFile}
use Rattle.qap_verify.proofs.AddedParts.{adds_first, adds_next}
use Rattle.qap_verify.proofs.naming.add_parts.Goals as goal

pub loop-i-preserved : goal.loop-i-preserved
loop-i-preserved g c =
    let holds = g.D.Sources.holds c.args.sources.now in
    let names = map (λ name. name.now) c.args.names.now in
    let i = c.loop-i.i in
    let inside : i < length names = omega (arith, length-map c.args.names.now (λ name. name.now), c.loop-i-test.true) in
    let here = get_or-map (λ name. name.now) c.args.names.now i _ [] c.loop-i-test.true in
    let one = subst (λ (name : List ℕ). AddsFile holds g.F.Read.remaining name c.loop-i.cover c.add_part.new.cover) (sym here) c.in_default.ensures in
    adds_next holds g.F.Read.remaining names i c.args.cover.now c.loop-i.cover c.add_part.new.cover inside c.loop-i.invariant one

pub returns-in-Err : goal.returns-in-Err
returns-in-Err g c =
    let holds = g.D.Sources.holds c.args.sources.now in
    let names = map (λ name. name.now) c.args.names.now in
    let i = c.loop-i.i in
    let inside : i < length names = omega (arith, length-map c.args.names.now (λ name. name.now), c.loop-i-test.true) in
    let here = get_or-map (λ name. name.now) c.args.names.now i _ [] c.loop-i-test.true in
    let said = c.in-Err.ensures {u = tt} in
    let refused = subst (λ (name : List ℕ). RefusesFile holds g.F.Read.remaining name c.loop-i.cover.instance c.in-Err.error) (sym here) said.0 in
    rw said.1 (adds_first holds g.F.Read.remaining names i c.args.cover.now c.loop-i.cover c.in-Err.error inside c.loop-i.invariant refused)

use Rattle.std.proofs.Common.{◌≡◌, ◌-◌, ◌*◌, length, map, take, drop, replicate, sym, ◌∙◌, ap, arith}
use Rattle.std.specs.Prelude.{pos}
use Rattle.std.proofs.lemmas.List.{take-map, drop-map, take-replicate, drop-replicate}
use Rattle.assign_dual.proofs.room.Room.new.Goals as goal

pub returns-clause-u : goal.returns-clause-u
returns-clause-u g c =
    let value = g.N.Number.value in
    let n = length c.args.row_of.now in
    let duals : map value c.split_at_mut-duals.result.0.now ≡ replicate (2 * n) (pos 0) =
    ap (map value) c.split_at_mut-duals.ensures.front ∙ sym (take-map value (2 * n) c.args.zeros.now)
    ∙ ap (take (2 * n)) c.requires.zeros ∙ take-replicate (2 * n) (4 * n) (pos 0) (omega arith) in
    ap (map value) c.split_at_mut-u.ensures.front ∙ sym (take-map value n c.split_at_mut-duals.result.0.now)
    ∙ ap (take n) duals ∙ take-replicate n (2 * n) (pos 0) (omega arith)

pub returns-clause-v : goal.returns-clause-v
returns-clause-v g c =
    let value = g.N.Number.value in
    let n = length c.args.row_of.now in
    let duals : map value c.split_at_mut-duals.result.0.now ≡ replicate (2 * n) (pos 0) =
    ap (map value) c.split_at_mut-duals.ensures.front ∙ sym (take-map value (2 * n) c.args.zeros.now)
    ∙ ap (take (2 * n)) c.requires.zeros ∙ take-replicate (2 * n) (4 * n) (pos 0) (omega arith) in
    let rest : 2 * n - n ≡ n = omega arith in
    ap (map value) c.split_at_mut-u.ensures.back ∙ sym (drop-map value n c.split_at_mut-duals.result.0.now)
    ∙ ap (drop n) duals ∙ drop-replicate n (2 * n) (pos 0) ∙ ap (λ k. replicate k (pos 0)) rest

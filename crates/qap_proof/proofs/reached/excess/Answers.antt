use Rattle.std.proofs.Common.{◌≤◌, ◌*◌, ◌^◌, ◌+◌, pos, get_or, unsigned_abs, to_z, of_z, ap, arith}
use Rattle.std.specs.Int.{w128}
use Rattle.std.specs.Prelude.{◌-ℤ◌}
use Rattle.std.proofs.lemmas.Int.{ints}
use Rattle.qap_cost.specs.Matrix.{entry_of}
use Rattle.qap_lines.proofs.Numerals.{reads_wide}
use Rattle.qap_proof.proofs.ChildValues.{AllWithin-at}
use Rattle.qap_proof.proofs.reached.excess.Goals as goal

pub overflow_sub-result-2 : goal.overflow_sub-result-2
overflow_sub-result-2 c =
    let M = c.args.matrix.now in
    let u = get_or c.args.u.now c.args.row (pos 0) in
    let v = get_or c.args.v.now c.args.column (pos 0) in
    let entry : unsigned_abs c.at.result ≤ 512 * 10 ^ 18 = omega (arith, ap unsigned_abs c.at.ensures, AllWithin-at (512 * 10 ^ 18) M.entries (c.args.row * M.size + c.args.column) c.requires.bounded) in
    let u_small = AllWithin-at (10 ^ 24) c.args.u.now c.args.row c.requires.u_range in
    let v_small = AllWithin-at (10 ^ 24) c.args.v.now c.args.column c.requires.v_range in
    let entry_is = reads_wide c.at.result (omega (arith, entry)) in
    let u_is = reads_wide u (omega (arith, u_small)) in
    let v_is = reads_wide v (omega (arith, v_small)) in
    let first = reads_wide (to_z w128 (of_z w128 c.at.result) -ℤ to_z w128 (of_z w128 u)) (omega (arith, ints, entry_is, u_is, entry, u_small)) in
    omega (arith, ints, entry_is, u_is, v_is, entry, u_small, v_small, first)

pub returns-clause-value : goal.returns-clause-value
returns-clause-value c =
    let M = c.args.matrix.now in
    let u = get_or c.args.u.now c.args.row (pos 0) in
    let v = get_or c.args.v.now c.args.column (pos 0) in
    let entry : unsigned_abs c.at.result ≤ 512 * 10 ^ 18 = omega (arith, ap unsigned_abs c.at.ensures, AllWithin-at (512 * 10 ^ 18) M.entries (c.args.row * M.size + c.args.column) c.requires.bounded) in
    let u_small = AllWithin-at (10 ^ 24) c.args.u.now c.args.row c.requires.u_range in
    let v_small = AllWithin-at (10 ^ 24) c.args.v.now c.args.column c.requires.v_range in
    let entry_is = reads_wide c.at.result (omega (arith, entry)) in
    let u_is = reads_wide u (omega (arith, u_small)) in
    let v_is = reads_wide v (omega (arith, v_small)) in
    let first = reads_wide (to_z w128 (of_z w128 c.at.result) -ℤ to_z w128 (of_z w128 u)) (omega (arith, ints, entry_is, u_is, entry, u_small)) in
    let second = reads_wide (to_z w128 (of_z w128 (to_z w128 (of_z w128 c.at.result) -ℤ to_z w128 (of_z w128 u))) -ℤ to_z w128 (of_z w128 v)) (omega (arith, ints, entry_is, u_is, v_is, entry, u_small, v_small, first)) in
    omega (arith, ints, entry_is, u_is, v_is, first, second, c.at.ensures)

pub returns-clause-bounded : goal.returns-clause-bounded
returns-clause-bounded c =
    let M = c.args.matrix.now in
    let entry : unsigned_abs (entry_of M c.args.row c.args.column) ≤ 512 * 10 ^ 18 = AllWithin-at (512 * 10 ^ 18) M.entries (c.args.row * M.size + c.args.column) c.requires.bounded in
    let u_small = AllWithin-at (10 ^ 24) c.args.u.now c.args.row c.requires.u_range in
    let v_small = AllWithin-at (10 ^ 24) c.args.v.now c.args.column c.requires.v_range in
    omega (arith, ints, entry, u_small, v_small, returns-clause-value c)

use Rattle.std.proofs.Common.{List, ℤ, sym, subst, ◌≤◌, ◌*◌, ◌^◌, pos, get_or, unsigned_abs, to_z, of_z, ap, arith}
use Rattle.std.specs.Int.{w128}
use Rattle.std.specs.Prelude.{◌-ℤ◌}
use Rattle.std.proofs.lemmas.Int.{ints}
use Rattle.qap_cost.specs.Range.{AllWithin}
use Rattle.qap_proof.proofs.ChildValues.{AllWithin-at}
use Rattle.node_split.proofs.Exact.{reads}
use Rattle.node_split.proofs.evaluation.Evaluation.reduced.Goals as goal

pub overflow_sub-result-2 : goal.overflow_sub-result-2
overflow_sub-result-2 c =
    let a = c.args.self.now.assignment in
    let us = c.deref-u.result.now in
    let vs = c.deref-v.result.now in
    let u = get_or us c.args.row (pos 0) in
    let v = get_or vs c.args.column (pos 0) in
    let range = c.requires.range in
    let entry : unsigned_abs c.at-entry.result ≤ 512 * 10 ^ 18 = omega (arith, ap unsigned_abs c.at-entry.ensures, range.entries c.args.row c.args.column) in
    let u_small = AllWithin-at (512 * 10 ^ 18) us c.args.row (subst (AllWithin (512 * 10 ^ 18)) (sym c.deref-u.ensures.value) range.u_range) in
    let v_small = AllWithin-at (1024 * 10 ^ 18) vs c.args.column (subst (AllWithin (1024 * 10 ^ 18)) (sym c.deref-v.ensures.value) range.v_range) in
    let entry_is = reads c.at-entry.result (omega (arith, entry)) in
    let u_is = reads u (omega (arith, u_small)) in
    let v_is = reads v (omega (arith, v_small)) in
    let first = reads (to_z w128 (of_z w128 c.at-entry.result) -ℤ to_z w128 (of_z w128 u)) (omega (arith, ints, entry_is, u_is, entry, u_small)) in
    omega (arith, ints, entry_is, u_is, v_is, entry, u_small, v_small, first)

pub returns-clause-value : goal.returns-clause-value
returns-clause-value c =
    let a = c.args.self.now.assignment in
    let us = c.deref-u.result.now in
    let vs = c.deref-v.result.now in
    let u = get_or us c.args.row (pos 0) in
    let v = get_or vs c.args.column (pos 0) in
    let range = c.requires.range in
    let entry : unsigned_abs c.at-entry.result ≤ 512 * 10 ^ 18 = omega (arith, ap unsigned_abs c.at-entry.ensures, range.entries c.args.row c.args.column) in
    let u_small = AllWithin-at (512 * 10 ^ 18) us c.args.row (subst (AllWithin (512 * 10 ^ 18)) (sym c.deref-u.ensures.value) range.u_range) in
    let v_small = AllWithin-at (1024 * 10 ^ 18) vs c.args.column (subst (AllWithin (1024 * 10 ^ 18)) (sym c.deref-v.ensures.value) range.v_range) in
    let entry_is = reads c.at-entry.result (omega (arith, entry)) in
    let u_is = reads u (omega (arith, u_small)) in
    let v_is = reads v (omega (arith, v_small)) in
    let first = reads (to_z w128 (of_z w128 c.at-entry.result) -ℤ to_z w128 (of_z w128 u)) (omega (arith, ints, entry_is, u_is, entry, u_small)) in
    let second = reads (to_z w128 (of_z w128 (to_z w128 (of_z w128 c.at-entry.result) -ℤ to_z w128 (of_z w128 u))) -ℤ to_z w128 (of_z w128 v)) (omega (arith, ints, entry_is, u_is, v_is, entry, u_small, v_small, first)) in
    let u_same = ap (λ (l : List ℤ). get_or l c.args.row (pos 0)) c.deref-u.ensures.value in
    let v_same = ap (λ (l : List ℤ). get_or l c.args.column (pos 0)) c.deref-v.ensures.value in
    omega (arith, ints, entry_is, u_is, v_is, first, second, c.at-entry.ensures, u_same, v_same)

pub returns-clause-bounded : goal.returns-clause-bounded
returns-clause-bounded c =
    let a = c.args.self.now.assignment in
    let range = c.requires.range in
    let entry = range.entries c.args.row c.args.column in
    let u_small = AllWithin-at (512 * 10 ^ 18) a.u.items c.args.row range.u_range in
    let v_small = AllWithin-at (1024 * 10 ^ 18) a.v.items c.args.column range.v_range in
    omega (arith, ints, entry, u_small, v_small, returns-clause-value c)

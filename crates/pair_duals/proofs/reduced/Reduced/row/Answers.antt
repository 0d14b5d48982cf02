use Rattle.std.proofs.Common.{◌≡◌, ◌≤◌, ◌∙◌, ℕ, List, map, arith, ap, ap₂, sym, subst}
use Rattle.std.specs.Prelude.{ℤ, unsigned_abs}
use Rattle.qap_cost.specs.Instance.{entry}
use Rattle.pair_duals.specs.Range.{IsInReach}
use Rattle.pair_duals.specs.Reduced.{Form, at, count_of}
use Rattle.pair_duals.proofs.Steps.{entry_in_reach}
use Rattle.pair_duals.proofs.reduced.Reduced.row.Goals as goal

pub row_of_square-requires-clause-range : goal.row_of_square-requires-clause-range
row_of_square-requires-clause-range g c = λ k hk.
    let m = g.N.Number.limits in
    let value = g.N.Number.value in
    let R = c.args.self.now in
    let is : IsInReach m R = c.free-m.ensures.reach in
    let count : c.free-m.result ≡ count_of R = c.free-m.ensures.value in
    let entries : map value c.deref.result.now ≡ R.entries = ap (map value) c.deref.ensures.value ∙ ap (λ (F : Form). F.entries) c.self.view_is in
    let same : entry c.free-m.result (map value c.deref.result.now) c.args.r k ≡ at R c.args.r k = ap₂ (λ (n : ℕ) (xs : List ℤ). entry n xs c.args.r k) count entries in
    let near = entry_in_reach m R c.args.r k g.met.N.Number.enough is c.requires (omega (arith, hk, count)) in
    subst (λ (z : ℤ). unsigned_abs z ≤ m.reach) (sym same) (omega (arith, near))

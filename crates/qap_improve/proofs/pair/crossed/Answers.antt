use Rattle.std.proofs.Common.{◌*◌, ◌≤◌, w64, to_z, of_z, lit<, sym, subst, ap₂, ◌∙◌}
use Rattle.std.specs.Prelude.{ℤ, ◌-ℤ◌, ◌*ℤ◌, unsigned_abs, FitsSigned}
use Rattle.std.proofs.lemmas.Int.{to_z-of_z, fits_signed_mul, unsigned_abs-mul}
use Rattle.std.proofs.lemmas.Nat.{mul-le}
use Rattle.qap_improve.proofs.Readings.{difference_small, reads_difference}
use Rattle.qap_improve.proofs.pair.crossed.Goals as goal

pub overflow_mul-result : goal.overflow_mul-result
overflow_mul-result c =
    let x = c.args.x in
    let y = c.args.y in
    let u = c.args.u in
    let v = c.args.v in
    let left = difference_small x y c.requires.x c.requires.y in
    let right = difference_small u v c.requires.u c.requires.v in
    subst (λ (z : ℤ). FitsSigned w64 z) (sym (ap₂ ◌*ℤ◌ (reads_difference x y c.requires.x c.requires.y) (reads_difference u v c.requires.u c.requires.v)))
    (fits_signed_mul w64 (x -ℤ y) (u -ℤ v) 2000000000 2000000000 left right (lit< tt))

pub returns-clause-value : goal.returns-clause-value
returns-clause-value c =
    let x = c.args.x in
    let y = c.args.y in
    let u = c.args.u in
    let v = c.args.v in
    let left = difference_small x y c.requires.x c.requires.y in
    let right = difference_small u v c.requires.u c.requires.v in
    ap₂ (λ (a b : ℤ). to_z w64 (of_z w64 (a *ℤ b))) (reads_difference x y c.requires.x c.requires.y) (reads_difference u v c.requires.u c.requires.v)
    ∙ to_z-of_z w64 ((x -ℤ y) *ℤ (u -ℤ v)) (fits_signed_mul w64 (x -ℤ y) (u -ℤ v) 2000000000 2000000000 left right (lit< tt))

pub returns-clause-bounded : goal.returns-clause-bounded
returns-clause-bounded c =
    let x = c.args.x in
    let y = c.args.y in
    let u = c.args.u in
    let v = c.args.v in
    let left = difference_small x y c.requires.x c.requires.y in
    let right = difference_small u v c.requires.u c.requires.v in
    let is : unsigned_abs (x -ℤ y) * unsigned_abs (u -ℤ v) ≤ 2000000000 * 2000000000 = mul-le _ _ _ _ left right in
    rw (returns-clause-value c) (rw (unsigned_abs-mul (x -ℤ y) (u -ℤ v)) is)

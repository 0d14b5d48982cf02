use Rattle.std.proofs.Common.{◌≡◌, ℕ, ◌++◌, ◌∷◌, [], List, take, ap, ◌∙◌, subst}
use Rattle.std.specs.Prelude.{ℤ}
use Rattle.qap_cost.specs.Instance.{entry}
use Rattle.gilmore_lawler.proofs.DotBlocks.{narrowed}
use Rattle.gilmore_lawler.specs.Table.{matrix_of, linear_row}
use Rattle.gilmore_lawler.proofs.FactorRows.{joined}
use Rattle.gilmore_lawler.proofs.factors.write_linear.Goals as goal

pub returns-clause-written : goal.returns-clause-written
returns-clause-written c =
    let n = c.args.instance.now.size in
    let matrix : List ℤ = matrix_of c.args.instance.now c.args.side in
    let i = c.from-own.result in
    let before = take c.args.start c.args.numbers.now in
    let own : take c.write_one-first.result c.write_one-first.new.numbers ≡ before ++ entry n matrix i i ∷ [] =
    c.write_one-first.ensures.written
    ∙ ap (λ (x : ℤ). before ++ x ∷ []) (narrowed c.entry_at.result c.narrow-with_itself.result c.entry_at.ensures.range c.narrow-with_itself.ensures ∙ c.entry_at.ensures.value) in
    subst (λ (k : ℕ). take c.write_pairs.result c.write_pairs.new.numbers ≡ before ++ linear_row n matrix c.args.placed.now k) c.from-own.ensures
    (joined _ _ _ _ _ own c.write_pairs.ensures.written)

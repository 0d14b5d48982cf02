use Rattle.std.proofs.Common.{◌≡◌, ◌++◌, ◌∷◌, [], List, take, ap, ◌∙◌}
use Rattle.std.specs.Prelude.{ℤ}
use Rattle.qap_cost.specs.Instance.{entry}
use Rattle.gilmore_lawler.specs.Table.{matrix_of}
use Rattle.gilmore_lawler.proofs.DotBlocks.{narrowed}
use Rattle.gilmore_lawler.proofs.FactorRows.{joined_pair}
use Rattle.gilmore_lawler.proofs.factors.write_pair.Goals as goal

pub returns-clause-written : goal.returns-clause-written
returns-clause-written c =
    let n = c.args.instance.now.size in
    let matrix : List ℤ = matrix_of c.args.instance.now c.args.side in
    let before = take c.args.start c.args.numbers.now in
    let first : take c.write_one-middle.result c.write_one-middle.new.numbers ≡ before ++ entry n matrix c.args.i c.args.other ∷ [] =
    c.write_one-middle.ensures.written
    ∙ ap (λ (x : ℤ). before ++ x ∷ []) (narrowed c.entry_at.result c.narrow-there.result c.entry_at.ensures.range c.narrow-there.ensures ∙ c.entry_at.ensures.value) in
    let second : take c.write_one.result c.write_one.new.numbers ≡ take c.write_one-middle.result c.write_one-middle.new.numbers ++ entry n matrix c.args.other c.args.i ∷ [] =
    c.write_one.ensures.written
    ∙ ap (λ (x : ℤ). take c.write_one-middle.result c.write_one-middle.new.numbers ++ x ∷ []) (narrowed c.entry_at-2.result c.narrow-back.result c.entry_at-2.ensures.range c.narrow-back.ensures ∙ c.entry_at-2.ensures.value) in
    joined_pair before _ _ _ _ first second

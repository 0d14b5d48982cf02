-- Each word is read in its turn.
use Rattle.std.proofs.Common.{◌≡◌, ℕ, ◌+◌, List, ◌∷◌, [], ◌++◌, map, take, Bor, ℤ, sym, subst, ap, ◌∙◌, to_z-of_z, FitsSigned, rules}
use Rattle.std.specs.Int.{w128}
use Rattle.std.specs.List.{AllZip}
use Rattle.space_script.specs.Number.{IsInteger}
use Rattle.space_script.proofs.Zips.{spelled_more, unspelled}
use Rattle.space_script.proofs.lists.read_each.Goals as goal

pub returns-in_default : goal.returns-in_default
returns-in_default c = unspelled (λ word. word.now) IsInteger c.args.words.now c.loop-word.word-index _ c.loop-word-test.true c.in_default.ensures

pub loop-word-preserved : goal.loop-word-preserved
loop-word-preserved c =
    let number = c.in-Some.number in
    let spelled = c.in-Some.ensures in
    let fits : FitsSigned w128 number = search rules in
    let kept : c.push.new.self.items ≡ c.loop-word.numbers.items ++ number ∷ [] =
    c.in_ok-push.ensures.items ∙ ap (λ z. c.loop-word.numbers.items ++ z ∷ []) (to_z-of_z fits) in
    subst (λ (zs : List ℤ). AllZip IsInteger (take (c.loop-word.word-index + 1) (map (λ (word : Bor (List ℕ)). word.now) c.args.words.now)) zs) (sym kept)
    (spelled_more (λ word. word.now) IsInteger c.args.words.now c.loop-word.numbers.items c.loop-word.word-index _ number
    c.loop-word.invariant c.loop-word-test.true spelled)

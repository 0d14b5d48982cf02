-- The words spell no command.
use Rattle.std.proofs.Common.{◌<◌, List, ℕ, length, map, Bor, inr, refl, ap, ◌∙◌, subst, sym, rules}
use Rattle.std.proofs.lemmas.List.{length-map}
use Rattle.space_script.specs.Command.{IsCommand}
use Rattle.space_script.specs.declared.command.Command.{Command}
use Rattle.space_script.specs.Words.{words_of}
use Rattle.space_script.proofs.Cases.{none_of}
use Rattle.space_script.proofs.Lines.{worded_line}
use Rattle.space_script.proofs.line.read_line.Goals as goal

pub returns : goal.returns
returns c =
    let items = c.in_ok-words.words.items in
    let words = map (λ (word : Bor (List ℕ)). word.now) items in
    let is = c.in_ok-words.ensures ∙ ap words_of c.without_return.ensures in
    let nonempty : 0 < length items = search rules in
    let some : 0 < length words = subst (λ n. 0 < n) (sym (length-map items (λ (word : Bor (List ℕ)). word.now))) nonempty in
    let none : (command : Command) → IsCommand words command → ⊥ =
    subst (λ (l : List (Bor (List ℕ))). (command : Command) → IsCommand (map (λ (word : Bor (List ℕ)). word.now) l) command → ⊥) c.deref.ensures.value
    (none_of _ _ _ c.in_ok-command.ensures c.in-None.is) in
    inr (refl, worded_line c.args.line.now words is some none)

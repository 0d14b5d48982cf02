use Rattle.std.proofs.Common.{◌≡◌, ◌++◌, ◌∷◌, ◌∙◌, [], ap, map, rules, subst, sym}
use Rattle.std.specs.String.{string_bytes}
use Rattle.std.proofs.lemmas.List.{map-append}
use Rattle.plan_table.specs.Names.{AreDifferent, IsNew}
use Rattle.plan_table.proofs.NameLists.{AreDifferent-more}
use Rattle.plan_table.proofs.departments.add_name.Goals as goal

pub returns-clause-different : goal.returns-clause-different
returns-clause-different c =
    let names = c.args.names.now.items in
    let name = c.in-Some.name.now in
    let own = c.in_ok-own.own in
    let pushed : c.push.new.self.items ≡ names ++ own ∷ [] = search rules in
    let is = ap (map string_bytes) pushed ∙ map-append string_bytes names (own ∷ []) ∙ ap (λ y. map string_bytes names ++ y ∷ []) c.in_ok-own.ensures.ok in
    let new : IsNew (map string_bytes names) name = search rules in
    subst AreDifferent (sym is) (AreDifferent-more (map string_bytes names) name c.requires.different new)

use Rattle.std.proofs.Common.{◌≡◌, ◌++◌, ◌∷◌, ◌∙◌, [], ap, arith, length, length-append, map, rules, subst, sym}
use Rattle.std.specs.String.{string_bytes}
use Rattle.std.proofs.lemmas.List.{map-append}
use Rattle.plan_table.specs.Names.{AreDifferent}
use Rattle.plan_table.proofs.NameLists.{AreDifferent-more}
use Rattle.plan_table.proofs.names.first_names.Goals as goal

pub loop-row-preserved : goal.loop-row-preserved
loop-row-preserved c =
    let names = c.loop-row.names.items in
    let own = c.in_ok-name.name in
    let pushed : c.push.new.self.items ≡ names ++ own ∷ [] = search rules in
    let is = ap (map string_bytes) pushed ∙ map-append string_bytes names (own ∷ []) in
    let new = rw (c.deref.ensures.value, ← c.in_ok-name.ensures.0) at c.in_ok-name.ensures.1 in
    record {
      many = ap length pushed ∙ length-append names (own ∷ []) ∙ omega (arith, c.loop-row.invariant.many);
      different = subst AreDifferent (sym is) (AreDifferent-more (map string_bytes names) (string_bytes own) c.loop-row.invariant.different new);
    }

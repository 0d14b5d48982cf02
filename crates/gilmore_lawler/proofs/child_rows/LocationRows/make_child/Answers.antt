use Rattle.std.proofs.Common.{rules, ◌≡◌, ◌∙◌, ap₂, get_or, List, ℕ, ◌++◌, ◌∷◌, []}
use Rattle.std.proofs.lemmas.List.{get_or_default}
use Rattle.std.proofs.lemmas.Result.{on_ok_weaker}
use Rattle.gilmore_lawler.proofs.ChildRows.{AreRowsAt-made}
use Rattle.gilmore_lawler.proofs.child_rows.LocationRows.make_child.Goals as goal

pub returns : goal.returns
returns c =
    let free = c.args.self.now.free.items in
    let last : c.index.result.now ≡ get_or free c.args.s 0 = c.index.ensures ∙ get_or_default free c.args.s c.index.result.now 0 c.requires.place in
    on_ok_weaker c.child_rows.result
    (AreRowsAt-made c.args.instance.now c.args.self.now.places.items free c.args.self.now.rows.items c.args.s c.requires.known c.requires.place
    record { places = c.list_with.new.numbers; free = c.list_without.new.numbers; rows = c.child_rows.new.table }
    (c.in_ok-list_with.ensures ∙ ap₂ (λ (l : List ℕ) (x : ℕ). l ++ x ∷ []) c.deref.ensures.value last)
    (search rules))
    (search rules)

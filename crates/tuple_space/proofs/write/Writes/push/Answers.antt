use Rattle.std.proofs.Common.{◌∙◌, ◌++◌, ◌∷◌, [], List, ap, false, arith}
use Rattle.tuple_space.specs.declared.write.Write.{Write}
use Rattle.tuple_space.proofs.PlaceLemmas.{items_in-push, places_push}
use Rattle.tuple_space.proofs.write.Writes.push.Goals as goal

pub invariant_of-self : goal.invariant_of-self
invariant_of-self c =
    let x : Write = record { tuple = c.args.tuple; lease = c.args.lease; taken = false } in
    record {
      ready = omega (arith, c.self.invariant.ready, c.push.ensures.capacity);
      each = rw c.in_default.ensures.ok (places_push c.self.inside.rows.items x c.self.invariant.each);
    }

pub returns-in_default-clause-ok : goal.returns-in_default-clause-ok
returns-in_default-clause-ok c =
    let x : Write = record { tuple = c.args.tuple; lease = c.args.lease; taken = false } in
    rw c.in_default.ensures.ok (items_in-push c.self.inside.rows.items x ∙ ap (λ (l : List Write). l ++ x ∷ []) c.self.view_is)

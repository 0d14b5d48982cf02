use Rattle.std.proofs.Common.{◌≡◌, ◌<◌, ◌∷◌, ◌++◌, [], length, get_or, pos, ap, sym, ◌∙◌, rules}
use Rattle.number_list.proofs.Turns.{by_turns-more, two_pushed}
use Rattle.number_list.proofs.lists.narrow_by_turns.Goals as goal

pub loop-t-preserved : goal.loop-t-preserved
loop-t-preserved c =
    let fs = c.args.first.now in
    let ks = c.args.second.now in
    let t = c.loop-t.t in
    let below : t < length fs = c.loop-t-test.true in
    let first : c.push.new.self.items ≡ c.loop-t.numbers.items ++ pos (get_or fs t 0) ∷ [] = search rules in
    let second : c.push-in-loop-t.new.self.items ≡ c.push.new.self.items ++ pos (get_or ks t 0) ∷ [] = search rules in
    two_pushed c.loop-t.numbers.items c.push.new.self.items c.push-in-loop-t.new.self.items (pos (get_or fs t 0)) (pos (get_or ks t 0)) first second
    ∙ ap (λ xs. xs ++ (pos (get_or fs t 0) ∷ pos (get_or ks t 0) ∷ [])) c.loop-t.invariant
    ∙ sym (by_turns-more fs ks t below c.requires)

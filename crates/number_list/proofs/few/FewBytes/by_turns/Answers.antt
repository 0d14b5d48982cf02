use Rattle.std.proofs.Common.{◌≡◌, ◌<◌, ◌∷◌, ◌++◌, [], length, get_or, map, pos, ap, sym, ◌∙◌, rules}
use Rattle.std.proofs.lemmas.List.{map-append}
use Rattle.number_list.proofs.Turns.{by_turns-more}
use Rattle.number_list.proofs.few.FewBytes.by_turns.Goals as goal

pub loop-t-preserved : goal.loop-t-preserved
loop-t-preserved c =
    let fs = c.args.first.now in
    let ks = c.args.second.now in
    let t = c.loop-t.t in
    let below : t < length fs = c.loop-t-test.true in
    let more : c.in_ok-few.few ≡ c.loop-t.few ++ (get_or fs t 0 ∷ get_or ks t 0 ∷ []) = search rules in
    ap (map pos) more
    ∙ map-append pos c.loop-t.few (get_or fs t 0 ∷ get_or ks t 0 ∷ [])
    ∙ ap (λ xs. xs ++ (pos (get_or fs t 0) ∷ pos (get_or ks t 0) ∷ [])) c.loop-t.invariant
    ∙ sym (by_turns-more fs ks t below c.requires)

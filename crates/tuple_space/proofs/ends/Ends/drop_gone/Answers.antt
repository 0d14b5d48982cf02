use Rattle.std.proofs.Common.{rules, subst}
use Rattle.std.proofs.lemmas.Fn.{filter_same}
use Rattle.tuple_space.specs.Ends.{Ending, EndsValue, KeepsEndings}
use Rattle.tuple_space.specs.Rows.{has_number}
use Rattle.tuple_space.proofs.EndLemmas.{left_noted}
use Rattle.tuple_space.proofs.ends.Ends.drop_gone.Goals as goal

pub returns-then-len-few : goal.returns-then-len-few
returns-then-len-few c =
    let es = c.args.entries.now.items in
    let kept = c.retain.ensures.filtered in
    let same = filter_same _ (λ (r : Ending). has_number r.0.1 es) _ (λ x r f' k. search rules) _ _ kept.1 in
    λ e has. subst (λ (v : EndsValue). KeepsEndings v.rows c.retain.new.self.data.items e) c.self.view_is (left_noted es _ kept.0 _ same kept.2 e has)

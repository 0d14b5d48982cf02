use Rattle.std.proofs.Common.{◌≡◌, ◌+◌, ◌≤◌, ◌^◌, ◌∙◌, ◌∷◌, List, ℕ, ap, drop, subst, sym, arith}
use Rattle.std.proofs.lemmas.List.{drop_all, drop_more}
use Rattle.std.specs.Prelude.{if◌then◌else◌}
use Rattle.tuple_space.specs.Ends.{AreWatched}
use Rattle.tuple_space.specs.Index.{last_after}
use Rattle.tuple_space.specs.Space.{SpaceValue, put}
use Rattle.tuple_space.specs.Writes.{put_count, put_each}
use Rattle.tuple_space.specs.declared.write.Write.{Write}
use Rattle.tuple_space.proofs.EndLemmas.{put_last, put_moment}
use Rattle.tuple_space.proofs.IndexLemmas.{few_more}
use Rattle.tuple_space.proofs.ends.note_writes.Goals as goal

pub loop-place-preserved : goal.loop-place-preserved
loop-place-preserved c =
    let writes = c.args.writes.now in
    let i = c.loop-place.place in
    let last = c.loop-place.number in
    let x = c.at.result.now in
    let rest = drop (i + 1) writes in
    let parts : drop i writes ≡ x ∷ rest = drop_more writes i x (omega arith) ∙ ap (λ (y : Write). y ∷ rest) (sym c.at.ensures) in
    let next = c.in_ok-number.number in
    let after : next ≡ last_after last x = c.in_ok-number.ensures.number in
    record {
      few = subst (λ (n : ℕ). n + put_count rest ≤ 2 ^ 62) (sym after) (few_more last (2 ^ 62) x rest (subst (λ (l : List Write). last + put_count l ≤ 2 ^ 62) parts c.loop-place.invariant.few));
      kept = λ e is. c.in_ok-number.ensures.kept e (c.loop-place.invariant.kept e is);
      watched = λ w at now all.
          let before = c.loop-place.invariant.watched w at now all in
          let v = before.0 in
          let u : SpaceValue = if x.taken then v else put v x.tuple x.lease in (
            u,
            put_last v x ∙ ap (λ n. last_after n x) before.1 ∙ sym after,
            put_moment v x ∙ before.2,
            c.in_ok-number.ensures.watched v before.1 before.2 before.3,
            ap (put_each v) (sym parts) ∙ before.4,
          );
    }

pub returns-clause-watched : goal.returns-clause-watched
returns-clause-watched c = λ w at now all.
    let done = c.loop-place.invariant.watched w at now all in
    let none = drop_all c.loop-place.place c.args.writes.now (omega arith) in
    subst (λ (v : SpaceValue). AreWatched c.loop-place.ends.rows c.args.moment v.entries) (sym (ap (put_each done.0) none) ∙ done.4) done.3

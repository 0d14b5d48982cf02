use Rattle.std.proofs.Common.{◌≡◌, ◌+◌, ◌≤◌, ◌^◌, ◌∙◌, ◌∷◌, List, ℕ, ap, drop, subst, sym, arith}
use Rattle.std.proofs.lemmas.List.{drop_more}
use Rattle.tuple_space.specs.Index.{is_next, is_put, is_to_be, last_after}
use Rattle.tuple_space.specs.Writes.{put_count}
use Rattle.tuple_space.specs.declared.write.Write.{Write}
use Rattle.tuple_space.proofs.IndexLemmas.{few_more, gone_more, to_be_more}
use Rattle.tuple_space.proofs.indexing.drop_writes.Goals as goal

pub loop-place-preserved : goal.loop-place-preserved
loop-place-preserved c =
    let writes = c.args.writes.now in
    let i = c.loop-place.place in
    let last = c.loop-place.number in
    let x = c.at.result.now in
    let rest = drop (i + 1) writes in
    let parts : drop i writes ≡ x ∷ rest = drop_more writes i x (omega arith) ∙ ap (λ (y : Write). y ∷ rest) (sym c.at.ensures) in
    let next = c.drop_write-number.result in
    let after : next ≡ last_after last x = c.drop_write-number.ensures.number in
    record {
      few = subst (λ (n : ℕ). n + put_count rest ≤ 2 ^ 62) (sym after) (few_more last (2 ^ 62) x rest (subst (λ (l : List Write). last + put_count l ≤ 2 ^ 62) parts c.loop-place.invariant.few));
      ordered = c.drop_write-number.ensures.ordered;
      dropped = λ k n. gone_more (is_put k n c.drop_write-number.new.buckets.items) (is_put k n c.loop-place.buckets.items) (is_next k n last x) (is_to_be k n next rest) (is_to_be k n last (drop i writes)) _
          (to_be_more k n last next x rest (drop i writes) parts after) (c.drop_write-number.ensures.dropped k n) (c.loop-place.invariant.dropped k n);
      once = λ once. c.drop_write-number.ensures.once (c.loop-place.invariant.once once);
    }

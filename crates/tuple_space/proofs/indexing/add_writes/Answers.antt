use Rattle.std.proofs.Common.{◌≡◌, ◌+◌, ◌≤◌, ◌^◌, ◌∙◌, ◌∷◌, List, ℕ, ap, drop, subst, sym, arith}
use Rattle.std.proofs.lemmas.List.{drop_more}
use Rattle.std.proofs.lemmas.Result.{err_from_is_err_and}
use Rattle.tuple_space.specs.Index.{AreUpTo, Class, is_next, is_put, is_to_be, last_after}
use Rattle.tuple_space.specs.Writes.{put_count}
use Rattle.tuple_space.specs.declared.write.Write.{Write}
use Rattle.tuple_space.proofs.IndexLemmas.{few_more, later_more, put_more, put_partly, to_be_more}
use Rattle.tuple_space.proofs.indexing.add_writes.Goals as goal

pub returns-in_err-number-clause-err : goal.returns-in_err-number-clause-err
returns-in_err-number-clause-err c =
    let p = err_from_is_err_and c.from_residual.result c.from_residual.ensures.1 in
    rw p.1 (λ k n. put_partly (is_put k n c.add_write.new.buckets.items) (is_put k n c.loop-place.buckets.items) (is_to_be k n c.loop-place.number (drop c.loop-place.place c.args.writes.now))
    (is_to_be k n c.args.last c.args.writes.now) (is_put k n c.args.buckets.now.items) (c.in_err-number.ensures.err k n) (c.loop-place.invariant.later k n) (c.loop-place.invariant.put k n))

pub returns-in_err-number-clause-once : goal.returns-in_err-number-clause-once
returns-in_err-number-clause-once c = λ once. c.add_write.ensures.once (c.loop-place.invariant.once once)

pub loop-place-preserved : goal.loop-place-preserved
loop-place-preserved c =
    let writes = c.args.writes.now in
    let i = c.loop-place.place in
    let last = c.loop-place.number in
    let x = c.at.result.now in
    let rest = drop (i + 1) writes in
    let parts : drop i writes ≡ x ∷ rest = drop_more writes i x (omega arith) ∙ ap (λ (y : Write). y ∷ rest) (sym c.at.ensures) in
    let next = c.in_ok-number.number in
    let after : next ≡ last_after last x = c.in_ok-number.ensures.number in
    let split = λ (k : Class) (n : ℕ). to_be_more k n last next x rest (drop i writes) parts after in
    record {
      few = subst (λ (n : ℕ). n + put_count rest ≤ 2 ^ 62) (sym after) (few_more last (2 ^ 62) x rest (subst (λ (l : List Write). last + put_count l ≤ 2 ^ 62) parts c.loop-place.invariant.few));
      ordered = subst (λ (n : ℕ). AreUpTo n c.add_write.new.buckets.items) (sym after) c.add_write.ensures.ordered;
      put = λ k n. put_more (is_put k n c.add_write.new.buckets.items) (is_put k n c.loop-place.buckets.items) (is_next k n last x) (is_to_be k n next rest) (is_to_be k n last (drop i writes)) _
          (split k n) (c.in_ok-number.ensures.put k n) (c.loop-place.invariant.put k n);
      later = λ k n. later_more (is_next k n last x) (is_to_be k n next rest) (is_to_be k n last (drop i writes)) (is_to_be k n c.args.last writes) (split k n) (c.loop-place.invariant.later k n);
      once = λ once. c.add_write.ensures.once (c.loop-place.invariant.once once);
    }

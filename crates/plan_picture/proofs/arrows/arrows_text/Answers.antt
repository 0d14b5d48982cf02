use Rattle.std.proofs.Common.{◌≡◌, ◌++◌, ◌∙◌, List, ℕ, ap, append_assoc, get_or, length, subst}
use Rattle.std.specs.Prelude.{codes}
use Rattle.plan_answer.specs.declared.pairs.Pair.{Pair}
use Rattle.plan_picture.specs.Arrows.{IsArrow, arrows_head, first_cost, no_pair}
use Rattle.plan_picture.specs.Joining.{IsJoinedTo}
use Rattle.plan_picture.proofs.arrows.arrows_text.Goals as goal

pub returns : goal.returns
returns c =
    let text = c.in_ok-arrows.arrows.items in
    let M = λ (pairs : List Pair) (k : ℕ). IsArrow c.args.permutation.now c.args.centres.now c.args.size (first_cost pairs) (get_or pairs k no_pair) in
    let first : c.extend_from_slice.new.self.items ≡ arrows_head ++ text =
    c.in_ok-extend_from_slice.ensures.items
    ∙ ap (λ (t : List ℕ). t ++ c.deref-2.result.now) c.in_ok-text.ensures.items
    ∙ ap (λ (bs : List ℕ). arrows_head ++ bs) c.deref-2.ensures.value in
    record {
      pairs = c.in_ok-pairs.pairs.items;
      arrows = text;
      dearest = c.in_ok-pairs.ensures;
      each = subst (λ (pairs : List Pair). IsJoinedTo (M pairs) (length pairs) text) c.deref.ensures.value c.in_ok-arrows.ensures;
      is =
          c.in_ok-extend_from_slice-2.ensures.items
          ∙ ap (λ (t : List ℕ). t ++ codes "</g>\n") first
          ∙ append_assoc arrows_head text (codes "</g>\n");
    }

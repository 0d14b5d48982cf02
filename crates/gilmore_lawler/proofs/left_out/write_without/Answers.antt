use Rattle.std.proofs.Common.{rules, ◌≡◌, ◌+◌, ◌-◌, ◌++◌, ◌∙◌, ap, sym, arith, length, take, get_or, pos, to_z, of_z, SFits}
use Rattle.std.specs.Prelude.{remove}
use Rattle.std.specs.Int.{w32}
use Rattle.std.proofs.lemmas.Int.{to_z-of_z}
use Rattle.std.proofs.lemmas.List.{length-set, take_all}
use Rattle.gilmore_lawler.proofs.LeftOut.{left_out-more}
use Rattle.gilmore_lawler.proofs.Skips.{length-remove}
use Rattle.gilmore_lawler.proofs.left_out.write_without.Goals as goal

pub loop-j-preserved : goal.loop-j-preserved
loop-j-preserved c =
    let xs = c.args.sorted.now in
    let j = c.loop-j.j in
    let here : SFits w32 (get_or xs j (pos 0)) = search rules in
    let next : SFits w32 (get_or xs (j + 1) (pos 0)) = search rules in
    let told : SFits w32 c.one_of.result = search rules in
    let here_is = to_z-of_z w32 (get_or xs j (pos 0)) here in
    let next_is = to_z-of_z w32 (get_or xs (j + 1) (pos 0)) next in
    let told_is = to_z-of_z w32 c.one_of.result told in
    record {
      count = length-set c.loop-j.numbers (c.args.start + j) _ ∙ c.loop-j.invariant.count;
      written = λ t inside at.
          left_out-more xs c.loop-j.numbers (take c.args.start c.args.numbers.now) t j c.args.start (to_z w32 (of_z w32 c.args.gone)) (to_z w32 (of_z w32 c.one_of.result)) c.requires.falls inside at
          (omega (arith, c.loop-j-test.true))
          (omega (arith, c.loop-j-test.true, c.loop-j.invariant.count, c.requires.room))
          (c.loop-j.invariant.written t inside at)
          (λ above. told_is ∙ c.one_of.ensures.above (rw here_is above) ∙ here_is)
          (λ low. told_is ∙ c.one_of.ensures.below (rw here_is low) ∙ next_is);
    }

pub returns-clause-written : goal.returns-clause-written
returns-clause-written c =
    λ t inside at.
    let xs = c.args.sorted.now in
    let end : length xs - 1 ≡ c.loop-j.j = omega (arith, c.loop-j-test.false, c.loop-j.auto.j-end) in
    let gone = to_z-of_z w32 c.args.gone c.ranges.gone in
    ap (λ k. take (c.args.start + k) c.loop-j.numbers) end
    ∙ c.loop-j.invariant.written t inside (at ∙ sym gone)
    ∙ ap (λ l. take c.args.start c.args.numbers.now ++ l) (take_all c.loop-j.j (remove xs t) (omega (arith, length-remove xs t inside, end)))

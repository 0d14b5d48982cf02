use Rattle.std.proofs.Common.{ℕ, Some, ◌≡◌, ◌∙◌, ap, arith, rules, subst, sym}
use Rattle.std.proofs.lemmas.List.Elements.{All-pop}
use Rattle.qap_search.specs.Worker.Hand.{HandValue}
use Rattle.qap_search.proofs.RunLemmas.Fronts.{All-front}
use Rattle.qap_search.proofs.runs.threads.seats_for.Goals as goal

pub loop-share-preserved : goal.loop-share-preserved
loop-share-preserved g c = record {
  count = omega (arith, c.in_ok-push.ensures.len, c.in-Some.ensures.len, c.loop-share.invariant.count);
  fresh = All-front (λ (n : ℕ). n ≡ 0) c.pop.new.self.items c.loop-share.rest.items c.in-Some.share c.in-Some.ensures.items c.loop-share.invariant.fresh;
  worker = omega (arith, c.in_ok-push.ensures.len, c.loop-share.invariant.worker);
}

pub new-requires-in-Some : goal.new-requires-in-Some
new-requires-in-Some g c =
    let zero = (All-pop (λ (n : ℕ). n ≡ 0) c.loop-share.rest.items c.pop.new.self.items (Some c.in-Some.share) c.in-Some.ensures.items c.loop-share.invariant.fresh).1 in
    record {
      law = search rules;
      lease = subst g.L.Law.begins (sym (ap (λ (h : HandValue). h.lease) (c.beside-hand.ensures ∙ c.in_ok-new.ensures.value))) c.requires.lease;
      counted = ap (λ (h : HandValue). h.accepted) c.beside-hand.ensures ∙ (c.in_ok-new.ensures.accepted ∙ sym zero);
    }

use Rattle.std.proofs.Common.{◌∙◌, ℕ, ap, ltb, rules, subst, sym}
use Rattle.std.specs.Prelude.{◌<◌, filter}
use Rattle.std.specs.Map.{values_of}
use Rattle.std.proofs.lemmas.List.Kept.{AllPairs-filter}
use Rattle.indexmap.proofs.CallerLemmas.{filter-RetainsPairs}
use Rattle.tuple_space.proofs.NumberLemmas.{are_numbered, numbered-filter, values_are}
use Rattle.space_txn.specs.Live.{going_at}
use Rattle.space_txn.specs.declared.live.Live.{Live}
use Rattle.space_txn.proofs.LiveLemmas.{AreRising, going_all}
use Rattle.space_txn.proofs.transactions.Transactions.drop_ended.Goals as goal

pub returns-then-not-has_ended : goal.returns-then-not-has_ended
returns-then-not-has_ended c = going_all (λ t. ltb c.args.moment t.end) c.args.self.now (sym c.has_ended.ensures ∙ c.if-not-has_ended.true)

pub invariant_of-self : goal.invariant_of-self
invariant_of-self c =
    let ps = c.self.inside.by_number.entries in
    let going = λ (t : Live). ltb c.args.moment t.end in
    let kept = filter-RetainsPairs _ (λ (p : ℕ × Live). going p.1) _ (λ k v b w g call. search rules) _ _ c.retain.ensures.filtered in
    let left = kept ∙ ap (filter (λ (p : ℕ × Live). going p.1)) c.self.invariant.numbered ∙ numbered-filter (λ (t : Live). t.number) going (values_of ps) in
    record {
      numbered = are_numbered (λ (t : Live). t.number) _ (filter going (values_of ps)) left;
      rising = subst AreRising (sym (values_are (λ (t : Live). t.number) _ (filter going (values_of ps)) left))
          (AllPairs-filter (λ (t : Live) (u : Live). t.number < u.number) going (values_of ps) c.self.invariant.rising);
    }

pub returns : goal.returns
returns c =
    let ps = c.self.inside.by_number.entries in
    let going = λ (t : Live). ltb c.args.moment t.end in
    let kept = filter-RetainsPairs _ (λ (p : ℕ × Live). going p.1) _ (λ k v b w g call. search rules) _ _ c.retain.ensures.filtered in
    let left = kept ∙ ap (filter (λ (p : ℕ × Live). going p.1)) c.self.invariant.numbered ∙ numbered-filter (λ (t : Live). t.number) going (values_of ps) in
    values_are (λ (t : Live). t.number) _ (filter going (values_of ps)) left ∙ ap (going_at c.args.moment) c.self.view_is

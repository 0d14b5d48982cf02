-- The test keeps what is live.
use Rattle.std.proofs.Common.{◌∙◌, ap, sym, rules}
use Rattle.std.specs.Prelude.{ℕ, Bool, filter}
use Rattle.std.specs.Map.{values_of}
use Rattle.indexmap.proofs.CallerLemmas.{filter-RetainsPairs}
use Rattle.space_txn.specs.Txn.{TxnValue}
use Rattle.space_txn.specs.World.{is_live_transaction}
use Rattle.space_script.specs.Kept.{KeptValue}
use Rattle.space_script.specs.Session.{live_of}
use Rattle.space_script.proofs.Numbered.{all_filter, are_numbered, numbered-filter, values_are}
use Rattle.space_script.proofs.kept.Kept.keep_live.Goals as goal

pub returns-then-are_live : goal.returns-then-are_live
returns-then-are_live c = sym (all_filter (λ (t : TxnValue). is_live_transaction c.args.world.now t.number) c.args.self.now.items (sym c.are_live.ensures ∙ c.if-are_live.true))

pub invariant_of-self : goal.invariant_of-self
invariant_of-self c =
    let ps = c.self.inside.by_number.entries in
    let test : TxnValue → Bool = λ t. is_live_transaction c.args.world.now t.number in
    let kept = filter-RetainsPairs _ (λ (p : ℕ × TxnValue). test p.1) _ (λ k v b w g call. search rules) _ _ c.retain.ensures.filtered in
    are_numbered _ (filter test (values_of ps)) (kept ∙ ap (filter (λ (p : ℕ × TxnValue). test p.1)) c.self.invariant ∙ numbered-filter test (values_of ps))

pub returns : goal.returns
returns c =
    let ps = c.self.inside.by_number.entries in
    let test : TxnValue → Bool = λ t. is_live_transaction c.args.world.now t.number in
    let kept = filter-RetainsPairs _ (λ (p : ℕ × TxnValue). test p.1) _ (λ k v b w g call. search rules) _ _ c.retain.ensures.filtered in
    values_are _ (filter test (values_of ps)) (kept ∙ ap (filter (λ (p : ℕ × TxnValue). test p.1)) c.self.invariant ∙ numbered-filter test (values_of ps))
    ∙ ap (λ (v : KeptValue). live_of c.args.world.now v.items) c.self.view_is

use Rattle.std.proofs.Common.{◌<◌, ◌∙◌, ◌++◌, ◌∷◌, [], List, ap, subst, sym, arith}
use Rattle.std.specs.Prelude.{All}
use Rattle.std.specs.List.{AllPairs}
use Rattle.std.specs.Map.{values_of}
use Rattle.std.proofs.lemmas.List.Quantifiers.{all_pairs_push}
use Rattle.tuple_space.proofs.NumberLemmas.{are_numbered, numbered_new, values_are}
use Rattle.space_txn.specs.declared.live.Live.{Live}
use Rattle.space_txn.proofs.transactions.Transactions.add.Goals as goal

pub invariant_of-self : goal.invariant_of-self
invariant_of-self c =
    let ps = c.self.inside.by_number.entries in
    let less = subst (λ (ts : List Live). All (λ (t : Live). t.number < c.args.row.number) ts) (sym c.self.view_is) c.requires in
    let new = c.in_default.ensures.entries ∙ numbered_new (λ (t : Live). t.number) ps c.args.row c.self.invariant.numbered (λ k d lt e. (let below = less k d lt in omega arith)) in
    let values = values_are (λ (t : Live). t.number) c.insert.new.self.entries (values_of ps ++ c.args.row ∷ []) new in
    record {
      numbered = are_numbered (λ (t : Live). t.number) c.insert.new.self.entries (values_of ps ++ c.args.row ∷ []) new;
      rising = subst (AllPairs (λ (t : Live) (u : Live). t.number < u.number)) (sym values)
          (all_pairs_push (λ (t : Live) (u : Live). t.number < u.number) (values_of ps) c.args.row c.self.invariant.rising less);
    }

pub returns-in_default-clause-ok : goal.returns-in_default-clause-ok
returns-in_default-clause-ok c =
    let ps = c.self.inside.by_number.entries in
    let less = subst (λ (ts : List Live). All (λ (t : Live). t.number < c.args.row.number) ts) (sym c.self.view_is) c.requires in
    let new = c.in_default.ensures.entries ∙ numbered_new (λ (t : Live). t.number) ps c.args.row c.self.invariant.numbered (λ k d lt e. (let below = less k d lt in omega arith)) in
    values_are (λ (t : Live). t.number) c.insert.new.self.entries (values_of ps ++ c.args.row ∷ []) new ∙ ap (λ (ts : List Live). ts ++ c.args.row ∷ []) c.self.view_is

-- What a worker's transaction holds after a call that finds.
use Rattle.std.proofs.Common.{◌≡◌, ◌↔◌, ◌⊎◌, inl, inr, ℕ, ℤ, Bool, IsTrue, true, List, [], ◌∷◌, Ok, Err, IfErr, refl, sym, ap, subst, ◌∙◌}
use Rattle.qap_cost.specs.Instance.{Problem, IsInstance}
use Rattle.tuple_match.specs.FieldValue.{FieldValue}
use Rattle.tuple_match.specs.Matching.{does_match}
use Rattle.tuple_match.specs.PatternValue.{PatternValue, Matches}
use Rattle.shared_space.specs.Law.{Content, InLawful, MayCommit}
use Rattle.space_txn.specs.Finding.{Finds}
use Rattle.space_txn.specs.Machine.{Answer, found, nothing, done, refused}
use Rattle.space_txn.specs.Marks.{with_mark}
use Rattle.space_txn.specs.Txn.{TxnValue}
use Rattle.space_txn.specs.declared.txn.Found.TheVariants.{Entry as Stored, Own}
use Rattle.qap_search.specs.Tuples.Piece.{is_open, node_template}
use Rattle.qap_search.specs.Law.Replacement.{MayReplace}
use Rattle.qap_search.specs.Law.Search.{search_of}
use Rattle.qap_search.specs.Law.SearchLaw.{IsSearchLaw}
use Rattle.qap_search.specs.Worker.Standing.{IsFoundNode}
use Rattle.qap_search.specs.Worker.Hand.{HandValue}
use Rattle.qap_search.specs.Worker.Turn.{AfterNoCommit, AfterRefusal, Committed, Told}
use Rattle.shared_space.specs.declared.error.CommitError.TheVariants.{Txn}
use Rattle.space_txn.specs.declared.error.TxnError.{TxnError}
use Rattle.space_txn.specs.declared.error.TxnError.TheVariants.{Expired, Foreign, Exhausted, OutOfMemory}
use Rattle.qap_search.specs.declared.worker.stage.Stage.TheVariants.{Ready}
use Rattle.qap_search.proofs.TupleLemmas.Found.{node_found}

matching_open : (tuple : List FieldValue) → IsTrue (is_open tuple) ↔ Matches node_template tuple → Matches node_template tuple → is_open tuple ≡ true
matching_open tuple test m = test.1 m

-- an error of another kind isn't that of a transaction that has ended
pub not_expired : (e : TxnError) → (e ≡ Foreign) ⊎ ((e ≡ Exhausted) ⊎ (e ≡ OutOfMemory)) → e ≡ Expired → ⊥
not_expired e (inl p) q = cc
not_expired e (inr (inl p)) q = cc
not_expired e (inr (inr p)) q = cc

-- after a commit that was refused, and not since the transaction has ended, the worker stands where it stood
pub not_committed_after : (h new : HandValue) (t : TxnValue) (cost : ℤ) (e : TxnError) (told : Told) → (e ≡ Expired → ⊥) → AfterRefusal h (Ready t cost) e told new → AfterNoCommit h t cost (Txn e) told new
not_committed_after h new t cost Expired told other f = absurd (other refl)
not_committed_after h new t cost Foreign told other f = f
not_committed_after h new t cost Exhausted told other f = f
not_committed_after h new t cost OutOfMemory told other f = f

-- what is known after the call of a new transaction that takes an open node's entry
pub found_node : (I : Problem) (lawful : Content → ℕ → Type 0) (allowed : Content → Content → Content → Type 0) (t t' : TxnValue) (answer : Answer) → ((template : List PatternValue) (tuple : List FieldValue) → IsTrue (does_match template tuple) ↔ Matches template tuple) → IsInstance I → IsSearchLaw I lawful allowed → t.marks ≡ [] → t.writes ≡ [] → Finds (InLawful lawful) true node_template t answer t' → IsFoundNode I answer t'
found_node I lawful allowed t t' (found (Stored number)) test instance law no_marks no_writes f =
    let marks : t'.marks ≡ f.0 ∷ [] = ap (λ (x : TxnValue). x.marks) f.4 ∙ ap (with_mark f.0) no_marks in
    let writes : t'.writes ≡ [] = ap (λ (x : TxnValue). x.writes) f.4 ∙ no_writes in
    record {
      mark = f.0;
      marks = marks;
      writes = writes;
      entry = f.1.entry;
      taken = f.2;
      node = λ permanent.
          let known = f.1.known permanent in
          node_found (search_of I law.0 law.1) known.0 known.1 f.0.tuple (law.2.is_cut_tree known.0 known.1 known.2) known.3 (matching_open f.0.tuple (test node_template f.0.tuple) f.1.matches);
    }
found_node I lawful allowed t t' (found (Own place)) test instance law no_marks no_writes f = tt
found_node I lawful allowed t t' nothing test instance law no_marks no_writes f = tt
found_node I lawful allowed t t' (refused error) test instance law no_marks no_writes f = (ap (λ (x : TxnValue). x.marks) f ∙ no_marks, ap (λ (x : TxnValue). x.writes) f ∙ no_writes)
found_node I lawful allowed t t' done test instance law no_marks no_writes f = tt

-- the transaction that came back is the one that was to be committed
pub handed_on : (I : Problem) (t : TxnValue) (committed : Committed) → MayCommit (MayReplace I) t → IfErr committed (λ back. back.1 ≡ t) → IfErr committed (λ back. MayCommit (MayReplace I) back.1)
handed_on I t (Ok u) may back = tt
handed_on I t (Err e) may back = subst (MayCommit (MayReplace I)) (sym back) may

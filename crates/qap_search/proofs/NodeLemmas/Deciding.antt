-- A node that is decided by a thought, and what may be replaced by it.
use Rattle.std.proofs.Common.{◌≡◌, ℕ, List, [], ◌∷◌, ◌++◌, ℤ, ap, ◌≤ℤ◌, ◌+ℤ◌, refl, inl, inr, subst, arith}
use Rattle.std.proofs.lemmas.Int.{ints}
use Rattle.std.proofs.lemmas.List.Sums.{sum_by-append, sum_by-cons}
use Rattle.std.specs.List.{sum_by}
use Rattle.std.specs.Prelude.{IfOk, MatchOption, Result, Option, Ok, Err, Some, None, ◌<ℤ◌}
use Rattle.qap_cost.specs.Instance.{Problem}
use Rattle.qap_cost.specs.Matrix.{dual_value}
use Rattle.qap_cost.specs.Placement.{Placement, IsPlacement, IsFreeFacility, fixed_cost_of, free_locations}
use Rattle.qap_cert.specs.Valid.{ClosesPart}
use Rattle.space_txn.specs.Content.{SameItems}
use Rattle.tuple_match.specs.FieldValue.{FieldValue}
use Rattle.qap_search.specs.Node.Decision.{Decides, DecidesBeside, DecidesBetter, DecidesBy}
use Rattle.qap_search.specs.Tuples.Piece.{best_tuple, closed_tuple, node_tuple, pieces}
use Rattle.qap_search.specs.Law.Replacement.{Best, IsAsGood, MayReplace, tuple_of}
use Rattle.qap_search.specs.Law.SearchTree.{AreOpen, AreTrees, closed_node, open_row, split_open}
use Rattle.qap_search.specs.Node.Thought.{IsThought, ThoughtValue, candidate_of, thought_on}
use Rattle.qap_search.specs.declared.node.thought.Thought.{Thought}
use Rattle.qap_search.proofs.CertificateLemmas.Certificates.{free_depth}

open_row-open : (ks : List ℕ) → AreOpen (open_row ks)
open_row-open [] = tt
open_row-open (k ∷ ks) = open_row-open ks

open_row-trees : (P : Placement → List ℤ → List ℤ → Type 0) (x : Placement) (f : ℕ) (ks : List ℕ) → AreTrees P x f ks (open_row ks)
open_row-trees P x f [] = tt
open_row-trees P x f (k ∷ ks) = (tt, open_row-trees P x f ks)

-- a split into open nodes, on the thought's facility
pub decides_split : (I : Problem) (c : ℤ) (x : Placement) (t : Thought) (f : ℕ) (tuples : List (List FieldValue)) → IsPlacement x → IsFreeFacility x f → t.value <ℤ c → t.branch ≡ Some f → tuples ≡ pieces x (split_open x f) → DecidesBy I c (thought_on x t) tuples
decides_split I c x t f tuples placed free below branch is = record {
  decides = record {
    decided = split_open x f;
    one = open_row-open (free_locations x);
    valid = (free_depth x f placed free, free, open_row-trees (ClosesPart I c) x f (free_locations x));
    are = is;
  };
  by = inr (below, f, branch, refl);
}

-- a node that the thought's duals close
pub decides_closed : (I : Problem) (c : ℤ) (x : Placement) (t : Thought) (tuples : List (List FieldValue)) → IsThought I x t → c ≤ℤ t.value → tuples ≡ closed_tuple x t.u.items t.v.items ∷ [] → DecidesBy I c (thought_on x t) tuples
decides_closed I c x t tuples h enough is =
    let value : t.value ≡ fixed_cost_of I x +ℤ dual_value t.u.items t.v.items = h.value in
    record {
      decides = record {
        decided = closed_node t.u.items t.v.items;
        one = tt;
        valid = record { duals = h.duals; closes = record { fits = record { matrix = h.matrix; square = h.square; reduced = h.reduced; fits = h.fits }; enough = omega (arith, ints) } };
        are = is;
      };
      by = inl (enough, refl);
    }

-- where the best permutation was read, a node may be replaced by what is decided of it by that
pub replaces_read : (I : Problem) (x : Placement) (b : Best) (gone kept added tuples : List (List FieldValue)) → IsPlacement x → x.size ≡ I.size → Decides I b.cost x tuples → SameItems gone (node_tuple x ∷ []) → SameItems kept (tuple_of b ∷ []) → SameItems added tuples → MayReplace I gone kept added
replaces_read I x b gone kept added tuples placed size d takes reads adds =
    let P : List (List FieldValue) → Type 0 = SameItems added in
    record {
      at = x;
      placement = placed;
      same_size = size;
      old = b;
      new = b;
      decided = d.decided;
      one = d.one;
      valid = d.valid;
      tuples = inl (record { same = refl; takes = takes; reads = reads; adds = subst P d.are adds });
    }

-- where it was taken, the same holds with one that is as good in its place, by which the node is decided
pub replaces_taken : (I : Problem) (x : Placement) (old new : Best) (gone kept added tuples : List (List FieldValue)) → IsPlacement x → x.size ≡ I.size → Decides I new.cost x tuples → IsAsGood I old new → SameItems gone (node_tuple x ∷ tuple_of old ∷ []) → SameItems kept [] → SameItems added (tuple_of new ∷ tuples) → MayReplace I gone kept added
replaces_taken I x old new gone kept added tuples placed size d good takes reads adds =
    let P : List (List FieldValue) → Type 0 = λ ts. SameItems added (tuple_of new ∷ ts) in
    record {
      at = x;
      placement = placed;
      same_size = size;
      old = old;
      new = new;
      decided = d.decided;
      one = d.one;
      valid = d.valid;
      tuples = inr (record { as_good = good; takes = takes; reads = reads; adds = subst P d.are adds });
    }

-- a decided node's tuples, and then that of the best permutation
pub decides_beside : (I : Problem) (c : ℤ) (p : List ℕ) (t : ThoughtValue) (rest tuples : List (List FieldValue)) (best : List FieldValue) → DecidesBy I c t rest → tuples ≡ rest ++ best ∷ [] → best ≡ best_tuple c p → DecidesBeside I c p t tuples
decides_beside I c p t rest tuples best d is best_is = record {
  rest = rest;
  decides = d;
  with_best = λ f.
      let all = ap (sum_by f) is in
      let parts = sum_by-append f rest (best ∷ []) in
      let one = ap f best_is in
      let cons = sum_by-cons f (best_tuple c p) rest in
      omega arith;
}

-- what holds of tuples that were made gives more of them
pub made_then : {V E : Type 0} (r : Result (Option V) E) (A B : Type 0) (P Q : V → Type 0) → (A → B) → ((v : V) → P v → Q v) → IfOk r (λ w. MatchOption w A P) → IfOk r (λ w. MatchOption w B Q)
made_then (Ok None) A B P Q none some h = none h
made_then (Ok (Some v)) A B P Q none some h = some v h
made_then (Err e) A B P Q none some h = h

-- the candidate stands where it costs less, and else the one that was taken
pub better_candidate : (I : Problem) (old : Best) (x : Placement) (t : Thought) (stated : ℤ) (tuples : List (List FieldValue)) → stated ≡ t.cost → t.cost <ℤ old.cost → DecidesBeside I stated t.candidate (thought_on x t) tuples → DecidesBetter I (thought_on x t) old tuples
better_candidate I old x t stated tuples is less d = record {
  new = candidate_of t;
  better = inl (less, refl);
  decides = subst (λ (c : ℤ). DecidesBeside I c t.candidate (thought_on x t) tuples) is d;
}

-- where the candidate costs no less than the old one, what is decided beside the old is decided beside the better one
pub better_old : (I : Problem) (old : Best) (t : ThoughtValue) (stated : ℤ) (tuples : List (List FieldValue)) → stated ≡ old.cost → old.cost ≤ℤ t.candidate.cost → DecidesBeside I stated old.permutation t tuples → DecidesBetter I t old tuples
better_old I old t stated tuples is more d = record {
  new = old;
  better = inr (more, refl);
  decides = subst (λ (c : ℤ). DecidesBeside I c old.permutation t tuples) is d;
}

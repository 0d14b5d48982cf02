-- What a search has left where it ends.
use Rattle.std.proofs.Common.{◌≡◌, ℕ, inl, inr, List, [], ◌∷◌, length, map, ℤ, pos, Option, Result, Ok, Err, refl, sym, ap, subst, ◌∙◌, arith}
use Rattle.std.specs.Prelude.{Contains, MatchResult}
use Rattle.std.proofs.lemmas.List.Sums.{sum_by-cons}
use Rattle.qap_cost.specs.Bijection.{IsPerm}
use Rattle.qap_cost.proofs.Nodes.{root_completed}
use Rattle.qap_cost.specs.Instance.{Problem}
use Rattle.qap_cost.specs.Objective.{Permutes, cost_of}
use Rattle.qap_cost.specs.Placement.{Placement, free_locations, placing}
use Rattle.qap_cert.proofs.Validity.{valid_bounds}
use Rattle.qap_cert.specs.Tree.{Node, split, bound, Nodes, no_nodes, node}
use Rattle.qap_cert.specs.Valid.{AllValid, ClosesPart, Valid}
use Rattle.shared_space.specs.Limit.{IsWithin}
use Rattle.space_txn.specs.Content.{content_of}
use Rattle.tuple_match.specs.FieldValue.{FieldValue}
use Rattle.qap_search.specs.Runs.Answer.{IsLeastAnswer, IsLeastFrom, IsSearchFault, IsSolveFault, LeavesBest, accepted_of}
use Rattle.qap_search.specs.Certificate.Assembling.{IsNoCertificate, IsTreeFault}
use Rattle.qap_search.specs.Law.CutTree.{IsCutTree}
use Rattle.qap_search.specs.Tuples.DecidedTuples.{best_of}
use Rattle.qap_search.specs.Runs.Outcome.{IsEndFault, IsEnded, IsFinished}
use Rattle.qap_search.specs.Tuples.Piece.{best_tuple, open_count, pieces}
use Rattle.qap_search.specs.Law.Replacement.{Best, tuple_of}
use Rattle.qap_search.specs.Law.SearchTree.{AreTrees, IsTree, searched, searched_all}
use Rattle.qap_search.specs.Law.Search.{Search, NoneBelow, whole}
use Rattle.qap_search.specs.declared.runs.answer.Least.{Least}
use Rattle.qap_search.specs.declared.runs.answer.SolveError.{SolveError}
use Rattle.qap_search.specs.declared.runs.answer.SolveError.TheVariants.{Unfinished, Stopped, OutOfMemory}
use Rattle.qap_search.specs.declared.certificate.error.AssembleError.TheVariants.{NotATree, Unfinished as Open}
use Rattle.qap_search.specs.declared.runs.run_ending.Finished.{Finished}
use Rattle.qap_search.specs.declared.runs.run.Run.{Run}
use Rattle.qap_search.proofs.TupleLemmas.Found.{best_found_there, contained, found_from_Contains}
use Rattle.qap_search.proofs.CertificateLemmas.Certificates.{finished, open_weight}
use Rattle.qap_search.proofs.LawLemmas.Replacing.{best_found}
use Rattle.qap_search.proofs.TupleLemmas.TupleReadings.{is_it, is_it-itself}

-- why a run has no answer, whatever space it left
pub solve_fault : (S : Search) (limit : Option ℕ) (r : Run) (e : SolveError) → IsEnded S limit r → IsEndFault S limit r e → IsSearchFault S (length r.reports.items) limit e
solve_fault S limit r (Unfinished count) ended left = record { content = content_of r.space; commits = r.space.commits; tree = ended.tree; so_many = left }
solve_fault S limit r (Stopped a) ended stopped = stopped.1
solve_fault S limit r OutOfMemory ended memory = tt

-- what a run yields is what its search yields
pub told_of : {X : Type 0} (S : Search) (workers : ℕ) (limit : Option ℕ) (r : Run) (P : ℕ → X → Type 0) (result : Result X SolveError) → IsEnded S limit r → length r.reports.items ≡ workers → MatchResult result (P (length r.reports.items)) (IsEndFault S limit r) → MatchResult result (P workers) (IsSearchFault S workers limit)
told_of S workers limit r P (Ok x) ended one_each h = subst (λ (n : ℕ). P n x) one_each h
told_of S workers limit r P (Err e) ended one_each h = subst (λ (n : ℕ). IsSearchFault S n limit e) one_each (solve_fault S limit r e ended h)

-- tuples aren't put together since nodes are open
pub never_open : (n : ℕ) (tuples : List (List FieldValue)) (count : ℕ) → IsTreeFault n tuples (Open count) → ⊥
never_open n tuples count (inl memory) = cc
never_open n tuples count (inr fault) = let other = fault.0 in cc

-- where they aren't those of a tree, they are those of no certificate
pub no_certificate_there : (n : ℕ) (tuples : List (List FieldValue)) → IsTreeFault n tuples NotATree → IsNoCertificate n tuples
no_certificate_there n tuples (inl memory) = absurd (let other : ⊥ = cc in other)
no_certificate_there n tuples (inr fault) = fault.1

-- a cut tree has the tuple of its best permutation
pub best_contained : (S : Search) (content : List (List FieldValue)) (commits : ℕ) (h : IsCutTree S content commits) → Contains content (best_of h.cost (map pos h.permutation))
best_contained S content commits h =
    let w = best_tuple h.cost h.permutation in
    let apart = h.taken_apart (is_it w) in
    let parts = sum_by-cons (is_it w) w (pieces S.root h.tree) in
    let itself = is_it-itself w in
    contained content w (omega arith)

-- of this permutation and this cost
pub best_there : (S : Search) (content : List (List FieldValue)) (commits : ℕ) (h : IsCutTree S content commits) (p : List ℕ) (c : ℤ) → h.permutation ≡ p → h.cost ≡ c → Contains content (best_tuple c p)
best_there S content commits h p c is costs =
    subst (λ (q : List ℕ). Contains content (best_tuple c q)) is
    (subst (λ (z : ℤ). Contains content (best_tuple z h.permutation)) costs (best_contained S content commits h))

-- a tuple of a best permutation that it has says a permutation
pub best_permutes : (S : Search) (content : List (List FieldValue)) (commits : ℕ) (c : ℤ) (ps : List ℤ) → IsCutTree S content commits → Contains content (best_of c ps) → (p : List ℕ) × IsPerm p × (map pos p ≡ ps)
best_permutes S content commits c ps h at =
    let found = best_found_there S content commits (best_of c ps) h at refl in
    let is : best_of c ps ≡ best_of found.best.cost (map pos found.best.permutation) = found.is in
    let positive = h.root.positive in
    let small = h.root.small in
    let sized = h.same_size in
    let same = found.permutes.same_size in (
      found.best.permutation,
      record { bijection = found.permutes.bijection; positive = omega arith; small = omega arith },
      cc,
    )

-- and it is the best one
pub best_stands : (S : Search) (content : List (List FieldValue)) (commits : ℕ) (c : ℤ) (p : List ℕ) (h : IsCutTree S content commits) → Contains content (best_of c (map pos p)) → (h.permutation ≡ p) × (h.cost ≡ c)
best_stands S content commits c p h at =
    let root = S.root in
    let best : Best = record { cost = c; permutation = p } in
    let old : Best = record { cost = h.cost; permutation = h.permutation } in
    let here = found_from_Contains content (tuple_of best) at.0 at.1 at.2 in
    let apart = h.taken_apart (is_it (tuple_of best)) in
    let same : old ≡ best = best_found best old h.tree root (ClosesPart S.instance h.cost) h.valid (omega arith) in
    (ap (λ (b : Best). b.permutation) same, ap (λ (b : Best). b.cost) same)

-- the tuples of a finished run are its cut tree
pub finished_tree : (S : Search) (limit : Option ℕ) (r : Run) (f : Finished) → IsEnded S limit r → IsFinished r f → IsCutTree S f.tuples.items r.space.commits
finished_tree S limit r f ended h = subst (λ (xs : List (List FieldValue)). IsCutTree S xs r.space.commits) (sym h.tuples) ended.tree

mutual
  -- a search tree without open nodes, as a valid tree
  valid_from_tree : (I : Problem) (c : ℤ) (s : Node) (y : Placement) → IsTree (ClosesPart I c) y (searched s) → Valid I c y s
  valid_from_tree I c (bound u v) y h = h
  valid_from_tree I c (split f children) y h = (h.0, h.1, all_valid_from_trees I c children y f (free_locations y) h.2)

  all_valid_from_trees : (I : Problem) (c : ℤ) (ss : Nodes) (y : Placement) (f : ℕ) (ks : List ℕ) → AreTrees (ClosesPart I c) y f ks (searched_all ss) → AllValid I c y f ks ss
  all_valid_from_trees I c no_nodes y f [] h = tt
  all_valid_from_trees I c no_nodes y f (k ∷ ks) h = absurd h
  all_valid_from_trees I c (node s rest) y f [] h = absurd h
  all_valid_from_trees I c (node s rest) y f (k ∷ ks) h = (valid_from_tree I c s (placing y f k) h.0, all_valid_from_trees I c rest y f ks h.1)

-- where no node is open, no permutation that completes the root costs less than the best one
pub none_less : (S : Search) (content : List (List FieldValue)) (commits : ℕ) (h : IsCutTree S content commits) → open_count content ≡ 0 → NoneBelow S h.cost
none_less S content commits h none p completes =
    let I = S.instance in
    let root = S.root in
    let apart = h.taken_apart open_weight in
    let parts = sum_by-cons open_weight (best_tuple h.cost h.permutation) (pieces root h.tree) in
    let done = finished (ClosesPart I h.cost) h.tree root h.valid (omega arith) in
    let tree = subst (IsTree (ClosesPart I h.cost) root) done.1 h.valid in
    valid_bounds done.0 I h.cost root p h.root (sym h.same_size) (valid_from_tree I h.cost done.0 root tree) completes

-- where the best permutation is that of a run's cut tree without open nodes, it is a least one
pub least_left : (S : Search) (limit : Option ℕ) (r : Run) (a : Least) (content : List (List FieldValue)) → IsEnded S limit r → (h : IsCutTree S content r.space.commits) → open_count content ≡ 0 → h.permutation ≡ a.permutation → h.cost ≡ a.cost → a.reports.items ≡ r.reports.items → IsLeastFrom S (length r.reports.items) limit a
least_left S limit r a content ended h none best costs reports =
    let I = S.instance in
    let same : accepted_of a.reports.items ≡ r.space.commits = ap accepted_of reports ∙ ended.counted in
    record {
      permutes = subst (Permutes I) best h.permutes;
      costs = subst (λ (p : List ℕ). cost_of I p ≡ a.cost) best (h.costs ∙ costs);
      least = subst (NoneBelow S) costs (none_less S content r.space.commits h none);
      left = subst (λ (n : ℕ). LeavesBest S n a.permutation a.cost) (sym same) (record { content = content; tree = h; none_open = none; best = best; costs = costs });
      one_each = ap length reports;
      within = subst (IsWithin limit) (sym same) ended.within;
    }

-- a least one of all permutations
pub least_of_all : (I : Problem) (workers : ℕ) (limit : Option ℕ) (a : Least) → IsLeastFrom (whole I) workers limit a → IsLeastAnswer I workers limit a
least_of_all I workers limit a h = record {
  permutes = h.permutes;
  costs = h.costs;
  least = λ p q. h.least p (root_completed I.size p q.bijection q.same_size);
  left = h.left;
  one_each = h.one_each;
  within = h.within;
}

-- the answer of a search of all permutations from the identity is one for the instance, and so is the fault where there
-- is none
pub least_told : (I : Problem) (workers : ℕ) (limit : Option ℕ) (result : Result Least SolveError) → MatchResult result (IsLeastFrom (whole I) workers limit) (IsSearchFault (whole I) workers limit) → MatchResult result (IsLeastAnswer I workers limit) (IsSolveFault I workers limit)
least_told I workers limit (Ok a) h = least_of_all I workers limit a h
least_told I workers limit (Err e) h = h

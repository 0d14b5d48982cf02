-- From the pieces of a search to its certificate: the cost, the locations of the incumbent and the tree.
use Rattle.std.proofs.Common.{◌≡◌, ◌≢◌, ℕ, ◌≤◌, ◌<◌, inl, inr, List, ◌∷◌, length, map, ℤ, pos, refl, sym, ap, ap₂, subst, ◌∙◌, arith}
use Rattle.std.proofs.lemmas.List.Sums.{sum_by-cons}
use Rattle.qap_cost.specs.Bijection.{IsPerm}
use Rattle.qap_cost.specs.Placement.{root_of}
use Rattle.qap_cert.proofs.Faults.{claim_fault}
use Rattle.qap_cert.specs.Certificate.{Claim, IsCertificate, claim_of}
use Rattle.qap_cert.specs.Fault.{IsClaimFault}
use Rattle.qap_cert.specs.Tree.{Node}
use Rattle.qap_cert.specs.declared.error.CertError.{CertError}
use Rattle.tuple_match.specs.FieldValue.{FieldValue}
use Rattle.qap_search.specs.Certificate.Assembling.{IsAssembleFault, IsNoCertificate, IsTreeFault}
use Rattle.qap_search.specs.Certificate.TreeBuilding.{AnyDuals, AreTuplesOf}
use Rattle.qap_search.specs.Tuples.DecidedTuples.{best_of}
use Rattle.qap_search.specs.Certificate.Finished.{IsAssembled}
use Rattle.qap_search.specs.Tuples.Piece.{node_tuple, split_tuple, closed_tuple, best_tuple, open_count, pieces}
use Rattle.qap_search.specs.Law.SearchTree.{searched}
use Rattle.qap_search.specs.declared.certificate.error.AssembleError.{AssembleError}
use Rattle.qap_search.proofs.CertificateLemmas.Assembled.{assembled_tree}
use Rattle.qap_search.proofs.CertificateLemmas.Finishing.{only_tree}
use Rattle.qap_search.proofs.LawLemmas.Replacing.{weighed}
use Rattle.qap_search.proofs.TupleLemmas.TupleReadings.{is_it, is_it-found, is_it-itself, is_it-other, list_at, map_pos-same, number_at}

-- the certificate has this cost, these locations, and a tree of these tuples
record IsMadeOf (n : ℕ) (cost : ℤ) (locations : List ℤ) (tuples : List (List FieldValue)) (C : Claim) : Type 0 where
  cost_is : C.cost ≡ cost
  locations_are : map pos C.permutation ≡ locations
  tree_of : AreTuplesOf n tuples C.tree

best_is : (n : ℕ) (cost : ℤ) (locations : List ℤ) (tuples : List (List FieldValue)) (C : Claim) → IsAssembled n (best_of cost locations ∷ tuples) C → best_tuple C.cost C.permutation ≡ best_of cost locations
best_is n cost locations tuples C a =
    let w = is_it (best_of cost locations) in
    let root = root_of n in
    let here = sum_by-cons w (best_of cost locations) tuples in
    let there = sum_by-cons w (best_tuple C.cost C.permutation) (pieces root (searched C.tree)) in
    let itself = is_it-itself (best_of cost locations) in
    let same = a.taken_apart w in
    let none = weighed w 0
    (λ x. is_it-other (best_of cost locations) (node_tuple x) (λ (e : 110 ≡ 98). omega arith))
    (λ x f. is_it-other (best_of cost locations) (split_tuple x f) (λ (e : 115 ≡ 98). omega arith))
    (λ x u v. is_it-other (best_of cost locations) (closed_tuple x u v) (λ (e : 99 ≡ 98). omega arith))
    (searched C.tree) root AnyDuals (assembled_tree n (best_of cost locations ∷ tuples) C a) in
    is_it-found (best_of cost locations) (best_tuple C.cost C.permutation) (omega arith)

made_of : (n : ℕ) (cost : ℤ) (locations : List ℤ) (tuples : List (List FieldValue)) (C : Claim) → IsAssembled n (best_of cost locations ∷ tuples) C → IsMadeOf n cost locations tuples C
made_of n cost locations tuples C a =
    let best = best_is n cost locations tuples C a in
    record {
      cost_is = ap (number_at 1) best;
      locations_are = ap (list_at 2) best;
      tree_of = record {
        tree = assembled_tree n (best_of cost locations ∷ tuples) C a;
        taken_apart = λ f.
            let same = a.taken_apart f in
            let here = sum_by-cons f (best_of cost locations) tuples in
            let there = sum_by-cons f (best_tuple C.cost C.permutation) (pieces (root_of n) (searched C.tree)) in
            let one = ap f best in
            omega arith;
      };
    }

-- locations that are those of no permutation make no certificate
pub none_permuted : (n : ℕ) (cost : ℤ) (items values : List ℤ) (tuples : List (List FieldValue)) → values ≡ items → ((p : List ℕ) → IsPerm p → map pos p ≢ values) → IsNoCertificate n (best_of cost items ∷ tuples)
none_permuted n cost items values tuples same none C a =
    none C.permutation a.certificate.permutation ((made_of n cost items tuples C a).locations_are ∙ sym same)

-- nor do those of a permutation of another size
pub none_of_size : (n : ℕ) (cost : ℤ) (items values : List ℤ) (tuples : List (List FieldValue)) (p : List ℕ) → values ≡ items → map pos p ≡ values → length p ≢ n → IsNoCertificate n (best_of cost items ∷ tuples)
none_of_size n cost items values tuples p same is other C a =
    let made = made_of n cost items tuples C a in
    other (ap length (map_pos-same p C.permutation (is ∙ same ∙ sym made.locations_are)) ∙ a.same_size)

-- nor do nodes that are no tree's
pub none_of_tree : (n : ℕ) (cost : ℤ) (items : List ℤ) (tuples : List (List FieldValue)) → ((s : Node) → AreTuplesOf n tuples s → ⊥) → IsNoCertificate n (best_of cost items ∷ tuples)
none_of_tree n cost items tuples none C a = none C.tree (made_of n cost items tuples C a).tree_of

same_claim : (C : Claim) (c g : ℤ) (p : List ℕ) (t : Node) → C.cost ≡ c → C.bound ≡ g → C.permutation ≡ p → C.tree ≡ t → C ≡ claim_of c g p t
same_claim C c g p t cost bound permutation tree =
    ap₂ (λ (a b : ℤ). claim_of a b C.permutation C.tree) cost bound ∙ ap₂ (λ (q : List ℕ) (s : Node). claim_of c g q s) permutation tree

-- nor do a cost, a permutation and a tree that haven't the shape of one
pub none_of_shape : (n : ℕ) (cost stated : ℤ) (items values : List ℤ) (tuples : List (List FieldValue)) (p : List ℕ) (t : Node) (e : CertError) → 0 < n → n ≤ 256 → stated ≡ cost → values ≡ items → map pos p ≡ values → AreTuplesOf n tuples t → IsClaimFault (claim_of stated stated p t) e → IsNoCertificate n (best_of cost items ∷ tuples)
none_of_shape n cost stated items values tuples p t e positive small same_cost same is tree fault C a =
    let made = made_of n cost items tuples C a in
    let stated_is = made.cost_is ∙ sym same_cost in
    let is_claim = same_claim C stated stated p t stated_is (a.closed ∙ stated_is)
    (map_pos-same C.permutation p (made.locations_are ∙ sym same ∙ sym is))
    (only_tree n tuples C.tree t positive small made.tree_of tree) in
    claim_fault (claim_of stated stated p t) e fault (subst IsCertificate is_claim a.certificate)

-- those that have it make one
pub certificate_made : (n : ℕ) (cost stated : ℤ) (items values : List ℤ) (tuples : List (List FieldValue)) (p : List ℕ) (t : Node) (C : Claim) → stated ≡ cost → values ≡ items → map pos p ≡ values → length p ≡ n → AreTuplesOf n tuples t → C ≡ claim_of stated stated p t → IsCertificate C → IsAssembled n (best_of cost items ∷ tuples) C
certificate_made n cost stated items values tuples p t C same_cost same is size tree claimed certificate =
    let made : IsAssembled n (best_of cost items ∷ tuples) (claim_of stated stated p t) = record {
      certificate = subst IsCertificate claimed certificate;
      same_size = size;
      closed = refl;
      taken_apart = λ f.
          let apart = tree.taken_apart f in
          let here = sum_by-cons f (best_of cost items) tuples in
          let there = sum_by-cons f (best_tuple stated p) (pieces (root_of n) (searched t)) in
          let one = ap₂ (λ (c : ℤ) (xs : List ℤ). f (best_of c xs)) same_cost (is ∙ same) in
          omega arith;
    } in
    subst (IsAssembled n (best_of cost items ∷ tuples)) (sym claimed) made

-- why tuples without open nodes aren't put together
pub fault_of : (n : ℕ) (tuples : List (List FieldValue)) (e : AssembleError) → open_count tuples ≡ 0 → IsTreeFault n tuples e → IsAssembleFault n tuples e
fault_of n tuples e none (inl memory) = subst (IsAssembleFault n tuples) (sym memory) none
fault_of n tuples e none (inr fault) = subst (IsAssembleFault n tuples) (sym fault.0) (none, fault.1)

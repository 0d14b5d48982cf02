-- From the tuples of a search that was stopped to its certificate, and back.
use Rattle.std.proofs.Common.{◌≡◌, ◌≢◌, ℕ, ◌≤◌, ◌<◌, ◌⊎◌, inl, inr, Bool, true, false, ◌&&◌, cond, List, [], ◌∷◌, ◌++◌, length, refl, sym, ap, subst, ◌∙◌, arith, append-nil}
use Rattle.std.specs.Prelude.{ℤ}
use Rattle.std.specs.List.{AllZip, sum_by}
use Rattle.std.proofs.lemmas.Int.{ints}
use Rattle.std.proofs.lemmas.List.Sums.{sum_by-cons}
use Rattle.qap_cost.specs.Instance.{Problem}
use Rattle.qap_cost.specs.Placement.{root_of}
use Rattle.qap_cert.specs.Certificate.{Claim, IsCertificate, claim_of}
use Rattle.qap_lines.specs.Bound.{IsBoundFor}
use Rattle.qap_cert.specs.Shape.{HasShape}
use Rattle.qap_cert.specs.Tree.{Node}
use Rattle.qap_cert.specs.declared.version.Version.TheVariants.{Second}
use Rattle.space_txn.specs.Content.{SameItems}
use Rattle.tuple_match.specs.Equality.{Decides-field_eq, field_eq}
use Rattle.tuple_match.specs.FieldValue.{FieldValue, number, numbers, word}
use Rattle.qap_search.specs.Certificate.Assembling.{IsAssembleFault, IsNoCertificate}
use Rattle.qap_search.specs.Certificate.TreeBuilding.{AnyDuals}
use Rattle.qap_search.specs.Certificate.ClosedTuples.{AreClosed, HasNoNode, IsClosedTuple, named_node}
use Rattle.qap_search.specs.Certificate.OpenNodes.{ClosedTo}
use Rattle.qap_search.specs.Certificate.Finished.{IsAssembled, certificate_tuples}
use Rattle.qap_search.specs.Tuples.Found.{IsOpenNode}
use Rattle.qap_search.specs.Tuples.Piece.{best_tuple, is_open, pieces}
use Rattle.qap_search.specs.Law.SearchTree.{SearchTree, IsTree, searched}
use Rattle.qap_search.specs.Certificate.Stopped.{HasDuals, IsNotStopped, IsStopped, IsStoppedFault, IsUnfinished, ShowsTooLow}
use Rattle.qap_search.specs.Certificate.LeafBounds.{IsBoundOf}
use Rattle.qap_search.specs.declared.certificate.error.AssembleError.{AssembleError}
use Rattle.qap_search.specs.declared.certificate.error.AssembleError.TheVariants.{Unfinished, NotATree, OutOfMemory}
use Rattle.qap_search.proofs.CertificateLemmas.Assembled.{assembled_tree}
use Rattle.qap_search.proofs.CertificateLemmas.Certificates.{best_of, open_weight, root_placement, tree_shape}
use Rattle.qap_search.proofs.CertificateLemmas.OpenNodes.{closed_tree, opened, other_stays, shut}
use Rattle.qap_search.proofs.CertificateLemmas.Finishing.{only_tree}
use Rattle.qap_search.proofs.TupleLemmas.Found.{IsDecidedTuple, piece_found}
use Rattle.qap_search.proofs.CertificateLemmas.OneTree.{closed_tag, split_tag}
use Rattle.qap_search.proofs.CertificateLemmas.Reorderings.{flipped, reordered}
use Rattle.qap_search.proofs.LawLemmas.Replacing.{best_found}
use Rattle.qap_search.proofs.TupleLemmas.TupleReadings.{found_in, is_it, is_it-found, is_it-itself, list_at, tag}

abbrev best_tag : ℕ
best_tag = 98

abbrev node_tag : ℕ
node_tag = 110

none_behind : (R : List FieldValue → List FieldValue → Type 0) (xs : List (List FieldValue)) → AllZip R xs [] → xs ≡ []
none_behind R [] h = refl
none_behind R (x ∷ xs) h = absurd h

none_before : (R : List FieldValue → List FieldValue → Type 0) (ys : List (List FieldValue)) → AllZip R [] ys → ys ≡ []
none_before R [] h = refl
none_before R (y ∷ ys) h = absurd h

-- the best permutation's tuple comes of itself alone
best_stays : (I : Problem) (c : ℤ) (p : List ℕ) (w : List FieldValue) → IsClosedTuple I w (best_tuple c p) → w ≡ best_tuple c p
best_stays I c p w (inl same) = sym same.1
best_stays I c p w (inr h) = let differ : best_tag ≡ closed_tag = ap tag h.closed.is in absurd (omega arith)

-- tuples that are closed to those of a tree and a permutation are those of a search tree that is closed to the tree
made_from : (I : Problem) (tuples ws : List (List FieldValue)) (A : Claim) (g : ℤ) → SameItems tuples ws → AllZip (IsClosedTuple I) ws (certificate_tuples I.size A) → IsTree AnyDuals (root_of I.size) (searched A.tree) → length A.permutation ≡ I.size → IsCertificate (claim_of A.cost g A.permutation A.tree) → IsBoundOf I A.cost A.tree g → IsStopped I tuples (claim_of A.cost g A.permutation A.tree)
made_from I tuples [] A g same zip tree size certificate least = absurd zip
made_from I tuples (w ∷ ws) A g same zip tree size certificate least =
    let root = root_of I.size in
    let ps = pieces root (searched A.tree) in
    let o = opened I A.tree root (record { size = refl; paired = refl }) tree ws [] (subst (AllZip (IsClosedTuple I) ws) (sym (append-nil ps)) zip.1) in
    let is : ws ≡ pieces root o.search = o.is ∙ ap (λ (b : List (List FieldValue)). pieces root o.search ++ b) (none_behind (IsClosedTuple I) o.behind o.others) ∙ append-nil (pieces root o.search) in
    record {
      tree = o.search;
      taken_apart = λ f.
          let here = same f in
          let first = ap f (best_stays I A.cost A.permutation w zip.0) in
          let rest = ap (sum_by f) is in
          let left = sum_by-cons f w ws in
          let right = sum_by-cons f (best_tuple A.cost A.permutation) (pieces root o.search) in
          omega arith;
      closes = record { certificate = certificate; same_size = size; closed = o.closed; least = least };
    }

-- the certificate of what the tuples say once the open nodes are closed is a stopped search's
pub stopped_made : (I : Problem) (tuples new : List (List FieldValue)) (A C : Claim) (g : ℤ) → AreClosed I tuples new → IsAssembled I.size new A → IsBoundOf I A.cost A.tree g → C ≡ claim_of A.cost g A.permutation A.tree → IsCertificate C → IsStopped I tuples C
stopped_made I tuples new A C g shut a least is certificate =
    let r = reordered (IsClosedTuple I) (certificate_tuples I.size A) shut.sources new shut.closed a.taken_apart in
    subst (IsStopped I tuples) (sym is)
    (made_from I tuples r.0 A g (λ f. shut.same f ∙ r.1 f) r.2 (assembled_tree I.size new A a) a.same_size (subst IsCertificate is certificate) least)

-- the tuples are those of a certificate whose tree is s with each open node closed
record IsMade (I : Problem) (c : ℤ) (p : List ℕ) (s : SearchTree) (new : List (List FieldValue)) : Type 0 where
  tree_of : Node
  closed : ClosedTo I (root_of I.size) s tree_of
  assembled : IsAssembled I.size new (claim_of c c p tree_of)

made_by : (I : Problem) (tuples new ws : List (List FieldValue)) (c : ℤ) (p : List ℕ) (s : SearchTree) → SameItems new ws → AllZip (IsClosedTuple I) (best_tuple c p ∷ pieces (root_of I.size) s) ws → IsUnfinished I.size tuples c p s → IsMade I c p s new
made_by I tuples new [] c p s same zip h = absurd zip
made_by I tuples new (w ∷ ws) c p s same zip h =
    let n = I.size in
    let root = root_of n in
    let ps = pieces root s in
    let o = shut I s root (record { size = refl; paired = refl }) h.tree ws [] (subst (λ (a : List (List FieldValue)). AllZip (IsClosedTuple I) a ws) (sym (append-nil ps)) zip.1) in
    let there = pieces root (searched o.tree_of) in
    let is : ws ≡ there = o.is ∙ ap (λ (b : List (List FieldValue)). there ++ b) (none_before (IsClosedTuple I) o.behind o.others) ∙ append-nil there in
    let perm = h.permutation in
    let size = h.same_size in
    let positive = perm.positive in
    let small = perm.small in
    let shape = tree_shape o.tree_of root (root_placement n (omega arith) (omega arith)) (closed_tree I s o.tree_of root h.tree o.closed) in
    record {
      tree_of = o.tree_of;
      closed = o.closed;
      assembled = record {
        certificate = record {
          cost = h.cost;
          bound = record { limited = h.cost; at_most = omega (arith, ints) };
          permutation = h.permutation;
          tree = subst (λ (m : ℕ). HasShape Second m [] o.tree_of) (sym h.same_size) shape;
        };
        same_size = h.same_size;
        closed = refl;
        taken_apart = λ f.
            let here = same f in
            let first = ap f (other_stays I (best_tuple c p) w (λ (e : 98 ≡ 110). omega arith) zip.0) in
            let rest = ap (sum_by f) is in
            let left = sum_by-cons f w ws in
            let right = sum_by-cons f (best_tuple c p) there in
            omega arith;
      };
    }

-- where the old tuples are those of a search tree and a permutation, the closed ones are a certificate's
made_closed : (I : Problem) (tuples new : List (List FieldValue)) (c : ℤ) (p : List ℕ) (s : SearchTree) → AreClosed I tuples new → IsUnfinished I.size tuples c p s → IsMade I c p s new
made_closed I tuples new c p s shut h =
    let back : List FieldValue → List FieldValue → Type 0 = λ a b. IsClosedTuple I b a in
    let ps = best_tuple c p ∷ pieces (root_of I.size) s in
    let r = reordered back ps new shut.sources (flipped (IsClosedTuple I) shut.sources new shut.closed) (λ f. sym (shut.same f) ∙ h.taken_apart f) in
    made_by I tuples new r.0 c p s r.1 (flipped back r.0 ps r.2) h

-- a tuple that is named as an open node's, and is none, keeps tuples from being those of a search tree and a permutation
pub no_node : (I : Problem) (tuples : List (List FieldValue)) → HasNoNode I.size tuples → IsNotStopped I tuples
no_node I tuples h c p s u =
    let n = I.size in
    let root = root_of n in
    let w = h.tuple in
    let among = h.among (is_it w) in
    let parts = sum_by-cons (is_it w) w h.rest in
    let itself = is_it-itself w in
    let apart = u.taken_apart (is_it w) in
    let perm = u.permutation in
    let size = u.same_size in
    let positive = perm.positive in
    let small = perm.small in
    elim (found_in (is_it w) (best_tuple c p ∷ []) (pieces root s) (omega arith)) as
    (λ (_ : (1 ≤ sum_by (is_it w) (best_tuple c p ∷ [])) ⊎ (1 ≤ sum_by (is_it w) (pieces root s))). ShowsTooLow I c s) [
      | inl best ↦
          let same = is_it-found w (best_tuple c p) (omega arith) in
          let differ : best_tag ≡ node_tag = ap tag (same ∙ h.wrong.is) in
          absurd (omega arith)
      | inr there ↦
          elim (piece_found HasDuals n w s root (root_placement n (omega arith) (omega arith)) refl u.tree there) as (λ (_ : IsOpenNode n w ⊎ IsDecidedTuple w). ShowsTooLow I c s) [
            | inl node ↦ absurd (h.wrong.none node.node node.placement node.size (ap (list_at 1) (sym node.is ∙ h.wrong.is)))
            | inr (inl split) ↦ let differ : split_tag ≡ node_tag = ap tag (sym split.2 ∙ h.wrong.is) in absurd (omega arith)
            | inr (inr closed) ↦ let differ : closed_tag ≡ node_tag = ap tag (sym closed.3 ∙ h.wrong.is) in absurd (omega arith)
          ]
    ]

-- so do closed tuples that are no certificate's
no_certificate : (I : Problem) (tuples new : List (List FieldValue)) → AreClosed I tuples new → IsNoCertificate I.size new → IsNotStopped I tuples
no_certificate I tuples new shut none c p s u = let m = made_closed I tuples new c p s shut u in absurd (none (claim_of c c p m.tree_of) m.assembled)

-- tuples are those of one certificate
one_certificate : (n : ℕ) (tuples : List (List FieldValue)) (A C : Claim) → 0 < n → n ≤ 256 → IsAssembled n tuples A → IsAssembled n tuples C → (A.cost ≡ C.cost) × (A.tree ≡ C.tree)
one_certificate n tuples A C positive small a b =
    let root = root_of n in
    let left = pieces root (searched A.tree) in
    let right = pieces root (searched C.tree) in
    let w = is_it (best_tuple C.cost C.permutation) in
    let mine = a.taken_apart w in
    let other = b.taken_apart w in
    let itself = is_it-itself (best_tuple C.cost C.permutation) in
    let parts = sum_by-cons w (best_tuple C.cost C.permutation) right in
    let best = best_found (best_of C) (best_of A) (searched A.tree) root AnyDuals (assembled_tree n tuples A a) (omega arith) in (
      ap (λ b. b.cost) best,
      only_tree n left A.tree C.tree positive small
          (record { tree = assembled_tree n tuples A a; taken_apart = λ f. refl })
          (record {
            tree = assembled_tree n tuples C b;
            taken_apart = λ f.
                let one = a.taken_apart f in
                let two = b.taken_apart f in
                let first = sum_by-cons f (best_tuple A.cost A.permutation) left in
                let second = sum_by-cons f (best_tuple C.cost C.permutation) right in
                let same = ap (λ b. f (best_tuple b.cost b.permutation)) best in
                omega arith;
          }),
    )

-- a bound that is none for the cost is too low
pub too_low : (I : Problem) (tuples new : List (List FieldValue)) (A : Claim) (g : ℤ) → 0 < I.size → I.size ≤ 256 → AreClosed I tuples new → IsAssembled I.size new A → IsBoundOf I A.cost A.tree g → (IsBoundFor A.cost g → ⊥) → IsNotStopped I tuples
too_low I tuples new A g positive small shut a least refused c p s u =
    let m = made_closed I tuples new c p s shut u in
    let same = one_certificate I.size new A (claim_of c c p m.tree_of) positive small a m.assembled in
    record {
      tree = m.tree_of;
      closed = m.closed;
      bound = g;
      least = subst (λ (t : Node). IsBoundOf I c t g) same.1 (subst (λ (d : ℤ). IsBoundOf I d A.tree g) same.0 least);
      too_low = λ limited. refused (record { limited = limited; at_most = least.least 0 g (omega arith) });
    }

ends_false : (b : Bool) → (b && false) ≡ false
ends_false true = refl
ends_false false = refl

never_true : (b : Bool) → (b ≡ true → ⊥) → (b && true) ≡ false
never_true true h = absurd (h refl)
never_true false h = refl

-- a tuple that isn't named as an open node's isn't found as one
not_named : (tuple : List FieldValue) → ((xs : List ℤ) → tuple ≢ named_node xs) → is_open tuple ≡ false
not_named [] h = refl
not_named (a ∷ []) h = ends_false (field_eq (word (110 ∷ 111 ∷ 100 ∷ 101 ∷ [])) a)
not_named (a ∷ number k ∷ fields) h = ends_false (field_eq (word (110 ∷ 111 ∷ 100 ∷ 101 ∷ [])) a)
not_named (a ∷ word k ∷ fields) h = ends_false (field_eq (word (110 ∷ 111 ∷ 100 ∷ 101 ∷ [])) a)
not_named (a ∷ numbers xs ∷ []) h =
    never_true (field_eq (word (110 ∷ 111 ∷ 100 ∷ 101 ∷ [])) a)
    (λ e. h xs (ap (λ (b : FieldValue). b ∷ numbers xs ∷ []) (sym ((Decides-field_eq (word (110 ∷ 111 ∷ 100 ∷ 101 ∷ [])) a).0 e))))
not_named (a ∷ numbers xs ∷ b ∷ fields) h = ends_false (field_eq (word (110 ∷ 111 ∷ 100 ∷ 101 ∷ [])) a)

closed_not_open : (I : Problem) (old new : List FieldValue) → IsClosedTuple I old new → is_open new ≡ false
closed_not_open I old new (inl same) = ap is_open same.1 ∙ not_named old same.0
closed_not_open I old new (inr h) = ap is_open h.closed.is

none_open : (I : Problem) (old new : List (List FieldValue)) → AllZip (IsClosedTuple I) old new → sum_by open_weight new ≡ 0
none_open I [] [] h = refl
none_open I [] (y ∷ new) h = absurd h
none_open I (x ∷ old) [] h = absurd h
none_open I (x ∷ old) (y ∷ new) h =
    let parts = sum_by-cons open_weight y new in
    let first : open_weight y ≡ 0 = ap (λ (b : Bool). cond b 1 0) (closed_not_open I x y h.0) in
    let rest = none_open I old new h.1 in
    omega arith

-- why the certificate isn't made
pub stopped_fault : (I : Problem) (tuples new : List (List FieldValue)) (e : AssembleError) → AreClosed I tuples new → IsAssembleFault I.size new e → IsStoppedFault I tuples e
stopped_fault I tuples new (Unfinished count) shut fault =
    let none = none_open I shut.sources new shut.closed in
    let some = fault.0 in
    let counted = fault.1 in
    absurd (omega arith)
stopped_fault I tuples new NotATree shut fault = no_certificate I tuples new shut fault.1
stopped_fault I tuples new OutOfMemory shut fault = tt

-- why no tuples come of closing
pub closing_fault : (I : Problem) (tuples : List (List FieldValue)) (e : AssembleError) → (e ≡ OutOfMemory) ⊎ ((e ≡ NotATree) × HasNoNode I.size tuples) → IsStoppedFault I tuples e
closing_fault I tuples e (inl memory) = subst (IsStoppedFault I tuples) (sym memory) tt
closing_fault I tuples e (inr fault) = subst (IsStoppedFault I tuples) (sym fault.0) (no_node I tuples fault.1)

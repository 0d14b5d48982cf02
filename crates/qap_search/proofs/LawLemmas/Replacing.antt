-- A tree in which a node that is open gives way to a decided one.
use Rattle.std.proofs.Common.{◌≡◌, ℕ, ◌+◌, ◌*◌, ◌≤◌, ◌⊎◌, inl, inr, List, [], ◌∷◌, ◌++◌, ℤ, ◌≤ℤ◌, ◌+ℤ◌, refl, sym, ap, ap₂, subst, arith}
use Rattle.std.specs.List.{sum_by}
use Rattle.std.proofs.lemmas.Int.{ints}
use Rattle.std.proofs.lemmas.List.Sums.{sum_by-append, sum_by-cons}
use Rattle.qap_cost.specs.Instance.{Problem}
use Rattle.qap_cost.specs.Matrix.{dual_value}
use Rattle.qap_cost.specs.Objective.{Permutes, cost_of}
use Rattle.qap_cost.specs.Placement.{Placement, fixed_cost_of, free_locations, placing}
use Rattle.qap_cert.specs.Valid.{ClosesPart}
use Rattle.space_txn.specs.Content.{SameItems}
use Rattle.tuple_match.specs.FieldValue.{FieldValue}
use Rattle.qap_search.specs.Law.CutTree.{IsCutTree}
use Rattle.qap_search.specs.Tuples.Piece.{node_tuple, split_tuple, closed_tuple, pieces, pieces_of_all}
use Rattle.qap_search.specs.Law.Replacement.{Best, tuple_of, IsAsGood, IsOneNode, ReadsBest, TakesBest, MayReplace}
use Rattle.qap_search.specs.Law.Search.{Search, IsSearch}
use Rattle.qap_search.specs.Law.SearchTree.{SearchTree, open_node, split_node, closed_node, SearchTrees, no_trees, tree, IsTree, AreTrees, AreOpen, decided_count, decided_counts}
use Rattle.qap_search.proofs.TupleLemmas.TupleReadings.{IsNode, IsNode-placing, found_in, is_it, is_it-found, is_it-itself, is_it-other, list_at, map_pos-same, number_at, same_node}

mutual
  -- so trees that show all that the first asks for show all that the second does
  pub trees_by : (P Q : Placement → List ℤ → List ℤ → Type 0) → ((x : Placement) (u v : List ℤ) → P x u v → Q x u v) → (t : SearchTree) (x : Placement) → IsTree P x t → IsTree Q x t
  trees_by P Q weaker open_node x h = h
  trees_by P Q weaker (split_node f children) x h = (h.0, h.1, all_trees_by P Q weaker children x f (free_locations x) h.2)
  trees_by P Q weaker (closed_node u v) x h = weaker x u v h

  -- the same for the children of a split, from number c on
  pub all_trees_by : (P Q : Placement → List ℤ → List ℤ → Type 0) → ((x : Placement) (u v : List ℤ) → P x u v → Q x u v) → (ts : SearchTrees) (x : Placement) (f : ℕ) (ks : List ℕ) → AreTrees P x f ks ts → AreTrees Q x f ks ts
  all_trees_by P Q weaker no_trees x f [] h = h
  all_trees_by P Q weaker no_trees x f (k ∷ ks) h = absurd h
  all_trees_by P Q weaker (tree t rest) x f [] h = absurd h
  all_trees_by P Q weaker (tree t rest) x f (k ∷ ks) h = (trees_by P Q weaker t (placing x f k) h.0, all_trees_by P Q weaker rest x f ks h.1)

-- what closes a node by some cost closes it by a smaller one
closes_by_less : (I : Problem) (c d : ℤ) → d ≤ℤ c → (x : Placement) (u v : List ℤ) → ClosesPart I c x u v → ClosesPart I d x u v
closes_by_less I c d less x u v h =
    let enough : c ≤ℤ (fixed_cost_of I x +ℤ dual_value u v) = h.closes.enough in
    record { duals = h.duals; closes = record { fits = h.closes.fits; enough = omega (arith, ints) } }

-- t with one open node x in it replaced by another tree at x
record IsReplaced (P : Placement → List ℤ → List ℤ → Type 0) (x : Placement) (decided : SearchTree) (y : Placement) (t new : SearchTree) : Type 0 where
  valid : IsTree P y new
  items : (f : List FieldValue → ℕ) → sum_by f (pieces y new) + f (node_tuple x) ≡ sum_by f (pieces y t) + sum_by f (pieces x decided)
  count : decided_count new ≡ decided_count t + decided_count decided

record AreReplaced (P : Placement → List ℤ → List ℤ → Type 0) (x : Placement) (decided : SearchTree) (y : Placement) (f : ℕ) (ks : List ℕ) (ts new : SearchTrees) : Type 0 where
  valid : AreTrees P y f ks new
  items : (w : List FieldValue → ℕ) → sum_by w (pieces_of_all y f ks new) + w (node_tuple x) ≡ sum_by w (pieces_of_all y f ks ts) + sum_by w (pieces x decided)
  count : decided_counts new ≡ decided_counts ts + decided_count decided

-- the tuple of one node is that of another only where they are one
same_open : (n : ℕ) (x y : Placement) → IsNode n x → IsNode n y → node_tuple y ≡ node_tuple x → x ≡ y
same_open n x y hx hy e = same_node n x y hx hy (sym (ap (list_at 1) e))

replaced_here : (P : Placement → List ℤ → List ℤ → Type 0) (n : ℕ) (x : Placement) (decided : SearchTree) (y : Placement) → IsTree P x decided → x ≡ y → (new : SearchTree) × IsReplaced P x decided y open_node new
replaced_here P n x decided y h e =
    let Q : Placement → Type 0 = λ z. IsReplaced P x decided z open_node decided in
    (decided, subst Q e (record { valid = h; items = λ f. omega arith; count = omega arith }))

mutual
  replaced : (P : Placement → List ℤ → List ℤ → Type 0) (n : ℕ) (x : Placement) (decided : SearchTree) → IsNode n x → IsTree P x decided → (t : SearchTree) (y : Placement) → IsNode n y → IsTree P y t → 1 ≤ sum_by (is_it (node_tuple x)) (pieces y t) → (new : SearchTree) × IsReplaced P x decided y t new
  replaced P n x decided hx valid open_node y hy h found =
      replaced_here P n x decided y valid (same_open n x y hx hy (is_it-found (node_tuple x) (node_tuple y) (omega arith)))
  replaced P n x decided hx valid (closed_node u v) y hy h found =
      let none = is_it-other (node_tuple x) (closed_tuple y u v) (λ (e : 99 ≡ 110). omega arith) in
      absurd (omega arith)
  replaced P n x decided hx valid (split_node f children) y hy h found =
      let none = is_it-other (node_tuple x) (split_tuple y f) (λ (e : 115 ≡ 110). omega arith) in
      let ks = free_locations y in
      let parts = sum_by-cons (is_it (node_tuple x)) (split_tuple y f) (pieces_of_all y f ks children) in
      let inner = all_replaced P n x decided hx valid children y f ks hy h.2 (omega arith) in (
        split_node f inner.0,
        record {
          valid = (h.0, h.1, inner.1.valid);
          items = λ w.
              let old = sum_by-cons w (split_tuple y f) (pieces_of_all y f ks children) in
              let new = sum_by-cons w (split_tuple y f) (pieces_of_all y f ks inner.0) in
              let rest = inner.1.items w in
              omega arith;
          count = let rest = inner.1.count in omega arith;
        },
      )

  all_replaced : (P : Placement → List ℤ → List ℤ → Type 0) (n : ℕ) (x : Placement) (decided : SearchTree) → IsNode n x → IsTree P x decided → (ts : SearchTrees) (y : Placement) (f : ℕ) (ks : List ℕ) → IsNode n y → AreTrees P y f ks ts → 1 ≤ sum_by (is_it (node_tuple x)) (pieces_of_all y f ks ts) → (new : SearchTrees) × AreReplaced P x decided y f ks ts new
  all_replaced P n x decided hx valid no_trees y f [] hy h found = absurd (omega arith)
  all_replaced P n x decided hx valid no_trees y f (k ∷ ks) hy h found = absurd h
  all_replaced P n x decided hx valid (tree t rest) y f [] hy h found = absurd h
  all_replaced P n x decided hx valid (tree t rest) y f (k ∷ ks) hy h found =
      elim (found_in (is_it (node_tuple x)) (pieces (placing y f k) t) (pieces_of_all y f ks rest) found) as
      (λ (_ : (1 ≤ sum_by (is_it (node_tuple x)) (pieces (placing y f k) t)) ⊎ (1 ≤ sum_by (is_it (node_tuple x)) (pieces_of_all y f ks rest))). (new : SearchTrees) × AreReplaced P x decided y f (k ∷ ks) (tree t rest) new) [
        | inl here ↦
            let one = replaced P n x decided hx valid t (placing y f k) (IsNode-placing n y f k hy) h.0 here in (
              tree one.0 rest,
              record {
                valid = (one.1.valid, h.1);
                items = λ w.
                    let old = sum_by-append w (pieces (placing y f k) t) (pieces_of_all y f ks rest) in
                    let new = sum_by-append w (pieces (placing y f k) one.0) (pieces_of_all y f ks rest) in
                    let part = one.1.items w in
                    omega arith;
                count = let part = one.1.count in omega arith;
              },
            )
        | inr there ↦
            let more = all_replaced P n x decided hx valid rest y f ks hy h.1 there in (
              tree t more.0,
              record {
                valid = (h.0, more.1.valid);
                items = λ w.
                    let old = sum_by-append w (pieces (placing y f k) t) (pieces_of_all y f ks rest) in
                    let new = sum_by-append w (pieces (placing y f k) t) (pieces_of_all y f ks more.0) in
                    let part = more.1.items w in
                    omega arith;
                count = let part = more.1.count in omega arith;
              },
            )
      ]

mutual
  -- summed over a tree's tuples it is `each` for every decided node
  pub weighed : (w : List FieldValue → ℕ) (each : ℕ) → ((x : Placement) → w (node_tuple x) ≡ 0) → ((x : Placement) (f : ℕ) → w (split_tuple x f) ≡ each) → ((x : Placement) (u v : List ℤ) → w (closed_tuple x u v) ≡ each) → (t : SearchTree) (y : Placement) (P : Placement → List ℤ → List ℤ → Type 0) → IsTree P y t → sum_by w (pieces y t) ≡ each * decided_count t
  weighed w each at_open at_split at_closed open_node y P h = let one = at_open y in omega arith
  weighed w each at_open at_split at_closed (closed_node u v) y P h = let one = at_closed y u v in omega arith
  weighed w each at_open at_split at_closed (split_node f children) y P h =
      let one = at_split y f in
      let parts = sum_by-cons w (split_tuple y f) (pieces_of_all y f (free_locations y) children) in
      let inner = all_weighed w each at_open at_split at_closed children y f (free_locations y) P h.2 in
      omega arith

  pub all_weighed : (w : List FieldValue → ℕ) (each : ℕ) → ((x : Placement) → w (node_tuple x) ≡ 0) → ((x : Placement) (f : ℕ) → w (split_tuple x f) ≡ each) → ((x : Placement) (u v : List ℤ) → w (closed_tuple x u v) ≡ each) → (ts : SearchTrees) (y : Placement) (f : ℕ) (ks : List ℕ) (P : Placement → List ℤ → List ℤ → Type 0) → AreTrees P y f ks ts → sum_by w (pieces_of_all y f ks ts) ≡ each * decided_counts ts
  all_weighed w each at_open at_split at_closed no_trees y f [] P h = omega arith
  all_weighed w each at_open at_split at_closed no_trees y f (k ∷ ks) P h = absurd h
  all_weighed w each at_open at_split at_closed (tree t rest) y f [] P h = absurd h
  all_weighed w each at_open at_split at_closed (tree t rest) y f (k ∷ ks) P h =
      let first = weighed w each at_open at_split at_closed t (placing y f k) P h.0 in
      let others = all_weighed w each at_open at_split at_closed rest y f ks P h.1 in
      let parts = sum_by-append w (pieces (placing y f k) t) (pieces_of_all y f ks rest) in
      omega arith

-- among the tuples of a tree none is of a best permutation
pub no_best : (b : Best) (t : SearchTree) (y : Placement) (P : Placement → List ℤ → List ℤ → Type 0) → IsTree P y t → sum_by (is_it (tuple_of b)) (pieces y t) ≡ 0
no_best b t y P h =
    let none = weighed (is_it (tuple_of b)) 0
    (λ x. is_it-other (tuple_of b) (node_tuple x) (λ (e : 110 ≡ 98). omega arith))
    (λ x f. is_it-other (tuple_of b) (split_tuple x f) (λ (e : 115 ≡ 98). omega arith))
    (λ x u v. is_it-other (tuple_of b) (closed_tuple x u v) (λ (e : 99 ≡ 98). omega arith)) t y P h in
    omega arith

-- a permutation and its cost are determined by their tuple
same_best : (a b : Best) → tuple_of a ≡ tuple_of b → a ≡ b
same_best a b e =
    let make : ℤ → List ℕ → Best = λ c p. record { cost = c; permutation = p } in
    ap₂ make (ap (number_at 1) e) (map_pos-same a.permutation b.permutation (ap (list_at 2) e))

-- the best permutation of a tree is the one whose tuple is among the tuples
pub best_found : (b a : Best) (t : SearchTree) (y : Placement) (P : Placement → List ℤ → List ℤ → Type 0) → IsTree P y t → 1 ≤ sum_by (is_it (tuple_of b)) (tuple_of a ∷ pieces y t) → a ≡ b
best_found b a t y P h found =
    let parts = sum_by-cons (is_it (tuple_of b)) (tuple_of a) (pieces y t) in
    let none = no_best b t y P h in
    same_best a b (is_it-found (tuple_of b) (tuple_of a) (omega arith))

-- what a commit does to a tree's tuples, whether the best permutation was taken or read
record Exchanges (I : Problem) (x : Placement) (old new : Best) (decided : SearchTree) (gone kept added : List (List FieldValue)) : Type 0 where
  as_good : IsAsGood I old new
  before : (w : List FieldValue → ℕ) → sum_by w gone + sum_by w kept ≡ w (node_tuple x) + w (tuple_of old)
  after : (w : List FieldValue → ℕ) → sum_by w added + sum_by w kept ≡ w (tuple_of new) + sum_by w (pieces x decided)

exchanges : (I : Problem) (x : Placement) (old new : Best) (decided : SearchTree) (gone kept added : List (List FieldValue)) → ReadsBest x old new decided gone kept added ⊎ TakesBest I x old new decided gone kept added → Exchanges I x old new decided gone kept added
exchanges I x old new decided gone kept added (inl r) = record {
  as_good = inl r.same;
  before = λ w.
      let takes = r.takes w in
      let reads = r.reads w in
      omega arith;
  after = λ w.
      let adds = r.adds w in
      let reads = r.reads w in
      let same = ap (λ (b : Best). w (tuple_of b)) r.same in
      omega arith;
}
exchanges I x old new decided gone kept added (inr r) = record {
  as_good = r.as_good;
  before = λ w.
      let takes = r.takes w in
      let reads = r.reads w in
      omega arith;
  after = λ w.
      let adds = r.adds w in
      let reads = r.reads w in
      let parts = sum_by-cons w (tuple_of new) (pieces x decided) in
      omega arith;
}

-- a permutation that has its cost, which is at most c
record IsBetter (I : Problem) (c : ℤ) (b : Best) : Type 0 where
  permutes : Permutes I b.permutation
  costs : cost_of I b.permutation ≡ b.cost
  at_most : b.cost ≤ℤ c

better : (I : Problem) (old new : Best) → IsBetter I old.cost old → IsAsGood I old new → IsBetter I old.cost new
better I old new h (inl same) = subst (IsBetter I old.cost) (sym same) h
better I old new h (inr less) = let at_most = less.2 in record { permutes = less.0; costs = less.1; at_most = omega (arith, ints) }

one_decided : (t : SearchTree) → IsOneNode t → decided_count t ≡ 1
one_decided open_node h = absurd h
one_decided (split_node f children) h = let none = none_decided children h in omega arith
  where
    none_decided : (ts : SearchTrees) → AreOpen ts → decided_counts ts ≡ 0
    none_decided no_trees h = refl
    none_decided (tree open_node rest) h = let others = none_decided rest h in omega arith
    none_decided (tree (split_node f children) rest) h = absurd h
    none_decided (tree (closed_node u v) rest) h = absurd h
one_decided (closed_node u v) h = refl

-- where an open node of a cut tree gives way to a decided one, the tuples are a cut tree with one commit more
pub replacement : (S : Search) (gone kept added rest content : List (List FieldValue)) (commits : ℕ) → MayReplace S.instance gone kept added → SameItems content (gone ++ (kept ++ rest)) → IsCutTree S content commits → IsCutTree S (added ++ (kept ++ rest)) (commits + 1)
replacement S gone kept added rest content commits m s h =
    let I = S.instance in
    let x = m.at in
    let root = S.root in
    let best : Best = record { cost = h.cost; permutation = h.permutation } in
    let e = exchanges I x m.old m.new m.decided gone kept added m.tuples in
    let split : (w : List FieldValue → ℕ) → sum_by w content ≡ sum_by w gone + (sum_by w kept + sum_by w rest) = λ w.
    let one = s w in
    let outer = sum_by-append w gone (kept ++ rest) in
    let inner = sum_by-append w kept rest in
    omega arith in
    let same : best ≡ m.old = best_found m.old best h.tree root (ClosesPart I h.cost) h.valid
    (let w = is_it (tuple_of m.old) in
    let parts = split w in
    let apart = h.taken_apart w in
    let before = e.before w in
    let itself = is_it-itself (tuple_of m.old) in
    omega arith) in
    let good : IsBetter I h.cost m.new =
    subst (λ (b : Best). IsBetter I b.cost m.new) (sym same)
    (better I m.old m.new (subst (λ (b : Best). IsBetter I b.cost b) same (record { permutes = h.permutes; costs = h.costs; at_most = omega (arith, ints) })) e.as_good) in
    let found : 1 ≤ sum_by (is_it (node_tuple x)) (pieces root h.tree) =
    let w = is_it (node_tuple x) in
    let parts = split w in
    let apart = h.taken_apart w in
    let outer = sum_by-cons w (tuple_of best) (pieces root h.tree) in
    let before = e.before w in
    let itself = is_it-itself (node_tuple x) in
    let other = is_it-other (node_tuple x) (tuple_of best) (λ (d : 98 ≡ 110). omega arith) in
    omega arith in
    let node : IsNode I.size x = record { size = m.same_size; paired = m.placement.paired } in
    let at_root : IsNode I.size root = record { size = h.same_size; paired = h.root.paired } in
    let valid = trees_by (ClosesPart I h.cost) (ClosesPart I m.new.cost) (closes_by_less I h.cost m.new.cost good.at_most) h.tree root h.valid in
    let done = replaced (ClosesPart I m.new.cost) I.size x m.decided node m.valid h.tree root at_root valid found in
    record {
      tree = done.0;
      cost = m.new.cost;
      permutation = m.new.permutation;
      root = h.root;
      same_size = h.same_size;
      permutes = good.permutes;
      costs = good.costs;
      no_dearer =
          let at_most : m.new.cost ≤ℤ h.cost = good.at_most in
          let before : h.cost ≤ℤ S.known.cost = h.no_dearer in
          omega (arith, ints);
      valid = done.1.valid;
      taken_apart = λ w.
          let outer = sum_by-append w added (kept ++ rest) in
          let inner = sum_by-append w kept rest in
          let parts = split w in
          let apart = h.taken_apart w in
          let old = sum_by-cons w (tuple_of best) (pieces root h.tree) in
          let new = sum_by-cons w (tuple_of m.new) (pieces root done.0) in
          let before = e.before w in
          let after = e.after w in
          let items = done.1.items w in
          let is_old = ap (λ (b : Best). w (tuple_of b)) same in
          omega arith;
      counted =
          let counted = h.counted in
          let count = done.1.count in
          let one = one_decided m.decided m.one in
          omega arith;
    }

-- the open root, with the known permutation
pub opening : (S : Search) → IsSearch S → IsCutTree S (node_tuple S.root ∷ tuple_of S.known ∷ []) 0
opening S h = record {
  tree = open_node;
  cost = S.known.cost;
  permutation = S.known.permutation;
  root = h.root;
  same_size = h.same_size;
  permutes = h.permutes;
  costs = h.costs;
  no_dearer = omega (arith, ints);
  valid = tt;
  taken_apart = λ w. omega arith;
  counted = refl;
}

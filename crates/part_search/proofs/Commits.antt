-- Why what a worker writes may be committed.
use Rattle.std.proofs.Common.{◌≡◌, ◌==◌, ℕ, ℤ, ◌≤ℤ◌, Bool, true, cond, List, [], ◌∷◌, ◌++◌, map, Some, None, sym, ap, subst, ◌∙◌, arith}
use Rattle.std.specs.Prelude.{find}
use Rattle.std.specs.List.{sum_by}
use Rattle.std.proofs.lemmas.Bool.Decides.{nat_tests}
use Rattle.std.proofs.lemmas.Int.{ints}
use Rattle.std.proofs.lemmas.List.Sums.{sum_by-append, sum_by-cons}
use Rattle.qap_cost.specs.Instance.{Problem}
use Rattle.shared_space.specs.Law.{Content, MayCommit}
use Rattle.space_txn.specs.Content.{SameItems, added_of, gone_of, kept_of}
use Rattle.space_txn.specs.Finding.{Finds, IsUntaken}
use Rattle.space_txn.specs.Machine.{Answer, found, nothing, done, refused}
use Rattle.space_txn.specs.Marks.{with_mark}
use Rattle.space_txn.specs.Txn.{TxnValue}
use Rattle.space_txn.specs.declared.mark.Mark.{Mark}
use Rattle.space_txn.specs.declared.txn.Found.TheVariants.{Entry as Stored, Own}
use Rattle.subtree_search.specs.Best.{Best, IsIncumbent}
use Rattle.tuple_match.specs.FieldValue.{FieldValue}
use Rattle.tuple_match.specs.PatternValue.{PatternValue}
use Rattle.part_search.specs.Covers.{IsCovered}
use Rattle.part_search.specs.Ground.{StandFor}
use Rattle.part_search.specs.Replacement.{MayReplace}
use Rattle.part_search.specs.Tuples.{OpenNode, best_tuple, node_tuple, open_of}
use Rattle.part_search.specs.Worker.{HasBest, HasBoth, HasOpen, HasTaken, HasTried, IsFoundBest, IsFoundOpen, IsStage}
use Rattle.part_search.specs.declared.open_node.Open.{Open}
use Rattle.part_search.specs.declared.stage.Stage.{Stage}
use Rattle.part_search.specs.declared.stage.Stage.TheVariants.{Idle, Begun, Taken, Tried, Ready, GivingUp}
use Rattle.part_search.proofs.Replacing.{HasValue-lower}

-- what two taken marks take out
abbrev TakenLaw : Type 0
TakenLaw = (m b : Mark) (renewed : Mark → Bool) → m.taken ≡ true → m.permanent ≡ true → b.taken ≡ true → b.permanent ≡ true → IsUntaken b.entry (m ∷ []) → SameItems (gone_of renewed (with_mark b (m ∷ []))) (m.tuple ∷ b.tuple ∷ []) × SameItems (kept_of (with_mark b (m ∷ []))) []

one_mark : (number : ℕ) (t : TxnValue) (a b : Mark) → find (λ m. m.entry == number) t.marks ≡ Some a → find (λ m. m.entry == number) t.marks ≡ Some b → a ≡ b
one_mark number t a b p q = let e : Some a ≡ Some b = sym p ∙ q in cc

-- open nodes that cover another one at c cover it at less
covered_lower : (I : Problem) (c d : ℤ) (at : OpenNode) (opens : List OpenNode) → d ≤ℤ c → IsCovered I at.node c opens → IsCovered I at.node d opens
covered_lower I c d at opens less h = record { below = λ g under all. h.below g (omega (arith, ints, less, under)) all }

-- what a worker's transaction holds at c it holds at less
pub stage_lower : (I : Problem) (c d : ℤ) (stage : Stage) → d ≤ℤ c → IsStage I c stage → IsStage I d stage
stage_lower I c d Idle less h = tt
stage_lower I c d (Begun t) less h = h
stage_lower I c d (Taken t number) less h = h
stage_lower I c d (Tried t) less h = record {
  mark = h.mark;
  marks = h.marks;
  taken = h.taken;
  permanent = h.permanent;
  at = h.at;
  is = h.is;
  same_size = h.same_size;
  opens = h.opens;
  added = h.added;
  stand = record { values = h.stand.values; covers = covered_lower I c d h.at h.opens less h.stand.covers };
}
stage_lower I c d (Ready t) less h = h
stage_lower I c d (GivingUp t) less h = tt

-- open nodes and the best permutation were written
pub may_commit : (I : Problem) (c : ℤ) (number : ℕ) (t t' : TxnValue) (old new : Best) → TakenLaw → HasBoth I c number t → HasBest I t number old → IsIncumbent I new → new.cost ≤ℤ c → new.cost ≤ℤ old.cost → t'.marks ≡ t.marks
    → added_of t'.writes ≡ added_of t.writes ++ best_tuple new ∷ [] → MayCommit (MayReplace I) t'
may_commit I c number t t' old new law h b incumbent no_worse as_good marks added = λ renewed.
    let x = h.tried in
    let m = x.mark in
    let best : h.best ≡ b.mark = one_mark number t h.best b.mark h.here b.here in
    let permanent : h.best.permanent ≡ true = ap (λ (k : Mark). k.permanent) best ∙ b.permanent in
    let tuple : h.best.tuple ≡ best_tuple old = ap (λ (k : Mark). k.tuple) best ∙ sym b.is in
    let all : t'.marks ≡ with_mark h.best (m ∷ []) = marks ∙ h.marks ∙ ap (with_mark h.best) x.marks in
    let two = law m h.best renewed x.taken x.permanent h.taken permanent (subst (IsUntaken h.best.entry) x.marks h.untaken) in
    let writes : added_of t'.writes ≡ map node_tuple x.opens ++ best_tuple new ∷ [] = added ∙ ap (λ ws. added_of ws ++ best_tuple new ∷ []) h.writes ∙ ap (λ (l : Content). l ++ best_tuple new ∷ []) x.added in
    record {
      at = x.at;
      old = old;
      new = new;
      opens = x.opens;
      takes = λ f.
          let gone = two.0 f in
          let same = ap (λ (ms : List Mark). sum_by f (gone_of renewed ms)) all in
          let node = ap f x.is in
          let first = ap f tuple in
          omega arith;
      keeps = λ f.
          let kept = two.1 f in
          let same = ap (λ (ms : List Mark). sum_by f (kept_of ms)) all in
          omega arith;
      adds = λ f.
          let same = ap (sum_by f) writes in
          let parts = sum_by-append f (map node_tuple x.opens) (best_tuple new ∷ []) in
          let other = sum_by-cons f (best_tuple new) (map node_tuple x.opens) in
          omega arith;
      same_size = x.same_size;
      incumbent = incumbent;
      no_worse = as_good;
      values = λ value. x.stand.values new.cost (HasValue-lower I old.cost new.cost x.at as_good value);
      covers = λ value. covered_lower I c new.cost x.at x.opens no_worse x.stand.covers;
    }

-- what is known after the call that takes an open node's entry
pub found_open : (Known : List FieldValue → Type 0) (template : List PatternValue) (t t' : TxnValue) (answer : Answer) → t.marks ≡ [] → t.writes ≡ [] → Finds Known true template t answer t' → IsFoundOpen answer t'
found_open Known template t t' (found (Stored number)) no_marks no_writes f = record {
  mark = f.0;
  marks = ap (λ (x : TxnValue). x.marks) f.4 ∙ ap (with_mark f.0) no_marks;
  writes = ap (λ (x : TxnValue). x.writes) f.4 ∙ no_writes;
  entry = f.1.entry;
  taken = f.2;
}
found_open Known template t t' (found (Own place)) no_marks no_writes f = tt
found_open Known template t t' nothing no_marks no_writes f = tt
found_open Known template t t' (refused error) no_marks no_writes f = (ap (λ (x : TxnValue). x.marks) f ∙ no_marks, ap (λ (x : TxnValue). x.writes) f ∙ no_writes)
found_open Known template t t' done no_marks no_writes f = tt

-- and after the one that takes the best permutation's
pub found_best : (I : Problem) (c : ℤ) (Known : List FieldValue → Type 0) (template : List PatternValue) (t t' : TxnValue) (answer : Answer) → HasTried I c t → Finds Known true template t answer t' → IsFoundBest I c answer t'
found_best I c Known template t t' (found (Stored number)) h f = record {
  before = t;
  tried = h;
  best = f.0;
  marks = ap (λ (x : TxnValue). x.marks) f.4;
  writes = ap (λ (x : TxnValue). x.writes) f.4;
  untaken = subst (λ (k : ℕ). IsUntaken k t.marks) (sym f.1.entry) f.3;
  taken = f.2;
  here = f.5;
}
found_best I c Known template t t' (found (Own place)) h f = tt
found_best I c Known template t t' nothing h f = tt
found_best I c Known template t t' (refused error) h f = subst (HasTried I c) (sym f) h
found_best I c Known template t t' done h f = tt

-- the open node that was taken is tried: what is written stands for it
pub tried : (I : Problem) (c : ℤ) (n number : ℕ) (t t' : TxnValue) (at : Open) (opens : List Open) → n ≡ I.size → HasTaken t number → HasOpen n t number at → StandFor I c (open_of at) (map open_of opens) → t'.marks ≡ t.marks → added_of t'.writes ≡ added_of t.writes ++ map node_tuple (map open_of opens) → HasTried I c t'
tried I c n number t t' at opens size h o stand marks added =
    let here : find (λ m. m.entry == number) (h.mark ∷ []) ≡ Some h.mark =
    let entry = h.entry in
    let test : (h.mark.entry == number) ≡ true = grind (arith, nat_tests) in
    ap (λ (b : Bool). cond b (Some h.mark) None) test in
    let same : h.mark ≡ o.mark = one_mark number t h.mark o.mark (ap (find (λ m. m.entry == number)) h.marks ∙ here) o.here in
    record {
      mark = h.mark;
      marks = marks ∙ h.marks;
      taken = h.taken;
      permanent = ap (λ (k : Mark). k.permanent) same ∙ o.permanent;
      at = open_of at;
      is = ap (λ (k : Mark). k.tuple) same ∙ sym o.read.is;
      same_size = o.read.size ∙ size;
      opens = map open_of opens;
      added = added ∙ ap (λ ws. added_of ws ++ map node_tuple (map open_of opens)) h.writes;
      stand = stand;
    }

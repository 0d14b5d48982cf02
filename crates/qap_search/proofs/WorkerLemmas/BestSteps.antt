-- The best permutation that a worker found, and what it writes by it.
use Rattle.std.proofs.Common.{◌≡◌, ◌≢◌, ◌↔◌, ◌⊎◌, inl, inr, ◌==◌, ℕ, ℤ, pos, ◌≤ℤ◌, Bool, true, false, cond, List, [], ◌∷◌, ◌++◌, map, Option, Some, None, Result, Ok, Err, IfOk, MatchOption, IsErr, IsTrue, refl, sym, ap, subst, ◌∙◌, arith}
use Rattle.std.specs.Prelude.{find, option_map, int_lt}
use Rattle.std.specs.Int.{int_min}
use Rattle.std.specs.declared.alloc.AllocError.{AllocError}
use Rattle.std.proofs.lemmas.Int.{ints}
use Rattle.qap_cost.specs.Bijection.{IsPerm}
use Rattle.qap_cost.specs.Instance.{IsInstance, Problem}
use Rattle.qap_cost.specs.Objective.{Permutes}
use Rattle.qap_cost.specs.Placement.{IsPlacement, Placement}
use Rattle.shared_space.specs.Law.{Content, InLawful, MayCommit}
use Rattle.space_txn.specs.Content.{SameItems, added_of, gone_of, kept_of}
use Rattle.space_txn.specs.Finding.{Finds, IsUntaken}
use Rattle.space_txn.specs.Machine.{Answer, found, nothing, done, refused}
use Rattle.space_txn.specs.Marks.{with_mark}
use Rattle.space_txn.specs.Txn.{TxnValue}
use Rattle.space_txn.specs.declared.mark.Mark.{Mark}
use Rattle.space_txn.specs.declared.txn.Found.TheVariants.{Entry as Stored, Own}
use Rattle.tuple_match.specs.FieldValue.{FieldValue}
use Rattle.tuple_match.specs.Matching.{does_match}
use Rattle.tuple_match.specs.PatternValue.{Matches, PatternValue}
use Rattle.tuple_space.specs.declared.write.Write.{Write}
use Rattle.qap_search.specs.Worker.BestSteps.{AfterWrites, HasBestCost, HasBestMark, HasNoBest, IsBestAt, IsFoundBest, Writes, WritesAll}
use Rattle.qap_search.specs.Tuples.DecidedTuples.{best_of}
use Rattle.qap_search.specs.Node.Decision.{DecidesBetter, DecidesBy, IsBetterOf}
use Rattle.qap_search.specs.Tuples.Found.{IsBestFound, best_template}
use Rattle.qap_search.specs.Worker.Hand.{HandValue, hand_of, thought_of}
use Rattle.qap_search.specs.Tuples.Piece.{node_tuple}
use Rattle.qap_search.specs.Worker.Prepared.{AreWritesFor}
use Rattle.qap_search.specs.Law.Replacement.{Best, IsAsGood, MayReplace, tuple_of}
use Rattle.qap_search.specs.Law.Search.{search_of}
use Rattle.qap_search.specs.Law.SearchLaw.{IsSearchLaw}
use Rattle.qap_search.specs.Worker.Standing.{HasNode, IsLastThought, IsStage}
use Rattle.qap_search.specs.Node.Thought.{IsThought, ThoughtValue, candidate_of}
use Rattle.qap_search.specs.Worker.Turn.{HasBest, HasLeased, HasMarksOf, IsReady, IsShort, IsStuck, Told}
use Rattle.qap_search.specs.declared.worker.stage.LastThought.{LastThought}
use Rattle.qap_search.specs.declared.worker.stage.Stage.{Stage}
use Rattle.qap_search.specs.declared.worker.stage.Stage.TheVariants.{Considered, Ready, GivingUp}
use Rattle.qap_search.specs.declared.worker.stage.Tally.{Tally}
use Rattle.qap_search.specs.declared.node.thought.Thought.{Thought}
use Rattle.qap_search.proofs.NodeLemmas.Deciding.{replaces_read, replaces_taken}
use Rattle.qap_search.proofs.TupleLemmas.Found.{best_found_there}
use Rattle.qap_search.proofs.TupleLemmas.TupleReadings.{map_pos-same}

same_best : (a c : ℤ) (ps qs : List ℤ) → best_of a ps ≡ best_of c qs → (a ≡ c) × (ps ≡ qs)
same_best a c ps qs e = (cc, cc)

-- the tuple of an entry that was marked
tuple_at : (number : ℕ) (t : TxnValue) (mark : Mark) (tuple : List FieldValue) → find (λ m. m.entry == number) t.marks ≡ Some mark → Some tuple ≡ option_map (λ m. m.tuple) (find (λ m. m.entry == number) t.marks) → tuple ≡ mark.tuple
tuple_at number t mark tuple here is =
    let e : Some tuple ≡ Some mark.tuple = is ∙ ap (option_map (λ (m : Mark). m.tuple)) here in
    cc

perm_locations : (number : ℕ) (t : TxnValue) (tuple : List FieldValue) (c : ℤ) (locations : List ℤ) (best : Best) → Some tuple ≡ option_map (λ m. m.tuple) (find (λ m. m.entry == number) t.marks) → tuple ≡ best_of c locations → IsBestAt number t best → map pos best.permutation ≡ locations
perm_locations number t tuple c locations best there is w =
    (same_best best.cost c (map pos best.permutation) locations (sym w.is ∙ sym (tuple_at number t w.mark tuple w.here there) ∙ is)).1

-- the permutation that is read from the locations in an entry's tuple is the best permutation's, or there is none at
-- that entry
pub perm_of : (r : Result (Option (List ℕ)) AllocError) (number : ℕ) (t : TxnValue) (tuple : List FieldValue) (c : ℤ) (locations : List ℤ) → Some tuple ≡ option_map (λ m. m.tuple) (find (λ m. m.entry == number) t.marks) → tuple ≡ best_of c locations → IfOk r (λ found. MatchOption found ((p : List ℕ) → IsPerm p → map pos p ≢ locations) (λ p. IsPerm p × (map pos p ≡ locations))) → IfOk r (λ perm. MatchOption perm ((best : Best) → IsBestAt number t best → ⊥) (λ p. (best : Best) → IsBestAt number t best → best.permutation ≡ p))
perm_of (Err e) number t tuple c locations there is h = h
perm_of (Ok None) number t tuple c locations there is h = λ best w. h best.permutation w.permutation (perm_locations number t tuple c locations best there is w)
perm_of (Ok (Some p)) number t tuple c locations there is h = λ best w. map_pos-same best.permutation p (perm_locations number t tuple c locations best there is w ∙ sym h.1)

-- the one that stands costs the smaller of the two
pub standing_cost : (candidate old new : Best) (least : ℤ) → IsBetterOf candidate old new → least ≤ℤ candidate.cost → least ≤ℤ old.cost → (least ≡ candidate.cost) ⊎ (least ≡ old.cost) → new.cost ≡ least
standing_cost candidate old new least (inl better) below under (inl is) = ap (λ (b : Best). b.cost) better.1 ∙ sym is
standing_cost candidate old new least (inl better) below under (inr is) = let e = ap (λ (b : Best). b.cost) better.1 in let l = better.0 in omega (arith, ints)
standing_cost candidate old new least (inr better) below under (inl is) = let e = ap (λ (b : Best). b.cost) better.1 in let l = better.0 in omega (arith, ints)
standing_cost candidate old new least (inr better) below under (inr is) = ap (λ (b : Best). b.cost) better.1 ∙ sym is

-- what was prepared for the cost of a best permutation that stays has been written
pub written_prepared : (I : Problem) (l : LastThought) (best : Best) (cost : ℤ) (writes : List Write) (t t' : TxnValue) → AreWritesFor I (thought_of l) writes cost → best.cost ≡ cost → t.writes ≡ [] → t' ≡ record t { writes = writes } → WritesAll false I (thought_of l) best t t' cost
written_prepared I l best cost writes t t' p costs none is = record {
  standing = best;
  stands = refl;
  costs = costs;
  tuples = p.tuples;
  written = subst (λ (c : ℤ). DecidesBy I c (thought_of l) p.tuples) (sym costs) p.written;
  same = record { number = ap (λ (x : TxnValue). x.number) is; marks = ap (λ (x : TxnValue). x.marks) is };
  added =
      subst (λ (x : TxnValue). SameItems (added_of x.writes) (added_of t.writes ++ p.tuples)) (sym is)
      (subst (λ (ws : List Write). SameItems (added_of writes) (added_of ws ++ p.tuples)) (sym none) p.added);
}

-- what was decided beside the one that stands has been written
pub written_anew : (I : Problem) (l : LastThought) (best old : Best) (least : ℤ) (tuples : List (List FieldValue)) (t t' : TxnValue) → best ≡ old → DecidesBetter I (thought_of l) old tuples → ((new : Best) → IsBetterOf (candidate_of l.thought) old new → new.cost ≡ least) → HasMarksOf t t' → SameItems (added_of t'.writes) (added_of t.writes ++ tuples) → WritesAll true I (thought_of l) best t t' least
written_anew I l best old least tuples t t' is d costs same added = record {
  standing = d.new;
  stands = subst (λ (b : Best). IsBetterOf (candidate_of l.thought) b d.new) (sym is) d.better;
  costs = costs d.new d.better;
  tuples = tuples;
  written = d.decides;
  same = same;
  added = added;
}

either_of : (b : Bool) (x y : ℤ) → (cond b y x ≡ x) ⊎ (cond b y x ≡ y)
either_of true x y = inr refl
either_of false x y = inl refl

-- the smaller of two numbers is one of them
pub least_either : (x y least : ℤ) → least ≡ int_min x y → (least ≡ x) ⊎ (least ≡ y)
least_either x y least is =
    elim (either_of (int_lt y x) x y) as (λ (_ : (int_min x y ≡ x) ⊎ (int_min x y ≡ y)). (least ≡ x) ⊎ (least ≡ y)) [ inl e ↦ inl (is ∙ e) | inr e ↦ inr (is ∙ e) ]

-- a permutation of the instance, of the size of a node of it
perm_from : (I : Problem) (x : Placement) (p : List ℕ) → IsPlacement x → x.size ≡ I.size → Permutes I p → IsPerm p
perm_from I x p placed size h = record {
  bijection = h.bijection;
  positive = (let a = placed.positive in let b = h.same_size in omega arith);
  small = (let a = placed.small in let b = h.same_size in omega arith);
}

one_mark : (number : ℕ) (t : TxnValue) (a b : Mark) → find (λ m. m.entry == number) t.marks ≡ Some a → find (λ m. m.entry == number) t.marks ≡ Some b → a ≡ b
one_mark number t a b p q = let e : Some a ≡ Some b = sym p ∙ q in cc

-- the entry that was found has the tuple of a best permutation of this cost, where it is there to stay
found_at : (I : Problem) (l : LastThought) (taking : Bool) (number : ℕ) (t : TxnValue) → IsLastThought I l → (m : HasBestMark I taking l.node number t) → m.best.permanent ≡ true → (f : IsBestFound I m.best.tuple) → IsBestAt number t f.best
found_at I l taking number t h m permanent f = record {
  mark = m.best;
  here = m.here;
  permanent = permanent;
  is = f.is;
  permutation = perm_from I l.node f.best.permutation h.placement h.size f.permutes;
}

cost_permanent : (I : Problem) (l : LastThought) (taking : Bool) (number : ℕ) (t : TxnValue) (cost : ℤ) → (m : HasBestMark I taking l.node number t) → HasBestCost number t cost → m.best.permanent ≡ true
cost_permanent I l taking number t cost m c = ap (λ (x : Mark). x.permanent) (one_mark number t m.best c.mark m.here c.here) ∙ c.permanent

same_cost : (I : Problem) (l : LastThought) (taking : Bool) (number : ℕ) (t : TxnValue) (cost : ℤ) → (m : HasBestMark I taking l.node number t) → HasBestCost number t cost → (f : IsBestFound I m.best.tuple) → f.best.cost ≡ cost
same_cost I l taking number t cost m c f =
    (same_best f.best.cost cost (map pos f.best.permutation) c.locations (sym f.is ∙ ap (λ (x : Mark). x.tuple) (one_mark number t m.best c.mark m.here c.here) ∙ c.is)).0

-- where the worker stands after its writes
leads : (taking : Bool) (I : Problem) (last : ThoughtValue) (best : Best) (t t' : TxnValue) (written : Result (Option ℤ) AllocError) (told : Told) (stage : Stage) → t.writes ≡ [] → Writes taking I last best t t' written → AfterWrites written t' told stage → ((told ≡ Ok true) × (IsReady taking I last best t stage ⊎ IsStuck taking last best t stage)) ⊎ (IsErr told × IsShort t stage)
leads taking I last best t t' (Ok (Some c)) told stage none w after = inl (
  after.0,
  inl (record {
    standing = w.standing;
    stands = w.stands;
    tuples = w.tuples;
    written = w.written;
    with_writes = t';
    same = w.same;
    added = subst (λ (ws : List Write). SameItems (added_of t'.writes) (added_of ws ++ w.tuples)) none w.added;
    is = after.1 ∙ ap (λ (z : ℤ). Ready t' z) (sym w.costs);
  }),
)
leads taking I last best t t' (Ok None) told stage none w after = inl (
  after.0,
  inr (record {
    standing = w.standing;
    stands = w.stands;
    whole = w.whole;
    below = w.below;
    is = after.1 ∙ ap (λ (x : TxnValue). GivingUp x) w.same;
  }),
)
leads taking I last best t t' (Err e) told stage none w after = inr (after.0, record { with_writes = t'; same = w; is = after.1 })

-- the best permutation was found, and it is there to stay
pub has_best : (I : Problem) (lease : ℕ) (l : LastThought) (taking : Bool) (number : ℕ) (t t' old : TxnValue) (tally tally' : Tally) (cost : ℤ) (written : Result (Option ℤ) AllocError) (told : Told) (stage : Stage) → IsLastThought I l → HasBestMark I taking l.node number t → HasBestCost number t cost → ((best : Best) → IsBestAt number t best → best.cost ≡ cost → Writes taking I (thought_of l) best t t' written) → AfterWrites written t' told stage → tally' ≡ record tally { best = Some cost } → HasBest taking (hand_of I lease (Some (thought_of l)) (Considered old) tally) number t told (hand_of I lease (Some (thought_of l)) stage tally')
has_best I lease l taking number t t' old tally tally' cost written told stage h m c writes after tallied =
    let permanent = cost_permanent I l taking number t cost m c in
    let f = m.best_is permanent in
    let there = found_at I l taking number t h m permanent f in
    let costs = same_cost I l taking number t cost m c f in
    record {
      last = thought_of l;
      thought = refl;
      best = f.best;
      here = ap (option_map (λ (x : Mark). x.tuple)) m.here ∙ ap (λ (w : List FieldValue). Some w) f.is;
      stage = stage;
      leaves = ap (λ (y : Tally). hand_of I lease (Some (thought_of l)) stage y) tallied ∙ ap (λ (z : ℤ). hand_of I lease (Some (thought_of l)) stage (record tally { best = Some z })) (sym costs);
      leads = leads taking I (thought_of l) f.best t t' written told stage m.writes (writes f.best there costs) after;
    }

not_true : (b : Bool) → (b ≡ true → ⊥) → b ≡ false
not_true true h = absurd (h refl)
not_true false h = refl

-- what was found has a lease that ends
pub has_leased : (I : Problem) (lease : ℕ) (l : LastThought) (taking : Bool) (number : ℕ) (t old : TxnValue) (tally : Tally) (told : Told) (new : HandValue) → HasBestMark I taking l.node number t → HasNoBest number t → told ≡ Ok true → new ≡ hand_of I lease (Some (thought_of l)) (GivingUp t) tally → HasLeased (hand_of I lease (Some (thought_of l)) (Considered old) tally) number t told new
has_leased I lease l taking number t old tally told new m none tells leaves = record {
  mark = m.best;
  here = m.here;
  leased = not_true m.best.permanent (λ permanent. let f = m.best_is permanent in none m.best m.here permanent f.best.cost (map pos f.best.permutation) f.is);
  tells = tells;
  leaves = leaves;
}

-- the laws of two marks
abbrev TakenLaw : Type 0
TakenLaw = (m b : Mark) (renewed : Mark → Bool) → m.taken ≡ true → m.permanent ≡ true → b.taken ≡ true → b.permanent ≡ true → IsUntaken b.entry (m ∷ []) → SameItems (gone_of renewed (with_mark b (m ∷ []))) (m.tuple ∷ b.tuple ∷ []) × SameItems (kept_of (with_mark b (m ∷ []))) []

abbrev ReadLaw : Type 0
ReadLaw = (m b : Mark) (renewed : Mark → Bool) → m.taken ≡ true → m.permanent ≡ true → b.taken ≡ false → b.permanent ≡ true → IsUntaken b.entry (m ∷ []) → SameItems (gone_of renewed (with_mark b (m ∷ []))) (m.tuple ∷ []) × SameItems (kept_of (with_mark b (m ∷ []))) (b.tuple ∷ [])

as_good_of : (I : Problem) (x : Placement) (t : Thought) (old new : Best) → IsThought I x t → IsBetterOf (candidate_of t) old new → IsAsGood I old new
as_good_of I x t old new h (inl better) = subst (λ (b : Best). IsAsGood I old b) (sym better.1) (inr (h.permutes, h.costs, better.0))
as_good_of I x t old new h (inr better) = inl better.1

-- what was written may be committed
may_commit : (I : Problem) (l : LastThought) (taking : Bool) (number : ℕ) (t t' : TxnValue) (best : Best) (cost : ℤ) → TakenLaw → ReadLaw → IsLastThought I l → (m : HasBestMark I taking l.node number t) → m.best.permanent ≡ true → m.best.tuple ≡ tuple_of best → WritesAll taking I (thought_of l) best t t' cost → MayCommit (MayReplace I) t'
may_commit I l true number t t' best cost taken_law read_law h m permanent is w = λ renewed.
    let x = l.node in
    let marks : t'.marks ≡ with_mark m.best (m.node ∷ []) = w.same.marks ∙ m.marks in
    let law = taken_law m.node m.best renewed m.node_taken m.node_permanent m.taken permanent m.untaken in
    let gone : SameItems (gone_of renewed t'.marks) (m.node.tuple ∷ m.best.tuple ∷ []) = subst (λ (ms : List Mark). SameItems (gone_of renewed ms) (m.node.tuple ∷ m.best.tuple ∷ [])) (sym marks) law.0 in
    let gone_node : SameItems (gone_of renewed t'.marks) (node_tuple x ∷ m.best.tuple ∷ []) = subst (λ (w : List FieldValue). SameItems (gone_of renewed t'.marks) (w ∷ m.best.tuple ∷ [])) m.node_is gone in
    let gone_both : SameItems (gone_of renewed t'.marks) (node_tuple x ∷ tuple_of best ∷ []) = subst (λ (w : List FieldValue). SameItems (gone_of renewed t'.marks) (node_tuple x ∷ w ∷ [])) is gone_node in
    let kept : SameItems (kept_of t'.marks) [] = subst (λ (ms : List Mark). SameItems (kept_of ms) []) (sym marks) law.1 in
    let added : SameItems (added_of t'.writes) w.tuples = subst (λ (ws : List Write). SameItems (added_of t'.writes) (added_of ws ++ w.tuples)) m.writes w.added in
    replaces_taken I x best w.standing (gone_of renewed t'.marks) (kept_of t'.marks) (added_of t'.writes) w.written.rest h.placement h.size w.written.decides.decides
    (as_good_of I x l.thought best w.standing h.thought w.stands) gone_both kept (λ f. added f ∙ w.written.with_best f)
may_commit I l false number t t' best cost taken_law read_law h m permanent is w = λ renewed.
    let x = l.node in
    let marks : t'.marks ≡ with_mark m.best (m.node ∷ []) = w.same.marks ∙ m.marks in
    let law = read_law m.node m.best renewed m.node_taken m.node_permanent m.taken permanent m.untaken in
    let gone : SameItems (gone_of renewed t'.marks) (m.node.tuple ∷ []) = subst (λ (ms : List Mark). SameItems (gone_of renewed ms) (m.node.tuple ∷ [])) (sym marks) law.0 in
    let gone_node : SameItems (gone_of renewed t'.marks) (node_tuple x ∷ []) = subst (λ (w : List FieldValue). SameItems (gone_of renewed t'.marks) (w ∷ [])) m.node_is gone in
    let kept : SameItems (kept_of t'.marks) (m.best.tuple ∷ []) = subst (λ (ms : List Mark). SameItems (kept_of ms) (m.best.tuple ∷ [])) (sym marks) law.1 in
    let kept_best : SameItems (kept_of t'.marks) (tuple_of best ∷ []) = subst (λ (w : List FieldValue). SameItems (kept_of t'.marks) (w ∷ [])) is kept in
    let added : SameItems (added_of t'.writes) w.tuples = subst (λ (ws : List Write). SameItems (added_of t'.writes) (added_of ws ++ w.tuples)) m.writes w.added in
    let decides : DecidesBy I best.cost (thought_of l) w.tuples = subst (λ (b : Best). DecidesBy I b.cost (thought_of l) w.tuples) w.stands w.written in
    replaces_read I x best (gone_of renewed t'.marks) (kept_of t'.marks) (added_of t'.writes) w.tuples h.placement h.size decides.decides gone_node kept_best added

stage_after : (I : Problem) (last : Option ThoughtValue) (taking : Bool) (lv : ThoughtValue) (best : Best) (t t' : TxnValue) (written : Result (Option ℤ) AllocError) (told : Told) (stage : Stage) → Writes taking I lv best t t' written → ((cost : ℤ) → WritesAll taking I lv best t t' cost → MayCommit (MayReplace I) t') → AfterWrites written t' told stage → IsStage I last stage
stage_after I last taking lv best t t' (Ok (Some c)) told stage w may after = subst (IsStage I last) (sym after.1) (may c w)
stage_after I last taking lv best t t' (Ok None) told stage w may after = subst (IsStage I last) (sym after.1) tt
stage_after I last taking lv best t t' (Err e) told stage w may after = subst (IsStage I last) (sym after.1) tt

-- what the transaction holds after the writes
pub best_stage : (I : Problem) (l : LastThought) (taking : Bool) (number : ℕ) (t t' : TxnValue) (cost : ℤ) (written : Result (Option ℤ) AllocError) (told : Told) (stage : Stage) → TakenLaw → ReadLaw → IsLastThought I l → HasBestMark I taking l.node number t → HasBestCost number t cost → ((best : Best) → IsBestAt number t best → best.cost ≡ cost → Writes taking I (thought_of l) best t t' written) → AfterWrites written t' told stage → IsStage I (Some (thought_of l)) stage
best_stage I l taking number t t' cost written told stage taken_law read_law h m c writes after =
    let permanent = cost_permanent I l taking number t cost m c in
    let f = m.best_is permanent in
    let there = found_at I l taking number t h m permanent f in
    let costs = same_cost I l taking number t cost m c f in
    stage_after I (Some (thought_of l)) taking (thought_of l) f.best t t' written told stage (writes f.best there costs)
    (λ k w. may_commit I l taking number t t' f.best k taken_law read_law h m permanent f.is w) after

-- what the transaction holds after the call that looks for the best permutation
pub found_best : (I : Problem) (lawful : Content → ℕ → Type 0) (allowed : Content → Content → Content → Type 0) (taking : Bool) (x : Placement) (t t' : TxnValue) (answer : Answer) → ((template : List PatternValue) (tuple : List FieldValue) → IsTrue (does_match template tuple) ↔ Matches template tuple) → IsInstance I → IsSearchLaw I lawful allowed → HasNode x t → Finds (InLawful lawful) taking best_template t answer t' → IsFoundBest I taking x answer t'
found_best I lawful allowed taking x t t' (found (Stored number)) test instance law n f = record {
  node = n.mark;
  best = f.0;
  marks = ap (λ (y : TxnValue). y.marks) f.4 ∙ ap (with_mark f.0) n.marks;
  untaken = subst (λ (k : ℕ). IsUntaken k (n.mark ∷ [])) (sym f.1.entry) (subst (λ (ms : List Mark). IsUntaken number ms) n.marks f.3);
  writes = ap (λ (y : TxnValue). y.writes) f.4 ∙ n.writes;
  node_taken = n.taken;
  node_permanent = n.permanent;
  node_is = n.is;
  here = f.5;
  taken = f.2;
  best_is = λ permanent.
      let known = f.1.known permanent in
      best_found_there (search_of I law.0 law.1) known.0 known.1 f.0.tuple (law.2.is_cut_tree known.0 known.1 known.2) known.3 ((test best_template f.0.tuple).1 f.1.matches);
}
found_best I lawful allowed taking x t t' (found (Own place)) test instance law n f = tt
found_best I lawful allowed taking x t t' nothing test instance law n f = tt
found_best I lawful allowed taking x t t' (refused error) test instance law n f = subst (HasNode x) (sym f) n
found_best I lawful allowed taking x t t' done test instance law n f = tt

-- What a worker's thought on the node that it took leaves.
use Rattle.std.proofs.Common.{◌≡◌, ◌==◌, ℕ, Bool, true, false, [], ◌∷◌, Option, Some, None, cond, refl, sym, ap, ap₂, subst, ◌∙◌, inl, inr}
use Rattle.std.specs.Prelude.{IfSome, Ok, find}
use Rattle.std.proofs.lemmas.Bool.{false≢true}
use Rattle.std.proofs.lemmas.Cmp.{nat_eq_equiv}
use Rattle.qap_cost.specs.Instance.{Problem}
use Rattle.qap_cost.specs.Placement.{IsPlacement, Placement}
use Rattle.space_txn.specs.Txn.{TxnValue}
use Rattle.space_txn.specs.declared.mark.Mark.{Mark}
use Rattle.qap_search.specs.Worker.Considering.{Considers, IsNodeAt, IsOnNode, IsThoughtOn, stage_after}
use Rattle.qap_search.specs.Worker.Hand.{HandValue, hand_of, is_due, last_of, thought_of}
use Rattle.qap_search.specs.Tuples.Piece.{node_tuple}
use Rattle.qap_search.specs.Worker.Standing.{HasNode, HasTaken, IsHand, IsLastThought, IsStage}
use Rattle.qap_search.specs.Node.Thought.{IsThought, ThoughtValue}
use Rattle.qap_search.specs.Worker.Thinking.{Thinks}
use Rattle.qap_search.specs.declared.worker.stage.LastThought.{LastThought}
use Rattle.qap_search.specs.declared.worker.stage.Stage.{Stage}
use Rattle.qap_search.specs.declared.worker.stage.Stage.TheVariants.{Idle, Begun, Taken, Considered, Ready, GivingUp}
use Rattle.qap_search.specs.declared.worker.stage.Tally.{Tally}
use Rattle.qap_search.specs.declared.worker.stage.Tools.{Tools}
use Rattle.qap_search.specs.declared.node.thought.Thought.{Thought}

some_same : (a b : LastThought) → Some a ≡ Some b → b ≡ a
some_same a b e = cc

-- the last thought is kept
pub kept_on : (I : Problem) (last : Option LastThought) (x : Placement) → IsOnNode last x → IsThoughtOn I x last last
kept_on I None x on = absurd on
kept_on I (Some l) x on = record { last = l; is = refl; node = on; right = λ h. h; kept = λ before e same. some_same l before e }

not_both : (b : Bool) → b ≡ false → b ≡ true → ⊥
not_both b fails holds = cc

-- the last thought was on another node
pub anew_on : (I : Problem) (old : Option LastThought) (x : Placement) (t : Thought) (b : Bool) → IsPlacement x → x.size ≡ I.size → IsThought I x t → b ≡ false → (IsOnNode old x → b ≡ true) → IsThoughtOn I x old (Some (record { node = x; thought = t }))
anew_on I old x t b placed size thought fails on = record {
  last = record { node = x; thought = t };
  is = refl;
  node = refl;
  right = λ h. record { placement = placed; size = size; thought = thought };
  kept = λ before e same. absurd (not_both b fails (on (subst (λ (o : Option LastThought). IsOnNode o x) (sym e) same)));
}

-- the one mark of a transaction is found
find_one : (t : TxnValue) (m : Mark) (number : ℕ) → t.marks ≡ m ∷ [] → m.entry ≡ number → find (λ x. x.entry == number) t.marks ≡ Some m
find_one t m number marks entry =
    let same : (m.entry == number) ≡ true = subst (λ (k : ℕ). (m.entry == k) ≡ true) entry (nat_eq_equiv.refl m.entry) in
    ap (find (λ (x : Mark). x.entry == number)) marks ∙ ap (λ (b : Bool). cond b (Some m) None) same

one_mark : (t : TxnValue) (number : ℕ) (a b : Mark) → find (λ x. x.entry == number) t.marks ≡ Some a → find (λ x. x.entry == number) t.marks ≡ Some b → a ≡ b
one_mark t number a b p q = let e : Some a ≡ Some b = sym p ∙ q in cc

has_node : (I : Problem) (t : TxnValue) (number : ℕ) (x : Placement) → HasTaken I t number → IsNodeAt I.size number t x → HasNode x t
has_node I t number x taken there =
    let same : there.mark ≡ taken.mark = one_mark t number there.mark taken.mark there.here (find_one t taken.mark number taken.marks taken.entry) in
    record {
      mark = taken.mark;
      marks = taken.marks;
      writes = taken.writes;
      taken = taken.taken;
      permanent = ap (λ (m : Mark). m.permanent) (sym same) ∙ there.permanent;
      is = ap (λ (m : Mark). m.tuple) (sym same) ∙ there.is;
    }

-- what holds of the worker after a thought that was due
pub hand_after : (I : Problem) (tools : Tools) (old new : Option LastThought) (stage next : Stage) (b : Bool) → IsHand I tools old stage → is_due stage ≡ true → Considers I stage old (Ok b) new → ((t : TxnValue) (number : ℕ) → stage ≡ Taken t number → next ≡ stage_after b t) → IsHand I tools new next
hand_after I tools old new (Taken t number) next true hand due c goes = record {
  node = hand.node;
  best = hand.best;
  instance = hand.instance;
  thought = subst (λ (o : Option LastThought). IfSome o (IsLastThought I)) (sym c.2.is) (c.2.right hand.thought);
  stage_is = subst (IsStage I (last_of new)) (sym (goes t number refl)) (subst (λ (o : Option LastThought). IsStage I (last_of o) (Considered t)) (sym c.2.is) (subst (λ (x : Placement). HasNode x t) (sym c.2.node) (has_node I t number c.0 hand.stage_is c.1)));
}
hand_after I tools old new (Taken t number) next false hand due c goes = record {
  node = hand.node;
  best = hand.best;
  instance = hand.instance;
  thought = subst (λ (o : Option LastThought). IfSome o (IsLastThought I)) (sym c.1) hand.thought;
  stage_is = subst (IsStage I (last_of new)) (sym (goes t number refl)) tt;
}
hand_after I tools old new Idle next b hand due c goes = absurd (false≢true due)
hand_after I tools old new (Begun t) next b hand due c goes = absurd (false≢true due)
hand_after I tools old new (Considered t) next b hand due c goes = absurd (false≢true due)
hand_after I tools old new (Ready t cost) next b hand due c goes = absurd (false≢true due)
hand_after I tools old new (GivingUp t) next b hand due c goes = absurd (false≢true due)

kept_value : (old : Option LastThought) (l : LastThought) (x : Placement) → l.node ≡ x → ((before : LastThought) → old ≡ Some before → before.node ≡ x → before ≡ l) → (before : ThoughtValue) → last_of old ≡ Some before → before.node ≡ l.node → before ≡ thought_of l
kept_value None l x node kept before e same = let f : None ≡ Some before = e in absurd cc
kept_value (Some b) l x node kept before e same =
    let f : Some (thought_of b) ≡ Some before = e in
    let is : thought_of b ≡ before = cc in
    sym is ∙ ap thought_of (kept b refl (ap (λ (v : ThoughtValue). v.node) is ∙ same ∙ node))

not_true : (b : Bool) → (b ≡ true → ⊥) → b ≡ false
not_true true h = absurd (h refl)
not_true false h = refl

-- what a thought that was due leaves
pub thinks : (I : Problem) (lease : ℕ) (tools : Tools) (old new : Option LastThought) (stage next : Stage) (tally : Tally) (b : Bool) → IsHand I tools old stage → is_due stage ≡ true → Considers I stage old (Ok b) new → ((t : TxnValue) (number : ℕ) → stage ≡ Taken t number → next ≡ stage_after b t) → Thinks (hand_of I lease (last_of old) stage tally) (hand_of I lease (last_of new) next tally)
unfolding has_node
thinks I lease tools old new (Taken t number) next tally true hand due c goes =
    let taken = hand.stage_is in
    let node = has_node I t number c.0 taken c.1 in
    let value : Stage → Option LastThought → HandValue = λ s o. hand_of I lease (last_of o) s tally in
    record {
      t = t;
      number = number;
      stage = refl;
      mark = taken.mark;
      here = find_one t taken.mark number taken.marks taken.entry;
      leads = inl (record {
        permanent = node.permanent;
        last = thought_of c.2.last;
        is = node.is ∙ ap node_tuple (sym c.2.node);
        thought = record { thought = c.2.last.thought; right = (c.2.right hand.thought).thought; told = refl };
        kept = kept_value old c.2.last c.0 c.2.node c.2.kept;
        leaves = ap₂ value (goes t number refl) c.2.is;
      });
    }
thinks I lease tools old new (Taken t number) next tally false hand due c goes =
    let taken = hand.stage_is in
    let here = find_one t taken.mark number taken.marks taken.entry in
    let value : Stage → Option LastThought → HandValue = λ s o. hand_of I lease (last_of o) s tally in
    record {
      t = t;
      number = number;
      stage = refl;
      mark = taken.mark;
      here = here;
      leads = inr (record {
        leased = not_true taken.mark.permanent (λ permanent. c.0 taken.mark here permanent (taken.node permanent));
        leaves = ap₂ value (goes t number refl) c.1;
      });
    }
thinks I lease tools old new Idle next tally b hand due c goes = absurd (false≢true due)
thinks I lease tools old new (Begun t) next tally b hand due c goes = absurd (false≢true due)
thinks I lease tools old new (Considered t) next tally b hand due c goes = absurd (false≢true due)
thinks I lease tools old new (Ready t cost) next tally b hand due c goes = absurd (false≢true due)
thinks I lease tools old new (GivingUp t) next tally b hand due c goes = absurd (false≢true due)

-- no thought is due then
pub not_due_after : (stage next : Stage) (b : Bool) → is_due stage ≡ true → ((t : TxnValue) (number : ℕ) → stage ≡ Taken t number → next ≡ stage_after b t) → is_due next ≡ false
not_due_after (Taken t number) next true due goes = ap is_due (goes t number refl)
not_due_after (Taken t number) next false due goes = ap is_due (goes t number refl)
not_due_after Idle next b due goes = absurd (false≢true due)
not_due_after (Begun t) next b due goes = absurd (false≢true due)
not_due_after (Considered t) next b due goes = absurd (false≢true due)
not_due_after (Ready t cost) next b due goes = absurd (false≢true due)
not_due_after (GivingUp t) next b due goes = absurd (false≢true due)

-- The content along a run.
use Rattle.std.proofs.Common.{◌≡◌, ℕ, ◌+◌, ◌++◌, zero, suc, Bool, true, false, Option, List, [], ◌∷◌, All, cond, count_by, arith, ap, refl, subst, sym, ◌∙◌}
use Rattle.std.specs.List.{sum_by}
use Rattle.std.proofs.lemmas.List.Elements.{All-head, All-tail}
use Rattle.std.proofs.lemmas.List.Sums.{sum_by-cons}
use Rattle.tuple_space.specs.Space.{SpaceValue}
use Rattle.tuple_space.specs.Step as space
use Rattle.tuple_space.specs.declared.error.SpaceError.TheVariants.{OutOfMemory}
use Rattle.space_txn.specs.Content.{ChangesContent, KeepsContent, SameItems, added_of, content_of, gone_of, is_made_permanent, kept_of}
use Rattle.space_txn.specs.Machine.{abort, commit, done, found, inp_in, nothing, rdp_in, refused, renew_txn}
use Rattle.space_txn.specs.Txn.{TxnValue}
use Rattle.space_txn.specs.World.{World}
use Rattle.shared_space.specs.Event.{Event, Reply, advance, answered, ask, begin, begun, call, close, limited, moved, told}
use Rattle.shared_space.specs.Law.{Content, MayCommit}
use Rattle.shared_space.specs.Limit.{DidWithin}
use Rattle.shared_space.specs.Place.{Place, with_place_space}
use Rattle.shared_space.specs.Run.{Act, Acts, ActsOnContent, ChangesBy, IsAllowedAct, IsAllowedOutside, LeadTo, Replaces, Run, asks, is_accepted, leaves, outside, shuts}
use Rattle.shared_space.proofs.RunLemmas.{acts_counted}

-- the count of a longer list
more_of : (b : Bool) (n k : ℕ) → k ≡ cond b 1 0 + n → k ≡ cond b (suc n) n
more_of true n k is = omega (arith, is)
more_of false n k is = omega (arith, is)

counted_more : (act : Act) (acts : List Act) → count_by is_accepted (act ∷ acts) ≡ cond (is_accepted act) (suc (count_by is_accepted acts)) (count_by is_accepted acts)
counted_more act acts =
    more_of (is_accepted act) (count_by is_accepted acts) (count_by is_accepted (act ∷ acts)) (sum_by-cons (λ (a : Act). cond (is_accepted a) 1 0) act acts)

-- a call outside all transactions that only looks at a space leaves it
looked : (changes : Type 0) → (changes → ⊥) → (old next : SpaceValue) (event : space.Event) (reply : space.Reply) → IsAllowedOutside changes event → space.Step old event reply next → next ≡ old
looked changes never old next (space.rdp template) (space.got number tuple) may step = step.4
looked changes never old next (space.rdp template) space.nothing may step = step.1
looked changes never old next (space.rdp template) (space.refused OutOfMemory) may step = step.1
looked changes never old next (space.rdp template) _ may step = absurd step
looked changes never old next (space.count template) (space.told number) may step = step.1
looked changes never old next (space.count template) _ may step = absurd step
looked changes never old next space.now (space.told moment) may step = step.1
looked changes never old next space.now _ may step = absurd step
looked changes never old next _ reply may step = absurd (never may)

module _ (allowed : Content → Content → Content → Type 0) (begins : ℕ → Type 0) (changes : Type 0) (never : changes → ⊥) where
  -- an accepted commit replaces some tuples by others
  commit_replaces : (old new : World) (t : TxnValue) → MayCommit allowed t → ChangesContent old new t → Replaces allowed (content_of old) (content_of new)
  commit_replaces old new t may change = record {
    gone = gone_of (is_made_permanent old) t.marks;
    kept = kept_of t.marks;
    added = added_of t.writes;
    rest = change.rest;
    may = may (is_made_permanent old);
    before = change.before;
    after = change.after;
  }

  -- what follows an act that leaves the content
  behind_same : (n : ℕ) (old next new : Content) → SameItems next old → ChangesBy allowed n next new → ChangesBy allowed n old new
  behind_same zero old next new same h = λ f. h f ∙ same f
  behind_same (suc n) old next new same h =
      (h.0, record { gone = h.1.gone; kept = h.1.kept; added = h.1.added; rest = h.1.rest; may = h.1.may; before = λ f. sym (same f) ∙ h.1.before f; after = h.1.after }, h.2)

  -- an act that leaves the content, before others
  one_kept : (n : ℕ) (old next : World) (new : Content) → KeepsContent old next → ChangesBy allowed n (content_of next) new → ChangesBy allowed n (content_of old) new
  one_kept n old next new keeps h = behind_same n (content_of old) (content_of next) new keeps.same h

  -- a call outside all transactions that only looks at the space leaves it
  looks : (limit : Option ℕ) (old next : Place) (event : space.Event) (reply : space.Reply) → IsAllowedOutside changes event → Acts limit old (outside event reply) next → KeepsContent old.world next.world
  looks limit old next event reply may acts =
      let is = looked changes never old.world.space next.world.space event reply may acts.0 in
      let same : next ≡ with_place_space old old.world.space = acts.1 ∙ ap (with_place_space old) is in
      record {
        same = λ f. ap (λ (p : Place). sum_by f (content_of p.world)) same;
        counted = ap (λ (p : Place). p.world.commits) same;
      }

  -- an act of a run before others: they have one change more, if it is an accepted commit
  one_more : (limit : Option ℕ) (old next : Place) (new : Content) (act : Act) (n : ℕ) → IsAllowedAct allowed begins changes act → Acts limit old act next → ActsOnContent old.world act next.world
      → ChangesBy allowed n (content_of next.world) new → ChangesBy allowed (cond (is_accepted act) (suc n) n) (content_of old.world) new
  one_more limit old next new (asks (call t commit) (answered done t')) n may acts on h =
      (content_of next.world, commit_replaces old.world next.world t may on, h)
  one_more limit old next new (asks (call t commit) (answered (refused error) t')) n may acts on h = one_kept n old.world next.world new on h
  one_more limit old next new (asks (call t commit) (answered (found what) t')) n may acts on h = one_kept n old.world next.world new on h
  one_more limit old next new (asks (call t commit) (answered nothing t')) n may acts on h = one_kept n old.world next.world new on h
  one_more limit old next new (asks (call t commit) limited) n may acts on h = one_kept n old.world next.world new on h
  one_more limit old next new (asks (call t commit) (begun result)) n may acts on h = one_kept n old.world next.world new on h
  one_more limit old next new (asks (call t commit) (moved reply)) n may acts on h = one_kept n old.world next.world new on h
  one_more limit old next new (asks (call t commit) (told answer)) n may acts on h = one_kept n old.world next.world new on h
  one_more limit old next new (asks (call t (inp_in template)) reply) n may acts on h = one_kept n old.world next.world new on h
  one_more limit old next new (asks (call t (rdp_in template)) reply) n may acts on h = one_kept n old.world next.world new on h
  one_more limit old next new (asks (call t (renew_txn lease)) reply) n may acts on h = one_kept n old.world next.world new on h
  one_more limit old next new (asks (call t abort) reply) n may acts on h = one_kept n old.world next.world new on h
  one_more limit old next new (asks (begin lease) reply) n may acts on h = one_kept n old.world next.world new on h
  one_more limit old next new (asks (advance moment) reply) n may acts on h = one_kept n old.world next.world new on h
  one_more limit old next new (asks (close template) reply) n may acts on h = one_kept n old.world next.world new on h
  one_more limit old next new (asks ask reply) n may acts on h = one_kept n old.world next.world new on h
  one_more limit old next new (outside event reply) n may acts on h = one_kept n old.world next.world new (looks limit old next event reply may acts) h
  one_more limit old next new leaves n may acts on h = one_kept n old.world next.world new on h
  one_more limit old next new shuts n may acts on h = one_kept n old.world next.world new on h

  -- the content along acts that lead on
  acts_change : (limit : Option ℕ) (old new : Place) (acts : List Act) → All (IsAllowedAct allowed begins changes) acts → LeadTo limit old acts new
      → ChangesBy allowed (count_by is_accepted acts) (content_of old.world) (content_of new.world)
  acts_change limit old new [] may is = λ f. ap (λ (p : Place). sum_by f (content_of p.world)) is
  acts_change limit old new (act ∷ acts) may lead =
      let P = IsAllowedAct allowed begins changes in
      let rest = acts_change limit lead.0 new acts (All-tail P act acts may) lead.2 in
      let all = one_more limit old lead.0 (content_of new.world) act (count_by is_accepted acts) (All-head P act acts may) lead.1 lead.3 rest in
      subst (λ (n : ℕ). ChangesBy allowed n (content_of old.world) (content_of new.world)) (sym (counted_more act acts)) all

  -- a run ends at the content that it began with, changed by its accepted commits alone
  pub run_changes : (limit : Option ℕ) (old new : Place) (run : Run allowed begins changes limit old new)
      → ChangesBy allowed (count_by is_accepted run.acts) (content_of old.world) (content_of new.world)
  run_changes limit old new run = acts_change limit old new run.acts run.allowed_each run.lead

  -- with no commits it ends at that content
  pub run_unchanged : (limit : Option ℕ) (old new : Place) (run : Run allowed begins changes limit old new) → new.world.commits ≡ old.world.commits
      → SameItems (content_of new.world) (content_of old.world)
  run_unchanged limit old new run same =
      let counted = acts_counted limit old new run.acts run.lead in
      let none : count_by is_accepted run.acts ≡ 0 = omega (arith, counted, same) in
      subst (λ (n : ℕ). ChangesBy allowed n (content_of old.world) (content_of new.world)) none (run_changes limit old new run)

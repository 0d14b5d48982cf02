-- Runs, one act more at their end, and the commits that they count.
use Rattle.std.proofs.Common.{◌≡◌, ℕ, ◌+◌, ◌++◌, Option, List, [], ◌∷◌, Ok, Err, cond, count_by, arith, ap, ltb, refl, subst, sym, ◌∙◌}
use Rattle.std.proofs.lemmas.Bool.{cond_both}
use Rattle.std.proofs.lemmas.List.Elements.{All-append, All-cons, All-nil}
use Rattle.std.proofs.lemmas.List.Sums.{sum_by-cons}
use Rattle.tuple_space.specs.Step as space
use Rattle.space_txn.proofs.ContentLemmas.{advance_step_keeps, begin_keeps, step_keeps}
use Rattle.space_txn.specs.Machine.{Step, abort, commit, done, found, inp_in, nothing, rdp_in, refused, renew_txn}
use Rattle.space_txn.specs.World.{World}
use Rattle.shared_space.specs.Event.{Event, Reply, advance, answered, ask, begin, begun, call, close, limited, moved, told}
use Rattle.shared_space.specs.Law.{Content}
use Rattle.shared_space.specs.Limit.{DidWithin}
use Rattle.shared_space.specs.Place.{Place, one_left}
use Rattle.shared_space.specs.Run.{Act, Acts, ActsOnContent, GoesOn, IsAllowedAct, LeadTo, Run, asks, is_accepted, leaves, outside, shuts}

lead_more : (limit : Option ℕ) (old mid new : Place) (acts : List Act) (act : Act) → LeadTo limit old acts mid → Acts limit mid act new → ActsOnContent mid.world act new.world
    → LeadTo limit old (acts ++ act ∷ []) new
lead_more limit old mid new [] act is h on =
    (new, subst (λ (p : Place). Acts limit p act new) is h, refl, subst (λ (p : Place). ActsOnContent p.world act new.world) is on)
lead_more limit old mid new (a ∷ acts) act lead h on = (lead.0, lead.1, lead_more limit lead.0 mid new acts act lead.2 h on, lead.3)

module _ (allowed : Content → Content → Content → Type 0) (begins : ℕ → Type 0) (changes : Type 0) (limit : Option ℕ) (opening : Place) where
  -- a run goes on by each act that is allowed
  pub runs_go_on : GoesOn allowed begins changes limit (Run allowed begins changes limit opening)
  runs_go_on old new act ok acts on run =
      let P = IsAllowedAct allowed begins changes in
      record {
        acts = run.acts ++ act ∷ [];
        allowed_each = All-append P run.acts (act ∷ []) run.allowed_each (All-cons P act [] ok (All-nil P));
        lead = lead_more limit opening old new run.acts act run.lead acts on;
      }

  -- no acts are a run from a place to itself
  pub no_acts_yet : Run allowed begins changes limit opening opening
  no_acts_yet = record { acts = []; allowed_each = All-nil (IsAllowedAct allowed begins changes); lead = refl }

-- how many commits a place counts more than one before, after an act
abbrev Counts : Place → Act → Place → Type 0
Counts old act new = new.world.commits ≡ old.world.commits + cond (is_accepted act) 1 0

same_counts : (old new : Place) → new.world.commits ≡ old.world.commits → new.world.commits ≡ old.world.commits + 0
same_counts old new same = omega (arith, same)

asked_counts : (limit : Option ℕ) (old new : Place) (event : Event) (reply : Reply) → DidWithin limit old event reply new → Counts old (asks event reply) new
asked_counts limit old new (begin asked) (begun result) h = same_counts old new (begin_keeps old.world asked result new.world h.0).counted
asked_counts limit old new (call t commit) limited h = same_counts old new (ap (λ (p : Place). p.world.commits) h.1)
asked_counts limit old new (call t commit) (answered done t') h =
    let s : Step old.world t commit done new.world t' = h.1 in
    ap (λ (w : World). w.commits) s.2
asked_counts limit old new (call t commit) (answered (refused error) t') h =
    same_counts old new (step_keeps old.world t commit (refused error) new.world t' h.1 tt).counted
asked_counts limit old new (call t commit) (answered (found what) t') h = absurd h.1
asked_counts limit old new (call t commit) (answered nothing t') h = absurd h.1
asked_counts limit old new (call t (inp_in template)) (answered answer t') h =
    same_counts old new (step_keeps old.world t (inp_in template) answer new.world t' h.0 tt).counted
asked_counts limit old new (call t (rdp_in template)) (answered answer t') h =
    same_counts old new (step_keeps old.world t (rdp_in template) answer new.world t' h.0 tt).counted
asked_counts limit old new (call t (renew_txn asked)) (answered answer t') h =
    same_counts old new (step_keeps old.world t (renew_txn asked) answer new.world t' h.0 tt).counted
asked_counts limit old new (call t abort) (answered answer t') h =
    same_counts old new (step_keeps old.world t abort answer new.world t' h.0 tt).counted
asked_counts limit old new (advance moment) (moved space.done) h =
    same_counts old new (advance_step_keeps old.world moment (Ok tt) new.world h.0).counted
asked_counts limit old new (advance moment) (moved (space.refused error)) h =
    same_counts old new (advance_step_keeps old.world moment (Err error) new.world h.0).counted
asked_counts limit old new (advance moment) (moved _) h = absurd h.0
asked_counts limit old new (close template) (told answer) h = same_counts old new (ap (λ (p : Place). p.world.commits) h.1)
asked_counts limit old new ask (told answer) h = same_counts old new (ap (λ (p : Place). p.world.commits) h.1)
asked_counts limit old new _ _ h = absurd h

left_counts : (old : Place) → (one_left old).world.commits ≡ old.world.commits
left_counts old =
    cond_both (ltb old.left old.shares) (record old { left = old.left + 1 }) old (λ (p : Place). p.world.commits ≡ old.world.commits) (λ t. refl) (λ t. refl)

act_counts : (limit : Option ℕ) (old new : Place) (act : Act) → Acts limit old act new → Counts old act new
act_counts limit old new (asks event reply) h = asked_counts limit old new event reply h
act_counts limit old new (outside event reply) h = same_counts old new (ap (λ (p : Place). p.world.commits) h.1)
act_counts limit old new shuts h = same_counts old new (ap (λ (p : Place). p.world.commits) h)
act_counts limit old new leaves h = same_counts old new (ap (λ (p : Place). p.world.commits) h ∙ left_counts old)

-- acts make as many commits as were accepted among them
pub acts_counted : (limit : Option ℕ) (old new : Place) (acts : List Act) → LeadTo limit old acts new → new.world.commits ≡ old.world.commits + count_by is_accepted acts
acts_counted limit old new [] is = same_counts old new (ap (λ (p : Place). p.world.commits) is)
acts_counted limit old new (act ∷ acts) h =
    let first = act_counts limit old h.0 act h.1 in
    let rest = acts_counted limit h.0 new acts h.2 in
    let all = sum_by-cons (λ (a : Act). cond (is_accepted a) 1 0) act acts in
    omega (arith, first, rest, all)

-- What holds of a space under its law after each act, and its steps where the law sets no limit.
use Rattle.std.proofs.Common.{◌≡◌, ◌≢◌, ℕ, ◌+◌, Bool, true, false, List, [], ◌∷◌, ◌++◌, Option, Some, None, ap, arith, cond, refl, subst, sym, ◌∙◌}
use Rattle.std.specs.Prelude.{filter, map}
use Rattle.std.proofs.Math.Bool.{or-false}
use Rattle.std.proofs.lemmas.Bool.{eqb-false, false≢true, or_right}
use Rattle.tuple_match.specs.FieldValue.{FieldValue}
use Rattle.tuple_space.specs.Lease.{granted, is_permanent}
use Rattle.tuple_space.specs.Rows.{permanent_tuples}
use Rattle.tuple_space.specs.Space.{SpaceValue}
use Rattle.tuple_space.specs.Step as space
use Rattle.tuple_space.specs.declared.entry.Entry.{Entry}
use Rattle.tuple_space.specs.declared.error.SpaceError.TheVariants.{Exhausted, OutOfMemory}
use Rattle.tuple_space.specs.declared.lease.Lease.{Lease}
use Rattle.tuple_space.specs.declared.lease.Lease.TheVariants.{Forever, Ms}
use Rattle.space_txn.specs.Content.{ChangesContent, KeepsContent, content_of}
use Rattle.space_txn.specs.Machine.{abort, commit, done, inp_in, rdp_in, renew_txn}
use Rattle.space_txn.specs.Txn.{TxnValue}
use Rattle.space_txn.specs.World.{World}
use Rattle.shared_space.specs.Event.{Did, Event, Reply, advance, answered, ask, begin, call, close, limited}
use Rattle.shared_space.specs.Law.{Content, IsFree, IsKept, IsUnordered, MayCommit}
use Rattle.shared_space.specs.Limit.{DidWithin, IsUnderLaw, IsWithin, is_reached}
use Rattle.shared_space.specs.Place.{Place}
use Rattle.shared_space.specs.Run.{Act, Acts, ActsOnContent, GoesOn, IsAllowedAct, asks}
use Rattle.shared_space.proofs.LawLemmas.{commit_lawful, stays_lawful}

abbrev tuples : List Entry → List (List FieldValue)
tuples entries = map (λ e. e.tuple) entries

one_more : (b : Bool) (e : Entry) (more fewer : List Entry) → tuples more ≡ tuples fewer → tuples (cond b (e ∷ more) more) ≡ tuples (cond b (e ∷ fewer) fewer)
one_more true e more fewer same = ap (λ l. e.tuple ∷ l) same
one_more false e more fewer same = same

-- an entry behind the others that is not permanent is none of the content
not_permanent : (entries : List Entry) (e : Entry) → is_permanent e.end ≡ false → permanent_tuples (entries ++ e ∷ []) ≡ permanent_tuples entries
not_permanent [] e leased = ap (λ b. tuples (cond b (e ∷ []) [])) leased
not_permanent (x ∷ xs) e leased =
    one_more (is_permanent x.end) x (filter (λ e. is_permanent e.end) (xs ++ e ∷ [])) (filter (λ e. is_permanent e.end) xs) (not_permanent xs e leased)

same_content : (lawful : Content → ℕ → Type 0) (old new : World) → content_of new ≡ content_of old → new.commits ≡ old.commits → lawful (content_of old) old.commits → lawful (content_of new) new.commits
same_content lawful old new same counted law =
    subst (lawful (content_of new)) (sym counted) (subst (λ (xs : Content). lawful xs old.commits) (sym same) law)

-- a write outside all transactions leaves the content, unless it is permanent and the law always holds
pub out_lawful : (lawful : Content → ℕ → Type 0) (allowed : Content → Content → Content → Type 0) (begins : ℕ → Type 0) (changes : Type 0) (old new : World) (tuple : List FieldValue) (lease : Lease) (reply : space.Reply)
    → (lease ≡ Forever → IsFree lawful allowed begins changes) → space.Step old.space (space.out tuple lease) reply new.space → new.commits ≡ old.commits
    → lawful (content_of old) old.commits → lawful (content_of new) new.commits
out_lawful lawful allowed begins changes old new tuple Forever reply may step same law = (may refl).holds (content_of new) new.commits
out_lawful lawful allowed begins changes old new tuple (Ms asked) (space.given number) may step same law =
    let written : Entry = record { number = old.space.last + 1; tuple = tuple; end = granted old.space.moment (Ms asked); holds = [] } in
    same_content lawful old new (ap (λ (s : SpaceValue). permanent_tuples s.entries) step.2 ∙ not_permanent old.space.entries written refl) same law
out_lawful lawful allowed begins changes old new tuple (Ms asked) (space.refused Exhausted) may step same law =
    same_content lawful old new (ap (λ (s : SpaceValue). permanent_tuples s.entries) step.1) same law
out_lawful lawful allowed begins changes old new tuple (Ms asked) (space.refused OutOfMemory) may step same law =
    same_content lawful old new (ap (λ (s : SpaceValue). permanent_tuples s.entries) step.1) same law
out_lawful lawful allowed begins changes old new tuple (Ms asked) _ may step same law = absurd step

-- one commit more, where the limit isn't reached
within-more : (limit : Option ℕ) (commits : ℕ) → is_reached limit commits ≡ false → IsWithin limit commits → IsWithin limit (commits + 1)
within-more None commits below within = tt
within-more (Some limit) commits below within =
    let differs : commits ≢ limit = eqb-false commits limit below in
    omega (arith, differs, within)

-- a space that is closed stays so
abbrev StaysClosed : Place → Place → Type 0
StaysClosed old new = old.closed ≡ true → new.closed ≡ true

module _ (lawful : Content → ℕ → Type 0) (allowed : Content → Content → Content → Type 0) (begins : ℕ → Type 0) (changes : Type 0) (limit : Option ℕ) (reached : Place → Type 0) (goes_on : GoesOn allowed begins changes limit reached) where
  -- an act that leaves the number of commits, and leads to lawful content
  pub under_uncounted : (old new : Place) (act : Act) → IsAllowedAct allowed begins changes act → Acts limit old act new → ActsOnContent old.world act new.world
      → lawful (content_of new.world) new.world.commits → new.world.commits ≡ old.world.commits → StaysClosed old new → IsUnderLaw lawful limit reached old → IsUnderLaw lawful limit reached new
  under_uncounted old new act may acts on law same closed h = record {
    content = law;
    limited = record {
      within = subst (IsWithin limit) (sym same) h.limited.within;
      closed = λ at. closed (h.limited.closed (subst (λ (n : ℕ). is_reached limit n ≡ true) same at));
    };
    place = goes_on old new act may acts on h.place;
  }

  -- an act that leaves the content
  pub under_kept : IsUnordered lawful → (old new : Place) (act : Act) → IsAllowedAct allowed begins changes act → Acts limit old act new → KeepsContent old.world new.world
      → ActsOnContent old.world act new.world → StaysClosed old new → IsUnderLaw lawful limit reached old → IsUnderLaw lawful limit reached new
  under_kept unordered old new act may acts keeps on closed h =
      under_uncounted old new act may acts on (stays_lawful lawful unordered old.world new.world keeps h.content) keeps.counted closed h

  -- an accepted commit that is allowed
  pub under_committed : IsUnordered lawful → IsKept lawful allowed → (old new : Place) (t : TxnValue) → MayCommit allowed t → Acts limit old (asks (call t commit) (answered done t)) new
      → ChangesContent old.world new.world t → IsUnderLaw lawful limit reached old → IsUnderLaw lawful limit reached new
  under_committed unordered keeps old new t may acts change h = record {
    content = commit_lawful lawful allowed unordered keeps old.world new.world t change may h.content;
    limited = record {
      within = subst (IsWithin limit) (sym change.counted) (within-more limit old.world.commits acts.0 h.limited.within);
      closed = λ at. ap (λ (p : Place). p.closed) acts.2 ∙ or_right old.closed (is_reached limit new.world.commits) at;
    };
    place = goes_on old new (asks (call t commit) (answered done t)) may acts change h.place;
  }

-- without a limit, a step within it is one of the machine
pub machine_step : (old new : Place) (event : Event) (reply : Reply) → DidWithin None old event reply new → Did old event reply new
machine_step old new (call t commit) limited h = absurd (false≢true h.0)
machine_step old new (call t commit) (answered answer t') h =
    (h.1, h.2 ∙ ap (λ b. record old { world = new.world; closed = b }) (or-false old.closed))
machine_step old new (call t commit) _ h = absurd h
machine_step old new (call t (inp_in template)) reply h = h
machine_step old new (call t (rdp_in template)) reply h = h
machine_step old new (call t (renew_txn asked)) reply h = h
machine_step old new (call t abort) reply h = h
machine_step old new (begin asked) reply h = h
machine_step old new (advance moment) reply h = h
machine_step old new (close template) reply h = h
machine_step old new ask reply h = h

-- and the other way round
pub step_within : (old new : Place) (event : Event) (reply : Reply) → Did old event reply new → DidWithin None old event reply new
step_within old new (call t commit) (answered answer t') h =
    (refl, h.0, h.1 ∙ ap (λ b. record old { world = new.world; closed = b }) (sym (or-false old.closed)))
step_within old new (call t commit) _ h = absurd h
step_within old new (call t (inp_in template)) reply h = h
step_within old new (call t (rdp_in template)) reply h = h
step_within old new (call t (renew_txn asked)) reply h = h
step_within old new (call t abort) reply h = h
step_within old new (begin asked) reply h = h
step_within old new (advance moment) reply h = h
step_within old new (close template) reply h = h
step_within old new ask reply h = h

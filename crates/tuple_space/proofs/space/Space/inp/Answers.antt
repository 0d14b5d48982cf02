use Rattle.std.proofs.Common.{◌≡◌, ◌∙◌, List, Some, ap, eqb, subst, sym}
use Rattle.std.specs.Prelude.{find, not}
use Rattle.std.proofs.lemmas.Option.{none-some, same_Some}
use Rattle.tuple_match.specs.Matching.{does_match}
use Rattle.tuple_match.specs.PatternValue.{PatternValue}
use Rattle.tuple_space.specs.Entry.{can_be_read, is_held}
use Rattle.tuple_space.specs.Rows.{without}
use Rattle.tuple_space.specs.Space.{IsSpace, SpaceValue, space_of, with_entries}
use Rattle.tuple_space.specs.Step.{IsHad}
use Rattle.tuple_space.specs.declared.entry.Entry.{Entry}
use Rattle.tuple_space.specs.declared.entry.Claim.TheVariants.{Take}
use Rattle.tuple_space.proofs.EndLemmas.{watched_filter}
use Rattle.tuple_space.proofs.HeldLemmas.{found_free, held_filter, open_free}
use Rattle.tuple_space.proofs.RowLemmas.{stands_found}
use Rattle.tuple_space.proofs.SpaceLemmas.{IsSpace-filter}
use Rattle.tuple_space.proofs.space.Space.inp.Goals as goal

abbrev Had : SpaceValue → List PatternValue → Entry → Type 0
Had w template e = IsHad w Take template e

had_found : (w : SpaceValue) (template : List PatternValue) (x : Entry) → IsSpace w → Had w template x → Some x ≡ find (λ (e : Entry). eqb e.number x.number) w.entries
had_found w template x valid had = stands_found w.entries x valid.rising had.stands

pub returns-in_err-entry : goal.returns-in_err-entry
returns-in_err-entry c =
    let s = c.self.inside in
    let w = space_of s.entries.items s.moment s.last in
    let x = c.in_ok-number.field-0.now in
    let had : Had w c.args.template.now x = subst (λ (v : SpaceValue). Had v c.args.template.now x) (sym c.self.view_is) c.in_ok-number.ensures.found in
    let found = had_found w c.args.template.now x c.self.invariant.0 had in
    absurd (none-some x (sym c.in_err-entry.was ∙ c.take_number.ensures.value ∙ sym found))

pub invariant_of-self : goal.invariant_of-self
invariant_of-self c =
    let s = c.self.inside in
    let w = space_of s.entries.items s.moment s.last in
    let x = c.in_ok-number.field-0.now in
    let had : Had w c.args.template.now x = subst (λ (v : SpaceValue). Had v c.args.template.now x) (sym c.self.view_is) c.in_ok-number.ensures.found in
    let found = had_found w c.args.template.now x c.self.invariant.0 had in
    absurd (none-some x (sym c.in_err-entry.was ∙ c.take_number.ensures.value ∙ sym found))

pub invariant_of-self-2 : goal.invariant_of-self-2
invariant_of-self-2 c =
    let s = c.self.inside in
    let w = space_of s.entries.items s.moment s.last in
    let x = c.in_ok-number.field-0.now in
    let had : Had w c.args.template.now x = subst (λ (v : SpaceValue). Had v c.args.template.now x) (sym c.self.view_is) c.in_ok-number.ensures.found in
    let found = had_found w c.args.template.now x c.self.invariant.0 had in
    let free = open_free (can_be_read s.moment x) (is_held x) (does_match c.args.template.now x.tuple) had.can in
    let stays = λ (e : Entry). not (eqb e.number x.number) in
    rw c.take_number.ensures.rest (
      IsSpace-filter stays s.entries.items s.moment s.last s.moment c.self.invariant.0.early c.self.invariant.0,
      held_filter stays s.held.items s.entries.items (found_free x.number x s.entries.items c.self.invariant.0.rising found free) c.self.invariant.1,
      rw c.take_number.ensures.rest at c.take_number.ensures.indexed,
      watched_filter s.ends.rows s.moment stays s.entries.items c.self.invariant.3,
    )

pub returns : goal.returns
returns c =
    let s = c.self.inside in
    let w = space_of s.entries.items s.moment s.last in
    let x = c.in_ok-number.field-0.now in
    let had : Had w c.args.template.now x = subst (λ (v : SpaceValue). Had v c.args.template.now x) (sym c.self.view_is) c.in_ok-number.ensures.found in
    let found = had_found w c.args.template.now x c.self.invariant.0 had in
    let y = c.in_ok-entry.entry in
    let same = same_Some y x (sym c.in_ok-entry.was ∙ c.take_number.ensures.value ∙ sym found) in
    record {
      step = subst
          (λ (v : SpaceValue). (z : Entry) × IsHad v Take c.args.template.now z × (c.new.result ≡ z.number) × (y.tuple ≡ z.tuple)
          × (space_of c.take_number.new.entries.items s.moment s.last ≡ with_entries v (without z.number v.entries)))
          c.self.view_is (
            x,
            had,
            c.new.ensures,
            ap (λ (e : Entry). e.tuple) same,
            ap (λ (l : List Entry). space_of l s.moment s.last) c.take_number.ensures.rest,
          );
    }

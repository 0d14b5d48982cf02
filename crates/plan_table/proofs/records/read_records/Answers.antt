use Rattle.std.proofs.Common.{Bor, List, ℕ, ◌∙◌, sym, refl, ap, inl, inr, Some, ◌∷◌, ◌++◌, []}
use Rattle.csv.specs.Reading.{Reached, strip_bom}
use Rattle.csv.specs.Records.{fields_of}
use Rattle.csv.specs.declared.parser.State.TheVariants as state
use Rattle.csv.proofs.ReadFacts.{rows-end, rows-more}
use Rattle.plan_table.specs.Separators.{separator_of}
use Rattle.plan_table.specs.Table.{config_of}
use Rattle.plan_table.specs.Tidy.{tidied_record, unless_empty}
use Rattle.plan_table.proofs.TidyRecords.{tidied-more}
use Rattle.plan_table.proofs.records.read_records.Goals as goal

pub loop-record-init : goal.loop-record-init
unfolding Reached
loop-record-init c =
    let fresh = c.from_reader-reader.ensures in
    let named = c.has_headers.ensures in
    let loose = c.flexible.ensures in
    let divided = c.delimiter.ensures in
    let start = c.into_iter-record-iterator.ensures.into_iter_gives ∙ refl in
    let reader = c.into_records-record-items.ensures.rdr in
    let left = c.into_records-record-items.ensures.left in
    rw (start, reader, c.new-records.ensures.items) (
      rw (divided, loose, named) at fresh.trim ∙ c.new.ensures.trim,
      inr (inr (rw (divided, loose, named) at fresh.has_headers, fresh.headers)),
      left,
      rw (c.byte.ensures, c.separator_of-separator.ensures, c.without_bom-content.ensures, c.new.ensures.config) at (rw (divided, loose, named) at fresh.config),
      strip_bom c.args.text.now,
      fresh.source,
      [],
      refl,
      (sym fresh.state, refl),
    )

pub loop-record-preserved : goal.loop-record-preserved
loop-record-preserved c =
    let so_far = c.loop-record.invariant in
    let config = config_of (separator_of (strip_bom c.args.text.now)) in
    let step = rw (c.in-Some.is, c.in-Ok.is) at ((c.next.ensures.steps so_far.2 so_far.0).0 so_far.1) in
    let raw = so_far.6 in
    let fields = fields_of c.in-Ok.record in
    let more = rows-more (λ (s : Bor (List ℕ)). Some s.now) c.loop-record.record-iterator.rdr c.next.new.self.rdr fields config state.StartRecord (strip_bom c.args.text.now) so_far.4 raw so_far.3 so_far.5 so_far.8 step.0 in (
      step.0.3 ∙ so_far.0,
      inl step.1,
      step.3,
      step.0.2 ∙ so_far.3,
      more.0,
      more.1,
      raw ++ fields ∷ [],
      c.in_ok-push_tidied-in-Ok.ensures ∙ ap (λ l. l ++ unless_empty (tidied_record fields)) so_far.7 ∙ sym (tidied-more raw fields),
      more.2,
    )

pub returns : goal.returns
returns c =
    let so_far = c.loop-record.invariant in
    let config = config_of (separator_of (strip_bom c.args.text.now)) in
    let step = rw c.in-None.is at ((c.next.ensures.steps so_far.2 so_far.0).0 so_far.1) in
    record {
      written = rw (c.separator_of-separator.ensures, c.without_bom-content.ensures) at c.in_ok-check_csv.ensures.exactly;
      raw = so_far.6;
      read = (c.loop-record.record-iterator.rdr.state, so_far.4, so_far.8, rows-end (λ (s : Bor (List ℕ)). Some s.now) c.loop-record.record-iterator.rdr c.next.new.self.rdr [] config so_far.4 so_far.3 so_far.5 step);
      tidy = so_far.7;
    }

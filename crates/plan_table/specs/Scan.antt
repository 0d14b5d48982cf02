-- The first fault of a text that is not CSV: the line and the number of the field at fault.
use Rattle.std.specs.Prelude.{ℕ, ◌+◌, ◌-◌, ◌^◌, ◌==◌, min, List, [], ◌∷◌, Result, Ok, Err, if◌then◌else◌}
use Rattle.plan_table.specs.Marks.{byte_of, mark_of}
use Rattle.plan_table.specs.declared.csv_text.Mark.{Mark}
use Rattle.plan_table.specs.declared.csv_text.Mark.TheVariants.{Quote, Divider, Feed, Return, Other}
use Rattle.plan_table.specs.declared.separator.Separator.{Separator}
use Rattle.plan_table.specs.declared.csv_text.Stand.{Stand}
use Rattle.plan_table.specs.declared.csv_text.Stand.TheVariants.{Start, Bare, Quoted, Closed, Returned}
use Rattle.plan_table.specs.declared.csv_text.Reached.{Reached}
use Rattle.plan_table.specs.declared.error.Place.{Place}
use Rattle.plan_table.specs.declared.error.CsvFault.{CsvFault}
use Rattle.plan_table.specs.declared.error.Misspelling.{Misspelling}
use Rattle.plan_table.specs.declared.error.Misspelling.TheVariants.{AfterQuote, QuoteInside, LoneReturn, OpenQuote}

-- the state of a text after one more byte, or the fault of the byte
abbrev pub next_stand : Stand → Mark → Result Stand Misspelling
next_stand Start Quote = Ok Quoted
next_stand Start Divider = Ok Start
next_stand Start Feed = Ok Start
next_stand Start Return = Ok Returned
next_stand Start Other = Ok Bare
next_stand Bare Quote = Err QuoteInside
next_stand Bare Divider = Ok Start
next_stand Bare Feed = Ok Start
next_stand Bare Return = Ok Returned
next_stand Bare Other = Ok Bare
next_stand Quoted Quote = Ok Closed
next_stand Quoted Divider = Ok Quoted
next_stand Quoted Feed = Ok Quoted
next_stand Quoted Return = Ok Quoted
next_stand Quoted Other = Ok Quoted
next_stand Closed Quote = Ok Quoted
next_stand Closed Divider = Ok Start
next_stand Closed Feed = Ok Start
next_stand Closed Return = Ok Returned
next_stand Closed Other = Err AfterQuote
next_stand Returned Quote = Err LoneReturn
next_stand Returned Divider = Err LoneReturn
next_stand Returned Feed = Ok Start
next_stand Returned Return = Err LoneReturn
next_stand Returned Other = Err LoneReturn

-- the fault if a text ends there
abbrev pub end_stand : Stand → Result (Unit {0}) Misspelling
end_stand Quoted = Err OpenQuote
end_stand Returned = Err LoneReturn
end_stand Start = Ok tt
end_stand Bare = Ok tt
end_stand Closed = Ok tt

-- one more, saturating at 64 bits
abbrev pub next_number : ℕ → ℕ
next_number n = min (n + 1) (2 ^ 64 - 1)

-- a field that begins after a separator is the next one, otherwise the first
abbrev pub first_place : Separator → Place → ℕ → ℕ → Place
first_place d place byte line = record { line = line; field = if byte == byte_of d then next_number place.field else 1 }

-- where the field begins that is reached with a byte
abbrev pub place_after : Separator → Place → ℕ → Stand → ℕ → Place
place_after d place byte Start line = first_place d place byte line
place_after d place byte Bare line = place
place_after d place byte Quoted line = place
place_after d place byte Closed line = place
place_after d place byte Returned line = place

-- the number of the line after a byte: the next one after a line feed
abbrev pub line_after : ℕ → ℕ → ℕ
line_after line byte = if byte == 10 then next_number line else line

-- the state reached with one more byte
abbrev pub moved : Separator → Reached → ℕ → Stand → Reached
moved d reached byte stand = record {
  stand = stand;
  line = line_after reached.line byte;
  place = place_after d reached.place byte stand (line_after reached.line byte);
}

-- a fault of the field that has been reached
abbrev pub at_place : {A B : Type 0} → Place → (A → B) → Result A Misspelling → Result B CsvFault
at_place place f (Ok a) = Ok (f a)
at_place place f (Err fault) = Err (record { place = place; fault = fault })

-- the state reached with one more byte, or the fault of the field that it causes
abbrev pub reached_after : Separator → Reached → ℕ → Result Reached CsvFault
reached_after d reached byte = at_place reached.place (moved d reached byte) (next_stand reached.stand (mark_of d byte))

-- the fault, if any, of a text that ends there
abbrev pub check_end : Reached → Result (Unit {0}) CsvFault
check_end reached = at_place reached.place (λ u. u) (end_stand reached.stand)

-- the next step on a value; an error is unchanged
abbrev pub and_then : {A B E : Type 0} → Result A E → (A → Result B E) → Result B E
and_then (Ok a) f = f a
and_then (Err e) f = Err e

-- the rest of a text, from a state
abbrev pub scan : Separator → Reached → List ℕ → Result (Unit {0}) CsvFault
scan d reached [] = check_end reached
scan d reached (b ∷ bs) = and_then (reached_after d reached b) (λ next. scan d next bs)

-- at the beginning of a text
abbrev pub begun : Reached
begun = record { stand = Start; line = 1; place = record { line = 1; field = 1 } }

-- the first fault of a text
abbrev pub first_fault : Separator → List ℕ → Result (Unit {0}) CsvFault
first_fault d text = scan d begun text

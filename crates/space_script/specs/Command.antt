-- The commands of a script, as its lines spell them.
use Rattle.std.specs.Prelude.{◌≡◌, ◌≤◌, ◌==◌, ℕ, List, [], ◌∷◌, Option, Some, None, codes, length, take, ◌-◌, slice_index, if◌then◌else◌}
use Rattle.tuple_match.specs.FieldValue.{FieldValue}
use Rattle.tuple_match.specs.PatternValue.{PatternValue}
use Rattle.tuple_space.specs.declared.lease.Lease.{Lease}
use Rattle.tuple_space.specs.declared.lease.Lease.TheVariants.{Forever, Ms}
use Rattle.space_script.specs.declared.command.Command.{Command}
use Rattle.space_script.specs.declared.command.Command.TheVariants.{Out, Inp, Rdp, Begin, Renew, Commit, Abort, Advance}
use Rattle.space_script.specs.declared.verb.Verb.{Verb}
use Rattle.space_script.specs.declared.verb.Verb.TheVariants.{Out as OutVerb, Inp as InpVerb, Rdp as RdpVerb, Begin as BeginVerb, Renew as RenewVerb, Commit as CommitVerb, Abort as AbortVerb, Advance as AdvanceVerb}
use Rattle.space_script.specs.Field.{AreTupleWords, AreTemplateWords}
use Rattle.space_script.specs.Number.{IsCount}
use Rattle.space_script.specs.Words.{words_of}

-- the word of a transaction's number, or a dash for no transaction
abbrev pub IsUnder : List ℕ → Option ℕ → Type 0
IsUnder word None = word ≡ codes "-"
IsUnder word (Some number) = IsCount word number

-- the word of a lease: `forever`, or a count of milliseconds
abbrev pub IsLeaseWord : List ℕ → Lease → Type 0
IsLeaseWord word Forever = word ≡ codes "forever"
IsLeaseWord word (Ms milliseconds) = IsCount word milliseconds

-- the first word of a command
abbrev pub verb_word : Verb → List ℕ
verb_word OutVerb = codes "out"
verb_word InpVerb = codes "inp"
verb_word RdpVerb = codes "rdp"
verb_word BeginVerb = codes "begin"
verb_word RenewVerb = codes "renew"
verb_word CommitVerb = codes "commit"
verb_word AbortVerb = codes "abort"
verb_word AdvanceVerb = codes "advance"

-- a transaction or none, a lease, and a tuple's fields
pub record IsOffer (words : List (List ℕ)) (under : Option ℕ) (lease : Lease) (tuple : List FieldValue) : Type 0 where
  pub first : List ℕ
  pub second : List ℕ
  pub rest : List (List ℕ)
  pub is : words ≡ first ∷ second ∷ rest
  pub transaction : IsUnder first under
  pub leased : IsLeaseWord second lease
  pub fields : AreTupleWords rest tuple

-- one count
pub record IsOneCount (words : List (List ℕ)) (n : ℕ) : Type 0 where
  pub word : List ℕ
  pub is : words ≡ word ∷ []
  pub count : IsCount word n

-- two counts
pub record AreTwoCounts (words : List (List ℕ)) (m n : ℕ) : Type 0 where
  pub first : List ℕ
  pub rest : List (List ℕ)
  pub is : words ≡ first ∷ rest
  pub count : IsCount first m
  pub last : IsOneCount rest n

-- a transaction or none, and a template's patterns
pub record IsQuestion (words : List (List ℕ)) (under : Option ℕ) (template : List PatternValue) : Type 0 where
  pub first : List ℕ
  pub rest : List (List ℕ)
  pub is : words ≡ first ∷ rest
  pub transaction : IsUnder first under
  pub patterns : AreTemplateWords rest template

-- what follows the first word of a command
abbrev pub Follows : Verb → List (List ℕ) → Command → Type 0
Follows OutVerb words (Out under lease tuple) = IsOffer words under lease tuple
Follows InpVerb words (Inp under template) = IsQuestion words under template
Follows RdpVerb words (Rdp under template) = IsQuestion words under template
Follows BeginVerb words (Begin milliseconds) = IsOneCount words milliseconds
Follows RenewVerb words (Renew transaction milliseconds) = AreTwoCounts words transaction milliseconds
Follows CommitVerb words (Commit transaction) = IsOneCount words transaction
Follows AbortVerb words (Abort transaction) = IsOneCount words transaction
Follows AdvanceVerb words (Advance moment) = IsOneCount words moment
Follows _ _ _ = ⊥

-- verbs that are followed by one number
abbrev pub TakesOneNumber : Verb → Type 0
TakesOneNumber BeginVerb = Unit {0}
TakesOneNumber CommitVerb = Unit {0}
TakesOneNumber AbortVerb = Unit {0}
TakesOneNumber AdvanceVerb = Unit {0}
TakesOneNumber _ = ⊥

-- the words of a command
pub record IsCommand (words : List (List ℕ)) (command : Command) : Type 0 where
  pub verb : Verb
  pub rest : List (List ℕ)
  pub is : words ≡ verb_word verb ∷ rest
  pub follows : Follows verb rest command

-- the most bytes of a line, not counting the line feed that ends it
abbrev pub longest_line : ℕ
longest_line = 65536

-- a line without the carriage return at its end
abbrev pub without_return : List ℕ → List ℕ
without_return line = if slice_index line (length line - 1) == 13 then take (length line - 1) line else line

-- a line without a request: it has no words
pub record IsBlankLine (line : List ℕ) : Type 0 where
  pub short : length line ≤ longest_line
  pub none : words_of (without_return line) ≡ []

-- a line with this request
pub record IsCommandLine (line : List ℕ) (command : Command) : Type 0 where
  pub short : length line ≤ longest_line
  pub spelled : IsCommand (words_of (without_return line)) command

-- a line that is neither
pub record IsBadLine (line : List ℕ) : Type 0 where
  pub not_blank : IsBlankLine line → ⊥
  pub no_command : (command : Command) → IsCommandLine line command → ⊥

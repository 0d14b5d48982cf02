-- Words that spell no command, and lines that ask for nothing.
use Rattle.std.proofs.Common.{◌≡◌, ℕ, ◌<◌, List, ◌∷◌, length, drop, sym, ap, subst, ◌∙◌, arith}
use Rattle.space_script.specs.declared.command.Command.{Command}
use Rattle.space_script.specs.declared.command.Command.TheVariants.{Renew}
use Rattle.space_script.specs.declared.verb.Verb.TheVariants.{Renew as RenewVerb}
use Rattle.space_script.specs.Command.{Follows, IsOneCount, IsCommand, IsBadLine, longest_line, without_return}
use Rattle.space_script.specs.Words.{words_of}

-- behind the first word of a renewal stands one count
pub no_renewal : (words rest : List (List ℕ)) (first : List ℕ) → words ≡ first ∷ rest → ((n : ℕ) → IsOneCount rest n → ⊥)
    → (command : Command) → Follows RenewVerb words command → ⊥
no_renewal words rest first is none (Renew transaction milliseconds) follows =
    none milliseconds (subst (λ l. IsOneCount l milliseconds) (ap (drop 1) (sym follows.is ∙ is)) follows.last)
no_renewal words rest first is none _ follows = absurd follows

-- a line that is too long
pub long_line : (line : List ℕ) → longest_line < length line → IsBadLine line
long_line line long = record {
  not_blank = λ blank. omega (arith, long, blank.short);
  no_command = λ command asked. omega (arith, long, asked.short);
}

-- a line with words that spell no command
pub worded_line : (line : List ℕ) (words : List (List ℕ)) → words ≡ words_of (without_return line) → 0 < length words
    → ((command : Command) → IsCommand words command → ⊥) → IsBadLine line
worded_line line words is some none = record {
  not_blank = λ blank. omega (arith, some, ap length (is ∙ blank.none));
  no_command = λ command asked. none command (subst (λ l. IsCommand l command) (sym is) asked.spelled);
}

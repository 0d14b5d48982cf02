-- The bytes of a word are ASCII.
use Rattle.std.proofs.lemmas.Str.{IsUtf8-from_ascii}
use Rattle.space_script.proofs.WordTexts.{ascii_word}
use Rattle.space_script.proofs.fields.read_word.Goals as goal

pub returns-in_default : goal.returns-in_default
returns-in_default c word = c.in_default.ensures.cases.0 (IsUtf8-from_ascii c.args.word.now (ascii_word c.args.word.now word))

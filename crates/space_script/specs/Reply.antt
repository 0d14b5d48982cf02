-- The replies of a script, as its output spells them: each has exactly one text.
use Rattle.std.specs.Prelude.{ℕ, List, [], ◌∷◌, ◌++◌, ℤ, codes}
use Rattle.std.specs.Fmt.{decimal, signed_decimal}
use Rattle.tuple_match.specs.FieldValue.{FieldValue, number, word, numbers}
use Rattle.space_script.specs.declared.reply.Reply.{Reply}
use Rattle.space_script.specs.declared.reply.Reply.TheVariants.{Done, Begun, Got, Nothing, Refused}

-- numbers, each after a comma
abbrev pub behind_commas : List ℤ → List ℕ
behind_commas [] = []
behind_commas (z ∷ zs) = 44 ∷ signed_decimal z ++ behind_commas zs

-- numbers, separated by single commas
abbrev pub between_commas : List ℤ → List ℕ
between_commas [] = []
between_commas (z ∷ zs) = signed_decimal z ++ behind_commas zs

-- a field as it is printed
abbrev pub field_text : FieldValue → List ℕ
field_text (number z) = signed_decimal z
field_text (word bytes) = bytes
field_text (numbers zs) = codes "[" ++ between_commas zs ++ codes "]"

-- fields, each after a space
abbrev pub fields_text : List FieldValue → List ℕ
fields_text [] = []
fields_text (field ∷ fields) = 32 ∷ field_text field ++ fields_text fields

-- the line of a reply
abbrev pub reply_text : Reply → List ℕ
reply_text Done = codes "ok\n"
reply_text (Begun transaction) = codes "txn " ++ decimal transaction ++ codes "\n"
reply_text (Got tuple) = codes "got" ++ fields_text tuple ++ codes "\n"
reply_text Nothing = codes "none\n"
reply_text (Refused refusal) = codes "refused " ++ decimal refusal ++ codes "\n"

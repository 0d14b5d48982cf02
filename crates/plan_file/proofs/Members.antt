-- The keys of a table, and the texts at them.
use Rattle.std.proofs.Common.{◌≡◌, ◌∙◌, ℕ, ℤ, Bool, ap, sym, Bor, BTreeMap, List, [], ◌∷◌, Option, Some, None, String, Global, option_map, string_bytes}
use Rattle.std.specs.Prelude.{⊤, MatchOption, option_copied}
use Rattle.std.specs.Map.{keys_of}
use Rattle.toml.specs.Data.{Data, Items, Members, get_member, string, integer, float, boolean, datetime, array, table, as_array, as_bool, as_integer, as_str, as_table}
use Rattle.toml.specs.View.{members_view, table_view, view}
use Rattle.toml.specs.declared.value.Value.{Value}
use Rattle.toml.proofs.Views.{Entry}
use Rattle.plan_file.specs.Plan.{AreKnown, IsKnown}

-- a value of which a text is found is that text
pub text_of : (d : Data) (s : List ℕ) → Some s ≡ as_str d → d ≡ string s
text_of (string t) s is = cc
text_of (integer z) s is = absurd (cc)
text_of (float x) s is = absurd (cc)
text_of (boolean b) s is = absurd (cc)
text_of (datetime t) s is = absurd (cc)
text_of (array ds) s is = absurd (cc)
text_of (table ms) s is = absurd (cc)

-- a value of which none is found is no text
pub no_text : (d : Data) (s : List ℕ) → None ≡ as_str d → d ≡ string s → ⊥
no_text (string t) s none is = absurd (cc)
no_text (integer z) s none is = absurd (cc)
no_text (float x) s none is = absurd (cc)
no_text (boolean b) s none is = absurd (cc)
no_text (datetime t) s none is = absurd (cc)
no_text (array ds) s none is = absurd (cc)
no_text (table ms) s none is = absurd (cc)

-- what is found at a key
pub found_at : (key : List ℕ) (ms : Members) (found : Option (Bor Value)) → option_map (λ v. view v.now) found ≡ get_member key ms
    → MatchOption found (get_member key ms ≡ None) (λ v. get_member key ms ≡ Some (view v.now))
found_at key ms None is = sym is
found_at key ms (Some v) is = sym is

-- what a value is, or is not
pub text_or_none : (d : Data) (found : Option (Bor (List ℕ))) → option_copied found ≡ as_str d → MatchOption found ((s : List ℕ) → d ≡ string s → ⊥) (λ s. d ≡ string s.now)
text_or_none d None is = λ s same. no_text d s is same
text_or_none d (Some s) is = text_of d s.now is

-- a value is the integer that is found of it, or it is none
pub number_or_none : (d : Data) (found : Option ℤ) → found ≡ as_integer d → MatchOption found ((z : ℤ) → d ≡ integer z → ⊥) (λ z. d ≡ integer z)
number_or_none d None is = λ z same. absurd (let differs = is ∙ ap as_integer same in cc)
number_or_none (integer y) (Some z) is = cc
number_or_none (string t) (Some z) is = absurd (cc)
number_or_none (float x) (Some z) is = absurd (cc)
number_or_none (boolean b) (Some z) is = absurd (cc)
number_or_none (datetime t) (Some z) is = absurd (cc)
number_or_none (array ds) (Some z) is = absurd (cc)
number_or_none (table ms) (Some z) is = absurd (cc)

-- a value says true or false as it is found of it, or neither
pub bool_or_none : (d : Data) (found : Option Bool) → found ≡ as_bool d → MatchOption found ((b : Bool) → d ≡ boolean b → ⊥) (λ b. d ≡ boolean b)
bool_or_none d None is = λ b same. absurd (let differs = is ∙ ap as_bool same in cc)
bool_or_none (boolean a) (Some b) is = cc
bool_or_none (string t) (Some b) is = absurd (cc)
bool_or_none (integer z) (Some b) is = absurd (cc)
bool_or_none (float x) (Some b) is = absurd (cc)
bool_or_none (datetime t) (Some b) is = absurd (cc)
bool_or_none (array ds) (Some b) is = absurd (cc)
bool_or_none (table ms) (Some b) is = absurd (cc)

-- a value is the table that is found of it, or it is none
pub table_or_none : (d : Data) (found : Option (Bor (BTreeMap (String Global) Value))) → option_map (λ m. table_view m.now) found ≡ as_table d
    → MatchOption found ((ms : Members) → d ≡ table ms → ⊥) (λ m. d ≡ table (table_view m.now))
table_or_none d None is = λ ms same. absurd (let differs = is ∙ ap as_table same in cc)
table_or_none (table ms) (Some m) is = cc
table_or_none (string t) (Some m) is = absurd (cc)
table_or_none (integer z) (Some m) is = absurd (cc)
table_or_none (float x) (Some m) is = absurd (cc)
table_or_none (boolean b) (Some m) is = absurd (cc)
table_or_none (datetime t) (Some m) is = absurd (cc)
table_or_none (array ds) (Some m) is = absurd (cc)

-- the items of what is seen as a list
pub list_of : (d : Data) (items : Items) → Some items ≡ as_array d → d ≡ array items
list_of (array ds) items is = cc
list_of (string t) items is = absurd (cc)
list_of (integer z) items is = absurd (cc)
list_of (float x) items is = absurd (cc)
list_of (boolean b) items is = absurd (cc)
list_of (datetime t) items is = absurd (cc)
list_of (table ms) items is = absurd (cc)

-- names that a plan may have as keys
abbrev pub AreKnownNames : List (String Global) → Type 0
AreKnownNames [] = ⊤
AreKnownNames (k ∷ ks) = IsKnown (string_bytes k) × AreKnownNames ks

-- where all keys of a table are known, so are the names of its entries
pub names_known : (es : List Entry) → AreKnown (members_view es) → AreKnownNames (keys_of es)
names_known [] known = tt
names_known (e ∷ es) known = (known.0, names_known es known.1)

-- and conversely
pub keys_known : (es : List Entry) → AreKnownNames (keys_of es) → AreKnown (members_view es)
keys_known [] known = tt
keys_known (e ∷ es) known = (known.0, keys_known es known.1)

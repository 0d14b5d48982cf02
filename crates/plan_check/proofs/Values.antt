-- What a JSON value is, by what is found in it.
use Rattle.std.proofs.Common.{◌≡◌, ◌≢◌, ℕ, ap, sym, Bor, List, Option, Some, None, option_map}
use Rattle.std.specs.Prelude.{MatchOption, option_and_then}
use Rattle.serde_json.specs.Data.{Data, Items, null, boolean, number, string, array, object, unsigned, negative, float}
use Rattle.serde_json.specs.Find.{as_array, as_number, as_str, as_u64}
use Rattle.serde_json.specs.View.{items_of, view}
use Rattle.serde_json.specs.declared.value.Value.{Value}

text_of : (d : Data) (s : List ℕ) → Some s ≡ as_str d → d ≡ string s
text_of null s is = absurd (cc)
text_of (boolean b) s is = absurd (cc)
text_of (number n) s is = absurd (cc)
text_of (string t) s is = cc
text_of (array ds) s is = absurd (cc)
text_of (object ms) s is = absurd (cc)

no_text : (d : Data) (s : List ℕ) → None ≡ as_str d → d ≢ string s
no_text d s none = λ is. let some : as_str d ≡ Some s = ap as_str is in absurd (cc)

whole_of : (d : Data) (n : ℕ) → Some n ≡ option_and_then as_u64 (as_number d) → d ≡ number (unsigned n)
whole_of null n is = absurd (cc)
whole_of (boolean b) n is = absurd (cc)
whole_of (number (unsigned m)) n is = cc
whole_of (number (negative z)) n is = absurd (cc)
whole_of (number (float x)) n is = absurd (cc)
whole_of (string t) n is = absurd (cc)
whole_of (array ds) n is = absurd (cc)
whole_of (object ms) n is = absurd (cc)

no_whole : (d : Data) (n : ℕ) → None ≡ option_and_then as_u64 (as_number d) → d ≢ number (unsigned n)
no_whole d n none = λ is. let some : option_and_then as_u64 (as_number d) ≡ Some n = ap (λ x. option_and_then as_u64 (as_number x)) is in absurd (cc)

-- a value of which items are found is the list of these
pub list_of : (d : Data) (items : Items) → Some items ≡ as_array d → d ≡ array items
list_of null items is = absurd (cc)
list_of (boolean b) items is = absurd (cc)
list_of (number n) items is = absurd (cc)
list_of (string t) items is = absurd (cc)
list_of (array ds) items is = cc
list_of (object ms) items is = absurd (cc)

-- a value of which none are found is no list
pub no_list : (d : Data) (ds : List Data) → None ≡ as_array d → d ≢ array (items_of ds)
no_list d ds none = λ is. let some : as_array d ≡ Some (items_of ds) = ap as_array is in absurd (cc)

-- the same of what a call finds
pub text_found : (d : Data) (found : Option (Bor (List ℕ))) → option_map (λ s. s.now) found ≡ as_str d → MatchOption found ((s : List ℕ) → d ≢ string s) (λ s. d ≡ string s.now)
text_found d None is = λ s. no_text d s is
text_found d (Some s) is = text_of d s.now is

-- a value is the whole number that is found of it, or it is none
pub whole_found : (d : Data) (found : Option ℕ) → found ≡ option_and_then as_u64 (as_number d) → MatchOption found ((n : ℕ) → d ≢ number (unsigned n)) (λ n. d ≡ number (unsigned n))
whole_found d None is = λ n. no_whole d n is
whole_found d (Some n) is = whole_of d n is

-- what a lookup finds is what was wanted: a value, or none
pub value_found : (wanted : Option Data) (found : Option (Bor Value)) → option_map (λ v. view v.now) found ≡ wanted → MatchOption found (wanted ≡ None) (λ v. wanted ≡ Some (view v.now))
value_found wanted None is = sym is
value_found wanted (Some v) is = sym is

-- another value is found than this one
pub other_found : (wanted : Option Data) (v w : Data) → wanted ≡ Some v → v ≢ w → wanted ≢ Some w
other_found wanted v w found other = λ is. let same : v ≡ w = cc in other same

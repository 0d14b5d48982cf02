-- What a table has at a key.
use Rattle.std.specs.Prelude.{◌≡◌, List, [], ◌∷◌, ℕ, None, Some}
use Rattle.toml.specs.Data.{Data, Items, Members, get_member, item, no_items, string}

-- the table has this text at a key
abbrev pub HasText : Members → List ℕ → List ℕ → Type 0
HasText ms key text = get_member key ms ≡ Some (string text)

-- it has nothing there
abbrev pub HasNone : Members → List ℕ → Type 0
HasNone ms key = get_member key ms ≡ None

-- it has something there
abbrev pub HasSome : Members → List ℕ → Type 0
HasSome ms key = (d : Data) × (get_member key ms ≡ Some d)

-- these texts, as the items of a list
abbrev pub strings_of : List (List ℕ) → Items
strings_of [] = no_items
strings_of (s ∷ ss) = item (string s) (strings_of ss)

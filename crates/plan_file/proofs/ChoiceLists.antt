-- Departments with places, in a list.
use Rattle.std.proofs.Common.{◌≡◌, ◌≢◌, ◌∙◌, ◌<◌, ◌++◌, ℕ, Bool, false, true, List, [], ◌∷◌, ap, get_or, length, map, nat_eq, refl, string_bytes, sym}
use Rattle.std.proofs.lemmas.List.{get_or-map}
use Rattle.toml.specs.View.{members_view, view}
use Rattle.toml.proofs.Views.{Entry}
use Rattle.plan_file.specs.Charging.{AreChoices, IsChoice}
use Rattle.plan_file.specs.Choices.{chooser_at, chosen_at}
use Rattle.plan_file.specs.declared.source.Choice.{Choice}

-- the department at a position, from the item there
pub chooser_is : (choices : List Choice) (k : ℕ) (item : Choice) → k < length choices → item ≡ get_or choices k item → chooser_at choices k ≡ string_bytes item.department
chooser_is choices k item below is = get_or-map (λ (c : Choice). string_bytes c.department) choices k item [] below ∙ ap (λ (c : Choice). string_bytes c.department) (sym is)

-- and its places
pub chosen_is : (choices : List Choice) (k : ℕ) (item : Choice) → k < length choices → item ≡ get_or choices k item → chosen_at choices k ≡ map string_bytes item.places.items
chosen_is choices k item below is = get_or-map (λ (c : Choice). map string_bytes c.places.items) choices k item [] below ∙ ap (λ (c : Choice). map string_bytes c.places.items) (sym is)

-- what is seen of some items is not nothing
pub map-some : {A B : Type 0} (f : A → B) (xs : List A) → xs ≢ [] → map f xs ≢ []
map-some f [] some none = some refl
map-some f (x ∷ xs) some none = absurd (cc)

-- what is not empty has an item
pub some-items : {A : Type 0} (xs : List A) (n : ℕ) (empty : Bool) → n ≡ length xs → empty ≡ nat_eq n 0 → empty ≡ false → xs ≢ []
some-items xs n empty many is off none = absurd (let differs : false ≡ true = sym off ∙ is ∙ ap (λ m. nat_eq m 0) (many ∙ ap length none) in cc)

-- an entry more of a table, and its department
pub AreChoices-more : (done : List Entry) (e : Entry) (choices : List Choice) (choice : Choice) → AreChoices (members_view done) choices → IsChoice (string_bytes e.0) (view e.1) choice
    → AreChoices (members_view (done ++ e ∷ [])) (choices ++ choice ∷ [])
AreChoices-more [] e [] choice so_far is = (is, tt)
AreChoices-more [] e (c ∷ choices) choice so_far is = absurd so_far
AreChoices-more (d ∷ done) e [] choice so_far is = absurd so_far
AreChoices-more (d ∷ done) e (c ∷ choices) choice so_far is = (so_far.0, AreChoices-more done e choices choice so_far.1 is)

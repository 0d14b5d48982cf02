-- Why a value is no answer, by what was found in it.
use Rattle.std.proofs.Common.{◌≡◌, ◌≢◌, ◌∙◌, ℕ, suc, ◌+◌, ◌<◌, List, [], ◌∷◌, length, map, get_or, Option, Some, ap, arith, refl, sym}
use Rattle.std.specs.Prelude.{String, option_map, slice_get, string_bytes}
use Rattle.std.specs.declared.alloc.Global.{Global}
use Rattle.std.proofs.lemmas.List.{length-map}
use Rattle.std.proofs.lemmas.Option.{slice_get-map, slice_get_read}
use Rattle.serde_json.specs.Data.{Data, array, string}
use Rattle.serde_json.specs.View.{items_of, view}
use Rattle.serde_json.specs.declared.value.Value.{Value}
use Rattle.qap_cost.specs.Placement.{IsPlacement, Placement, StandsAt}
use Rattle.plan_check.specs.Refusal.{AreNoNumbers}
use Rattle.plan_check.specs.Stated.{whole}
use Rattle.plan_check.specs.declared.error.AnswerError.TheVariants.{NoLocation}

-- what stands at a place of a list, under a map
pub at_place : {A B : Type 0} (f : A → B) (xs : List A) (i : ℕ) (x : A) → i < length xs → x ≡ get_or xs i x → slice_get (map f xs) i ≡ Some (f x)
at_place f xs i x inside at = slice_get-map f xs i ∙ ap (option_map f) (slice_get_read xs (length xs) i x refl inside at)

-- in a list of names as JSON, each name stands at its place
pub name_at : (names : List (String Global)) (i : ℕ) (s : String Global) → i < length names → s ≡ get_or names i s → slice_get (map string (map string_bytes names)) i ≡ Some (string (string_bytes s))
name_at names i s inside at = slice_get-map string (map string_bytes names) i ∙ ap (option_map string) (at_place string_bytes names i s inside at)

-- lists that agree at each place are one
pub same_lists : {A : Type 0} (xs ys : List A) → length xs ≡ length ys → ((k : ℕ) → k < length xs → slice_get xs k ≡ slice_get ys k) → xs ≡ ys
same_lists [] [] long each = refl
same_lists [] (y ∷ ys) long each = absurd (omega arith)
same_lists (x ∷ xs) [] long each = absurd (omega arith)
same_lists (x ∷ xs) (y ∷ ys) long each =
    let first : Some x ≡ Some y = each 0 (omega arith) in
    let rest : xs ≡ ys = same_lists xs ys (omega arith) (λ k below. each (suc k) (omega arith)) in
    cc

-- a list that is found
pub lists_found : (wanted : Option Data) (v : Data) (ds es : List Data) → wanted ≡ Some v → v ≡ array (items_of ds) → ds ≡ es → wanted ≡ Some (array (items_of es))
lists_found wanted v ds es found is same = found ∙ ap Some is ∙ ap (λ (l : List Data). Some (array (items_of l))) same

-- a value that is no whole number
pub no_number : (items : List Value) (i n : ℕ) (v : Value) → i < length items → v ≡ get_or items i v → ((k : ℕ) → view v ≢ whole k) → AreNoNumbers n (map view items) (NoLocation (i + 1) n)
no_number items i n v inside at other = (
  refl,
  i,
  refl,
  omega (arith, length-map items view),
  λ k is. let here : slice_get (map view items) i ≡ Some (view v) = at_place view items i v inside at in let same : view v ≡ whole k = cc in other k same,
)

-- a facility is placed at one location
pub stands_once : (x : Placement) (f k l : ℕ) → IsPlacement x → StandsAt x f k → StandsAt x f l → k ≡ l
stands_once x f k l placed first second =
    let same : first.turn ≡ second.turn = placed.facilities.distinct first.turn second.turn first.placed second.placed (first.facility ∙ sym second.facility) in
    sym first.location ∙ ap (λ t. get_or x.places t 0) same ∙ second.location

-- Names in lists of a plan, and departments at places, one more at the end.
use Rattle.std.proofs.Common.{◌≡◌, ◌++◌, ◌∷◌, ◌∙◌, ℕ, List, [], map, String, Global, ap, refl, string_bytes, subst, sym}
use Rattle.std.proofs.lemmas.List.{map-append}
use Rattle.toml.specs.Data.{item, string, push_item}
use Rattle.toml.specs.View.{members_view, view}
use Rattle.toml.proofs.Views.{Entry}
use Rattle.qap_cost.specs.Placement.{Placement, placing}
use Rattle.plan_table.specs.Names.{AreDifferent, IsNew}
use Rattle.plan_table.proofs.NameLists.{AreDifferent-more}
use Rattle.plan_file.specs.Fixing.{AreFixed, AreNamed, IsNameAt}
use Rattle.plan_file.specs.Keys.{strings_of}
use Rattle.plan_file.specs.Plan.{ArePins, IsPin}
use Rattle.plan_table.specs.declared.pin.Pin.{Pin}

-- texts as items, with one more at the end of either
pub strings_push : (ss : List (List ℕ)) (s : List ℕ) → strings_of (ss ++ s ∷ []) ≡ push_item (strings_of ss) (string s)
strings_push [] s = refl
strings_push (t ∷ ss) s = ap (item (string t)) (strings_push ss s)

-- one pin more, with the numbers of its department and its place at the ends of the lists
pub AreNamed-more : (departments places : List (List ℕ)) (pins : List Pin) (fs ks : List ℕ) (pin : Pin) (f k : ℕ) → AreNamed departments places pins fs ks → IsNameAt departments f (string_bytes pin.department)
    → IsNameAt places k (string_bytes pin.place) → AreNamed departments places (pins ++ pin ∷ []) (fs ++ f ∷ []) (ks ++ k ∷ [])
AreNamed-more departments places [] [] [] pin f k so_far department place = (department, place, tt)
AreNamed-more departments places [] [] (l ∷ ks) pin f k so_far department place = absurd so_far
AreNamed-more departments places [] (g ∷ fs) ks pin f k so_far department place = absurd so_far
AreNamed-more departments places (p ∷ pins) [] ks pin f k so_far department place = absurd so_far
AreNamed-more departments places (p ∷ pins) (g ∷ fs) [] pin f k so_far department place = absurd so_far
AreNamed-more departments places (p ∷ pins) (g ∷ fs) (l ∷ ks) pin f k so_far department place =
    (so_far.0, so_far.1, AreNamed-more departments places pins fs ks pin f k so_far.2 department place)

-- a department more stands at its place
pub AreFixed-more : (departments places : List (List ℕ)) (pins : List Pin) (x newer : Placement) (pin : Pin) (f k : ℕ) → AreFixed pins departments places x → IsNameAt departments f (string_bytes pin.department)
    → IsNameAt places k (string_bytes pin.place) → newer ≡ placing x f k → AreFixed (pins ++ pin ∷ []) departments places newer
AreFixed-more departments places pins x newer pin f k so_far department place placed =
    subst (AreFixed (pins ++ pin ∷ []) departments places) (sym placed) (record {
      size = so_far.size;
      named = AreNamed-more departments places pins x.facilities x.places pin f k so_far.named department place;
    })

-- an entry more of a table, and its pin
pub ArePins-more : (done : List Entry) (e : Entry) (pins : List Pin) (pin : Pin) → ArePins (members_view done) pins → IsPin (string_bytes e.0) (view e.1) pin → ArePins (members_view (done ++ e ∷ [])) (pins ++ pin ∷ [])
ArePins-more [] e [] pin so_far is = (is, tt)
ArePins-more [] e (p ∷ pins) pin so_far is = absurd so_far
ArePins-more (d ∷ done) e [] pin so_far is = absurd so_far
ArePins-more (d ∷ done) e (p ∷ pins) pin so_far is = (so_far.0, ArePins-more done e pins pin so_far.1 is)

-- one name more
pub names_more : (names newer : List (String Global)) (own : String Global) → newer ≡ names ++ own ∷ [] → AreDifferent (map string_bytes names) → IsNew (map string_bytes names) (string_bytes own)
    → AreDifferent (map string_bytes newer)
names_more names newer own pushed different new =
    let is = ap (map string_bytes) pushed ∙ map-append string_bytes names (own ∷ []) in
    subst AreDifferent (sym is) (AreDifferent-more (map string_bytes names) (string_bytes own) different new)

-- A reason for which a text is refused keeps it from being an answer.
use Rattle.std.proofs.Common.{◌≡◌, ◌≢◌, ◌∙◌, ℕ, ◌+◌, ◌<◌, ◌≤◌, List, [], ◌∷◌, length, map, get_or, Option, Some, None, ap, arith, inl, inr, refl, subst, sym, ℤ, ◌≤ℤ◌, unsigned_abs}
use Rattle.std.specs.Prelude.{codes, option_map, slice_get, string_bytes}
use Rattle.std.proofs.lemmas.List.{get_or-map, length-map}
use Rattle.std.proofs.lemmas.Option.{slice_get-get_or, slice_get-map}
use Rattle.serde_json.specs.Data.{Data, array, string}
use Rattle.serde_json.specs.Find.{get}
use Rattle.serde_json.specs.View.{items_of}
use Rattle.qap_cost.specs.Bijection.{IsBijection}
use Rattle.qap_cost.specs.Instance.{Problem}
use Rattle.qap_cost.specs.Objective.{cost_of}
use Rattle.qap_cost.specs.Placement.{Completes, Placement, root_of}
use Rattle.plan_table.specs.Decimal.{max_number}
use Rattle.plan_table.specs.Spelling.{Spells}
use Rattle.plan_file.specs.declared.tables.NamedProblem.{NamedProblem}
use Rattle.plan_answer.specs.Answer.{cost_scale}
use Rattle.plan_check.specs.Answer.{IsAnswerToInstance, IsAnswerToPlan, IsBoundStated, IsJsonOf, IsStated, ListsLocations}
use Rattle.plan_check.specs.Names.{HasNamesOf, HasNoNames, MayList, arrangement_of}
use Rattle.plan_check.specs.Refusal.{AreNoLocations, AreNoNumbers, HasNoText, IsMisnamed, IsMoved, IsNamed, IsNoBound, IsNoJson, IsOtherCost, IsOtherStatus, IsRefusedByInstance, IsRefusedByPlan, IsUnstated, ListsNoneKept, StatesNoBound, StatesOtherCost}
use Rattle.plan_check.specs.Stated.{StatesNumber, StatesText, status_of, whole}
use Rattle.plan_check.specs.declared.error.AnswerError.{AnswerError}
use Rattle.plan_check.specs.declared.error.AnswerError.TheVariants.{LocationTwice, Moved, Named, NoJson, NoLocation, NoText, OtherBound, OtherCost, OtherCount, OtherName, OtherNames, OtherStatus, OutOfMemory}

-- a key has one list, one text and one value
same_items : (ds es : List Data) → items_of ds ≡ items_of es → ds ≡ es
same_items [] [] same = refl
same_items [] (e ∷ es) same = absurd (cc)
same_items (d ∷ ds) [] same = absurd (cc)
same_items (d ∷ ds) (e ∷ es) same =
    let first : d ≡ e = cc in
    let rest : items_of ds ≡ items_of es = cc in
    let others = same_items ds es rest in
    cc

one_list : (wanted : Option Data) (ds es : List Data) → wanted ≡ Some (array (items_of ds)) → wanted ≡ Some (array (items_of es)) → ds ≡ es
one_list wanted ds es first second = let same : items_of ds ≡ items_of es = cc in same_items ds es same

one_text : (wanted : Option Data) (s t : List ℕ) → wanted ≡ Some (string s) → wanted ≡ Some (string t) → s ≡ t
one_text wanted s t first second = cc

same_wholes : (ns ms : List ℕ) → map whole ns ≡ map whole ms → ns ≡ ms
same_wholes [] [] same = refl
same_wholes [] (m ∷ ms) same = absurd (cc)
same_wholes (n ∷ ns) [] same = absurd (cc)
same_wholes (n ∷ ns) (m ∷ ms) same =
    let first : n ≡ m = cc in
    let rest : map whole ns ≡ map whole ms = cc in
    let others = same_wholes ns ms rest in
    cc

same_counted : (p q : List ℕ) → map (λ k. k + 1) p ≡ map (λ k. k + 1) q → p ≡ q
same_counted [] [] same = refl
same_counted [] (l ∷ q) same = absurd (cc)
same_counted (k ∷ p) [] same = absurd (cc)
same_counted (k ∷ p) (l ∷ q) same =
    let one_more : k + 1 ≡ l + 1 = cc in
    let first : k ≡ l = omega arith in
    let rest : map (λ k. k + 1) p ≡ map (λ k. k + 1) q = cc in
    let others = same_counted p q rest in
    cc

one_listing : (d : Data) (p q : List ℕ) → ListsLocations d p → ListsLocations d q → p ≡ q
one_listing d p q first second =
    same_counted p q (same_wholes (map (λ k. k + 1) p) (map (λ k. k + 1) q) (one_list (get (codes "permutation") d) _ _ first second))

one_value : (text : List ℕ) (d e : Data) → IsJsonOf text d → IsJsonOf text e → d ≡ e
one_value text d e first second = cc (first.read, second.read)

-- the text is JSON
no_json : (text : List ℕ) (e : AnswerError) (d : Data) → IsNoJson text e → e ≢ OutOfMemory → IsJsonOf text d → ⊥
no_json text (NoJson line column) d why other json = let none = why json.utf8 in absurd (cc (none, json.read))
no_json text OutOfMemory d why other json = other refl
no_json text _ d why other json = absurd why

-- whole numbers are listed
no_numbers : (n : ℕ) (ns : List ℕ) (ds : List Data) (e : AnswerError) → ds ≡ map whole ns → AreNoNumbers n ds e → e ≢ OutOfMemory → ⊥
no_numbers n ns ds (NoLocation number size) same why other =
    let (size_is, i, number_is, inside, none) = why in
    let long : length ds ≡ length ns = ap (λ (l : List Data). length l) same ∙ length-map ns whole in
    let here : slice_get ds i ≡ Some (whole (get_or ns i 0)) =
    ap (λ (l : List Data). slice_get l i) same ∙ slice_get-map whole ns i ∙ ap (option_map whole) (slice_get-get_or ns i 0 (omega arith)) in
    none (get_or ns i 0) here
no_numbers n ns ds OutOfMemory same why other = other refl
no_numbers n ns ds _ same why other = absurd why

-- those of a permutation, counted from 1
no_locations : (n : ℕ) (p ns : List ℕ) (e : AnswerError) → ns ≡ map (λ k. k + 1) p → IsBijection p → length p ≡ n → AreNoLocations n ns e → e ≢ OutOfMemory → ⊥
no_locations n p ns (OtherCount found wanted) same perm long why other =
    let (found_is, wanted_is, differs) = why in
    let count : length ns ≡ length p = ap (λ (l : List ℕ). length l) same ∙ length-map p (λ k. k + 1) in
    differs (omega (arith, found_is, wanted_is, count))
no_locations n p ns (NoLocation number size) same perm long why other =
    let (size_is, i, number_is, inside, outside) = why in
    let count : length ns ≡ length p = ap (λ (l : List ℕ). length l) same ∙ length-map p (λ k. k + 1) in
    let within : i < length p = omega arith in
    let at : get_or ns i 0 ≡ get_or p i 0 + 1 = ap (λ (l : List ℕ). get_or l i 0) same ∙ get_or-map (λ k. k + 1) p i 0 0 within in
    let small = perm.within i within in
    elim outside [ inl none ↦ absurd (omega arith) | inr large ↦ absurd (omega arith) ]
no_locations n p ns (LocationTwice number location) same perm long why other =
    let (i, j, number_is, before, inside, location_is, equal) = why in
    let count : length ns ≡ length p = ap (λ (l : List ℕ). length l) same ∙ length-map p (λ k. k + 1) in
    let first : i < length p = omega arith in
    let second : j < length p = omega arith in
    let here : get_or ns i 0 ≡ get_or p i 0 + 1 = ap (λ (l : List ℕ). get_or l i 0) same ∙ get_or-map (λ k. k + 1) p i 0 0 first in
    let there : get_or ns j 0 ≡ get_or p j 0 + 1 = ap (λ (l : List ℕ). get_or l j 0) same ∙ get_or-map (λ k. k + 1) p j 0 0 second in
    let one = perm.distinct i j first second (omega arith) in
    absurd (omega arith)
no_locations n p ns OutOfMemory same perm long why other = other refl
no_locations n p ns _ same perm long why other = absurd why

-- it keeps what is fixed
not_moved : (x : Placement) (p : List ℕ) (e : AnswerError) → Completes x p → IsMoved x p e → ⊥
not_moved x p (Moved number location) kept why =
    let (f, k, number_is, location_is, stands, elsewhere) = why in
    let there = kept.agrees stands.turn stands.placed in
    elsewhere (sym (ap (λ i. get_or p i 0) stands.facility) ∙ there ∙ stands.location)
not_moved x p _ kept why = absurd why

listed_kept : (x : Placement) (d : Data) (p : List ℕ) (e : AnswerError) → ListsLocations d p → Completes x p → ListsNoneKept x d e → e ≢ OutOfMemory → ⊥
listed_kept x d p e listed kept (inl (inl (is, none))) other = none (map whole (map (λ k. k + 1) p)) listed
listed_kept x d p e listed kept (inl (inr (ds, found, why))) other =
    no_numbers x.size (map (λ k. k + 1) p) ds e (one_list (get (codes "permutation") d) ds (map whole (map (λ k. k + 1) p)) found listed) why other
listed_kept x d p e listed kept (inr (inl (ns, found, why))) other =
    no_locations x.size p ns e
    (same_wholes ns (map (λ k. k + 1) p) (one_list (get (codes "permutation") d) (map whole ns) (map whole (map (λ k. k + 1) p)) found listed))
    kept.bijection kept.same_size why other
listed_kept x d p e listed kept (inr (inr (q, found, why))) other =
    let same = one_listing d q p found listed in
    not_moved x p e kept (subst (λ (l : List ℕ). IsMoved x l e) same why)

-- what is stated
text_there : (d : Data) (key text : List ℕ) (e : AnswerError) → StatesText d key text → HasNoText d key e → ⊥
text_there d key text (NoText named) stated why = why.1 text stated
text_there d key text _ stated why = absurd why

spelled_cost : (scale : ℕ) (word : List ℕ) (c : ℤ) (e : AnswerError) → Spells word c scale → IsOtherCost scale word c e → e ≢ OutOfMemory → ⊥
spelled_cost scale word c (OtherCost told) spells why other = why spells
spelled_cost scale word c OutOfMemory spells why other = other refl
spelled_cost scale word c _ spells why other = absurd why

cost_there : (scale : ℕ) (d : Data) (c : ℤ) (e : AnswerError) → StatesNumber d (codes "cost") c scale → StatesOtherCost scale d c e → e ≢ OutOfMemory → ⊥
cost_there scale d c e stated (inl none) other = text_there d (codes "cost") stated.word e stated.stated none
cost_there scale d c e stated (inr (word, found, why)) other =
    let same = one_text (get (codes "cost") d) stated.word word stated.stated found in
    spelled_cost scale word c e (subst (λ (w : List ℕ). Spells w c scale) same stated.spelled) why other

spelled_bound : (scale : ℕ) (word : List ℕ) (c g : ℤ) (e : AnswerError) → Spells word g scale → unsigned_abs g ≤ max_number → g ≤ℤ c → IsNoBound scale word c e → e ≢ OutOfMemory → ⊥
spelled_bound scale word c g (OtherBound told) spells small most why other = why g small most spells
spelled_bound scale word c g OutOfMemory spells small most why other = other refl
spelled_bound scale word c g _ spells small most why other = absurd why

status_there : (d : Data) (status : List ℕ) (e : AnswerError) → StatesText d (codes "status") status → IsOtherStatus d status e → ⊥
status_there d status (OtherStatus told) stated why = why.1 stated
status_there d status _ stated why = absurd why

bound_there : (scale : ℕ) (d : Data) (c g : ℤ) (e : AnswerError) → IsBoundStated scale d c g → StatesNoBound scale d c e → e ≢ OutOfMemory → ⊥
bound_there scale d c g e stated (inl none) other = text_there d (codes "bound") stated.number.word e stated.number.stated none
bound_there scale d c g e stated (inr (inl (word, found, why))) other =
    let same = one_text (get (codes "bound") d) stated.number.word word stated.number.stated found in
    spelled_bound scale word c g e (subst (λ (w : List ℕ). Spells w g scale) same stated.number.spelled) stated.small stated.at_most why other
bound_there scale d c g e stated (inr (inr (inl none))) other = text_there d (codes "status") (status_of g c) e stated.status none
bound_there scale d c g e stated (inr (inr (inr (word, h, found, just, why)))) other =
    let same = one_text (get (codes "bound") d) stated.number.word word stated.number.stated found in
    let number : g ≡ h = just.once g (subst (λ (w : List ℕ). Spells w g scale) same stated.number.spelled) in
    status_there d (status_of h c) e (subst (λ (z : ℤ). StatesText d (codes "status") (status_of z c)) number stated.status) why

listed_there : (I : Problem) (x : Placement) (scale : ℕ) (d : Data) (p : List ℕ) (c g : ℤ) (e : AnswerError) → IsStated I x scale d p c g → IsUnstated I x scale d e → e ≢ OutOfMemory → ⊥
listed_there I x scale d p c g e stated (inl none) other = listed_kept x d p e stated.listed.locations stated.listed.completes none other
listed_there I x scale d p c g e stated (inr (q, listed, inl why)) other =
    let same = one_listing d q p listed.locations stated.listed.locations in
    let cost : cost_of I q ≡ c = ap (cost_of I) same ∙ stated.costs in
    cost_there scale d c e stated.cost (subst (λ (z : ℤ). StatesOtherCost scale d z e) cost why) other
listed_there I x scale d p c g e stated (inr (q, listed, inr why)) other =
    let same = one_listing d q p listed.locations stated.listed.locations in
    let cost : cost_of I q ≡ c = ap (cost_of I) same ∙ stated.costs in
    bound_there scale d c g e stated.bound (subst (λ (z : ℤ). StatesNoBound scale d z e) cost why) other

-- the names that are there are right
texts_at : (ds : List Data) (names : List (List ℕ)) (i : ℕ) (name : List ℕ) → ds ≡ map string names → slice_get names i ≡ Some name → slice_get ds i ≡ Some (string name)
texts_at ds names i name same at = ap (λ (l : List Data). slice_get l i) same ∙ slice_get-map string names i ∙ ap (option_map string) at

named_right : (d : Data) (key : List ℕ) (names : List (List ℕ)) (e : AnswerError) → MayList d key names → IsMisnamed d key names e → e ≢ OutOfMemory → ⊥
named_right d key names (OtherNames named count) (inl missing) (key_is, count_is, found, there, why) other = absurd (cc (missing, there))
named_right d key names (OtherNames named count) (inr listed) (key_is, count_is, found, there, inl none) other = none (map string names) listed
named_right d key names (OtherNames named count) (inr listed) (key_is, count_is, found, there, inr (ds, other_list, differs)) other =
    let same = one_list (get key d) ds (map string names) other_list listed in
    let long : length ds ≡ length names = ap (λ (l : List Data). length l) same ∙ length-map names string in
    differs (long ∙ sym count_is)
named_right d key names (OtherName named number name) (inl missing) (key_is, ds, there, i, number_is, at, differs) other = absurd (cc (missing, there))
named_right d key names (OtherName named number name) (inr listed) (key_is, ds, there, i, number_is, at, differs) other =
    differs (texts_at ds names i (string_bytes name) (one_list (get key d) ds (map string names) there listed) at)
named_right d key names OutOfMemory listed why other = other refl
named_right d key names _ listed why other = absurd why

not_named : (d : Data) (key : List ℕ) (e : AnswerError) → get key d ≡ None → IsNamed d key e → ⊥
not_named d key (Named named) missing (key_is, found, there) = absurd (cc (missing, there))
not_named d key _ missing why = absurd why

-- so what is refused is no answer
pub no_answer_to_plan : (P : NamedProblem) (text : List ℕ) (e : AnswerError) → IsRefusedByPlan P text e → e ≢ OutOfMemory → (p : List ℕ) (c g : ℤ) → ¬ IsAnswerToPlan P text p c g
no_answer_to_plan P text e (inl none) other = λ p c g answer. no_json text e answer.value none other answer.json
no_answer_to_plan P text e (inr (d, json, why)) other = λ p c g answer.
    let same = one_value text answer.value d answer.json json in
    let stated = subst (λ (v : Data). IsStated P.instance P.fixed (cost_scale P) v p c g) same answer.stated in
    let named = subst (λ (v : Data). HasNamesOf P p v) same answer.named in
    elim why [
      | inl departments ↦ named_right d (codes "departments") _ e named.departments departments other
      | inr rest ↦ elim rest [
        | inl places ↦ named_right d (codes "places") _ e named.places places other
        | inr further ↦ elim further [
          | inl unstated ↦ listed_there P.instance P.fixed (cost_scale P) d p c g e stated unstated other
          | inr misplaced ↦
              let (q, listed, misnamed) = misplaced in
              let one = one_listing d q p listed.locations stated.listed.locations in
              named_right d (codes "arrangement") _ e named.arrangement (subst (λ (l : List ℕ). IsMisnamed d (codes "arrangement") (arrangement_of P l) e) one misnamed) other
        ]
      ]
    ]

-- the same for an answer to an instance
pub no_answer_to_instance : (I : Problem) (text : List ℕ) (e : AnswerError) → IsRefusedByInstance I text e → e ≢ OutOfMemory → (p : List ℕ) (c g : ℤ) → ¬ IsAnswerToInstance I text p c g
no_answer_to_instance I text e (inl none) other = λ p c g answer. no_json text e answer.value none other answer.json
no_answer_to_instance I text e (inr (d, json, why)) other = λ p c g answer.
    let same = one_value text answer.value d answer.json json in
    let stated = subst (λ (v : Data). IsStated I (root_of I.size) 0 v p c g) same answer.stated in
    let unnamed = subst (λ (v : Data). HasNoNames v) same answer.unnamed in
    elim why [
      | inl departments ↦ not_named d (codes "departments") e unnamed.departments departments
      | inr rest ↦ elim rest [
        | inl places ↦ not_named d (codes "places") e unnamed.places places
        | inr further ↦ elim further [
          | inl arrangement ↦ not_named d (codes "arrangement") e unnamed.arrangement arrangement
          | inr unstated ↦ listed_there I (root_of I.size) 0 d p c g e stated unstated other
        ]
      ]
    ]

-- Why a text is not an answer. Each reason other than out of memory excludes that it is one.
use Rattle.std.specs.Prelude.{◌≡◌, ◌≢◌, ◌⊎◌, ℕ, ◌+◌, ◌<◌, ◌≤◌, List, None, Some, codes, length, slice_get, slice_index, string_bytes, ℤ, ◌≤ℤ◌, unsigned_abs}
use Rattle.std.specs.Str.{IsUtf8}
use Rattle.serde_json.specs.Data.{Data, string}
use Rattle.serde_json.specs.Find.{get}
use Rattle.serde_json.specs.Read.{read}
use Rattle.qap_cost.specs.Instance.{Problem}
use Rattle.qap_cost.specs.Objective.{cost_of}
use Rattle.qap_cost.specs.Placement.{Placement, StandsAt, root_of}
use Rattle.plan_table.specs.Decimal.{max_number}
use Rattle.plan_table.specs.Spelling.{Spells, SpellsJust}
use Rattle.plan_file.specs.declared.tables.NamedProblem.{NamedProblem}
use Rattle.plan_answer.specs.Answer.{cost_scale}
use Rattle.plan_check.specs.Answer.{IsJsonOf, IsListed, ListsLocations}
use Rattle.plan_check.specs.Names.{arrangement_of, department_names, place_names}
use Rattle.plan_check.specs.Stated.{Lists, ListsNumbers, StatesText, status_of, whole}
use Rattle.plan_check.specs.declared.error.AnswerError.{AnswerError}
use Rattle.plan_check.specs.declared.error.AnswerError.TheVariants.{LocationTwice, Moved, Named, NoJson, NoList, NoLocation, NoText, OtherBound, OtherCost, OtherCount, OtherName, OtherNames, OtherStatus, OutOfMemory}

-- the text is not JSON
abbrev pub IsNoJson : List ℕ → AnswerError → Type 0
IsNoJson text (NoJson line column) = IsUtf8 text → read text ≡ None
IsNoJson text OutOfMemory = Unit {0}
IsNoJson text _ = ⊥

-- a key has no list
abbrev pub HasNoList : Data → List ℕ → Type 0
HasNoList d key = (ds : List Data) → ¬ Lists d key ds

-- one of these values is not a whole number
abbrev pub AreNoNumbers : ℕ → List Data → AnswerError → Type 0
AreNoNumbers n ds (NoLocation number size) = (size ≡ n) × (i : ℕ) × (number ≡ i + 1) × (i < length ds) × ((k : ℕ) → slice_get ds i ≢ Some (whole k))
AreNoNumbers n ds OutOfMemory = Unit {0}
AreNoNumbers n ds _ = ⊥

-- the count of these numbers is not n, or one of them is not from 1 to n, or is repeated
abbrev pub AreNoLocations : ℕ → List ℕ → AnswerError → Type 0
AreNoLocations n ns (OtherCount found wanted) = (found ≡ length ns) × (wanted ≡ n) × (found ≢ wanted)
AreNoLocations n ns (NoLocation number size) = (size ≡ n) × (i : ℕ) × (number ≡ i + 1) × (i < length ns) × ((slice_index ns i ≡ 0) ⊎ (n < slice_index ns i))
AreNoLocations n ns (LocationTwice number location) =
    (i : ℕ) × (j : ℕ) × (number ≡ j + 1) × (i < j) × (j < length ns) × (location ≡ slice_index ns j) × (slice_index ns i ≡ slice_index ns j)
AreNoLocations n ns OutOfMemory = Unit {0}
AreNoLocations n ns _ = ⊥

-- no whole numbers are listed as locations
abbrev pub ListsNoNumbers : ℕ → Data → AnswerError → Type 0
ListsNoNumbers n d e =
    ((e ≡ NoList) × HasNoList d (codes "permutation"))
    ⊎ ((ds : List Data) × Lists d (codes "permutation") ds × AreNoNumbers n ds e)

-- some facility is not where it is fixed
abbrev pub IsMoved : Placement → List ℕ → AnswerError → Type 0
IsMoved x p (Moved number location) = (f : ℕ) × (k : ℕ) × (number ≡ f + 1) × (location ≡ k + 1) × StandsAt x f k × (slice_index p f ≢ k)
IsMoved x p _ = ⊥

-- no permutation that respects what is fixed is listed
abbrev pub ListsNoneKept : Placement → Data → AnswerError → Type 0
ListsNoneKept x d e =
    ListsNoNumbers x.size d e
    ⊎ ((ns : List ℕ) × ListsNumbers d (codes "permutation") ns × AreNoLocations x.size ns e)
    ⊎ ((p : List ℕ) × ListsLocations d p × IsMoved x p e)

-- a key has no text
abbrev pub HasNoText : Data → List ℕ → AnswerError → Type 0
HasNoText d key (NoText named) = (named.now ≡ key) × ((text : List ℕ) → ¬ StatesText d key text)
HasNoText d key _ = ⊥

-- a word does not spell this cost
abbrev pub IsOtherCost : ℕ → List ℕ → ℤ → AnswerError → Type 0
IsOtherCost scale word c (OtherCost told) = ¬ Spells word c scale
IsOtherCost scale word c OutOfMemory = Unit {0}
IsOtherCost scale word c _ = ⊥

-- the key `cost` has no text, or one that does not spell this cost
abbrev pub StatesOtherCost : ℕ → Data → ℤ → AnswerError → Type 0
StatesOtherCost scale d c e = HasNoText d (codes "cost") e ⊎ ((word : List ℕ) × StatesText d (codes "cost") word × IsOtherCost scale word c e)

-- a word does not spell a number, at least -10^36, that is no larger than this cost
abbrev pub IsNoBound : ℕ → List ℕ → ℤ → AnswerError → Type 0
IsNoBound scale word c (OtherBound told) = (g : ℤ) → unsigned_abs g ≤ max_number → g ≤ℤ c → ¬ Spells word g scale
IsNoBound scale word c OutOfMemory = Unit {0}
IsNoBound scale word c _ = ⊥

-- the stated status is not this one
abbrev pub IsOtherStatus : Data → List ℕ → AnswerError → Type 0
IsOtherStatus d status (OtherStatus told) = (told.now ≡ status) × ¬ StatesText d (codes "status") status
IsOtherStatus d status _ = ⊥

-- no bound for this cost is stated with its status: `bound` or `status` has no text, the bound's word spells none, or
-- the status is not that of the bound
abbrev pub StatesNoBound : ℕ → Data → ℤ → AnswerError → Type 0
StatesNoBound scale d c e =
    HasNoText d (codes "bound") e
    ⊎ ((word : List ℕ) × StatesText d (codes "bound") word × IsNoBound scale word c e)
    ⊎ HasNoText d (codes "status") e
    ⊎ ((word : List ℕ) × (g : ℤ) × StatesText d (codes "bound") word × SpellsJust word scale g × IsOtherStatus d (status_of g c) e)

-- no permutation that respects what is fixed is listed, or its cost is misstated, or no bound is stated
abbrev pub IsUnstated : Problem → Placement → ℕ → Data → AnswerError → Type 0
IsUnstated I x scale d e =
    ListsNoneKept x d e
    ⊎ ((p : List ℕ) × IsListed I x d p × (StatesOtherCost scale d (cost_of I p) e ⊎ StatesNoBound scale d (cost_of I p) e))

-- a key is present, but has no list of this many values, or one of them is not the name at its position
abbrev pub IsMisnamed : Data → List ℕ → List (List ℕ) → AnswerError → Type 0
IsMisnamed d key names (OtherNames named count) =
    (named.now ≡ key) × (count ≡ length names) × (found : Data) × (get key d ≡ Some found) × (HasNoList d key ⊎ ((ds : List Data) × Lists d key ds × (length ds ≢ count)))
IsMisnamed d key names (OtherName named number name) =
    (named.now ≡ key) × (ds : List Data) × Lists d key ds × (i : ℕ) × (number ≡ i + 1) × (slice_get names i ≡ Some (string_bytes name)) × (slice_get ds i ≢ Some (string (string_bytes name)))
IsMisnamed d key names OutOfMemory = Unit {0}
IsMisnamed d key names _ = ⊥

-- a key is present
abbrev pub IsNamed : Data → List ℕ → AnswerError → Type 0
IsNamed d key (Named named) = (named.now ≡ key) × (found : Data) × (get key d ≡ Some found)
IsNamed d key _ = ⊥

-- why a text is not an answer to a plan
abbrev pub IsRefusedByPlan : NamedProblem → List ℕ → AnswerError → Type 0
IsRefusedByPlan P text e = IsNoJson text e ⊎ ((d : Data) × IsJsonOf text d × (
    IsMisnamed d (codes "departments") (department_names P) e
    ⊎ IsMisnamed d (codes "places") (place_names P) e
    ⊎ IsUnstated P.instance P.fixed (cost_scale P) d e
    ⊎ ((p : List ℕ) × IsListed P.instance P.fixed d p × IsMisnamed d (codes "arrangement") (arrangement_of P p) e)))

-- why it is not an answer to an instance
abbrev pub IsRefusedByInstance : Problem → List ℕ → AnswerError → Type 0
IsRefusedByInstance I text e = IsNoJson text e ⊎ ((d : Data) × IsJsonOf text d × (
    IsNamed d (codes "departments") e
    ⊎ IsNamed d (codes "places") e
    ⊎ IsNamed d (codes "arrangement") e
    ⊎ IsUnstated I (root_of I.size) 0 d e))

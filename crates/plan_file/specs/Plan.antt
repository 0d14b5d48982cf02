-- A plan: a TOML text that names the files of its tables and what is fixed.
use Rattle.std.specs.Prelude.{◌≡◌, ◌≢◌, ◌⊎◌, ⊤, ℕ, ◌≤◌, Bool, true, false, List, [], ◌∷◌, map, Option, None, Some, IsUtf8, pos, codes, string_bytes}
use Rattle.toml.specs.Data.{Data, Members, no_members, member, string, integer, boolean, array, table, get_member}
use Rattle.toml.specs.Parse.{parse_document}
use Rattle.std.specs.Str.{chars}
use Rattle.plan_table.specs.Control.{HasNoControl, shown_chars}
use Rattle.plan_table.specs.Names.{AreNames}
use Rattle.plan_table.specs.declared.numeral.DecimalMark.{DecimalMark}
use Rattle.plan_table.specs.declared.numeral.DecimalMark.TheVariants.{Point, Comma}
use Rattle.plan_table.specs.declared.rules.Rules.{Rules}
use Rattle.plan_file.specs.declared.metric.Metric.{Metric}
use Rattle.plan_file.specs.declared.metric.Metric.TheVariants.{Rectilinear, Euclidean, Squared}
use Rattle.plan_file.specs.Charging.{SaysCharging}
use Rattle.plan_file.specs.Drawing.{SaysDrawing}
use Rattle.plan_file.specs.Keys.{HasNone, HasSome, HasText, strings_of}
use Rattle.plan_file.specs.declared.error.PlanError.{PlanError}
use Rattle.plan_file.specs.declared.error.PlanError.TheVariants as error
use Rattle.plan_file.specs.declared.source.Distances.{Distances}
use Rattle.plan_file.specs.declared.source.Distances.TheVariants as far
use Rattle.plan_file.specs.declared.source.Flows.{Flows}
use Rattle.plan_file.specs.declared.source.Flows.TheVariants as flow
use Rattle.plan_table.specs.declared.pin.Pin.{Pin}
use Rattle.plan_file.specs.declared.source.Plan.{Plan}

-- the keys with which a plan gives the flows
abbrev pub IsKnownOfFlows : List ℕ → Type 0
IsKnownOfFlows key = (key ≡ codes "flows") ⊎ ((key ≡ codes "trips") ⊎ (key ≡ codes "departments"))

-- the keys with which it gives the distances
abbrev pub IsKnownOfDistances : List ℕ → Type 0
IsKnownOfDistances key = (key ≡ codes "distances") ⊎ ((key ≡ codes "places") ⊎ ((key ≡ codes "metric") ⊎ (key ≡ codes "decimals")))

-- the keys that specify how the tables are read
abbrev pub IsKnownOfRules : List ℕ → Type 0
IsKnownOfRules key = (key ≡ codes "decimal_mark") ⊎ ((key ≡ codes "round") ⊎ ((key ≡ codes "symmetric") ⊎ (key ≡ codes "duplicates")))

-- the keys that specify how the plan is drawn
abbrev pub IsKnownOfDrawing : List ℕ → Type 0
IsKnownOfDrawing key = (key ≡ codes "title") ⊎ (key ≡ codes "y")

-- the keys that give the costs of places, and which of them departments may take
abbrev pub IsKnownOfCharging : List ℕ → Type 0
IsKnownOfCharging key = (key ≡ codes "costs") ⊎ ((key ≡ codes "forbidden") ⊎ (key ≡ codes "allowed"))

-- the keys that a plan may have: for the flows, the distances, how they are read, how it is drawn, what places cost, and what is fixed
abbrev pub IsKnown : List ℕ → Type 0
IsKnown key =
    IsKnownOfFlows key ⊎ (IsKnownOfDistances key ⊎ (IsKnownOfRules key ⊎ (IsKnownOfDrawing key ⊎ (IsKnownOfCharging key ⊎ (key ≡ codes "fixed")))))

-- each key of a table is one that a plan may have
abbrev pub AreKnown : Members → Type 0
AreKnown no_members = ⊤
AreKnown (member k d ms) = IsKnown k × AreKnown ms

-- the text is this table in TOML
pub record IsTable (text : List ℕ) (members : Members) : Type 0 where
  pub utf8 : IsUtf8 text
  pub read : parse_document text ≡ Some members

-- one key of two is there, and names a file
pub record NamesFile (ms : Members) (key other file : List ℕ) : Type 0 where
  pub named : HasText ms key file
  pub alone : HasNone ms other

-- the flows are in the file of a matrix, or of a list, whose departments may be given: a list of 1 to 256 distinct names
abbrev pub SaysFlows : Members → Flows → Type 0
SaysFlows ms (flow.Matrix file) = NamesFile ms (codes "flows") (codes "trips") (string_bytes file) × HasNone ms (codes "departments")
SaysFlows ms (flow.Trips file) = NamesFile ms (codes "trips") (codes "flows") (string_bytes file) × HasNone ms (codes "departments")
SaysFlows ms (flow.TripsBetween file names) =
    NamesFile ms (codes "trips") (codes "flows") (string_bytes file)
    × (get_member (codes "departments") ms ≡ Some (array (strings_of (map string_bytes names.items)))) × AreNames (map string_bytes names.items)

-- how many decimals are kept: 2 by default
abbrev pub SaysDecimals : Option Data → ℕ → Type 0
SaysDecimals None n = n ≡ 2
SaysDecimals (Some d) n = (d ≡ integer (pos n)) × (n ≤ 9)

-- how distances are measured
abbrev pub SaysMetric : Members → Metric → Type 0
SaysMetric ms Rectilinear = HasText ms (codes "metric") (codes "rectilinear") × HasNone ms (codes "decimals")
SaysMetric ms (Euclidean n) = HasText ms (codes "metric") (codes "euclidean") × SaysDecimals (get_member (codes "decimals") ms) n
SaysMetric ms Squared = HasText ms (codes "metric") (codes "squared") × HasNone ms (codes "decimals")

-- the distances are in the file of a matrix, or are measured between the places of a file
abbrev pub SaysDistances : Members → Distances → Type 0
SaysDistances ms (far.Matrix file) =
    NamesFile ms (codes "distances") (codes "places") (string_bytes file) × HasNone ms (codes "metric") × HasNone ms (codes "decimals")
SaysDistances ms (far.Places file metric) = NamesFile ms (codes "places") (codes "distances") (string_bytes file) × SaysMetric ms metric

-- the decimal mark of the tables, if given
abbrev pub SaysMark : Members → Option DecimalMark → Type 0
SaysMark ms None = HasNone ms (codes "decimal_mark")
SaysMark ms (Some Point) = HasText ms (codes "decimal_mark") (codes ".")
SaysMark ms (Some Comma) = HasText ms (codes "decimal_mark") (codes ",")

-- to how many decimals the numbers of the tables are rounded, if given
abbrev pub SaysRound : Members → Option ℕ → Type 0
SaysRound ms None = HasNone ms (codes "round")
SaysRound ms (Some n) = (get_member (codes "round") ms ≡ Some (integer (pos n))) × (n ≤ 9)

-- whether the halves of a table complete each other: by default they do not
abbrev pub SaysSymmetric : Members → Bool → Type 0
SaysSymmetric ms true = get_member (codes "symmetric") ms ≡ Some (boolean true)
SaysSymmetric ms false = HasNone ms (codes "symmetric") ⊎ (get_member (codes "symmetric") ms ≡ Some (boolean false))

-- whether the amounts of a list add up: by default they do not
abbrev pub SaysSums : Members → Bool → Type 0
SaysSums ms true = HasText ms (codes "duplicates") (codes "sum")
SaysSums ms false = HasNone ms (codes "duplicates")

-- how the tables are read
pub record SaysRules (ms : Members) (rules : Rules) : Type 0 where
  pub mark : SaysMark ms rules.decimal_mark
  pub round : SaysRound ms rules.round
  pub symmetric : SaysSymmetric ms rules.is_symmetric
  pub sums : SaysSums ms rules.adds_up

-- a key with its text, neither of which has a control character
pub record IsPin (key : List ℕ) (d : Data) (pin : Pin) : Type 0 where
  pub department : string_bytes pin.department ≡ key
  pub place : d ≡ string (string_bytes pin.place)
  pub visible_department : HasNoControl (string_bytes pin.department)
  pub visible_place : HasNoControl (string_bytes pin.place)

-- each key with its text, in sequence
abbrev pub ArePins : Members → List Pin → Type 0
ArePins no_members [] = ⊤
ArePins no_members (p ∷ ps) = ⊥
ArePins (member k d ms) [] = ⊥
ArePins (member k d ms) (p ∷ ps) = IsPin k d p × ArePins ms ps

-- a table of departments and places, or none
abbrev pub SaysFixed : Option Data → List Pin → Type 0
SaysFixed None pins = pins ≡ []
SaysFixed (Some d) pins = (ms : Members) × (d ≡ table ms) × ArePins ms pins

-- the text says all this, and nothing else
pub record IsPlanText (text : List ℕ) (plan : Plan) : Type 0 where
  pub members : Members
  pub read : IsTable text members
  pub known : AreKnown members
  pub flows : SaysFlows members plan.flows
  pub distances : SaysDistances members plan.distances
  pub rules : SaysRules members plan.rules
  pub fixed : SaysFixed (get_member (codes "fixed") members) plan.fixed.items
  pub charging : SaysCharging members plan.charging
  pub drawing : SaysDrawing members plan.drawing

-- it has something there that is not a text
abbrev pub HasNoText : Members → List ℕ → Type 0
HasNoText ms key = (d : Data) × (get_member key ms ≡ Some d) × ((text : List ℕ) → d ≢ string text)

-- it has a text there with a control character
abbrev pub HasControl : Members → List ℕ → Type 0
HasControl ms key = (text : List ℕ) × HasText ms key text × (HasNoControl text → ⊥)

-- its table of what is fixed has something there
abbrev pub IsAmongFixed : Members → List ℕ → Type 0
IsAmongFixed ms key = (pins : Members) × (get_member (codes "fixed") ms ≡ Some (table pins)) × HasSome pins key

-- what an error implies about the table; the key that it names is escaped as in messages
abbrev pub IsFaultOf : Members → PlanError → Type 0
IsFaultOf ms (error.Syntax place message) = ⊥
IsFaultOf ms (error.UnknownKey key) = (raw : List ℕ) × (string_bytes key ≡ shown_chars (chars raw)) × (IsKnown raw → ⊥) × (AreKnown ms → ⊥)
IsFaultOf ms (error.NoText key found) = HasNoText ms key.now
IsFaultOf ms (error.ControlInText key code) = HasControl ms key.now
IsFaultOf ms (error.NeitherKey key other) = HasNone ms key.now × HasNone ms other.now
IsFaultOf ms (error.AmongFixed key) = HasNone ms key.now × IsAmongFixed ms key.now
IsFaultOf ms (error.BothKeys key other) = HasSome ms key.now × HasSome ms other.now
IsFaultOf ms (error.MissingKey key other) = HasNone ms key.now × HasSome ms other.now
IsFaultOf ms (error.LoneKey key other) = HasSome ms key.now × HasNone ms other.now
IsFaultOf ms (error.OtherMetric found) =
    HasText ms (codes "metric") (string_bytes found) × (string_bytes found ≢ codes "rectilinear") × (string_bytes found ≢ codes "euclidean") × (string_bytes found ≢ codes "squared")
IsFaultOf ms (error.OtherMark found) =
    HasText ms (codes "decimal_mark") (string_bytes found) × (string_bytes found ≢ codes ".") × (string_bytes found ≢ codes ",")
IsFaultOf ms (error.OtherY found) = HasText ms (codes "y") (string_bytes found) × (string_bytes found ≢ codes "up") × (string_bytes found ≢ codes "down")
IsFaultOf ms error.NoRound = HasSome ms (codes "round")
IsFaultOf ms error.NoSymmetric = HasSome ms (codes "symmetric")
IsFaultOf ms (error.OtherDuplicates found) = HasText ms (codes "duplicates") (string_bytes found) × (string_bytes found ≢ codes "sum")
IsFaultOf ms error.NoDecimals = HasSome ms (codes "decimals")
IsFaultOf ms (error.ExactMetric metric) = HasSome ms (codes "decimals") × HasText ms (codes "metric") metric.now
IsFaultOf ms (error.Departments fault) = HasSome ms (codes "departments")
IsFaultOf ms (error.Fixed fault) = HasSome ms (codes "fixed")
IsFaultOf ms (error.Choosing key fault) = HasSome ms key.now
IsFaultOf ms error.OutOfMemory = ⊤

-- the text is not TOML, or memory ran out
abbrev pub IsSyntaxError : PlanError → Type 0
IsSyntaxError (error.Syntax place message) = ⊤
IsSyntaxError error.OutOfMemory = ⊤
IsSyntaxError _ = ⊥

-- what is wrong with a list of names; or memory ran out
abbrev pub IsNamesFault : PlanError → Type 0
IsNamesFault (error.Departments fault) = ⊤
IsNamesFault error.OutOfMemory = ⊤
IsNamesFault _ = ⊥

-- what is wrong with a table of what is fixed; or memory ran out
abbrev pub IsFixingFault : PlanError → Type 0
IsFixingFault (error.Fixed fault) = ⊤
IsFixingFault error.OutOfMemory = ⊤
IsFixingFault _ = ⊥

-- what is wrong with the table at a key that chooses places for departments; or memory ran out
abbrev pub IsChoosingFault : List ℕ → PlanError → Type 0
IsChoosingFault key (error.Choosing own fault) = own.now ≡ key
IsChoosingFault key error.OutOfMemory = ⊤
IsChoosingFault key _ = ⊥

-- why a text is not a plan: it is not TOML; it has an unknown key; or all keys are known, and something is wrong at one
abbrev pub IsPlanFault : List ℕ → PlanError → Type 0
IsPlanFault text (error.Syntax place message) = (members : Members) → IsTable text members → ⊥
IsPlanFault text error.OutOfMemory = ⊤
IsPlanFault text e = (members : Members) × IsTable text members × IsFaultOf members e

-- What an error says of a table, where it comes from one of its parts.
use Rattle.std.proofs.Common.{◌≡◌, ◌∙◌, List, ℕ, Some, None, codes, subst, sym}
use Rattle.std.specs.Prelude.{IsUtf8}
use Rattle.toml.specs.Parse.{parse_document}
use Rattle.toml.specs.Data.{Members}
use Rattle.plan_file.specs.Keys.{HasSome}
use Rattle.plan_file.specs.Plan.{IsChoosingFault, IsFaultOf, IsFixingFault, IsNamesFault, IsPlanFault, IsSyntaxError, IsTable}
use Rattle.plan_file.specs.declared.error.PlanError.{PlanError}
use Rattle.plan_file.specs.declared.error.PlanError.TheVariants.{Syntax, UnknownKey, NoText, ControlInText, NeitherKey, AmongFixed, BothKeys, MissingKey, LoneKey, OtherMetric, OtherMark, OtherY, NoRound, NoSymmetric, OtherDuplicates, NoDecimals, ExactMetric, Departments, Fixed, Choosing, OutOfMemory}

-- what is wrong with a list of names is a fault of a table that gives the departments
pub fault_of_names : (ms : Members) (e : PlanError) → HasSome ms (codes "departments") → IsNamesFault e → IsFaultOf ms e
fault_of_names ms (Departments fault) there h = there
fault_of_names ms OutOfMemory there h = tt
fault_of_names ms _ there h = absurd h

-- what is wrong with what is fixed is a fault of a table that has it
pub fault_of_fixing : (ms : Members) (e : PlanError) → HasSome ms (codes "fixed") → IsFixingFault e → IsFaultOf ms e
fault_of_fixing ms (Fixed fault) there h = there
fault_of_fixing ms OutOfMemory there h = tt
fault_of_fixing ms _ there h = absurd h

-- what is wrong with what is chosen at a key is a fault of a table that has it
pub fault_of_choosing : (ms : Members) (key : List ℕ) (e : PlanError) → HasSome ms key → IsChoosingFault key e → IsFaultOf ms e
fault_of_choosing ms key (Choosing own fault) there h = subst (HasSome ms) (sym h) there
fault_of_choosing ms key OutOfMemory there h = tt
fault_of_choosing ms key _ there h = absurd h

-- what is wrong with the table of a text keeps that from being a plan
pub fault_of_table : (text : List ℕ) (ms : Members) (e : PlanError) → IsTable text ms → IsFaultOf ms e → IsPlanFault text e
fault_of_table text ms (Syntax place message) is h = absurd h
fault_of_table text ms OutOfMemory is h = tt
fault_of_table text ms (UnknownKey key) is h = (ms, is, h)
fault_of_table text ms (NoText key found) is h = (ms, is, h)
fault_of_table text ms (ControlInText key code) is h = (ms, is, h)
fault_of_table text ms (NeitherKey key other) is h = (ms, is, h)
fault_of_table text ms (AmongFixed key) is h = (ms, is, h)
fault_of_table text ms (BothKeys key other) is h = (ms, is, h)
fault_of_table text ms (MissingKey key other) is h = (ms, is, h)
fault_of_table text ms (LoneKey key other) is h = (ms, is, h)
fault_of_table text ms (OtherMetric found) is h = (ms, is, h)
fault_of_table text ms (OtherMark found) is h = (ms, is, h)
fault_of_table text ms (OtherY found) is h = (ms, is, h)
fault_of_table text ms NoRound is h = (ms, is, h)
fault_of_table text ms NoSymmetric is h = (ms, is, h)
fault_of_table text ms (OtherDuplicates found) is h = (ms, is, h)
fault_of_table text ms NoDecimals is h = (ms, is, h)
fault_of_table text ms (ExactMetric metric) is h = (ms, is, h)
fault_of_table text ms (Departments fault) is h = (ms, is, h)
fault_of_table text ms (Fixed fault) is h = (ms, is, h)
fault_of_table text ms (Choosing key fault) is h = (ms, is, h)

-- a text that was read is this table
pub is_table : (text : List ℕ) (ms : Members) → (IsUtf8 text) × (parse_document text ≡ Some ms) → IsTable text ms
is_table text ms (utf8, read) = record { utf8 = utf8; read = read }

-- where a text is no TOML, unless memory ends, it has no table
pub fault_of_syntax : (text : List ℕ) (Memory : Type 0) (e : PlanError) → IsSyntaxError e → (Memory → e ≡ OutOfMemory) → ((Memory → ⊥) → IsUtf8 text → parse_document text ≡ None) → IsPlanFault text e
fault_of_syntax text Memory (Syntax place message) syntax ended none = λ members is.
    let missing = none (λ m. absurd (let other = ended m in cc)) is.utf8 in
    absurd (let both = sym missing ∙ is.read in cc)
fault_of_syntax text Memory OutOfMemory syntax ended none = tt
fault_of_syntax text Memory _ syntax ended none = absurd syntax

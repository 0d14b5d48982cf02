-- The source of the two texts of a request: both from one reader, in sequence, or each from its own.
use Rattle.std.specs.Prelude.{◌≡◌, ℕ, ◌⊎◌, List, Option, Some, None}
use Rattle.qap_cost.specs.Instance.{Problem}
use Rattle.qap_io.specs.Counting.{CountedDevice}
use Rattle.qap_text.specs.Input.{HasInstance, Input, input_of, max_input}
use Rattle.qap_text.specs.Whole.{ReadsWhole}
use Rattle.qap_text.specs.Word.{after_separators}
use Rattle.qap_check.specs.declared.source.Separators.{Separators}
use Rattle.qap_check.specs.declared.source.Separators.TheVariants.{Kept, PassedOver}

-- the input of the first text, and the reader of the second, before and after the call, with what is known about the
-- bytes left in it
pub record Source (R S : Type 0) : Type 0 where
  pub first : Input R
  pub second_bytes : S → Option (List ℕ)
  pub second : Option (CountedDevice S)
  pub second_after : Option (CountedDevice S)

-- the source with these readers, before and after
abbrev pub source_of : {R S : Type 0} → (R → Option (List ℕ)) → CountedDevice R → CountedDevice R
    → (S → Option (List ℕ)) → Option (CountedDevice S) → Option (CountedDevice S) → Source R S
source_of bytes before after second_bytes second second_after =
    record { first = input_of bytes before after; second_bytes = second_bytes; second = second; second_after = second_after }

-- if there is a second reader, all that it had left, read within the limit; else what follows the instance
abbrev pub IsOtherText : {S : Type 0} → (S → Option (List ℕ)) → Option (CountedDevice S) → Option (CountedDevice S) → List ℕ → List ℕ → Type 0
IsOtherText bytes None None behind other = other ≡ behind
IsOtherText bytes (Some old) (Some new) behind other = ReadsWhole bytes max_input old new other
IsOtherText bytes _ _ behind other = ⊥

-- what follows an instance, from its first byte, or from the first one that is not a separator
abbrev pub between : Separators → List ℕ → List ℕ
between Kept rest = rest
between PassedOver rest = after_separators rest

-- the instance, and its second text
pub record HasTexts {R S : Type 0} (s : Source R S) (separators : Separators) (I : Problem) (other : List ℕ) : Type 0 where
  pub rest : List ℕ
  pub first : HasInstance s.first I rest
  pub second : IsOtherText s.second_bytes s.second s.second_after (between separators rest) other

-- what an instance and its second text yield
pub record ComeTo {R S A : Type 0} (s : Source R S) (separators : Separators) (P : Problem → List ℕ → A → Type 0) (answer : A) : Type 0 where
  pub instance : Problem
  pub other : List ℕ
  pub texts : HasTexts s separators instance other
  pub holds : P instance other answer

-- the second reader is unchanged, unless an instance had been read before
abbrev pub SecondWaits : {R S : Type 0} → Source R S → Type 0
SecondWaits s = (s.second_after ≡ s.second) ⊎ ((I : Problem) × (rest : List ℕ) × HasInstance s.first I rest)

-- no call of the second reader failed, if there is one
abbrev pub KeepsCount : {S : Type 0} → Option (CountedDevice S) → Option (CountedDevice S) → Type 0
KeepsCount None None = Unit {0}
KeepsCount (Some old) (Some new) = new.failures ≡ old.failures
KeepsCount _ _ = ⊥

-- no call of a reader failed
pub record KeepsCounts {R S : Type 0} (s : Source R S) : Type 0 where
  pub first : s.first.after.failures ≡ s.first.before.failures
  pub second : KeepsCount s.second s.second_after

-- What an instance and the text that goes with it yield, or why they yield nothing.
use Rattle.std.proofs.Common.{◌≡◌, ℕ, List, inl, inr, Option, Some, None, Result, Ok, Err}
use Rattle.std.specs.Prelude.{◌⊎◌, MatchResult}
use Rattle.qap_cost.specs.Instance.{Problem}
use Rattle.qap_io.specs.Counting.{CountedDevice}
use Rattle.qap_check.specs.Refusal.{HasNoTexts}
use Rattle.qap_check.specs.Source.{Source, IsOtherText, HasTexts, ComeTo, KeepsCount}
use Rattle.qap_check.specs.declared.refusal.CheckError.{CheckError}
use Rattle.qap_check.specs.declared.refusal.CheckError.TheVariants.{OutOfMemory}
use Rattle.qap_check.specs.declared.source.Separators.{Separators}

keeps_count : {S : Type 0} (bytes : S → Option (List ℕ)) (old new : Option (CountedDevice S)) (behind other : List ℕ) → IsOtherText bytes old new behind other → KeepsCount old new
keeps_count bytes None None behind other h = tt
keeps_count bytes None (Some new) behind other h = absurd h
keeps_count bytes (Some old) None behind other h = absurd h
keeps_count bytes (Some old) (Some new) behind other h = h.kept

-- memory that runs out where both texts have been read
pub wants_memory : {R S : Type 0} (s : Source R S) (separators : Separators) (I : Problem) (other : List ℕ) (e : CheckError) → HasTexts s separators I other → e ≡ OutOfMemory → HasNoTexts s e
wants_memory s separators I other e texts is = inr (inr (record {
  is = is;
  kept = record { first = texts.first.read.kept; second = keeps_count s.second_bytes s.second s.second_after _ other texts.second };
  waits = inr (I, texts.rest, texts.first);
}))

-- what is judged of the two texts
pub come_to : {R S A : Type 0} (s : Source R S) (separators : Separators) (I : Problem) (other : List ℕ) (P : Problem → List ℕ → A → Type 0) (Q : Problem → List ℕ → CheckError → Type 0) (r : Result A CheckError)
    → HasTexts s separators I other → MatchResult r (P I other) (λ e. (e ≡ OutOfMemory) ⊎ Q I other e)
    → MatchResult r (ComeTo s separators P) (λ e. HasNoTexts s e ⊎ ComeTo s separators Q e)
come_to s separators I other P Q (Ok answer) texts h = record { instance = I; other = other; texts = texts; holds = h }
come_to s separators I other P Q (Err e) texts (inl memory) = inl (wants_memory s separators I other e texts memory)
come_to s separators I other P Q (Err e) texts (inr fault) = inr (record { instance = I; other = other; texts = texts; holds = fault })

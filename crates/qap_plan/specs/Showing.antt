-- An answer that is shown again.
use Rattle.std.specs.Prelude.{◌≡◌, ℕ, ℤ, List, option_copied}
use Rattle.qap_cost.specs.Instance.{Problem}
use Rattle.plan_answer.specs.Stated.{IsStatedText}
use Rattle.plan_check.specs.Answer.{IsAnswerToInstance, IsAnswerToPlan}
use Rattle.plan_input.specs.Loaded.{IsLoaded}
use Rattle.plan_input.specs.declared.loading.Loaded.{Loaded}
use Rattle.qap_plan.specs.Answer.{stated_text}
use Rattle.plan_files.specs.Outputs.{WritesFor}
use Rattle.qap_plan.specs.Picturing.{Pictures}
use Rattle.plan_files.specs.Sources.{IsInstanceIn, IsPlain}
use Rattle.qap_plan.specs.declared.commands.show.ShowRequest.{ShowRequest}

-- from a sink to a sink by words, which are printed, a picture, and the same words in a file, where these are requested
pub record Repeats {S : Type 0} (Writes : S → List ℕ → List ℕ → S → Type 0) (Prints : S → List ℕ → S → Type 0) (r : ShowRequest) (IsPicture : List ℕ → Type 0) (words : List ℕ) (old new : S) : Type 0 where
  pub printed : S
  pub pictured : S
  pub on_output : Prints old words printed
  pub to_svg : WritesFor Writes (option_copied r.svg) IsPicture printed pictured
  pub to_out : WritesFor Writes (option_copied r.out) (λ t. t ≡ words) pictured new

-- likewise without a picture
pub record RepeatsWords {S : Type 0} (Writes : S → List ℕ → List ℕ → S → Type 0) (Prints : S → List ℕ → S → Type 0) (r : ShowRequest) (words : List ℕ) (old new : S) : Type 0 where
  pub printed : S
  pub on_output : Prints old words printed
  pub to_out : WritesFor Writes (option_copied r.out) (λ t. t ≡ words) printed new

-- from a sink to a sink by what is stated in the answer in one file to the plan in another
pub record RepeatsPlan {S : Type 0} (Holds : List ℕ → List ℕ → Type 0) (Writes : S → List ℕ → List ℕ → S → Type 0) (Prints : S → List ℕ → S → Type 0) (r : ShowRequest) (old new : S) : Type 0 where
  pub loaded : Loaded
  pub text : List ℕ
  pub permutation : List ℕ
  pub cost : ℤ
  pub bound : ℤ
  pub words : List ℕ
  pub read : IsLoaded Holds r.file.now loaded
  pub plain : IsPlain loaded
  pub held : Holds r.answer.now text
  pub answer : IsAnswerToPlan loaded.problem text permutation cost bound
  pub stated : IsStatedText loaded.problem permutation cost bound words
  pub repeats : Repeats Writes Prints r (Pictures loaded.problem permutation cost bound) words old new

-- likewise to the instance in a file
pub record RepeatsNumbers {S : Type 0} (Holds : List ℕ → List ℕ → Type 0) (Writes : S → List ℕ → List ℕ → S → Type 0) (Prints : S → List ℕ → S → Type 0) (r : ShowRequest) (old new : S) : Type 0 where
  pub problem : Problem
  pub text : List ℕ
  pub permutation : List ℕ
  pub cost : ℤ
  pub bound : ℤ
  pub read : IsInstanceIn Holds r.file.now r.passes problem
  pub held : Holds r.answer.now text
  pub answer : IsAnswerToInstance problem text permutation cost bound
  pub repeats : RepeatsWords Writes Prints r (stated_text permutation cost bound) old new

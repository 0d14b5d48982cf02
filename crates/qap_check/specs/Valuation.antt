-- What an instance and a solution yield: two costs, the stated value, and which of the costs it matches.
use Rattle.std.specs.Prelude.{◌≡◌, ◌≢◌, ℕ, List, ◌++◌, ℤ, codes}
use Rattle.std.specs.Fmt.{signed_decimal}
use Rattle.qap_cost.specs.Bijection.{IsInverse}
use Rattle.qap_cost.specs.Instance.{Problem}
use Rattle.qap_cost.specs.Objective.{cost_of}
use Rattle.qap_text.specs.SolutionText.{IsSolutionText}
use Rattle.qap_io.specs.declared.status.Status.{Status}
use Rattle.qap_io.specs.declared.status.Status.TheVariants.{Done, Refused}
use Rattle.qap_check.specs.declared.valuation.Match.{Match}
use Rattle.qap_check.specs.declared.valuation.Match.TheVariants.{Direct, Inverse, Neither}
use Rattle.qap_check.specs.declared.valuation.Valuation.{Valuation}

-- the stated value is the permutation's own cost, else that of its inverse, else neither
abbrev pub IsMatch : ℤ → ℤ → ℤ → Match → Type 0
IsMatch cost inverse stated Direct = cost ≡ stated
IsMatch cost inverse stated Inverse = (cost ≢ stated) × (inverse ≡ stated)
IsMatch cost inverse stated Neither = (cost ≢ stated) × (inverse ≢ stated)

-- both costs of a permutation, and how a stated value matches them
pub record Judges (I : Problem) (p : List ℕ) (stated : ℤ) (v : Valuation) : Type 0 where
  pub cost : v.cost ≡ cost_of I p
  pub backward : List ℕ
  pub inverse : IsInverse p backward
  pub inverse_cost : v.inverse ≡ cost_of I backward
  pub stated_is : v.stated ≡ stated
  pub found : IsMatch v.cost v.inverse v.stated v.found

-- the text of a solution for an instance, evaluated
pub record AnswersSolution (I : Problem) (text : List ℕ) (v : Valuation) : Type 0 where
  pub value : ℤ
  pub permutation : List ℕ
  pub solution_text : IsSolutionText text I.size value permutation
  pub judged : Judges I permutation value v

-- the word for each way in which a stated value matches the costs
abbrev pub match_name : Match → List ℕ
match_name Direct = codes "direct"
match_name Inverse = codes "inverse"
match_name Neither = codes "none"

-- the status of a run with this answer: refused, if the stated value matches neither cost
abbrev pub match_status : Match → Status
match_status Direct = Done
match_status Inverse = Done
match_status Neither = Refused

-- the four lines of a valuation
abbrev pub lines_of : Valuation → List ℕ
lines_of v =
    codes "cost " ++ signed_decimal v.cost ++ codes "\ninverse " ++ signed_decimal v.inverse
    ++ codes "\nstated " ++ signed_decimal v.stated ++ codes "\nmatch " ++ match_name v.found ++ codes "\n"

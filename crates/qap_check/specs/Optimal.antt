-- The answer to a certificate: what it establishes about the least cost.
use Rattle.std.specs.Prelude.{ℕ, List, ◌++◌, codes}
use Rattle.std.specs.Fmt.{signed_decimal}
use Rattle.qap_cost.specs.Instance.{Problem}
use Rattle.qap_cert.specs.Acceptance.{ShowsVerdict, IsSo}
use Rattle.qap_cert.specs.declared.acceptance.Verdict.{Verdict}
use Rattle.qap_cert.specs.declared.acceptance.Verdict.TheVariants.{Optimal, Gap}
use Rattle.qap_text.specs.Gap.{gap_line}

-- the text establishes the verdict, which is true
abbrev pub Proves : Problem → List ℕ → Verdict → Type 0
Proves I text v = ShowsVerdict I text v × IsSo I v

-- the line of a least cost, or of a bound and the cost above it
abbrev pub answer_line : Verdict → List ℕ
answer_line (Optimal c) = codes "optimal " ++ signed_decimal c ++ codes "\n"
answer_line (Gap g c) = gap_line g c

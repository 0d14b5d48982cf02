-- The start of a search in the bytes that are given.
use Rattle.std.proofs.Common.{List, ℕ, None, Option, Some, refl}
use Rattle.std.specs.Borrow.{Bor}
use Rattle.qap_cost.specs.Instance.{Problem}
use Rattle.qap_io.specs.Counting.{CountedDevice}
use Rattle.qap_text.specs.Input.{input_of}
use Rattle.plan_files.specs.Starting.{Begins, IsReaderOf, IsStartOf}

-- what a reader of these bytes begins with
pub start_of : (remaining : Bor (List ℕ) → Option (List ℕ)) (I : Problem) (given : Option (List ℕ)) (old new : Option (CountedDevice (Bor (List ℕ)))) (start : Option (List ℕ))
    → IsReaderOf given old → Begins remaining I old new start → IsStartOf given I start
start_of remaining I None None None None reader begins = refl
start_of remaining I None None None (Some p) reader begins = absurd begins
start_of remaining I None None (Some new) start reader begins = absurd begins
start_of remaining I None (Some old) new start reader begins = absurd reader
start_of remaining I (Some bytes) None new start reader begins = absurd reader
start_of remaining I (Some bytes) (Some old) None start reader begins = absurd begins
start_of remaining I (Some bytes) (Some old) (Some new) None reader begins = absurd begins
start_of remaining I (Some bytes) (Some old) (Some new) (Some p) reader begins = record { input = input_of remaining old new; read = begins; of_bytes = reader }

use Rattle.std.specs.Prelude.{◌≢◌, ◌<◌, List, ℕ, ℤ, slice_index_or}
use Rattle.tuple_match.specs.FieldValue.{FieldValue}
use Rattle.qap_search.specs.Tuples.DecidedTuples.{best_of}
use Rattle.qap_search.proofs.certificate.best_permutation.first_best.Given as goal

abbrev pub invariant-loop-tuple : goal.invariant-loop-tuple
invariant-loop-tuple l =
    (k : ℕ) (d : List FieldValue) → k < l.tuple-index → (c : ℤ) (ps : List ℤ) → slice_index_or l.tuples k d ≢ best_of c ps

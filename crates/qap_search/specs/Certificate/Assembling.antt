-- The outcomes of assembling the tuples of a search into a certificate.
use Rattle.std.specs.Prelude.{◌≡◌, ℕ, ◌<◌, ◌⊎◌, List}
use Rattle.qap_cert.specs.Certificate.{Claim}
use Rattle.tuple_match.specs.FieldValue.{FieldValue}
use Rattle.qap_search.specs.Certificate.Finished.{IsAssembled}
use Rattle.qap_search.specs.Tuples.Piece.{open_count}
use Rattle.qap_search.specs.declared.certificate.error.AssembleError.{AssembleError}
use Rattle.qap_search.specs.declared.certificate.error.AssembleError.TheVariants.{Unfinished, NotATree, OutOfMemory}

-- the tuples form no certificate of size n
abbrev pub IsNoCertificate : ℕ → List (List FieldValue) → Type 0
IsNoCertificate n tuples = (C : Claim) → IsAssembled n tuples C → ⊥

-- why the tuples are not assembled: nodes are open; none is, and they form no certificate; or memory ran out
abbrev pub IsAssembleFault : ℕ → List (List FieldValue) → AssembleError → Type 0
IsAssembleFault n tuples (Unfinished count) = (0 < count) × (open_count tuples ≡ count)
IsAssembleFault n tuples NotATree = (open_count tuples ≡ 0) × IsNoCertificate n tuples
IsAssembleFault n tuples OutOfMemory = open_count tuples ≡ 0

-- likewise, once it is known that no node is open
abbrev pub IsTreeFault : ℕ → List (List FieldValue) → AssembleError → Type 0
IsTreeFault n tuples e = (e ≡ OutOfMemory) ⊎ ((e ≡ NotATree) × IsNoCertificate n tuples)

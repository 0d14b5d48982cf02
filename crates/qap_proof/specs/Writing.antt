-- The report on a proof that could not be written.
use Rattle.qap_lines.specs.declared.writing.WriteError.{WriteError}
use Rattle.qap_lines.specs.declared.writing.WriteError.TheVariants.{OutOfMemory as NoMemory, Device as NoDevice}
use Rattle.qap_proof.specs.declared.error.ProofError.{ProofError}
use Rattle.qap_proof.specs.declared.error.ProofError.TheVariants.{OutOfMemory, Device}

-- the proof error for an error of writing
abbrev pub told_write : WriteError → ProofError
told_write NoMemory = OutOfMemory
told_write NoDevice = Device

-- The run's error for a fault of an assembled proof: out of memory and a failed device are the run's own.
use Rattle.qap_proof.specs.declared.error.ProofError.{ProofError}
use Rattle.qap_proof.specs.declared.error.ProofError.TheVariants.{OutOfMemory as ProofMemory, Device as ProofDevice}
use Rattle.plan_files.specs.declared.error.PlannerError.{PlannerError}
use Rattle.plan_files.specs.declared.error.PlannerError.TheVariants.{Proof, OutOfMemory, Device}

-- the run's error for each fault of such a proof
abbrev pub of_proof : ProofError → PlannerError
of_proof ProofMemory = OutOfMemory
of_proof ProofDevice = Device
of_proof e = Proof e

-- The refusals that report faults of proofs.
use Rattle.std.specs.Prelude.{codes}
use Rattle.qap_io.specs.Refusal.{RefusalText, memory_refusal, device_refusal, refused, refused_at}
use Rattle.qap_proof.specs.declared.error.ProofError.{ProofError}
use Rattle.qap_proof.specs.declared.error.ProofError.TheVariants.{SizeDiffers, BadHeader, BadVersion, BadLine, Truncated, TrailingText, CostDiffers, PermBad, SplitTooDeep, FacilityTaken, LocationTaken, DualCount, DualRange, CutWithoutDuals, NoEarlierChild, SplitWidth, RootBad, NotFeasible, BoundTooLow, CutTooLow, NotAnImage, OutOfMemory, Device}

-- each fault of a proof as its refusal: a number, a name, and a line if it has one
abbrev pub proof_refusal : ProofError → RefusalText
proof_refusal (SizeDiffers line) = refused_at 8 (codes "SizeDiffers") line
proof_refusal BadHeader = refused 11 (codes "BadHeader")
proof_refusal BadVersion = refused 12 (codes "BadVersion")
proof_refusal (BadLine line) = refused_at 13 (codes "BadLine") line
proof_refusal (Truncated line) = refused_at 14 (codes "Truncated") line
proof_refusal (TrailingText line) = refused_at 15 (codes "TrailingText") line
proof_refusal (CostDiffers line) = refused_at 16 (codes "CostDiffers") line
proof_refusal (PermBad line) = refused_at 17 (codes "PermBad") line
proof_refusal (SplitTooDeep line) = refused_at 18 (codes "SplitTooDeep") line
proof_refusal (DualCount line) = refused_at 19 (codes "DualCount") line
proof_refusal (DualRange line) = refused_at 20 (codes "DualRange") line
proof_refusal (NotFeasible line) = refused_at 21 (codes "NotFeasible") line
proof_refusal (BoundTooLow line) = refused_at 22 (codes "BoundTooLow") line
proof_refusal (SplitWidth line) = refused_at 23 (codes "SplitWidth") line
proof_refusal (FacilityTaken line) = refused_at 25 (codes "FacilityTaken") line
proof_refusal (LocationTaken line) = refused_at 26 (codes "LocationTaken") line
proof_refusal (CutWithoutDuals line) = refused_at 27 (codes "CutWithoutDuals") line
proof_refusal (CutTooLow line) = refused_at 28 (codes "CutTooLow") line
proof_refusal (NoEarlierChild line) = refused_at 29 (codes "NoEarlierChild") line
proof_refusal (NotAnImage line) = refused_at 52 (codes "NotAnImage") line
proof_refusal (RootBad line) = refused_at 53 (codes "RootBad") line
proof_refusal OutOfMemory = memory_refusal
proof_refusal Device = device_refusal

-- The refusals with which faults of certificates are reported.
use Rattle.std.specs.Prelude.{codes}
use Rattle.qap_io.specs.Refusal.{RefusalText, memory_refusal, device_refusal, refused, refused_at}
use Rattle.qap_cert.specs.declared.error.CertError.{CertError}
use Rattle.qap_cert.specs.declared.error.CertError.TheVariants.{SizeDiffers, BadHeader, BadVersion, BadLine, Truncated, TrailingText, CostDiffers, PermBad, SplitTooDeep, FacilityTaken, DualCount, DualRange, NotFeasible, BoundTooLow, SplitWidth, OutOfMemory, Device}

-- the refusal for each fault of a certificate: a number, a name, and a line if there is one
abbrev pub certificate_refusal : CertError → RefusalText
certificate_refusal (SizeDiffers line) = refused_at 8 (codes "SizeDiffers") line
certificate_refusal BadHeader = refused 11 (codes "BadHeader")
certificate_refusal BadVersion = refused 12 (codes "BadVersion")
certificate_refusal (BadLine line) = refused_at 13 (codes "BadLine") line
certificate_refusal (Truncated line) = refused_at 14 (codes "Truncated") line
certificate_refusal (TrailingText line) = refused_at 15 (codes "TrailingText") line
certificate_refusal (CostDiffers line) = refused_at 16 (codes "CostDiffers") line
certificate_refusal (PermBad line) = refused_at 17 (codes "PermBad") line
certificate_refusal (SplitTooDeep line) = refused_at 18 (codes "SplitTooDeep") line
certificate_refusal (DualCount line) = refused_at 19 (codes "DualCount") line
certificate_refusal (DualRange line) = refused_at 20 (codes "DualRange") line
certificate_refusal (NotFeasible line) = refused_at 21 (codes "NotFeasible") line
certificate_refusal (BoundTooLow line) = refused_at 22 (codes "BoundTooLow") line
certificate_refusal (SplitWidth line) = refused_at 23 (codes "SplitWidth") line
certificate_refusal (FacilityTaken line) = refused_at 25 (codes "FacilityTaken") line
certificate_refusal OutOfMemory = memory_refusal
certificate_refusal Device = device_refusal

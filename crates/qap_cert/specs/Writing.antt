-- The report on a certificate that could not be written.
use Rattle.qap_lines.specs.declared.writing.WriteError.{WriteError}
use Rattle.qap_lines.specs.declared.writing.WriteError.TheVariants.{OutOfMemory as NoMemory, Device as NoDevice}
use Rattle.qap_cert.specs.declared.error.CertError.{CertError}
use Rattle.qap_cert.specs.declared.error.CertError.TheVariants.{OutOfMemory, Device}

-- the certificate error for an error of writing
abbrev pub told_write : WriteError → CertError
told_write NoMemory = OutOfMemory
told_write NoDevice = Device

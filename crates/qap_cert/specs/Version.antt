-- The two versions of a certificate's text.
use Rattle.std.specs.Prelude.{◌≡◌, ℕ, ◌+◌, ◌<◌, List, [], ◌∷◌, length, ℤ, pos}
use Rattle.qap_cert.specs.declared.version.Version.{Version}
use Rattle.qap_cert.specs.declared.version.Version.TheVariants.{First, Second}

-- the number of a version
abbrev pub version_number : Version → ℕ
version_number First = 1
version_number Second = 2

-- the facility that a split may name, of n, after the placed ones: in version 1 the one whose number is the depth, in
-- version 2 any
abbrev pub MayName : Version → ℕ → List ℕ → ℕ → Type 0
MayName First n placed f = f ≡ length placed
MayName Second n placed f = f < n

-- the numbers that a split's line has: in version 2 its facility, counted from 1
abbrev pub split_numbers : Version → ℕ → List ℤ
split_numbers First f = []
split_numbers Second f = pos (f + 1) ∷ []

-- the bound that a certificate with this cost may have: in version 1 the cost itself, in version 2 any
abbrev pub MayBound : Version → ℤ → ℤ → Type 0
MayBound First c g = g ≡ c
MayBound Second c g = Unit {0}

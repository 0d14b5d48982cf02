-- The hash of a number in a map.
use Rattle.std.specs.Prelude.{ℕ, ◌*◌, ◌/◌, ◌%◌, ◌^◌, List, bit_xor, if◌then◌else◌, length, nat_lt, take}
use Rattle.std.specs.Int.{from_le_bytes, w64}
use Rattle.tuple_space.specs.declared.hasher.NumberHasher.{NumberHasher}

-- the upper half of a product spreads what four consecutive numbers share; two bits above distinguish the four
abbrev pub hash : ℕ → ℕ
hash number = bit_xor ((number / 4 * 0x9e37_79b9_7f4a_7c15) % 2 ^ 64 / 2 ^ 32) (number % 4 * 2 ^ 30)

-- the hasher after bytes: eight of them are a number
abbrev pub write : NumberHasher → List ℕ → NumberHasher
write hasher bytes = if nat_lt (length bytes) 8 then hasher else record hasher { hash = hash (from_le_bytes w64 (take 8 bytes)) }

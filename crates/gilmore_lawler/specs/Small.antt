-- Entries so small that a sum of products of two rows stays within 64 bits: 512 products of two numbers no further
-- from 0 than 10^8 sum to at most 512 * 10^16, which is below 2^63.
use Rattle.std.specs.Prelude.{◌^◌, List, ℤ}
use Rattle.qap_cost.specs.Range.{AllWithin}

-- no number is further from 0 than 10^8
abbrev pub AllSmall : List ℤ → Type 0
AllSmall xs = AllWithin (10 ^ 8) xs

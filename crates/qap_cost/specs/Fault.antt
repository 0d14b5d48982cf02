-- What prevents a size and two lists of numbers from being an instance.
use Rattle.std.specs.Prelude.{◌≡◌, ◌≢◌, ℕ, ◌*◌, ◌<◌, ◌≤◌, ◌⊎◌, List, length, ℤ, pos, slice_index_or, unsigned_abs}
use Rattle.qap_cost.specs.Limits.{max_size, max_entry}
use Rattle.qap_cost.specs.declared.error.CostError.{CostError}
use Rattle.qap_cost.specs.declared.error.CostError.TheVariants.{SizeZero, SizeTooLarge, CountDiffers, EntryRange, NotPermutation}

-- some number is outside the range of entries
abbrev pub HasEntryOutside : List ℤ → Type 0
HasEntryOutside xs = (k : ℕ) × (k < length xs) × (max_entry < unsigned_abs (slice_index_or xs k (pos 0)))

-- the first fault: the size is checked first, then the counts, then the entries
abbrev pub IsFirstFault : ℕ → List ℤ → List ℤ → CostError → Type 0
IsFirstFault n a b SizeZero = n ≡ 0
IsFirstFault n a b SizeTooLarge = max_size < n
IsFirstFault n a b CountDiffers = (0 < n) × (n ≤ max_size) × ((length a ≢ n * n) ⊎ (length b ≢ n * n))
IsFirstFault n a b EntryRange =
    (0 < n) × (n ≤ max_size) × (length a ≡ n * n) × (length b ≡ n * n) × (HasEntryOutside a ⊎ HasEntryOutside b)
IsFirstFault n a b NotPermutation = ⊥

-- Pair duals without the meaningless ones, of a facility or a location for itself.
use Rattle.std.specs.Prelude.{ℕ, ◌/◌, ◌%◌, ◌==◌, if◌then◌else◌, List, length, map, ℤ, pos, slice_index_or}
use Rattle.std.specs.List.{range_with_len}
use Rattle.pair_duals.specs.PairDuals.{Duals, cube}

-- m layers that are m by m, with 0 in row j of each layer j
abbrev pub without_rows : ℕ → List ℤ → List ℤ
without_rows m xs = map (λ t. if ((t / m) % m) == ((t / m) / m) then pos 0 else slice_index_or xs t (pos 0)) (range_with_len 0 (cube m))

-- likewise with 0 in column l of each layer l
abbrev pub without_columns : ℕ → List ℤ → List ℤ
without_columns m xs = map (λ t. if (t % m) == ((t / m) / m) then pos 0 else slice_index_or xs t (pos 0)) (range_with_len 0 (cube m))

-- the pair duals with 0 in place of the meaningless ones
abbrev pub clean : Duals → Duals
clean D = record {
  size = D.size;
  facilities = D.facilities;
  locations = D.locations;
  scale = D.scale;
  alpha = without_rows (length D.facilities) D.alpha;
  beta = without_columns (length D.facilities) D.beta;
}

-- The lists that store assigned rows.
use Rattle.std.specs.Prelude.{◌≡◌, ℕ, length}
use Rattle.qap_cost.specs.Bijection.{IsBijection}
use Rattle.assign_dual.specs.declared.room.Room.{Room}

-- each list has an element for each of n columns, and the columns are listed once each
pub record HasRoom {X : Type 0} (n : ℕ) (room : Room X) : Type 0 where
  pub order : IsBijection room.columns.now
  pub columns_count : length room.columns.now ≡ n
  pub tree_rows_count : length room.tree_rows.now ≡ n
  pub origins_count : length room.origins.now ≡ n
  pub row_distances_count : length room.row_distances.now ≡ n
  pub distances_count : length room.distances.now ≡ n

-- How long a tuple stays, in the style of JavaSpaces; the rules are this project's own.
use Rattle.std.specs.Prelude.{ℕ, ◌+◌, min, max, nat_lt, Bool, true, false}
use Rattle.tuple_space.specs.declared.lease.Lease.{Lease}
use Rattle.tuple_space.specs.declared.lease.Lease.TheVariants.{Forever, Ms}
use Rattle.tuple_space.specs.declared.lease.LeaseEnd.{LeaseEnd}
use Rattle.tuple_space.specs.declared.lease.LeaseEnd.TheVariants.{Never, At}

-- the longest lease that is granted, in milliseconds: one day
abbrev pub longest_lease : ℕ
longest_lease = 86400000

-- the end of a lease granted at a moment for this many milliseconds: the time requested, or a day if that is less
abbrev pub granted_end : ℕ → ℕ → ℕ
granted_end moment asked = moment + min asked longest_lease

-- the end of a tuple's lease that is granted at a moment
abbrev pub granted : ℕ → Lease → LeaseEnd
granted moment Forever = Never
granted moment (Ms asked) = At (granted_end moment asked)

-- a lease is live while the moment is before its end
abbrev pub is_live : ℕ → LeaseEnd → Bool
is_live moment Never = true
is_live moment (At end) = nat_lt moment end

-- the later of two ends
abbrev pub later : LeaseEnd → LeaseEnd → LeaseEnd
later Never other = Never
later (At end) Never = Never
later (At end) (At other) = At (max end other)

-- a tuple with such a lease is permanent
abbrev pub is_permanent : LeaseEnd → Bool
is_permanent Never = true
is_permanent (At end) = false

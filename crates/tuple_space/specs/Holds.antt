-- The holds of one entry.
use Rattle.std.specs.Prelude.{ℕ, not, ◌==◌, List, [], ◌∷◌, filter, if◌then◌else◌}
use Rattle.tuple_space.specs.declared.hold.Hold.{Hold}

-- without the holds of one holder
abbrev pub holds_without : ℕ → List Hold → List Hold
holds_without holder holds = filter (λ h. not (h.by == holder)) holds

-- with a hold that replaces its holder's older one
abbrev pub holds_with : Hold → List Hold → List Hold
holds_with hold [] = hold ∷ []
holds_with hold (h ∷ hs) = if h.by == hold.by then hold ∷ hs else h ∷ holds_with hold hs

-- Points and their coordinates.
use Rattle.std.proofs.Common.{◌≡◌, ◌≤◌, ℕ, ◌+◌, ◌*◌, ◌<◌, List, [], ◌∷◌, ◌++◌, length, take, get_or, ℤ, pos, unsigned_abs, refl, sym, ap, ap₂, ◌∙◌, arith, append_assoc}
use Rattle.std.specs.Prelude.{All}
use Rattle.std.proofs.lemmas.List.{take_more, length-map}
use Rattle.std.proofs.lemmas.List.Elements.{All-cons, All-head, All-nil, All-tail}
use Rattle.plan_table.specs.Decimal.{max_entry}
use Rattle.plan_table.specs.Names.{AreNames}
use Rattle.plan_table.specs.Places.{AreNamedPoints, IsNear, coordinates_of}
use Rattle.plan_table.specs.Scale.{AreScaled, scaled}
use Rattle.plan_table.specs.Table.{AreRowsOf, in_order}
use Rattle.plan_table.specs.declared.decimal.Decimal.{Decimal}
use Rattle.plan_table.specs.declared.numeral.Reading.{Reading}
use Rattle.plan_table.specs.declared.places.Point.{Point}
use Rattle.plan_table.proofs.RowLists.{AreRows-count}

coordinates_push : (ps : List Point) (p : Point) → coordinates_of (ps ++ p ∷ []) ≡ coordinates_of ps ++ p.x ∷ p.y ∷ []
coordinates_push [] p = refl
coordinates_push (q ∷ ps) p = ap (λ l. q.x ∷ q.y ∷ l) (coordinates_push ps p)

-- one point more
pub coordinates_more : (zs : List ℤ) (k : ℕ) (ps newer : List Point) (p : Point) → newer ≡ ps ++ p ∷ [] → coordinates_of ps ≡ take (2 * k) zs → 2 * k + 1 < length zs
    → p.x ≡ get_or zs (2 * k) (pos 0) → p.y ≡ get_or zs (2 * k + 1) (pos 0) → coordinates_of newer ≡ take (2 * (k + 1)) zs
coordinates_more zs k ps newer p pushed so_far inside x y =
    let next : 2 * (k + 1) ≡ 2 * k + 1 + 1 = omega arith in
    let first = take_more zs (2 * k) (pos 0) (omega arith) in
    let second = take_more zs (2 * k + 1) (pos 0) inside in
    ap coordinates_of pushed
    ∙ coordinates_push ps p
    ∙ ap₂ (λ a l. l ++ a ∷ p.y ∷ []) x so_far
    ∙ ap (λ b. take (2 * k) zs ++ get_or zs (2 * k) (pos 0) ∷ b ∷ []) y
    ∙ sym (append_assoc (take (2 * k) zs) (get_or zs (2 * k) (pos 0) ∷ []) (get_or zs (2 * k + 1) (pos 0) ∷ []))
    ∙ ap (λ l. l ++ get_or zs (2 * k + 1) (pos 0) ∷ []) (sym first)
    ∙ sym second
    ∙ ap (λ m. take m zs) (sym next)

coordinates_length : (ps : List Point) → length (coordinates_of ps) ≡ length ps * 2
coordinates_length [] = refl
coordinates_length (p ∷ ps) = omega (arith, coordinates_length ps)

near_points : (ps : List Point) → All (λ z. unsigned_abs z ≤ max_entry) (coordinates_of ps) → All IsNear ps
near_points [] near = All-nil IsNear
near_points (p ∷ ps) near =
    let P : ℤ → Type 0 = λ z. unsigned_abs z ≤ max_entry in
    let behind_x = All-tail P p.x (p.y ∷ coordinates_of ps) near in
    All-cons IsNear p ps
    (All-head P p.x (p.y ∷ coordinates_of ps) near, All-head P p.y (coordinates_of ps) behind_x)
    (near_points ps (All-tail P p.y (coordinates_of ps) behind_x))

-- as many numbers as rows with two cells each
pub two_a_row : (reading : Reading) (names : List (List ℕ)) (rows : List (List (List ℕ))) (decimals : List Decimal) → AreRowsOf reading 2 names rows decimals → length decimals ≡ length names * 2
two_a_row reading names rows decimals read = AreRows-count reading 0 2 names (in_order rows read.order) decimals read.read

-- coordinates that are those of rows with names
pub points_of_rows : (reading : Reading) (names : List (List ℕ)) (rows : List (List (List ℕ))) (decimals : List Decimal) (scale : ℕ) (points : List Point) → AreNames names → AreRowsOf reading 2 names rows decimals
    → AreScaled scale decimals (coordinates_of points) → AreNamedPoints names points
points_of_rows reading names rows decimals scale points named read is =
    let numbers : length (coordinates_of points) ≡ length decimals = ap (λ (l : List ℤ). length l) is.exact ∙ length-map decimals (scaled scale) in
    record {
      named = named;
      many = omega (arith, numbers, coordinates_length points, two_a_row reading names rows decimals read);
      near = near_points points is.in_range;
    }

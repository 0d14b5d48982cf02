-- Roots as lines give them: facilities and locations alternately.
use Rattle.std.proofs.Common.{◌≡◌, ℕ, zero, suc, ◌+◌, ◌*◌, ◌-◌, ◌<◌, ◌≤◌, ◌++◌, List, [], ◌∷◌, length, length-append, map, get_or, ℤ, pos, unsigned_abs, nat_eq, true, false, refl, sym, ◌∙◌, ap, subst, inl, inr, arith}
use Rattle.std.specs.Prelude.{codes, ◌⊎◌}
use Rattle.std.proofs.lemmas.Bool.{cases_lt, cases_eq, eq-eqb, ne_eqb, false≢true}
use Rattle.std.proofs.lemmas.List.{ext_get_or, get_or_at, get_or_append_left}
use Rattle.qap_cost.specs.Placement.{Placement, placing, root_of}
use Rattle.qap_cost.specs.Range.{AllLimited}
use Rattle.qap_cost.proofs.Placements.{AreDifferent-length, IsPlacement-placing}
use Rattle.qap_lines.specs.Number.{held}
use Rattle.qap_lines.proofs.Held.{held-all_within, held_all_within-is}
use Rattle.qap_lines.specs.LineText.{line_text}
use Rattle.qap_proof.specs.Claim.{IsRoot, lines_of_root}
use Rattle.qap_proof.specs.Head.{HasTurn, IsRooted}
use Rattle.qap_proof.specs.Text.{by_turns, root_text}
use Rattle.qap_proof.specs.TextFault.{HasNoRoot, HasRootLine}

-- as many turns as facilities
pub length-by_turns : (fs ks : List ℕ) → length ks ≡ length fs → length (by_turns fs ks) ≡ 2 * length fs
length-by_turns [] [] same = refl
length-by_turns [] (k ∷ ks) same = absurd (omega (arith, same))
length-by_turns (f ∷ fs) [] same = absurd (omega (arith, same))
length-by_turns (f ∷ fs) (k ∷ ks) same = omega (arith, length-by_turns fs ks (omega (arith, same)))

-- what each turn gives
pub record Tells (zs : List ℤ) (turn f k : ℕ) : Type 0 where
  pub facility : get_or zs (2 * turn) (pos 0) ≡ pos (f + 1)
  pub location : get_or zs (2 * turn + 1) (pos 0) ≡ pos (k + 1)

-- of two lists alternately, each turn has the facility and the location at its place
pub Tells-by_turns : (fs ks : List ℕ) (t : ℕ) → length ks ≡ length fs → t < length fs → Tells (by_turns fs ks) t (get_or fs t 0) (get_or ks t 0)
Tells-by_turns [] ks t same below = absurd (omega arith)
Tells-by_turns (f ∷ fs) [] t same below = absurd (omega (arith, same))
Tells-by_turns (f ∷ fs) (k ∷ ks) zero same below = record { facility = refl; location = refl }
Tells-by_turns (f ∷ fs) (k ∷ ks) (suc t) same below =
    let rest = Tells-by_turns fs ks t (omega (arith, same)) (omega arith) in
    let zs = by_turns fs ks in
    let first : 2 * suc t ≡ suc (suc (2 * t)) = omega arith in
    let second : 2 * suc t + 1 ≡ suc (suc (2 * t + 1)) = omega arith in
    record {
      facility = ap (λ i. get_or (pos (f + 1) ∷ pos (k + 1) ∷ zs) i (pos 0)) first ∙ rest.facility;
      location = ap (λ i. get_or (pos (f + 1) ∷ pos (k + 1) ∷ zs) i (pos 0)) second ∙ rest.location;
    }

-- one turn gives one facility and one location
pub Tells-unique : (zs : List ℤ) (turn f k g l : ℕ) → Tells zs turn f k → Tells zs turn g l → (f ≡ g) × (k ≡ l)
Tells-unique zs turn f k g l a b = (
  omega (arith, ap unsigned_abs (sym a.facility ∙ b.facility)),
  omega (arith, ap unsigned_abs (sym a.location ∙ b.location)),
)

-- the first `turns` turns give these placed facilities and their locations, of n
pub record HasTurns (n : ℕ) (zs : List ℤ) (turns : ℕ) (x : Placement) : Type 0 where
  pub root : IsRoot n x
  pub count : length x.facilities ≡ turns
  pub each : (t : ℕ) → t < turns → Tells zs t (get_or x.facilities t 0) (get_or x.places t 0)

-- the empty node of a size from 1 to 256 is a root
pub IsRoot-none : (n : ℕ) → 0 < n → n ≤ 256 → IsRoot n (root_of n)
IsRoot-none n positive small = record {
  placement = record {
    positive = positive;
    small = small;
    paired = refl;
    facilities = record { within = λ i below. absurd (omega arith); distinct = λ i j below other same. absurd (omega arith) };
    places = record { within = λ i below. absurd (omega arith); distinct = λ i j below other same. absurd (omega arith) };
  };
  size = refl;
  ascending = λ i j less below. absurd (omega arith);
}

-- before the first turn, the node is empty
pub HasTurns-none : (n : ℕ) (zs : List ℤ) → 0 < n → n ≤ 256 → HasTurns n zs 0 (root_of n)
HasTurns-none n zs positive small = record { root = IsRoot-none n positive small; count = refl; each = λ t below. absurd (omega arith) }

-- what stands before the last, and the last
pub before_last : (xs : List ℕ) (y t : ℕ) → t < length xs → get_or (xs ++ y ∷ []) t 0 ≡ get_or xs t 0
before_last xs y t below = get_or_append_left xs (y ∷ []) 0 t below

-- a number put at the end of a list stands in the last place
pub at_last : (xs : List ℕ) (y t : ℕ) → t ≡ length xs → get_or (xs ++ y ∷ []) t 0 ≡ y
at_last xs y t here = get_or_at xs y [] 0 t (sym here)

-- one turn more
pub HasTurns-more : (n : ℕ) (zs : List ℤ) (turn : ℕ) (x : Placement) (f k : ℕ) → HasTurns n zs turn x → HasTurn x zs turn f k → HasTurns n zs (turn + 1) (placing x f k)
HasTurns-more n zs turn x f k h next = record {
  root = record {
    placement = IsPlacement-placing x f k h.root.placement next.facility next.location;
    size = h.root.size;
    ascending = λ i j less below.
        let inside : j < length x.facilities + 1 = omega (arith, below, length-append x.facilities (f ∷ [])) in
        let first : get_or (x.facilities ++ f ∷ []) i 0 ≡ get_or x.facilities i 0 = before_last x.facilities f i (omega (arith, less, inside)) in
        elim (cases_lt j (length x.facilities)) [
          | inl before ↦
              let second : get_or (x.facilities ++ f ∷ []) j 0 ≡ get_or x.facilities j 0 = before_last x.facilities f j before in
              omega (arith, first, second, h.root.ascending i j less before)
          | inr past ↦
              let second : get_or (x.facilities ++ f ∷ []) j 0 ≡ f = at_last x.facilities f j (omega (arith, past, inside)) in
              omega (arith, first, second, next.behind i (omega (arith, less, inside)))
        ];
  };
  count = omega (arith, length-append x.facilities (f ∷ []), h.count);
  each = λ t below.
      elim (cases_lt t turn) [
        | inl before ↦
            let told = h.each t before in
            record {
              facility = told.facility ∙ ap (λ j. pos (j + 1)) (sym (before_last x.facilities f t (omega (arith, before, h.count))));
              location = told.location ∙ ap (λ j. pos (j + 1)) (sym (before_last x.places k t (omega (arith, before, h.count, h.root.placement.paired))));
            }
        | inr past ↦
            let here : t ≡ turn = omega (arith, past, below) in
            record {
              facility = ap (λ i. get_or zs (2 * i) (pos 0)) here ∙ next.facility_is ∙ ap (λ j. pos (j + 1)) (sym (at_last x.facilities f t (here ∙ sym h.count)));
              location = ap (λ i. get_or zs (2 * i + 1) (pos 0)) here ∙ next.location_is ∙ ap (λ j. pos (j + 1)) (sym (at_last x.places k t (omega (arith, here, h.count, h.root.placement.paired))));
            }
      ];
}

-- each place is the first or the second of a turn
turn_next : (i : ℕ) → (t : ℕ) × ((i ≡ 2 * t) ⊎ (i ≡ 2 * t + 1)) → (t : ℕ) × ((suc i ≡ 2 * t) ⊎ (suc i ≡ 2 * t + 1))
turn_next i (t, inl even) = (t, inr (omega (arith, even)))
turn_next i (t, inr odd) = (t + 1, inl (omega (arith, odd)))

turn_of : (i : ℕ) → (t : ℕ) × ((i ≡ 2 * t) ⊎ (i ≡ 2 * t + 1))
turn_of zero = (0, inl refl)
turn_of (suc i) = turn_next i (turn_of i)

-- numbers that give a node's facilities and locations at each turn are these alternately
same_turns : (zs : List ℤ) (x : Placement) → length zs ≡ 2 * length x.facilities → length x.places ≡ length x.facilities
    → ((t : ℕ) → t < length x.facilities → Tells zs t (get_or x.facilities t 0) (get_or x.places t 0)) → zs ≡ by_turns x.facilities x.places
same_turns zs x long paired each =
    ext_get_or (pos 0) zs (by_turns x.facilities x.places) (long ∙ sym (length-by_turns x.facilities x.places paired)) (λ i below.
    let half = turn_of i in
    let turn = half.0 in
    let inside : turn < length x.facilities = elim half.1 [
      | inl even ↦ omega (arith, even, below, long)
      | inr odd ↦ omega (arith, odd, below, long)
    ] in
    let here = each turn inside in
    let there = Tells-by_turns x.facilities x.places turn paired inside in
    elim half.1 [
      | inl even ↦ ap (λ j. get_or zs j (pos 0)) even ∙ here.facility ∙ sym there.facility ∙ ap (λ j. get_or (by_turns x.facilities x.places) j (pos 0)) (sym even)
      | inr odd ↦ ap (λ j. get_or zs j (pos 0)) odd ∙ here.location ∙ sym there.location ∙ ap (λ j. get_or (by_turns x.facilities x.places) j (pos 0)) (sym odd)
    ])

-- once all numbers are read, the node is a root that has a line, and the numbers are those of this line
pub HasRootLine-turns : (n : ℕ) (zs : List ℤ) (turns : ℕ) (x : Placement) → HasTurns n zs turns x → 0 < turns → length zs ≡ 2 * turns → HasRootLine n x × (zs ≡ by_turns x.facilities x.places)
HasRootLine-turns n zs turns x h some long = (
  record { root = h.root; some = omega (arith, some, h.count) },
  same_turns zs x (omega (arith, long, h.count)) h.root.placement.paired (λ t below. h.each t (omega (arith, below, h.count))),
)

-- of a root that the numbers give alternately, the next facility and location may be placed behind the first ones
pub HasTurn-of_root : (n : ℕ) (zs : List ℤ) (turn : ℕ) (x y : Placement) → HasTurns n zs turn x → HasRootLine n y → zs ≡ by_turns y.facilities y.places → 2 * turn + 1 < length zs
    → HasTurn x zs turn (get_or y.facilities turn 0) (get_or y.places turn 0)
HasTurn-of_root n zs turn x y h root is inside =
    let placed = root.root.placement in
    let long = length-by_turns y.facilities y.places placed.paired in
    let below : turn < length y.facilities = omega (arith, inside, ap length is, long) in
    let tells : (t : ℕ) → t < length y.facilities → Tells zs t (get_or y.facilities t 0) (get_or y.places t 0) =
    λ t inside. subst (λ (l : List ℤ). Tells l t (get_or y.facilities t 0) (get_or y.places t 0)) (sym is) (Tells-by_turns y.facilities y.places t placed.paired inside) in
    let same : (t : ℕ) → t < turn → (get_or x.facilities t 0 ≡ get_or y.facilities t 0) × (get_or x.places t 0 ≡ get_or y.places t 0) =
    λ t before. Tells-unique zs t _ _ _ _ (h.each t before) (tells t (omega (arith, before, below))) in
    record {
      facility_is = (tells turn below).facility;
      location_is = (tells turn below).location;
      facility = record {
        within = omega (arith, placed.facilities.within turn below, root.root.size, h.root.size);
        untaken = λ t inside equal.
            let before : t < turn = omega (arith, inside, h.count) in
            absurd (omega (arith, (same t before).0, equal, root.root.ascending t turn before below));
      };
      location = record {
        within = omega (arith, placed.places.within turn (omega (arith, below, placed.paired)), root.root.size, h.root.size);
        untaken = λ t inside equal.
            let before : t < turn = omega (arith, inside, h.count, h.root.placement.paired) in
            let one : t ≡ turn = placed.places.distinct t turn (omega (arith, before, below, placed.paired)) (omega (arith, below, placed.paired)) (sym (same t before).1 ∙ equal) in
            absurd (omega (arith, one, before));
      };
      behind = λ t inside.
          let before : t < turn = omega (arith, inside, h.count) in
          omega (arith, (same t before).0, root.root.ascending t turn before below);
    }

-- facilities above the last are above all
pub behind_all : (n turn f : ℕ) (x : Placement) → IsRoot n x → length x.facilities ≡ turn → ((0 < turn) → get_or x.facilities (turn - 1) 0 < f) → (t : ℕ) → t < length x.facilities → get_or x.facilities t 0 < f
behind_all n turn f x root count last t below =
    let above = last (omega (arith, below, count)) in
    elim (cases_lt t (turn - 1)) [
      | inl before ↦ omega (arith, above, root.ascending t (turn - 1) before (omega (arith, count, before)))
      | inr past ↦ let here : t ≡ turn - 1 = omega (arith, past, below, count) in omega (arith, above, ap (λ (i : ℕ). get_or x.facilities i 0) here)
    ]

-- a root gives an even number of numbers, and more than none
pub root_numbers : (n : ℕ) (zs : List ℤ) (x : Placement) → HasRootLine n x → zs ≡ by_turns x.facilities x.places → (length zs ≡ 2 * length x.facilities) × (0 < length x.facilities) × (length x.facilities ≤ n)
root_numbers n zs x h is = (
  ap length is ∙ length-by_turns x.facilities x.places h.root.placement.paired,
  h.some,
  omega (arith, AreDifferent-length x.size x.facilities h.root.placement.facilities, h.root.size),
)

-- numbers of a root are in range
pub AllLimited-by_turns : (n : ℕ) (x : Placement) → IsRoot n x → AllLimited (by_turns x.facilities x.places)
AllLimited-by_turns n x h = record {
  each = λ j below.
      let placed = h.placement in
      let zs = by_turns x.facilities x.places in
      let long = length-by_turns x.facilities x.places placed.paired in
      let half = turn_of j in
      let inside : half.0 < length x.facilities = elim half.1 [
        | inl even ↦ omega (arith, even, below, long)
        | inr odd ↦ omega (arith, odd, below, long)
      ] in
      let tells = Tells-by_turns x.facilities x.places half.0 placed.paired inside in
      elim half.1 [
        | inl even ↦ omega (arith, ap (λ (i : ℕ). unsigned_abs (get_or zs i (pos 0))) even, ap unsigned_abs tells.facility, placed.facilities.within half.0 inside, placed.small)
        | inr odd ↦ omega (arith, ap (λ (i : ℕ). unsigned_abs (get_or zs i (pos 0))) odd, ap unsigned_abs tells.location, placed.places.within half.0 (omega (arith, inside, placed.paired)), placed.small)
      ];
}

-- the held numbers give a root where those of the line do
pub held_root : (n : ℕ) (zs first : List ℤ) (x : Placement) → first ≡ map held zs → IsRoot n x → first ≡ by_turns x.facilities x.places → zs ≡ by_turns x.facilities x.places
held_root n zs first x is root told =
    let same : map held zs ≡ by_turns x.facilities x.places = sym is ∙ told in
    sym (held_all_within-is zs (subst AllLimited (sym same) (AllLimited-by_turns n x root))) ∙ same

-- the numbers of a root's line are the same when held to the range
pub root_held : (n : ℕ) (zs first : List ℤ) (x : Placement) → first ≡ map held zs → IsRoot n x → zs ≡ by_turns x.facilities x.places → first ≡ by_turns x.facilities x.places
root_held n zs first x is root told = is ∙ ap (map held) told ∙ held-all_within (by_turns x.facilities x.places) (AllLimited-by_turns n x root)

-- the line of a root that isn't empty
pub root_text-some : (fs ks : List ℕ) → 0 < length fs → root_text fs ks ≡ line_text (codes "node") (by_turns fs ks)
root_text-some [] ks some = absurd (omega arith)
root_text-some (f ∷ fs) ks some = refl

-- a root that isn't empty has one line
pub lines_of_root-some : (fs : List ℕ) → 0 < length fs → lines_of_root fs ≡ 1
lines_of_root-some [] some = absurd (omega arith)
lines_of_root-some (f ∷ fs) some = refl

-- where the fifth line isn't that of a root, the root is empty, and the rest is all of the text from there on
pub IsRooted-none : (n : ℕ) (text : List ℕ) (x : Placement) → 0 < n → n ≤ 256 → x ≡ root_of n → HasNoRoot text → IsRooted n text x 5 text
IsRooted-none n text x positive small empty none =
    subst (λ (y : Placement). IsRooted n text y 5 text) (sym empty) (record {
      root = IsRoot-none n positive small;
      line_is = refl;
      is = refl;
      fault = λ c e fault. inr (inl (none, fault));
    })

-- where the text begins with the line of a root, the rest is what is behind it
pub IsRooted-some : (n : ℕ) (text : List ℕ) (x : Placement) (rest : List ℕ) → HasRootLine n x → text ≡ line_text (codes "node") (by_turns x.facilities x.places) ++ rest → IsRooted n text x 6 rest
IsRooted-some n text x rest h is = record {
  root = h.root;
  line_is = omega (arith, lines_of_root-some x.facilities h.some);
  is = is ∙ ap (λ l. l ++ rest) (sym (root_text-some x.facilities x.places h.some));
  fault = λ c e fault. inr (inr (x, h, record { rest = rest; is = is; holds = fault }));
}

-- a list that isn't empty, and one that is
pub none_listed : (n : ℕ) → true ≡ nat_eq n 0 → n ≡ 0
none_listed n is =
    elim (cases_eq n 0) [
      | inl same ↦ same
      | inr other ↦ absurd (false≢true (sym (ne_eqb n 0 other) ∙ sym is))
    ]

-- a number that isn't 0 is above 0
pub some_listed : (n : ℕ) → false ≡ nat_eq n 0 → 0 < n
some_listed n is =
    elim (cases_eq n 0) [
      | inl same ↦ absurd (false≢true (is ∙ eq-eqb n 0 same))
      | inr other ↦ omega (arith, other)
    ]

-- Flows that are listed pair by pair: the names that they have, and the matrix that they make.
use Rattle.std.proofs.Common.{◌≡◌, ◌≢◌, ℕ, zero, suc, Bool, true, false, cond, eq-eqb, add-one, ◌+◌, ◌*◌, ◌/◌, ◌%◌, ◌<◌, ◌≤◌, List, [], ◌∷◌, ◌++◌, length, map, take, get_or, set, replicate, Option, Some, None, ℤ, pos, unsigned_abs, refl, sym, ap, ap₂, ◌∙◌, subst, inl, inr, arith, length-append, append_assoc, get_or-set_same, get_or-set_other, below_more}
use Rattle.std.specs.Prelude.{All, ◌==◌, ◌&&◌, ◌⊎◌}
use Rattle.std.specs.Option.{is_some}
use Rattle.std.proofs.lemmas.Bool.{cases_Bool, cases_eq, cases_lt, eqb-false, false≢true, ne_eqb}
use Rattle.std.proofs.lemmas.List.{get_or-map, get_or-replicate, get_or_at, get_or_append_left, get_or_past, length-map, length-set, length-replicate, take_all, take-append-le}
use Rattle.std.proofs.lemmas.List.Elements.{All-from_get_or}
use Rattle.std.proofs.lemmas.Nat.{div_below, mod_below}
use Rattle.std.proofs.Math.Nat.{mul-le-mul_right}
use Rattle.csv.specs.Records.{field_at}
use Rattle.csv.proofs.RecordFacts.{field-get}
use Rattle.plan_table.specs.Decimal.{max_entry}
use Rattle.plan_table.specs.Halves.{AreMirrored, IsSymmetric, either, mirror_of, of_halves}
use Rattle.plan_table.specs.Listing.{AreEntriesOf, ArePlaced, AreTripsOf, IsTripOf, IsWith, added, cell_at, cell_of, filled, sum_of, trip_at}
use Rattle.plan_table.specs.Lists.{IsTripsMatrix}
use Rattle.plan_table.specs.Names.{AreNames, HasName}
use Rattle.plan_table.specs.Numerals.{cell_in, is_nothing, kept_in}
use Rattle.plan_table.specs.Scale.{AreScaled, IsLeastScale}
use Rattle.plan_table.specs.Shape.{IsNamedSquare}
use Rattle.plan_table.specs.Trips.{AppearInOrder, name_at, row_at, words_of}
use Rattle.plan_table.specs.declared.decimal.Decimal.{Decimal}
use Rattle.plan_table.specs.declared.numeral.Reading.{Reading}
use Rattle.plan_table.specs.declared.rules.Rules.{Rules}
use Rattle.plan_table.specs.declared.trips.Trip.{Trip}
use Rattle.plan_table.proofs.Fields.{field_inside}

-- a record with two fields at its front
two_fields : (fields : List (List ℕ)) (a b : List ℕ) → field_at fields 0 ≡ Some a → field_at fields 1 ≡ Some b → (rest : List (List ℕ)) × (fields ≡ a ∷ b ∷ rest)
two_fields [] a b one two = absurd (omega (arith, field_inside [] 0 a one))
two_fields (x ∷ []) a b one two = absurd (omega (arith, field_inside (x ∷ []) 1 b two))
two_fields (x ∷ y ∷ rest) a b one two =
    (rest, ap₂ (λ u v. u ∷ v ∷ rest) (field-get (x ∷ y ∷ rest) 0 a one) (field-get (x ∷ y ∷ rest) 1 b two))

words_push : (rows : List (List (List ℕ))) (a b : List ℕ) (rest : List (List ℕ)) → words_of (rows ++ (a ∷ b ∷ rest) ∷ []) ≡ words_of rows ++ a ∷ b ∷ []
words_push [] a b rest = refl
words_push ([] ∷ rows) a b rest = words_push rows a b rest
words_push ((x ∷ []) ∷ rows) a b rest = words_push rows a b rest
words_push ((x ∷ y ∷ more) ∷ rows) a b rest = ap (λ l. x ∷ y ∷ l) (words_push rows a b rest)

HasName-more : (names : List (List ℕ)) (name other : List ℕ) → HasName names name → HasName (names ++ other ∷ []) name
HasName-more names name other (k, below, is) =
    (k, omega (arith, length-append names (other ∷ []), below), get_or_append_left names (other ∷ []) [] k below ∙ is)

-- one word more
AppearInOrder-more : (words names newer : List (List ℕ)) (word : List ℕ) → AppearInOrder words names → IsWith word names newer → AppearInOrder (words ++ word ∷ []) newer
AppearInOrder-more words names newer word order (inl (there, same)) =
    subst (λ (l : List (List ℕ)). AppearInOrder (words ++ word ∷ []) l) (sym same) (record {
      all = λ k below.
          elim (cases_lt k (length words)) [
            | inl before ↦ subst (λ (w : List ℕ). HasName names w) (sym (get_or_append_left words (word ∷ []) [] k before)) (order.all k before)
            | inr past ↦
                let here : length words ≡ k = omega (arith, length-append words (word ∷ []), below) in
                subst (λ (w : List ℕ). HasName names w) (sym (get_or_at words word [] [] k here)) there
          ];
      first = λ i inside.
          let (k, below, is, before) = order.first i inside in (
            k,
            omega (arith, length-append words (word ∷ []), below),
            get_or_append_left words (word ∷ []) [] k below ∙ is,
            λ j earlier. subst (λ (w : List ℕ). HasName (take i names) w) (sym (get_or_append_left words (word ∷ []) [] j (omega (arith, below, earlier)))) (before j earlier),
          );
    })
AppearInOrder-more words names newer word order (inr (new, pushed)) =
    subst (λ (l : List (List ℕ)). AppearInOrder (words ++ word ∷ []) l) (sym pushed) (record {
      all = λ k below.
          elim (cases_lt k (length words)) [
            | inl before ↦ subst (λ (w : List ℕ). HasName (names ++ word ∷ []) w) (sym (get_or_append_left words (word ∷ []) [] k before)) (HasName-more names (get_or words k []) word (order.all k before))
            | inr past ↦
                let here : length words ≡ k = omega (arith, length-append words (word ∷ []), below) in
                (length names, omega (arith, length-append names (word ∷ [])), get_or_at names word [] [] (length names) refl ∙ sym (get_or_at words word [] [] k here))
          ];
      first = λ i inside.
          elim (cases_lt i (length names)) [
            | inl before ↦
                let (k, below, is, earlier_ones) = order.first i before in (
                  k,
                  omega (arith, length-append words (word ∷ []), below),
                  get_or_append_left words (word ∷ []) [] k below ∙ is ∙ sym (get_or_append_left names (word ∷ []) [] i before),
                  λ j earlier.
                      let fewer : i ≤ length names = omega (arith, before) in
                      subst (λ (l : List (List ℕ)). HasName l (get_or (words ++ word ∷ []) j [])) (sym (take-append-le i names (word ∷ []) fewer))
                      (subst (λ (w : List ℕ). HasName (take i names) w) (sym (get_or_append_left words (word ∷ []) [] j (omega (arith, below, earlier)))) (earlier_ones j earlier)),
                )
            | inr past ↦
                let here : length names ≡ i = omega (arith, length-append names (word ∷ []), inside) in (
                  length words,
                  omega (arith, length-append words (word ∷ [])),
                  get_or_at words word [] [] (length words) refl ∙ sym (get_or_at names word [] [] i here),
                  λ j earlier.
                      let whole : take i (names ++ word ∷ []) ≡ names = take-append-le i names (word ∷ []) (omega (arith, here)) ∙ take_all i names (omega (arith, here)) in
                      subst (λ (l : List (List ℕ)). HasName l (get_or (words ++ word ∷ []) j [])) (sym whole)
                      (subst (λ (w : List ℕ). HasName names w) (sym (get_or_append_left words (word ∷ []) [] j earlier)) (order.all j earlier)),
                )
          ];
    })

-- among no words there are no names
pub AppearInOrder-none : AppearInOrder [] []
AppearInOrder-none = record {
  all = λ k below. absurd (omega arith);
  first = λ i below. absurd (omega arith);
}

-- one record more, whose two names are added one after the other
pub AppearInOrder-row : (rows : List (List (List ℕ))) (fields : List (List ℕ)) (from to : List ℕ) (names between newer : List (List ℕ)) → AppearInOrder (words_of rows) names
    → field_at fields 0 ≡ Some from → field_at fields 1 ≡ Some to → IsWith from names between → IsWith to between newer → AppearInOrder (words_of (rows ++ fields ∷ [])) newer
AppearInOrder-row rows fields from to names between newer order one two first second =
    let (rest, is) = two_fields fields from to one two in
    let words : words_of (rows ++ fields ∷ []) ≡ (words_of rows ++ from ∷ []) ++ to ∷ [] =
    ap (λ f. words_of (rows ++ f ∷ [])) is ∙ words_push rows from to rest ∙ sym (append_assoc (words_of rows) (from ∷ []) (to ∷ [])) in
    subst (λ (l : List (List ℕ)). AppearInOrder l newer) (sym words)
    (AppearInOrder-more (words_of rows ++ from ∷ []) between newer to (AppearInOrder-more (words_of rows) names between from order first) second)

-- what is not there is none
pub no_value : (x : Option ℤ) → false ≡ is_some x → x ≡ None
no_value None none = refl
no_value (Some z) none = absurd (false≢true none)

replicate_none : (count c : ℕ) → cell_at (replicate count None) c ≡ None
replicate_none count c =
    elim (cases_lt c count) [
      | inl inside ↦ get_or-replicate count c None None inside
      | inr past ↦
          let cells : List (Option ℤ) = replicate count None in
          let none : Option ℤ = None in
          get_or_past cells c None (omega (arith, length-replicate count none, past))
    ]

-- no cell is filled
pub ArePlaced-none : (n : ℕ) (adds_up : Bool) (trips : List Trip) (amounts : List ℤ) (count : ℕ) (cells : List (Option ℤ)) → count ≡ n * n → cells ≡ replicate count None → ArePlaced n adds_up trips amounts 0 cells
ArePlaced-none n adds_up trips amounts count cells many is = record {
  many = ap (λ (l : List (Option ℤ)). length l) is ∙ length-replicate count None ∙ many;
  each = λ c below. ap (λ (l : List (Option ℤ)). cell_at l c) is ∙ replicate_none count c;
  once = λ off j k before below. absurd (omega arith);
  small = λ c.
      let empty : cell_at cells c ≡ None = ap (λ (l : List (Option ℤ)). cell_at l c) is ∙ replicate_none count c in
      subst (λ (x : Option ℤ). unsigned_abs (filled x) ≤ max_entry) (sym empty) (omega arith);
}

-- one trip more
one_more : (n : ℕ) (trips : List Trip) (amounts : List ℤ) (cell k : ℕ) (same : Bool) → (cell_of n (trip_at trips k) == cell) ≡ same
    → sum_of n trips amounts cell (k + 1) ≡ cond same (Some (added (sum_of n trips amounts cell k) (get_or amounts k (pos 0)))) (sum_of n trips amounts cell k)
one_more n trips amounts cell k same is =
    ap (λ m. sum_of n trips amounts cell m) (add-one k)
    ∙ ap (λ b. cond b (Some (added (sum_of n trips amounts cell k) (get_or amounts k (pos 0)))) (sum_of n trips amounts cell k)) is

-- where the sum of a cell is none, no trip is of it
none_of : (n : ℕ) (trips : List Trip) (amounts : List ℤ) (cell k : ℕ) → sum_of n trips amounts cell k ≡ None → (j : ℕ) → j < k → cell_of n (trip_at trips j) ≢ cell
none_of n trips amounts cell zero none j below = absurd (omega arith)
none_of n trips amounts cell (suc k) none j below = λ same.
    elim (cases_Bool (cell_of n (trip_at trips k) == cell)) [
      | inl here ↦ absurd (let is = sym (ap (λ b. cond b (Some (added (sum_of n trips amounts cell k) (get_or amounts k (pos 0)))) (sum_of n trips amounts cell k)) here) ∙ none in cc)
      | inr other ↦
          let fewer : sum_of n trips amounts cell k ≡ None = sym (ap (λ b. cond b (Some (added (sum_of n trips amounts cell k) (get_or amounts k (pos 0)))) (sum_of n trips amounts cell k)) other) ∙ none in
          elim (cases_lt j k) [
            | inl before ↦ none_of n trips amounts cell k fewer j before same
            | inr past ↦
                let last : j ≡ k = omega (arith, below, past) in
                let differs = eqb-false (cell_of n (trip_at trips k)) cell other in
                differs (ap (λ m. cell_of n (trip_at trips m)) (sym last) ∙ same)
          ]
    ]

-- one amount more in its cell
pub ArePlaced-more : (n : ℕ) (adds_up : Bool) (trips : List Trip) (amounts : List ℤ) (k cell : ℕ) (cells newer : List (Option ℤ)) (amount sum : ℤ) → ArePlaced n adds_up trips amounts k cells → cell ≡ cell_of n (trip_at trips k) → cell < length cells
    → (adds_up ≡ false → cell_at cells cell ≡ None) → amount ≡ get_or amounts k (pos 0) → sum ≡ added (cell_at cells cell) amount → unsigned_abs sum ≤ max_entry → newer ≡ set cells cell (Some sum)
    → ArePlaced n adds_up trips amounts (k + 1) newer
ArePlaced-more n adds_up trips amounts k cell cells newer amount sum placed is inside empty amount_is sum_is within written =
    let within_matrix : cell < n * n = omega (arith, inside, placed.many) in
    subst (ArePlaced n adds_up trips amounts (k + 1)) (sym written) (record {
      many = length-set cells cell (Some sum) ∙ placed.many;
      each = λ c below.
          elim (cases_eq c cell) [
            | inl same ↦
                ap (λ m. cell_at (set cells cell (Some sum)) m) same
                ∙ get_or-set_same cells cell (Some sum) None inside
                ∙ ap Some (sum_is ∙ ap₂ added (placed.each cell within_matrix) amount_is)
                ∙ sym (one_more n trips amounts cell k true (eq-eqb _ _ (sym is)))
                ∙ ap (λ m. sum_of n trips amounts m (k + 1)) (sym same)
            | inr differs ↦
                get_or-set_other cells cell c (Some sum) None differs
                ∙ placed.each c below
                ∙ sym (one_more n trips amounts c k false (ne_eqb _ _ (λ same. differs (sym same ∙ sym is))))
          ];
      once = λ off i j earlier below.
          elim (cases_lt j k) [
            | inl before ↦ placed.once off i j earlier before
            | inr past ↦
                let last : j ≡ k = omega (arith, below, past) in
                λ same.
                none_of n trips amounts cell k (sym (placed.each cell within_matrix) ∙ empty off) i (omega (arith, earlier, last)) (same ∙ ap (λ m. cell_of n (trip_at trips m)) last ∙ sym is)
          ];
      small = λ c.
          elim (cases_eq c cell) [
            | inl same ↦
                let here : cell_at (set cells cell (Some sum)) c ≡ Some sum =
                ap (λ m. cell_at (set cells cell (Some sum)) m) same ∙ get_or-set_same cells cell (Some sum) None inside in
                subst (λ (x : Option ℤ). unsigned_abs (filled x) ≤ max_entry) (sym here) within
            | inr differs ↦
                subst (λ (x : Option ℤ). unsigned_abs (filled x) ≤ max_entry) (sym (get_or-set_other cells cell c (Some sum) None differs)) (placed.small c)
          ];
    })

-- the cell of two departments lies in the matrix
pub cell_inside : (n i j : ℕ) → i < n → j < n → i * n + j < n * n
cell_inside n i j first second =
    let further : (i + 1) * n ≤ n * n = mul-le-mul_right n (omega (arith, first)) in omega (arith, further, second)

-- the cell of the way back lies in the matrix
pub mirror_inside : (n c : ℕ) → c < n * n → mirror_of n c < n * n
mirror_inside n c below =
    let some : 0 < n = positive n c below in
    cell_inside n (c % n) (c / n) (mod_below c n some) (div_below c n n some below)
  where
    positive : (n c : ℕ) → c < n * n → 0 < n
    positive zero c none = absurd (omega arith)
    positive (suc n) c some = omega arith

half_of : (is_symmetric : Bool) (own other : Option ℤ) → (of_halves is_symmetric own other ≡ own) ⊎ (of_halves is_symmetric own other ≡ other)
half_of false own other = inl refl
half_of true None other = inr refl
half_of true (Some z) other = inl refl

-- the matrix of placed trips is what their records tell
pub listed_matrix : (rules : Rules) (reading : Reading) (names : List (List ℕ)) (rows : List (List (List ℕ))) (n m scale : ℕ) (trips : List Trip) (decimals : List Decimal) (amounts entries : List ℤ) (cells : List (Option ℤ)) → n ≡ length names → m ≡ length names
    → decimals ≡ map (λ t. t.amount) trips → AreTripsOf reading names rows trips → ArePlaced n rules.adds_up trips amounts (length trips) cells → AreEntriesOf rules.is_symmetric m cells entries → IsLeastScale decimals scale
    → AreScaled scale decimals amounts → IsTripsMatrix rules reading names rows scale entries
listed_matrix rules reading names rows n m scale trips decimals amounts entries cells many as_many numbers read placed_so entries_so least scaled =
    let count = length names in
    let placed : ArePlaced count rules.adds_up trips amounts (length trips) cells = subst (λ (m : ℕ). ArePlaced m rules.adds_up trips amounts (length trips) cells) many placed_so in
    let said : AreEntriesOf rules.is_symmetric count cells entries = subst (λ (k : ℕ). AreEntriesOf rules.is_symmetric k cells entries) as_many entries_so in
    record {
      trips = trips;
      amounts = amounts;
      told = read;
      least = subst (λ (l : List Decimal). IsLeastScale l scale) numbers least;
      scaled = subst (λ (l : List Decimal). AreScaled scale l amounts) numbers scaled;
      square = said.many;
      sums = λ c below.
          said.each c below
          ∙ ap₂ (λ own other. filled (of_halves rules.is_symmetric own other)) (placed.each c below) (placed.each (mirror_of count c) (mirror_inside count c below));
      once = placed.once;
      halves = said.halves;
    }

-- the matrix is square, and no entry lies further from 0 than the largest
pub listed_square : (names : List (List ℕ)) (n m count : ℕ) (rules : Rules) (trips : List Trip) (amounts entries : List ℤ) (cells : List (Option ℤ)) → m ≡ length names → AreNames names
    → ArePlaced n rules.adds_up trips amounts count cells → AreEntriesOf rules.is_symmetric m cells entries → IsNamedSquare names entries
listed_square names n m count rules trips amounts entries cells many named placed said = record {
  named = named;
  square = said.many ∙ ap (λ k. k * k) many;
  in_range =
      All-from_get_or (λ z. unsigned_abs z ≤ max_entry) entries (pos 0) (λ c below.
      let inside : c < m * m = omega (arith, below, said.many) in
      subst (λ z. unsigned_abs z ≤ max_entry) (sym (said.each c inside)) (elim (half_of rules.is_symmetric (cell_at cells c) (cell_at cells (mirror_of m c))) [
        | inl own ↦ subst (λ (x : Option ℤ). unsigned_abs (filled x) ≤ max_entry) (sym own) (placed.small c)
        | inr other ↦ subst (λ (x : Option ℤ). unsigned_abs (filled x) ≤ max_entry) (sym other) (placed.small (mirror_of m c))
      ]));
}

-- a cell of a list is read as any word
pub listed_cell : (reading : Reading) (i c : ℕ) (word : List ℕ) → reading.is_square ≡ false → cell_in reading i c word ≡ kept_in reading word
listed_cell reading i c word listed =
    let nothing : Decimal = record { number = pos 0; places = 0 } in
    ap (λ b. cond ((b && (i == c)) && is_nothing word) (Some nothing) (kept_in reading word)) listed

-- the entries are what the cells say
pub entries_plain : (is_symmetric : Bool) (n : ℕ) (cells : List (Option ℤ)) (entries : List ℤ) → is_symmetric ≡ false → length cells ≡ n * n → entries ≡ map filled cells → AreEntriesOf is_symmetric n cells entries
entries_plain is_symmetric n cells entries off many is = record {
  many = ap (λ (l : List ℤ). length l) is ∙ length-map cells filled ∙ many;
  each = λ c below.
      ap (λ (l : List ℤ). get_or l c (pos 0)) is
      ∙ get_or-map filled cells c None (pos 0) (omega (arith, many, below))
      ∙ ap (λ b. filled (of_halves b (cell_at cells c) (cell_at cells (mirror_of n c)))) (sym off);
  halves = subst (λ b. IsSymmetric b n entries) (sym off) tt;
}

-- or what those of the way back say, and both halves are the same
pub entries_mirrored : (is_symmetric : Bool) (n : ℕ) (cells all : List (Option ℤ)) (entries : List ℤ) → is_symmetric ≡ true → length all ≡ n * n
    → ((c : ℕ) → c < n * n → cell_at all c ≡ either (cell_at cells c) (cell_at cells (mirror_of n c))) → entries ≡ map filled all → AreMirrored n entries → AreEntriesOf is_symmetric n cells entries
entries_mirrored is_symmetric n cells all entries on many each is mirrored = record {
  many = ap (λ (l : List ℤ). length l) is ∙ length-map all filled ∙ many;
  each = λ c below.
      ap (λ (l : List ℤ). get_or l c (pos 0)) is
      ∙ get_or-map filled all c None (pos 0) (omega (arith, many, below))
      ∙ ap filled (each c below)
      ∙ ap (λ b. filled (of_halves b (cell_at cells c) (cell_at cells (mirror_of n c)))) (sym on);
  halves = subst (λ b. IsSymmetric b n entries) (sym on) mirrored;
}

-- one record more, and the trip that it says
pub AreTripsOf-more : (reading : Reading) (names : List (List ℕ)) (rows : List (List (List ℕ))) (i : ℕ) (trips newer : List Trip) (t : Trip) → length trips ≡ i → ((k : ℕ) → k < length trips → IsTripOf reading names (row_at rows k) (trip_at trips k))
    → IsTripOf reading names (row_at rows i) t → newer ≡ trips ++ t ∷ [] → (length newer ≡ i + 1) × ((k : ℕ) → k < length newer → IsTripOf reading names (row_at rows k) (trip_at newer k))
AreTripsOf-more reading names rows i trips newer t many each is pushed =
    let long : length newer ≡ i + 1 = omega (arith, ap (λ (l : List Trip). length l) pushed, length-append trips (t ∷ []), many) in (
      long,
      λ k below.
          subst (λ (l : List Trip). IsTripOf reading names (row_at rows k) (trip_at l k)) (sym pushed) (elim (cases_lt k (length trips)) [
            | inl inside ↦ subst (λ (u : Trip). IsTripOf reading names (row_at rows k) u) (sym (get_or_append_left trips (t ∷ []) _ k inside)) (each k inside)
            | inr past ↦
                let here : length trips ≡ k = omega (arith, long, below, many, past) in
                subst (λ (u : Trip). IsTripOf reading names (row_at rows k) u) (sym (get_or_at trips t [] _ k here)) (subst (λ m. IsTripOf reading names (row_at rows m) t) (sym many ∙ here) is)
          ]),
    )

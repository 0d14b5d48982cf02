-- A line of a name and numbers at the front of a text: the text determines which.
use Rattle.std.proofs.Common.{◌≡◌, ◌≢◌, ℕ, List, [], ◌∷◌, ◌++◌, get_or, drop, length, ℤ, refl, sym, ap, subst, ◌∙◌, inl, inr, arith}
use Rattle.std.proofs.lemmas.Int.{ints}
use Rattle.std.specs.Prelude.{◌⊎◌, ◌<ℤ◌, ◌≤ℤ◌, Bool, true, false, int_lt}
use Rattle.qap_cost.specs.Range.{AllLimited}
use Rattle.qap_lines.proofs.Lines.{IsLine-unique, no_line-line}
use Rattle.qap_lines.proofs.NumberLists.{IsLine-line_text, IsNamed-unique, IsNamed-numbers_text}
use Rattle.qap_lines.specs.Line.{HasNoLine, IsLine}
use Rattle.qap_lines.specs.LineText.{numbers_text, line_text}
use Rattle.qap_lines.specs.Number.{IsNamed, Spells}

-- the empty text has no line feed
pub no_line-nil : HasNoLine []
no_line-nil = record { each = λ i below. absurd (omega arith) }

-- two lines of one name
pub line_front : (name : List ℕ) (xs ys : List ℤ) (rest more : List ℕ) → HasNoLine name → AllLimited xs → AllLimited ys
    → line_text name xs ++ rest ≡ line_text name ys ++ more → (xs ≡ ys) × (rest ≡ more)
line_front name xs ys rest more none h k e =
    let one = IsLine-line_text rest name xs none h in
    let other = subst (λ t. IsLine t (name ++ numbers_text ys) more) (sym e) (IsLine-line_text more name ys none k) in
    let u = IsLine-unique (line_text name xs ++ rest) (name ++ numbers_text xs) rest (name ++ numbers_text ys) more one other in
    (IsNamed-unique name (name ++ numbers_text xs) xs ys (IsNamed-numbers_text name xs h) (subst (λ l. IsNamed name l ys) (sym u.0) (IsNamed-numbers_text name ys k)), u.1)

-- the first line has what is so of it, or there is none
pub line_fault : {E : Type 0} (missing : E) (text line rest : List ℕ) (P : List ℕ → E → Type 0) (e : E) → IsLine text line rest
    → ((e ≡ missing) × HasNoLine text) ⊎ ((l more : List ℕ) × IsLine text l more × P l e) → P line e
line_fault missing text line rest P e is (inl h) = absurd (no_line-line text line rest h.1 is)
line_fault missing text line rest P e is (inr h) = subst (λ l. P l e) (IsLine-unique text h.0 h.1 line rest h.2 is).0 h.3

-- where a text begins with a line of a name and numbers, a fault of its first line is one of that line
pub named_fault : {E : Type 0} (missing : E) (text name rest : List ℕ) (zs : List ℤ) (P : List ℕ → E → Type 0) (e : E) → HasNoLine name → AllLimited zs
    → text ≡ line_text name zs ++ rest → ((e ≡ missing) × HasNoLine text) ⊎ ((l more : List ℕ) × IsLine text l more × P l e) → P (name ++ numbers_text zs) e
named_fault missing text name rest zs P e none h is fault =
    line_fault missing text (name ++ numbers_text zs) rest P e (subst (λ t. IsLine t (name ++ numbers_text zs) rest) (sym is) (IsLine-line_text rest name zs none h)) fault

-- there is one fault of a line where there is one of each
pub one_line_fault : {E : Type 0} (missing : E) (text : List ℕ) (P : List ℕ → E → Type 0) (d e : E) → ((line : List ℕ) → P line d → P line e → d ≡ e)
    → ((d ≡ missing) × HasNoLine text) ⊎ ((l more : List ℕ) × IsLine text l more × P l d) → ((e ≡ missing) × HasNoLine text) ⊎ ((l more : List ℕ) × IsLine text l more × P l e) → d ≡ e
one_line_fault missing text P d e one (inl a) (inl b) = a.0 ∙ sym b.0
one_line_fault missing text P d e one (inl a) (inr b) = absurd (no_line-line text b.0 b.1 a.1 b.2)
one_line_fault missing text P d e one (inr a) (inl b) = absurd (no_line-line text a.0 a.1 b.1 a.2)
one_line_fault missing text P d e one (inr a) (inr b) =
    one a.0 a.3 (subst (λ l. P l e) (IsLine-unique text b.0 b.1 a.0 a.1 b.2 a.2).0 b.3)

-- a name that numbers can follow: it has no space
abbrev pub IsName : List ℕ → Type 0
IsName [] = Unit {0}
IsName (b ∷ bs) = (b ≢ 32) × IsName bs

-- numbers begin with a space, if there are any
no_front : (b : ℕ) (bs numbers : List ℕ) (zs : List ℤ) → b ≢ 32 → Spells numbers zs → numbers ≡ b ∷ bs → ⊥
no_front b bs numbers [] other spelled e = absurd (let none : [] ≡ b ∷ bs = sym spelled ∙ e in omega (arith, ap length none))
no_front b bs numbers (z ∷ zs) other spelled e = other (sym (ap (λ l. get_or l 0 0) (sym spelled.2 ∙ e)))

same_names : (name other front back : List ℕ) (xs ys : List ℤ) → IsName name → IsName other → Spells front xs → Spells back ys → name ++ front ≡ other ++ back → name ≡ other
same_names [] [] front back xs ys h k a b e = refl
same_names [] (c ∷ cs) front back xs ys h k a b e = absurd (no_front c (cs ++ back) front xs k.0 a e)
same_names (c ∷ cs) [] front back xs ys h k a b e = absurd (no_front c (cs ++ front) back ys h.0 b (sym e))
same_names (c ∷ cs) (d ∷ ds) front back xs ys h k a b e =
    let first : c ≡ d = ap (λ l. get_or l 0 0) e in
    let rest : cs ≡ ds = same_names cs ds front back xs ys h.1 k.1 a b (ap (drop 1) e) in
    ap (λ (i : ℕ). i ∷ cs) first ∙ ap (λ l. d ∷ l) rest

-- a line has one name
pub one_name : (name other line : List ℕ) (xs ys : List ℤ) → IsName name → IsName other → IsNamed name line xs → IsNamed other line ys → name ≡ other
one_name name other line xs ys h k a b = same_names name other a.numbers b.numbers xs ys h k a.spelled b.spelled (sym a.is ∙ b.is)

-- two lines, and what follows them
pub two_fronts : (name other : List ℕ) (xs ys : List ℤ) (rest more : List ℕ) → IsName name → IsName other → HasNoLine name → HasNoLine other → AllLimited xs → AllLimited ys
    → line_text name xs ++ rest ≡ line_text other ys ++ more → (name ≡ other) × (xs ≡ ys) × (rest ≡ more)
two_fronts name other xs ys rest more h k none no_line limited within e =
    let one = IsLine-line_text rest name xs none limited in
    let two = subst (λ t. IsLine t (other ++ numbers_text ys) more) (sym e) (IsLine-line_text more other ys no_line within) in
    let u = IsLine-unique (line_text name xs ++ rest) (name ++ numbers_text xs) rest (other ++ numbers_text ys) more one two in
    let here = IsNamed-numbers_text name xs limited in
    let there = subst (λ l. IsNamed other l ys) (sym u.0) (IsNamed-numbers_text other ys within) in
    let same = one_name name other (name ++ numbers_text xs) xs ys h k here there in
    (same, IsNamed-unique name (name ++ numbers_text xs) xs ys here (subst (λ l. IsNamed l (name ++ numbers_text xs) ys) (sym same) there), u.1)

-- a line of a name and numbers at the front of a text is its first line
pub named_front : (text name rest line more other : List ℕ) (zs ys : List ℤ) → IsName name → IsName other → HasNoLine name → AllLimited zs
    → text ≡ line_text name zs ++ rest → IsLine text line more → IsNamed other line ys → (name ≡ other) × (zs ≡ ys) × (rest ≡ more)
named_front text name rest line more other zs ys h k none limited is first named =
    let here = subst (λ t. IsLine t (name ++ numbers_text zs) rest) (sym is) (IsLine-line_text rest name zs none limited) in
    let u = IsLine-unique text (name ++ numbers_text zs) rest line more here first in
    let one = subst (λ l. IsNamed name l zs) u.0 (IsNamed-numbers_text name zs limited) in
    let same = one_name name other line zs ys h k one named in
    (same, IsNamed-unique name line zs ys one (subst (λ l. IsNamed l line ys) (sym same) named), u.1)

-- whether a number that is stated where it is smaller has a line

-- a number that is less is found to be less
pub int_lt-yes : (g c : ℤ) → g <ℤ c → int_lt g c ≡ true
int_lt-yes g c less = by (int_lt g c) refl
  where
    by : (t : Bool) → int_lt g c ≡ t → int_lt g c ≡ true
    by true e = e
    by false e = absurd (omega (arith, ints, less))

-- a number that isn't less is found not to be
pub int_lt-no : (g c : ℤ) → c ≤ℤ g → int_lt g c ≡ false
int_lt-no g c most = by (int_lt g c) refl
  where
    by : (t : Bool) → int_lt g c ≡ t → int_lt g c ≡ false
    by true e = absurd (omega (arith, ints, most))
    by false e = e

-- What the line of a node says, and that a text determines which nodes its lines are.
use Rattle.std.proofs.Common.{◌≡◌, ℕ, ◌+◌, ◌<◌, ◌≤◌, ◌++◌, List, [], ◌∷◌, length, drop, get_or, ℤ, pos, unsigned_abs, refl, sym, ◌∙◌, ap, ap₂, subst, arith, append_assoc, length-append}
use Rattle.std.proofs.lemmas.List.{length-map}
use Rattle.std.specs.Prelude.{codes, Bool, Option, Some, None}
use Rattle.qap_cost.specs.Placement.{Placement}
use Rattle.qap_cost.specs.Range.{AllLimited}
use Rattle.qap_io.specs.Number.{from_one}
use Rattle.qap_lines.proofs.Fronts.{no_line-nil, IsName, one_name, two_fronts}
use Rattle.qap_lines.proofs.Limits.{AllLimited-append, same_halves}
use Rattle.qap_lines.proofs.Lines.{HasNoLine-cons}
use Rattle.qap_lines.proofs.Locations.{AllLimited-permutation, from_one-injective}
use Rattle.qap_lines.proofs.NumberLists.{IsNamed-unique, IsNamed-numbers_text}
use Rattle.qap_lines.specs.Line.{HasNoLine}
use Rattle.qap_lines.specs.LineText.{line_text, numbers_text}
use Rattle.qap_lines.specs.Number.{IsNamed}
use Rattle.qap_proof.proofs.NodeLines.{AllLimited-cons}
use Rattle.qap_proof.specs.Code.{made_split}
use Rattle.qap_proof.specs.Shape.{MayBeDuals, IsSplit, HasShape, AllHaveShape, free_count, has_duals}
use Rattle.qap_proof.specs.Text.{letter, numbers_of_duals, split_numbers, tree_text, trees_text}
use Rattle.qap_proof.specs.TextFault.{Saying, Says, closes, splits, cuts, mirrors}
use Rattle.qap_proof.specs.Tree.{Pair, pair, Split, Node, closed, split, cut, mirrored, Nodes, no_nodes, node, child_count, IsFreeOn, child_of}
use Rattle.qap_proof.specs.declared.side.Side.{Side}
use Rattle.qap_proof.specs.declared.side.Side.TheVariants.{Facility, Location}

-- the name of the line that says this
abbrev pub saying_name : Saying → List ℕ
saying_name (closes zs) = codes "b"
saying_name (splits side i zs) = letter side
saying_name cuts = codes "c"
saying_name (mirrors z zs) = codes "m"

-- the numbers of this line
abbrev pub saying_numbers : Saying → List ℤ
saying_numbers (closes zs) = zs
saying_numbers (splits side i zs) = pos (i + 1) ∷ zs
saying_numbers cuts = []
saying_numbers (mirrors z zs) = z ∷ zs

-- a number for each kind of line, by which lines of two kinds are distinguished
abbrev pub kind_of : Saying → ℕ
kind_of (closes zs) = 0
kind_of (splits side i zs) = 1
kind_of cuts = 2
kind_of (mirrors z zs) = 3

-- what the name of a line is
pub IsName-saying : (w : Saying) → IsName (saying_name w)
IsName-saying (closes zs) = ((λ e. omega arith), tt)
IsName-saying (splits Facility i zs) = ((λ e. omega arith), tt)
IsName-saying (splits Location i zs) = ((λ e. omega arith), tt)
IsName-saying cuts = ((λ e. omega arith), tt)
IsName-saying (mirrors z zs) = ((λ e. omega arith), tt)

-- the name of a node's line has no line feed
pub no_line-saying : (w : Saying) → HasNoLine (saying_name w)
no_line-saying (closes zs) = HasNoLine-cons 98 _ (λ e. omega arith) no_line-nil
no_line-saying (splits Facility i zs) = HasNoLine-cons 115 _ (λ e. omega arith) no_line-nil
no_line-saying (splits Location i zs) = HasNoLine-cons 116 _ (λ e. omega arith) no_line-nil
no_line-saying cuts = HasNoLine-cons 99 _ (λ e. omega arith) no_line-nil
no_line-saying (mirrors z zs) = HasNoLine-cons 109 _ (λ e. omega arith) no_line-nil

letter_high : (side : Side) → 115 ≤ get_or (letter side) 0 0
letter_high Facility = omega arith
letter_high Location = omega arith

same_side : (a b : Side) → letter a ≡ letter b → a ≡ b
same_side Facility Facility e = refl
same_side Facility Location e = absurd (let first : 115 ≡ 116 = ap (λ l. get_or l 0 0) e in omega (arith, first))
same_side Location Facility e = absurd (let first : 116 ≡ 115 = ap (λ l. get_or l 0 0) e in omega (arith, first))
same_side Location Location e = refl

same_number : (i j : ℕ) (xs ys : List ℤ) → pos (i + 1) ∷ xs ≡ pos (j + 1) ∷ ys → i ≡ j
same_number i j xs ys e = let more : i + 1 ≡ j + 1 = ap (λ l. unsigned_abs (get_or l 0 (pos 0))) e in omega arith

-- the name and the numbers determine what is said
same_sayings : (w z : Saying) → saying_name w ≡ saying_name z → saying_numbers w ≡ saying_numbers z → w ≡ z
same_sayings (closes xs) (closes ys) name numbers = ap closes numbers
same_sayings (closes xs) (splits side i ys) name numbers = absurd (let first : 98 ≡ get_or (letter side) 0 0 = ap (λ l. get_or l 0 0) name in omega (arith, first, letter_high side))
same_sayings (closes xs) cuts name numbers = absurd (let first : 98 ≡ 99 = ap (λ l. get_or l 0 0) name in omega (arith, first))
same_sayings (closes xs) (mirrors z ys) name numbers = absurd (let first : 98 ≡ 109 = ap (λ l. get_or l 0 0) name in omega (arith, first))
same_sayings (splits side i xs) (closes ys) name numbers = absurd (let first : get_or (letter side) 0 0 ≡ 98 = ap (λ l. get_or l 0 0) name in omega (arith, first, letter_high side))
same_sayings (splits a i xs) (splits b j ys) name numbers =
    ap (λ (side : Side). splits side i xs) (same_side a b name) ∙ ap (λ (k : ℕ). splits b k xs) (same_number i j xs ys numbers) ∙ ap (splits b j) (ap (drop 1) numbers)
same_sayings (splits side i xs) cuts name numbers = absurd (let first : get_or (letter side) 0 0 ≡ 99 = ap (λ l. get_or l 0 0) name in omega (arith, first, letter_high side))
same_sayings (splits side i xs) (mirrors z ys) name numbers = absurd (let first : get_or (letter side) 0 0 ≡ 109 = ap (λ l. get_or l 0 0) name in omega (arith, first, letter_high side))
same_sayings cuts (closes ys) name numbers = absurd (let first : 99 ≡ 98 = ap (λ l. get_or l 0 0) name in omega (arith, first))
same_sayings cuts (splits side i ys) name numbers = absurd (let first : 99 ≡ get_or (letter side) 0 0 = ap (λ l. get_or l 0 0) name in omega (arith, first, letter_high side))
same_sayings cuts cuts name numbers = refl
same_sayings cuts (mirrors z ys) name numbers = absurd (let first : 99 ≡ 109 = ap (λ l. get_or l 0 0) name in omega (arith, first))
same_sayings (mirrors z xs) (closes ys) name numbers = absurd (let first : 109 ≡ 98 = ap (λ l. get_or l 0 0) name in omega (arith, first))
same_sayings (mirrors z xs) (splits side i ys) name numbers = absurd (let first : 109 ≡ get_or (letter side) 0 0 = ap (λ l. get_or l 0 0) name in omega (arith, first, letter_high side))
same_sayings (mirrors z xs) cuts name numbers = absurd (let first : 109 ≡ 99 = ap (λ l. get_or l 0 0) name in omega (arith, first))
same_sayings (mirrors z xs) (mirrors y ys) name numbers = ap₂ mirrors (ap (λ l. get_or l 0 (pos 0)) numbers) (ap (drop 1) numbers)

says_named : (n : ℕ) (line : List ℕ) (w : Saying) → Says n line w → IsNamed (saying_name w) line (saying_numbers w)
says_named n line (closes zs) h = h
says_named n line (splits side i zs) h = h.1
says_named n line cuts h = h
says_named n line (mirrors z zs) h = h.1

-- a line says one thing
pub one_saying : (n : ℕ) (line : List ℕ) (w z : Saying) → Says n line w → Says n line z → w ≡ z
one_saying n line w z h k =
    let a = says_named n line w h in
    let b = says_named n line z k in
    let name = one_name (saying_name w) (saying_name z) line (saying_numbers w) (saying_numbers z) (IsName-saying w) (IsName-saying z) a b in
    same_sayings w z name
    (IsNamed-unique (saying_name w) line (saying_numbers w) (saying_numbers z) a (subst (λ l. IsNamed l line (saying_numbers z)) (sym name) b))

-- two lines at the front of a text
pub said_front : (w z : Saying) (rest more : List ℕ) → AllLimited (saying_numbers w) → AllLimited (saying_numbers z)
    → line_text (saying_name w) (saying_numbers w) ++ rest ≡ line_text (saying_name z) (saying_numbers z) ++ more → (w ≡ z) × (rest ≡ more)
said_front w z rest more limited within e =
    let p = two_fronts (saying_name w) (saying_name z) (saying_numbers w) (saying_numbers z) rest more (IsName-saying w) (IsName-saying z) (no_line-saying w) (no_line-saying z) limited within e in
    (same_sayings w z p.0 p.1, p.2)

-- what the line of a node says, and what stands below it

-- what the line of a tree's first node says
abbrev pub said_of : Node → Saying
said_of (closed d) = closes (d.u ++ d.v)
said_of (split s children) = splits s.side s.number (numbers_of_duals s.duals)
said_of cut = cuts
said_of (mirrored j m) = mirrors (pos (j + 1)) (from_one m)

-- the text of what is below that node
abbrev pub below_text : Node → List ℕ
below_text (closed d) = []
below_text (split s children) = trees_text children
below_text cut = []
below_text (mirrored j m) = []

-- the text of a tree is the line of what its first node says, and behind it what is below that node
pub tree_text-said : (t : Node) (rest : List ℕ) → tree_text t ++ rest ≡ line_text (saying_name (said_of t)) (saying_numbers (said_of t)) ++ (below_text t ++ rest)
tree_text-said (closed d) rest = refl
tree_text-said (split s children) rest = append_assoc (line_text (letter s.side) (split_numbers s)) (trees_text children) rest
tree_text-said cut rest = refl
tree_text-said (mirrored j m) rest = refl

-- what is free is below the size
pub free_within : (side : Side) (x : Placement) (i : ℕ) → IsFreeOn side x i → i < x.size
free_within Facility x i free = free.within
free_within Location x i free = free.within

AllLimited-duals : (m : ℕ) (o : Option Pair) → MayBeDuals m o → AllLimited (numbers_of_duals o)
AllLimited-duals m None h = record { each = λ j below. absurd (omega arith) }
AllLimited-duals m (Some d) h = AllLimited-append d.u d.v h.u_range h.v_range

-- the numbers of a split's line are in range
pub AllLimited-split : (x : Placement) (s : Split) → x.size ≤ 256 → IsSplit x s → AllLimited (split_numbers s)
AllLimited-split x s small h =
    AllLimited-cons (pos (s.number + 1)) (numbers_of_duals s.duals) (let within = free_within s.side x s.number h.free in omega (arith, within, small)) (AllLimited-duals (free_count x) s.duals h.duals)

-- the same for the line of any node
pub AllLimited-said : (t : Node) (x : Placement) (earlier : ℕ) (duals : Bool) → x.size ≤ 256 → earlier ≤ 256 → HasShape x earlier duals t → AllLimited (saying_numbers (said_of t))
AllLimited-said (closed d) x earlier duals small few h = AllLimited-append d.u d.v h.u_range h.v_range
AllLimited-said (split s children) x earlier duals small few h = AllLimited-split x s small h.0
AllLimited-said cut x earlier duals small few h = record { each = λ j below. absurd (omega arith) }
AllLimited-said (mirrored j m) x earlier duals small few h =
    AllLimited-cons (pos (j + 1)) (from_one m) (let less = h.0 in omega (arith, less, few)) (AllLimited-permutation m h.1.permutation)

-- a node's line says what the node is
pub Says-said : (t : Node) (x : Placement) (earlier : ℕ) (duals : Bool) → x.size ≤ 256 → earlier ≤ 256 → HasShape x earlier duals t
    → Says x.size (saying_name (said_of t) ++ numbers_text (saying_numbers (said_of t))) (said_of t)
Says-said (closed d) x earlier duals small few h = IsNamed-numbers_text (codes "b") (d.u ++ d.v) (AllLimited-said (closed d) x earlier duals small few h)
Says-said (split s children) x earlier duals small few h =
    (free_within s.side x s.number h.0.free, IsNamed-numbers_text (letter s.side) (split_numbers s) (AllLimited-said (split s children) x earlier duals small few h))
Says-said cut x earlier duals small few h = IsNamed-numbers_text (codes "c") [] (AllLimited-said cut x earlier duals small few h)
Says-said (mirrored j m) x earlier duals small few h =
    (length-map m (λ k. pos (k + 1)) ∙ h.1.count, IsNamed-numbers_text (codes "m") (pos (j + 1) ∷ from_one m) (AllLimited-said (mirrored j m) x earlier duals small few h))

-- a tree at the front of a text

same_pairs : (d c : Pair) → length d.u ≡ length c.u → d.u ++ d.v ≡ c.u ++ c.v → d ≡ c
same_pairs d c same e = let halves = same_halves d.u d.v c.u c.v same e in ap₂ pair halves.0 halves.1

same_duals : (m : ℕ) (a b : Option Pair) → 0 < m → MayBeDuals m a → MayBeDuals m b → numbers_of_duals a ≡ numbers_of_duals b → a ≡ b
same_duals m None None some h k e = refl
same_duals m None (Some c) some h k e = absurd (omega (arith, some, ap length e, length-append c.u c.v, k.rows))
same_duals m (Some d) None some h k e = absurd (omega (arith, some, ap length e, length-append d.u d.v, h.rows))
same_duals m (Some d) (Some c) some h k e = ap Some (same_pairs d c (h.rows ∙ sym k.rows) e)

-- the line of a split determines it
pub same_splits : (x : Placement) (a b : Split) → IsSplit x a → IsSplit x b → splits a.side a.number (numbers_of_duals a.duals) ≡ splits b.side b.number (numbers_of_duals b.duals) → a ≡ b
same_splits x a b h k said =
    let numbers : split_numbers a ≡ split_numbers b = ap saying_numbers said in
    let sides : a.side ≡ b.side = same_side a.side b.side (ap saying_name said) in
    let number : a.number ≡ b.number = same_number a.number b.number (numbers_of_duals a.duals) (numbers_of_duals b.duals) numbers in
    let some : 0 < free_count x = let less = h.some in omega (arith, less) in
    let duals : a.duals ≡ b.duals = same_duals (free_count x) a.duals b.duals some h.duals k.duals (ap (drop 1) numbers) in
    ap (λ (side : Side). made_split side a.number a.duals) sides ∙ ap (λ (i : ℕ). made_split b.side i a.duals) number ∙ ap (made_split b.side b.number) duals

-- two nodes' lines, and what stands below them
front_said : (t s : Node) (x : Placement) (earlier : ℕ) (duals : Bool) (rest more : List ℕ) → x.size ≤ 256 → earlier ≤ 256 → HasShape x earlier duals t → HasShape x earlier duals s
    → tree_text t ++ rest ≡ tree_text s ++ more → (said_of t ≡ said_of s) × (below_text t ++ rest ≡ below_text s ++ more)
front_said t s x earlier duals rest more small few h k e =
    said_front (said_of t) (said_of s) (below_text t ++ rest) (below_text s ++ more) (AllLimited-said t x earlier duals small few h) (AllLimited-said s x earlier duals small few k)
    (sym (tree_text-said t rest) ∙ e ∙ tree_text-said s more)

mutual
  same_nodes : (t s : Node) (x : Placement) (earlier : ℕ) (duals : Bool) (rest more : List ℕ) → x.size ≤ 256 → HasShape x earlier duals t → HasShape x earlier duals s
      → said_of t ≡ said_of s → below_text t ++ rest ≡ below_text s ++ more → (t ≡ s) × (rest ≡ more)
  same_nodes (closed d) (closed c) x earlier duals rest more small h k said e = (ap closed (same_pairs d c (h.rows ∙ sym k.rows) (ap saying_numbers said)), e)
  same_nodes (closed d) (split b ss) x earlier duals rest more small h k said e = absurd (let kind : 0 ≡ 1 = ap kind_of said in omega (arith, kind))
  same_nodes (closed d) cut x earlier duals rest more small h k said e = absurd (let kind : 0 ≡ 2 = ap kind_of said in omega (arith, kind))
  same_nodes (closed d) (mirrored i l) x earlier duals rest more small h k said e = absurd (let kind : 0 ≡ 3 = ap kind_of said in omega (arith, kind))
  same_nodes (split a ts) (closed c) x earlier duals rest more small h k said e = absurd (let kind : 1 ≡ 0 = ap kind_of said in omega (arith, kind))
  same_nodes (split a ts) (split b ss) x earlier duals rest more small h k said e =
      let same = same_splits x a b h.0 k.0 said in
      let shapes : AllHaveShape x a 0 ss = subst (λ (s : Split). AllHaveShape x s 0 ss) (sym same) k.2 in
      let p = trees_front ts ss x a 0 rest more small (let count = h.1 in omega (arith, count, small)) h.2 shapes (h.1 ∙ sym k.1) e in
      (ap₂ split same p.0, p.1)
  same_nodes (split a ts) cut x earlier duals rest more small h k said e = absurd (let kind : 1 ≡ 2 = ap kind_of said in omega (arith, kind))
  same_nodes (split a ts) (mirrored i l) x earlier duals rest more small h k said e = absurd (let kind : 1 ≡ 3 = ap kind_of said in omega (arith, kind))
  same_nodes cut (closed c) x earlier duals rest more small h k said e = absurd (let kind : 2 ≡ 0 = ap kind_of said in omega (arith, kind))
  same_nodes cut (split b ss) x earlier duals rest more small h k said e = absurd (let kind : 2 ≡ 1 = ap kind_of said in omega (arith, kind))
  same_nodes cut cut x earlier duals rest more small h k said e = (refl, e)
  same_nodes cut (mirrored i l) x earlier duals rest more small h k said e = absurd (let kind : 2 ≡ 3 = ap kind_of said in omega (arith, kind))
  same_nodes (mirrored j m) (closed c) x earlier duals rest more small h k said e = absurd (let kind : 3 ≡ 0 = ap kind_of said in omega (arith, kind))
  same_nodes (mirrored j m) (split b ss) x earlier duals rest more small h k said e = absurd (let kind : 3 ≡ 1 = ap kind_of said in omega (arith, kind))
  same_nodes (mirrored j m) cut x earlier duals rest more small h k said e = absurd (let kind : 3 ≡ 2 = ap kind_of said in omega (arith, kind))
  same_nodes (mirrored j m) (mirrored i l) x earlier duals rest more small h k said e =
      let numbers : pos (j + 1) ∷ from_one m ≡ pos (i + 1) ∷ from_one l = ap saying_numbers said in
      (ap₂ mirrored (same_number j i (from_one m) (from_one l) numbers) (from_one-injective m l (ap (drop 1) numbers)), e)

  pub trees_front : (ts ss : Nodes) (x : Placement) (s : Split) (c : ℕ) (rest more : List ℕ) → x.size ≤ 256 → c + child_count ts ≤ 256 → AllHaveShape x s c ts → AllHaveShape x s c ss → child_count ts ≡ child_count ss
      → trees_text ts ++ rest ≡ trees_text ss ++ more → (ts ≡ ss) × (rest ≡ more)
  trees_front no_nodes no_nodes x s c rest more small few h k same e = (refl, e)
  trees_front no_nodes (node u us) x s c rest more small few h k same e = absurd (omega (arith, same))
  trees_front (node t ts) no_nodes x s c rest more small few h k same e = absurd (omega (arith, same))
  trees_front (node t ts) (node u us) x s c rest more small few h k same e =
      let r = front_said t u (child_of x s c) c (has_duals s.duals) (trees_text ts ++ rest) (trees_text us ++ more) small (omega (arith, few)) h.0 k.0
      (sym (append_assoc (tree_text t) (trees_text ts) rest) ∙ e ∙ append_assoc (tree_text u) (trees_text us) more) in
      let p = same_nodes t u (child_of x s c) c (has_duals s.duals) (trees_text ts ++ rest) (trees_text us ++ more) small h.0 k.0 r.0 r.1 in
      let q = trees_front ts us x s (c + 1) rest more small (omega (arith, few)) h.1 k.1 (omega (arith, same)) p.1 in
      (ap₂ node p.0 q.0, q.1)

-- two trees of the shape at the front of one text are the same, and so is what is behind them
pub tree_front : (t s : Node) (x : Placement) (earlier : ℕ) (duals : Bool) (rest more : List ℕ) → x.size ≤ 256 → earlier ≤ 256 → HasShape x earlier duals t → HasShape x earlier duals s
    → tree_text t ++ rest ≡ tree_text s ++ more → (t ≡ s) × (rest ≡ more)
tree_front t s x earlier duals rest more small few h k e =
    let p = front_said t s x earlier duals rest more small few h k e in same_nodes t s x earlier duals rest more small h k p.0 p.1

-- behind fewer trees than there are, there is one more
pub next_tree : (before ts : Nodes) (x : Placement) (s : Split) (c : ℕ) (rest after : List ℕ) → x.size ≤ 256 → c + child_count ts ≤ 256 → AllHaveShape x s c before → AllHaveShape x s c ts → child_count before < child_count ts
    → trees_text ts ++ rest ≡ trees_text before ++ after
    → (t : Node) × (behind : List ℕ) × HasShape (child_of x s (c + child_count before)) (c + child_count before) (has_duals s.duals) t × (after ≡ tree_text t ++ behind)
next_tree no_nodes no_nodes x s c rest after small few h k fewer e = absurd (omega (arith, fewer))
next_tree no_nodes (node u us) x s c rest after small few h k fewer e =
    let none : c ≡ c + 0 = omega arith in
    (u, trees_text us ++ rest, subst (λ (i : ℕ). HasShape (child_of x s i) i (has_duals s.duals) u) none k.0, sym e ∙ append_assoc (tree_text u) (trees_text us) rest)
next_tree (node t ts) no_nodes x s c rest after small few h k fewer e = absurd (omega (arith, fewer))
next_tree (node t ts) (node u us) x s c rest after small few h k fewer e =
    let p = tree_front u t (child_of x s c) c (has_duals s.duals) (trees_text us ++ rest) (trees_text ts ++ after) small (omega (arith, few)) k.0 h.0
    (sym (append_assoc (tree_text u) (trees_text us) rest) ∙ e ∙ append_assoc (tree_text t) (trees_text ts) after) in
    let next = next_tree ts us x s (c + 1) rest after small (omega (arith, few)) h.1 k.1 (omega (arith, fewer)) p.1 in
    let count : c + 1 + child_count ts ≡ c + (1 + child_count ts) = omega arith in
    (next.0, next.1, subst (λ (i : ℕ). HasShape (child_of x s i) i (has_duals s.duals) next.0) count next.2, next.3)

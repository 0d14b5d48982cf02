-- Steps of a walk along the levels of a tree: trees that are read, splits that begin and those that end.
use Rattle.std.proofs.Common.{◌≡◌, ℕ, ◌+◌, ◌-◌, ◌<◌, ◌≤◌, ◌++◌, List, [], ◌∷◌, length, take, drop, map, reverse, ℤ, refl, sym, ◌∙◌, ap, subst, inl, inr, ⊎_elim, arith, append-nil, length-append, take-append-drop, length-take}
use Rattle.std.specs.Prelude.{codes, Option, Some, None}
use Rattle.std.proofs.Math.Seq.{take-append_seam}
use Rattle.std.proofs.lemmas.List.{reverse-append}
use Rattle.qap_cost.specs.Instance.{Problem}
use Rattle.qap_cost.specs.Placement.{Placement, placing, IsFree, IsFreeFacility, free_locations}
use Rattle.qap_cert.proofs.Judgements.{AllValid-joined, IsTreeFaultAmong-joined}
use Rattle.qap_cert.proofs.Readings.{IsTreeTextFault-among}
use Rattle.qap_cert.proofs.Trees.{line_after-none}
use Rattle.qap_lines.proofs.NumberLists.{line_text-is}
use Rattle.qap_cert.proofs.Versions.{AllLimited-split_numbers}
use Rattle.qap_cert.proofs.Walks.{split_of, BeginsWithTrees-none, BeginsWithTree-split, BeginsWithTrees-joined, IsFaultBefore-joined, IsFaultAmong-before}
use Rattle.qap_cert.specs.Code.{joined}
use Rattle.qap_cert.specs.Fault.{IsTreeFault, IsTreeFaultAmong}
use Rattle.qap_cert.specs.Levels.{Level, OpenSplit, level_of, BeginsWithLevels, IsFaultAtLevels, IsToldOfLevels, IsToldBehind, LeadsBehind, IsRunTold, levels_of, placed_outside}
use Rattle.qap_lines.specs.Line.{line_after, IsLine}
use Rattle.qap_cert.specs.NodeLine.{IsNodeLine}
use Rattle.qap_lines.specs.LineText.{line_text}
use Rattle.qap_cert.specs.Shape.{AllHaveShape, child_count}
use Rattle.qap_cert.specs.Text.{tree_text, trees_text}
use Rattle.qap_cert.specs.TextFault.{IsTreeTextFault}
use Rattle.qap_cert.specs.Tree.{Node, split, Nodes, no_nodes, node, nodes_count}
use Rattle.qap_cert.specs.Valid.{Valid, AllValid}
use Rattle.qap_cert.specs.Version.{MayName, split_numbers}
use Rattle.qap_cert.specs.Walk.{BeginsWithTree, BeginsWithTrees, IsFaultBefore, IsToldOf, Any}
use Rattle.qap_cert.specs.declared.error.CertError.{CertError}
use Rattle.qap_cert.specs.declared.version.Version.{Version}

-- one tree
pub BeginsWithTrees-one : (w : Version) (n : ℕ) (placed : List ℕ) (line : ℕ) (text rest : List ℕ) (next : ℕ) (P : Node → Type 0) (Q : Nodes → Type 0)
    → (h : BeginsWithTree w n placed line text rest next P) → Q (node h.tree no_nodes) → BeginsWithTrees w n placed 1 line text rest next Q
BeginsWithTrees-one w n placed line text rest next P Q h holds = record {
  trees = node h.tree no_nodes;
  shapes = (h.shape, tt);
  counted = refl;
  is = h.is ∙ ap (λ l. l ++ rest) (sym (append-nil (tree_text w h.tree)));
  next_is = h.next_is ∙ ap (line_after line) (omega arith);
  holds = holds;
}

-- a fault at the front
IsFaultBefore-first : (w : Version) (n : ℕ) (placed : List ℕ) (all line : ℕ) (text : List ℕ) (e : CertError) → line ≤ 18446744073709551615 → 0 < all
    → IsTreeTextFault w n (n - length placed) placed line text e → IsFaultBefore w n placed all line text e
IsFaultBefore-first w n placed all line text e small some fault =
    (no_nodes, text, refl, tt, some, subst (λ (j : ℕ). IsTreeTextFault w n (n - length placed) placed j text e) (line_after-none line small) fault)

-- so it is one at the levels
pub IsFaultAtLevels-first : (w : Version) (n : ℕ) (placed : List ℕ) (all : ℕ) (outer : List Level) (line : ℕ) (text : List ℕ) (e : CertError) → line ≤ 18446744073709551615 → 0 < all
    → IsTreeTextFault w n (n - length placed) placed line text e → IsFaultAtLevels w n (record { placed = placed; left = all } ∷ outer) line text e
IsFaultAtLevels-first w n placed all outer line text e small some fault = inl (IsFaultBefore-first w n placed all line text e small some fault)

-- nothing was read
pub LeadsBehind-none : (w : Version) (n : ℕ) (levels : List Level) (line : ℕ) (text : List ℕ) → LeadsBehind w n levels line text levels line text
LeadsBehind-none w n levels line text = record { trees = λ behind after h. h; fault = λ e h. h }

-- one step, and then others
pub LeadsBehind-more : (w : Version) (n : ℕ) (levels inner outer : List Level) (line at next : ℕ) (text between rest : List ℕ)
    → LeadsBehind w n levels line text inner at between → LeadsBehind w n inner at between outer next rest → LeadsBehind w n levels line text outer next rest
LeadsBehind-more w n levels inner outer line at next text between rest h k = record {
  trees = λ behind after l. h.trees behind after (k.trees behind after l);
  fault = λ e l. h.fault e (k.fault e l);
}

-- all trees of a level
pub LeadsBehind-level : (w : Version) (n : ℕ) (placed : List ℕ) (left : ℕ) (outer : List Level) (line : ℕ) (text rest : List ℕ) (next : ℕ) → BeginsWithTrees w n placed left line text rest next Any
    → LeadsBehind w n (record { placed = placed; left = left } ∷ outer) line text outer next rest
LeadsBehind-level w n placed left outer line text rest next h = record { trees = λ behind after k. (rest, next, h, k); fault = λ e k. inr (rest, next, h, k) }

-- no child is left
pub LeadsBehind-closed : (w : Version) (n : ℕ) (placed : List ℕ) (left : ℕ) (outer : List Level) (line : ℕ) (text : List ℕ) → line ≤ 18446744073709551615 → left ≡ 0
    → LeadsBehind w n (record { placed = placed; left = left } ∷ outer) line text outer line text
LeadsBehind-closed w n placed left outer line text small none =
    LeadsBehind-level w n placed left outer line text text line
    (subst (λ (k : ℕ). BeginsWithTrees w n placed k line text text line Any) (sym none) (BeginsWithTrees-none w n placed line text Any small tt))

-- some children more
pub LeadsBehind-run : (w : Version) (n : ℕ) (placed : List ℕ) (count left all : ℕ) (outer : List Level) (line : ℕ) (text rest : List ℕ) (next : ℕ) (P : Nodes → Type 0)
    → BeginsWithTrees w n placed count line text rest next P → all ≡ count + left
    → LeadsBehind w n (record { placed = placed; left = all } ∷ outer) line text (record { placed = placed; left = left } ∷ outer) next rest
LeadsBehind-run w n placed count left all outer line text rest next P h all_is = record {
  trees = λ behind after k. (k.0, k.1, BeginsWithTrees-joined w n placed count left all line text rest next P Any Any k.0 k.1 h k.2 all_is tt, k.3);
  fault = λ e. ⊎_elim (λ fault. inl (IsFaultBefore-joined w n placed count left all line text rest next P e h all_is fault))
      (λ k. inr (k.0, k.1, BeginsWithTrees-joined w n placed count left all line text rest next P Any Any k.0 k.1 h k.2 all_is tt, k.3));
}

-- a split, and what is read behind it
pub record IsSplitAt (w : Version) (n : ℕ) (placed inner : List ℕ) (count line : ℕ) (text rest : List ℕ) (next f : ℕ) : Type 0 where
  pub some : length placed < n
  pub free : IsFree n placed f
  pub may : MayName w n placed f
  pub inner_is : inner ≡ placed ++ f ∷ []
  pub count_is : count ≡ n - length placed
  pub is : text ≡ line_text (codes "s") (split_numbers w f) ++ rest
  pub next_is : next ≡ line_after line 1

-- the split's tree
BeginsWithTree-at : (w : Version) (n : ℕ) (placed inner : List ℕ) (count line : ℕ) (text rest : List ℕ) (next f : ℕ) (behind : List ℕ) (after : ℕ) (P : Node → Type 0) (Q : Nodes → Type 0)
    → IsSplitAt w n placed inner count line text rest next f → (h : BeginsWithTrees w n inner count next rest behind after Q) → P (split f h.trees) → BeginsWithTree w n placed line text behind after P
BeginsWithTree-at w n placed inner count line text rest next f behind after P Q s h holds =
    BeginsWithTree-split w n placed inner line count text rest behind next after f P Q s.some s.free s.may s.inner_is s.count_is s.is s.next_is h holds

-- a fault among its children
pub IsTreeTextFault-at : (w : Version) (n : ℕ) (placed inner : List ℕ) (count line : ℕ) (text rest : List ℕ) (next f : ℕ) (e : CertError) → IsSplitAt w n placed inner count line text rest next f
    → IsFaultBefore w n inner count next rest e → IsTreeTextFault w n (n - length placed) placed line text e
IsTreeTextFault-at w n placed inner count line text rest next f e s fault =
    IsTreeTextFault-among w n placed inner line next text rest f e s.some s.inner_is s.is s.may s.free s.next_is
    (IsFaultAmong-before w n inner count next rest e (omega (arith, s.count_is, ap length s.inner_is, length-append placed (f ∷ []), s.some)) fault)

-- a split begins at a child
pub LeadsBehind-split : (w : Version) (n : ℕ) (placed inner : List ℕ) (count left all : ℕ) (outer : List Level) (line : ℕ) (text rest : List ℕ) (next f : ℕ) → line ≤ 18446744073709551615
    → all ≡ 1 + left → IsSplitAt w n placed inner count line text rest next f
    → LeadsBehind w n (record { placed = placed; left = all } ∷ outer) line text (record { placed = inner; left = count } ∷ record { placed = placed; left = left } ∷ outer) next rest
LeadsBehind-split w n placed inner count left all outer line text rest next f small all_is s = record {
  trees = λ behind after k.
      let tree = BeginsWithTree-at w n placed inner count line text rest next f k.0 k.1 Any Any s k.2 tt in
      (LeadsBehind-run w n placed 1 left all outer line text k.0 k.1 Any (BeginsWithTrees-one w n placed line text k.0 k.1 Any Any tree tt) all_is).trees behind after k.3;
  fault = λ e. ⊎_elim (λ fault. IsFaultAtLevels-first w n placed all outer line text e small (omega (arith, all_is)) (IsTreeTextFault-at w n placed inner count line text rest next f e s fault))
      (λ k.
      let tree = BeginsWithTree-at w n placed inner count line text rest next f k.0 k.1 Any Any s k.2 tt in
      (LeadsBehind-run w n placed 1 left all outer line text k.0 k.1 Any (BeginsWithTrees-one w n placed line text k.0 k.1 Any Any tree tt) all_is).fault e k.3);
}

-- valid children more
IsToldOfLevels-run : (w : Version) (n : ℕ) (I : Problem) (g : ℤ) (p : Option CertError) (x : Placement) (f : ℕ) (js ks : List ℕ) (count : ℕ) (outer : List OpenSplit) (line : ℕ) (text rest : List ℕ) (next : ℕ) (behind : List ℕ) (after : ℕ)
    → line ≤ 18446744073709551615 → (h : BeginsWithTrees w n (x.facilities ++ f ∷ []) count line text rest next (AllValid I g x f js)) → count ≡ length js
    → IsToldOfLevels w n I g p (record { node = x; facility = f; locations = ks } ∷ outer) next rest behind after
    → IsToldOfLevels w n I g p (record { node = x; facility = f; locations = js ++ ks } ∷ outer) line text behind after
IsToldOfLevels-run w n I g None x f js ks count outer line text rest next behind after small h count_is k = (
  k.0,
  k.1,
  BeginsWithTrees-joined w n (x.facilities ++ f ∷ []) count (length ks) (length (js ++ ks)) line text rest next (AllValid I g x f js) (AllValid I g x f ks) (AllValid I g x f (js ++ ks)) k.0 k.1 h k.2
      (omega (arith, length-append js ks, count_is)) (AllValid-joined I g x f js ks h.trees k.2.trees h.holds k.2.holds),
  k.3,
)
IsToldOfLevels-run w n I g (Some e) x f js ks count outer line text rest next behind after small h count_is (inl k) = inl (
  k.0,
  k.1,
  BeginsWithTrees-joined w n (x.facilities ++ f ∷ []) count (length ks) (length (js ++ ks)) line text rest next (AllValid I g x f js) (AllValid I g x f ks) (AllValid I g x f (js ++ ks)) k.0 k.1 h k.2
      (omega (arith, length-append js ks, count_is)) (AllValid-joined I g x f js ks h.trees k.2.trees h.holds k.2.holds),
  k.3,
)
IsToldOfLevels-run w n I g (Some e) x f js ks count outer line text rest next behind after small h count_is (inr k) = inr (
  k.0,
  k.1,
  BeginsWithTrees-joined w n (x.facilities ++ f ∷ []) count (length ks) (length (js ++ ks)) line text rest next (AllValid I g x f js) (λ ts. IsTreeFaultAmong I g x f ks next ts e)
      (λ ts. IsTreeFaultAmong I g x f (js ++ ks) line ts e) k.0 k.1 h k.2 (omega (arith, length-append js ks, count_is))
      (IsTreeFaultAmong-joined I g x f js ks line next h.trees k.2.trees e small h.holds h.next_is k.2.holds),
  k.3,
)

-- children, the last of which has a fault
IsToldOfLevels-fault : (w : Version) (n : ℕ) (I : Problem) (g : ℤ) (e : CertError) (x : Placement) (f : ℕ) (js ks : List ℕ) (count : ℕ) (outer : List OpenSplit) (line : ℕ) (text rest : List ℕ) (next : ℕ) (behind : List ℕ) (after : ℕ)
    → (h : BeginsWithTrees w n (x.facilities ++ f ∷ []) count line text rest next (λ ts. (us : Nodes) → IsTreeFaultAmong I g x f (js ++ ks) line (joined ts us) e)) → count ≡ length js
    → BeginsWithLevels w n (map level_of (record { node = x; facility = f; locations = ks } ∷ outer)) next rest behind after
    → IsToldOfLevels w n I g (Some e) (record { node = x; facility = f; locations = js ++ ks } ∷ outer) line text behind after
IsToldOfLevels-fault w n I g e x f js ks count outer line text rest next behind after h count_is k = inr (
  k.0,
  k.1,
  BeginsWithTrees-joined w n (x.facilities ++ f ∷ []) count (length ks) (length (js ++ ks)) line text rest next (λ ts. (us : Nodes) → IsTreeFaultAmong I g x f (js ++ ks) line (joined ts us) e) Any
      (λ ts. IsTreeFaultAmong I g x f (js ++ ks) line ts e) k.0 k.1 h k.2 (omega (arith, length-append js ks, count_is)) (h.holds k.2.trees),
  k.3,
)

-- what was found of some children leads behind them
IsToldBehind-parts : (w : Version) (n : ℕ) (I : Problem) (g : ℤ) (o : Option CertError) (x : Placement) (f : ℕ) (js ks : List ℕ) (count : ℕ) (outer : List OpenSplit) (line : ℕ) (text rest : List ℕ) (next : ℕ)
    → line ≤ 18446744073709551615 → BeginsWithTrees w n (x.facilities ++ f ∷ []) count line text rest next (IsRunTold I g x f js (js ++ ks) line o) → count ≡ length js
    → IsToldBehind w n I g o (record { node = x; facility = f; locations = js ++ ks } ∷ outer) line text (record { node = x; facility = f; locations = ks } ∷ outer) next rest
IsToldBehind-parts w n I g None x f js ks count outer line text rest next small h count_is = record {
  none = λ _ p behind after k. IsToldOfLevels-run w n I g p x f js ks count outer line text rest next behind after small h count_is k;
  some = λ e is. absurd cc;
  fault = (LeadsBehind-run w n (x.facilities ++ f ∷ []) count (length ks) (length (js ++ ks)) (map level_of outer) line text rest next (AllValid I g x f js) h (omega (arith, length-append js ks, count_is))).fault;
}
IsToldBehind-parts w n I g (Some d) x f js ks count outer line text rest next small h count_is = record {
  none = λ is. absurd cc;
  some = λ e is behind after k.
      let here : BeginsWithTrees w n (x.facilities ++ f ∷ []) count line text rest next (IsRunTold I g x f js (js ++ ks) line (Some e)) =
      subst (λ (p : Option CertError). BeginsWithTrees w n (x.facilities ++ f ∷ []) count line text rest next (IsRunTold I g x f js (js ++ ks) line p)) is h in
      IsToldOfLevels-fault w n I g e x f js ks count outer line text rest next behind after here count_is k;
  fault = (LeadsBehind-run w n (x.facilities ++ f ∷ []) count (length ks) (length (js ++ ks)) (map level_of outer) line text rest next _ h (omega (arith, length-append js ks, count_is))).fault;
}

-- the same by the number of the children
pub IsToldBehind-run : (w : Version) (n : ℕ) (I : Problem) (g : ℤ) (o : Option CertError) (x : Placement) (f : ℕ) (ks : List ℕ) (count : ℕ) (outer : List OpenSplit) (line : ℕ) (text rest : List ℕ) (next : ℕ)
    → line ≤ 18446744073709551615 → BeginsWithTrees w n (x.facilities ++ f ∷ []) count line text rest next (IsRunTold I g x f (take count ks) ks line o) → count ≤ length ks
    → IsToldBehind w n I g o (record { node = x; facility = f; locations = ks } ∷ outer) line text (record { node = x; facility = f; locations = drop count ks } ∷ outer) next rest
IsToldBehind-run w n I g o x f ks count outer line text rest next small h within =
    let whole : take count ks ++ drop count ks ≡ ks = take-append-drop count ks in
    let counted : count ≡ length (take count ks) = omega (arith, length-take count ks, within) in
    subst (λ (ls : List ℕ). IsToldBehind w n I g o (record { node = x; facility = f; locations = ls } ∷ outer) line text (record { node = x; facility = f; locations = drop count ks } ∷ outer) next rest) whole
    (IsToldBehind-parts w n I g o x f (take count ks) (drop count ks) count outer line text rest next small
    (subst (λ (ls : List ℕ). BeginsWithTrees w n (x.facilities ++ f ∷ []) count line text rest next (IsRunTold I g x f (take count ks) ls line o)) (sym whole) h) counted)

told_closed : (w : Version) (n : ℕ) (I : Problem) (g : ℤ) (p : Option CertError) (x : Placement) (f : ℕ) (ks : List ℕ) (outer : List OpenSplit) (line : ℕ) (text behind : List ℕ) (after : ℕ)
    → BeginsWithTrees w n (x.facilities ++ f ∷ []) (length ks) line text text line (AllValid I g x f ks) → IsToldOfLevels w n I g p outer line text behind after
    → IsToldOfLevels w n I g p (record { node = x; facility = f; locations = ks } ∷ outer) line text behind after
told_closed w n I g None x f ks outer line text behind after here h = (text, line, here, h)
told_closed w n I g (Some e) x f ks outer line text behind after here h = inl (text, line, here, h)

-- no child is left
pub IsToldBehind-closed : (w : Version) (n : ℕ) (I : Problem) (g : ℤ) (x : Placement) (f : ℕ) (ks : List ℕ) (outer : List OpenSplit) (line : ℕ) (text : List ℕ) → line ≤ 18446744073709551615 → ks ≡ []
    → IsToldBehind w n I g None (record { node = x; facility = f; locations = ks } ∷ outer) line text outer line text
IsToldBehind-closed w n I g x f ks outer line text small none =
    let placed = x.facilities ++ f ∷ [] in
    let here : BeginsWithTrees w n placed (length ks) line text text line (AllValid I g x f ks) =
    subst (λ (ls : List ℕ). BeginsWithTrees w n placed (length ls) line text text line (AllValid I g x f ls)) (sym none) (BeginsWithTrees-none w n placed line text (AllValid I g x f []) small tt) in
    record {
      none = λ _ p behind after h. told_closed w n I g p x f ks outer line text behind after here h;
      some = λ e is. absurd cc;
      fault = (LeadsBehind-closed w n placed (length ks) (map level_of outer) line text small (ap length none)).fault;
    }

-- what the children of a split at a child say of the levels above them
told_split : (w : Version) (n : ℕ) (I : Problem) (g : ℤ) (p : Option CertError) (x : Placement) (f k : ℕ) (ks : List ℕ) (child : Placement) (c : ℕ) (outer : List OpenSplit) (line : ℕ) (text rest : List ℕ) (next : ℕ) (behind : List ℕ) (after : ℕ)
    → line ≤ 18446744073709551615 → child ≡ placing x f k → length child.facilities < child.size → IsFreeFacility child c
    → IsSplitAt w n (x.facilities ++ f ∷ []) (child.facilities ++ c ∷ []) (length (free_locations child)) line text rest next c
    → IsToldOfLevels w n I g p (record { node = child; facility = c; locations = free_locations child } ∷ record { node = x; facility = f; locations = ks } ∷ outer) next rest behind after
    → IsToldOfLevels w n I g p (record { node = x; facility = f; locations = k ∷ ks } ∷ outer) line text behind after
told_split w n I g None x f k ks child c outer line text rest next behind after small child_is some free s h =
    let valid : Valid I g (placing x f k) (split c h.2.trees) = subst (λ (y : Placement). Valid I g y (split c h.2.trees)) child_is (some, free, h.2.holds) in
    let tree = BeginsWithTree-at w n (x.facilities ++ f ∷ []) (child.facilities ++ c ∷ []) (length (free_locations child)) line text rest next c h.0 h.1 (Valid I g (placing x f k))
    (AllValid I g child c (free_locations child)) s h.2 valid in
    IsToldOfLevels-run w n I g None x f (k ∷ []) ks 1 outer line text h.0 h.1 behind after small
    (BeginsWithTrees-one w n (x.facilities ++ f ∷ []) line text h.0 h.1 (Valid I g (placing x f k)) (AllValid I g x f (k ∷ [])) tree (tree.holds, tt)) refl h.3
told_split w n I g (Some e) x f k ks child c outer line text rest next behind after small child_is some free s (inl h) =
    let valid : Valid I g (placing x f k) (split c h.2.trees) = subst (λ (y : Placement). Valid I g y (split c h.2.trees)) child_is (some, free, h.2.holds) in
    let tree = BeginsWithTree-at w n (x.facilities ++ f ∷ []) (child.facilities ++ c ∷ []) (length (free_locations child)) line text rest next c h.0 h.1 (Valid I g (placing x f k))
    (AllValid I g child c (free_locations child)) s h.2 valid in
    IsToldOfLevels-run w n I g (Some e) x f (k ∷ []) ks 1 outer line text h.0 h.1 behind after small
    (BeginsWithTrees-one w n (x.facilities ++ f ∷ []) line text h.0 h.1 (Valid I g (placing x f k)) (AllValid I g x f (k ∷ [])) tree (tree.holds, tt)) refl h.3
told_split w n I g (Some e) x f k ks child c outer line text rest next behind after small child_is some free s (inr h) =
    let fault : IsTreeFault I g (placing x f k) line (split c h.2.trees) e =
    subst (λ (y : Placement). IsTreeFault I g y line (split c h.2.trees) e) child_is (subst (λ (j : ℕ). IsTreeFaultAmong I g child c (free_locations child) j h.2.trees e) s.next_is h.2.holds) in
    let tree = BeginsWithTree-at w n (x.facilities ++ f ∷ []) (child.facilities ++ c ∷ []) (length (free_locations child)) line text rest next c h.0 h.1 (λ t. IsTreeFault I g (placing x f k) line t e)
    (λ ts. IsTreeFaultAmong I g child c (free_locations child) next ts e) s h.2 fault in
    IsToldOfLevels-fault w n I g e x f (k ∷ []) ks 1 outer line text h.0 h.1 behind after
    (BeginsWithTrees-one w n (x.facilities ++ f ∷ []) line text h.0 h.1 (λ t. IsTreeFault I g (placing x f k) line t e)
    (λ ts. (us : Nodes) → IsTreeFaultAmong I g x f (k ∷ ks) line (joined ts us) e) tree (λ us. inl tree.holds)) refl h.3

-- a split begins at the child of the first location that is left
pub IsToldBehind-split : (w : Version) (n : ℕ) (I : Problem) (g : ℤ) (x : Placement) (f k : ℕ) (ks : List ℕ) (child : Placement) (c : ℕ) (outer : List OpenSplit) (line : ℕ) (text rest : List ℕ) (next : ℕ)
    → line ≤ 18446744073709551615 → child ≡ placing x f k → length child.facilities < child.size → IsFreeFacility child c
    → IsSplitAt w n (x.facilities ++ f ∷ []) (child.facilities ++ c ∷ []) (length (free_locations child)) line text rest next c
    → IsToldBehind w n I g None (record { node = x; facility = f; locations = k ∷ ks } ∷ outer) line text
    (record { node = child; facility = c; locations = free_locations child } ∷ record { node = x; facility = f; locations = ks } ∷ outer) next rest
IsToldBehind-split w n I g x f k ks child c outer line text rest next small child_is some free s = record {
  none = λ _ p behind after h. told_split w n I g p x f k ks child c outer line text rest next behind after small child_is some free s h;
  some = λ e is. absurd cc;
  fault =
      (LeadsBehind-split w n (x.facilities ++ f ∷ []) (child.facilities ++ c ∷ []) (length (free_locations child)) (length ks) (length (k ∷ ks)) (map level_of outer) line text rest next c small (omega arith) s).fault;
}

-- one step without a fault, and then another
pub IsToldBehind-more : (w : Version) (n : ℕ) (I : Problem) (g : ℤ) (o : Option CertError) (splits inner outer : List OpenSplit) (line at next : ℕ) (text between rest : List ℕ)
    → IsToldBehind w n I g None splits line text inner at between → IsToldBehind w n I g o inner at between outer next rest → IsToldBehind w n I g o splits line text outer next rest
IsToldBehind-more w n I g o splits inner outer line at next text between rest h k = record {
  none = λ is p behind after l. h.none refl p behind after (k.none is p behind after l);
  some = λ e is behind after l. h.none refl (Some e) behind after (k.some e is behind after l);
  fault = λ e l. h.fault e (k.fault e l);
}

-- nothing was read
pub IsToldBehind-none : (w : Version) (n : ℕ) (I : Problem) (g : ℤ) (splits : List OpenSplit) (line : ℕ) (text : List ℕ) → IsToldBehind w n I g None splits line text splits line text
IsToldBehind-none w n I g splits line text = record { none = λ _ p behind after h. h; some = λ e is. absurd cc; fault = λ e h. h }

-- what is reported of the children of the root is so of the root
pub IsToldOf-root : (w : Version) (n : ℕ) (I : Problem) (g : ℤ) (o : Option CertError) (x : Placement) (c : ℕ) (line : ℕ) (text rest : List ℕ) (next : ℕ) (behind : List ℕ) (after : ℕ)
    → length x.facilities < x.size → IsFreeFacility x c → IsSplitAt w n x.facilities (x.facilities ++ c ∷ []) (length (free_locations x)) line text rest next c
    → IsToldOfLevels w n I g o (record { node = x; facility = c; locations = free_locations x } ∷ []) next rest behind after
    → BeginsWithTree w n x.facilities line text behind after (IsToldOf I g x line o)
IsToldOf-root w n I g None x c line text rest next behind after some free s h =
    subst (λ (l : List ℕ). BeginsWithTree w n x.facilities line text l after (IsToldOf I g x line None)) (sym h.3.0)
    (subst (λ (j : ℕ). BeginsWithTree w n x.facilities line text h.0 j (IsToldOf I g x line None)) (sym h.3.1)
    (BeginsWithTree-at w n x.facilities (x.facilities ++ c ∷ []) (length (free_locations x)) line text rest next c h.0 h.1 (Valid I g x) (AllValid I g x c (free_locations x)) s h.2 (some, free, h.2.holds)))
IsToldOf-root w n I g (Some e) x c line text rest next behind after some free s (inl h) = absurd h.3
IsToldOf-root w n I g (Some e) x c line text rest next behind after some free s (inr h) =
    subst (λ (l : List ℕ). BeginsWithTree w n x.facilities line text l after (IsToldOf I g x line (Some e))) (sym h.3.0)
    (subst (λ (j : ℕ). BeginsWithTree w n x.facilities line text h.0 j (IsToldOf I g x line (Some e))) (sym h.3.1)
    (BeginsWithTree-at w n x.facilities (x.facilities ++ c ∷ []) (length (free_locations x)) line text rest next c h.0 h.1 (λ t. IsTreeFault I g x line t e)
    (λ ts. IsTreeFaultAmong I g x c (free_locations x) next ts e) s h.2 (subst (λ (j : ℕ). IsTreeFaultAmong I g x c (free_locations x) j h.2.trees e) s.next_is h.2.holds)))

-- a fault among the children of the root
pub IsTreeTextFault-root : (w : Version) (n : ℕ) (x : Placement) (c : ℕ) (count line : ℕ) (text rest : List ℕ) (next : ℕ) (e : CertError)
    → IsSplitAt w n x.facilities (x.facilities ++ c ∷ []) count line text rest next c
    → IsFaultAtLevels w n (record { placed = x.facilities ++ c ∷ []; left = count } ∷ []) next rest e → IsTreeTextFault w n (n - length x.facilities) x.facilities line text e
IsTreeTextFault-root w n x c count line text rest next e s (inl fault) = IsTreeTextFault-at w n x.facilities (x.facilities ++ c ∷ []) count line text rest next c e s fault
IsTreeTextFault-root w n x c count line text rest next e s (inr h) = absurd h.3

-- what the line of a split says of it
pub IsSplitAt-read : (w : Version) (n : ℕ) (placed inner : List ℕ) (count line : ℕ) (text bytes rest : List ℕ) (next f : ℕ) (o : Option ℕ) → n ≤ 256 → IsLine text bytes rest → IsNodeLine w n placed bytes o → o ≡ Some f
    → inner ≡ placed ++ f ∷ [] → count ≡ n - length placed → next ≡ line_after line 1 → IsSplitAt w n placed inner count line text rest next f
IsSplitAt-read w n placed inner count line text bytes rest next f o small first is named inner_is count_is next_is =
    let split = split_of w n placed bytes o f is named in
    record {
      some = split.1;
      free = split.2;
      may = split.0.allowed;
      inner_is = inner_is;
      count_is = count_is;
      is = line_text-is text bytes rest (codes "s") (split_numbers w f) first split.0.named (AllLimited-split_numbers w n placed f small split.0.allowed);
      next_is = next_is;
    }

-- one is placed, and taken away again
placed_outside-pushed : (placed : List ℕ) (f : ℕ) → placed_outside (placed ++ f ∷ []) ≡ placed
placed_outside-pushed placed f =
    ap (λ (k : ℕ). take k (placed ++ f ∷ [])) (omega (arith, length-append placed (f ∷ []))) ∙ take-append_seam placed (f ∷ [])

-- the levels where a split begins
pub levels_of-pushed : (placed pushed : List ℕ) (f count left : ℕ) (items outer : List ℕ) → pushed ≡ placed ++ f ∷ [] → items ≡ count ∷ left ∷ outer
    → levels_of pushed items ≡ record { placed = pushed; left = count } ∷ levels_of placed (left ∷ outer)
levels_of-pushed placed pushed f count left items outer pushed_is items_is =
    ap (levels_of pushed) items_is ∙ ap (λ (p : List ℕ). record { placed = pushed; left = count } ∷ levels_of p (left ∷ outer)) (ap placed_outside pushed_is ∙ placed_outside-pushed placed f)

-- a list's last item is the first of the list backwards
pub reverse-last : {X : Type 0} (xs ys : List X) (x : X) → xs ≡ ys ++ x ∷ [] → reverse xs ≡ x ∷ reverse ys
reverse-last xs ys x is = ap reverse is ∙ reverse-append ys (x ∷ [])

-- all trees were read of one level
pub BeginsWithTrees-all : (w : Version) (n : ℕ) (placed : List ℕ) (count : ℕ) (levels : List Level) (line : ℕ) (text rest : List ℕ) (next : ℕ) → levels ≡ []
    → LeadsBehind w n (record { placed = placed; left = count } ∷ []) line text levels next rest → BeginsWithTrees w n placed count line text rest next Any
BeginsWithTrees-all w n placed count levels line text rest next none h =
    let leads : LeadsBehind w n (record { placed = placed; left = count } ∷ []) line text [] next rest =
    subst (λ (ls : List Level). LeadsBehind w n (record { placed = placed; left = count } ∷ []) line text ls next rest) none h in
    let k = leads.trees rest next (refl, refl) in
    subst (λ (l : List ℕ). BeginsWithTrees w n placed count line text l next Any) (sym k.3.0) (subst (λ (j : ℕ). BeginsWithTrees w n placed count line text k.0 j Any) (sym k.3.1) k.2)

-- a fault at one level
pub IsFaultBefore-all : (w : Version) (n : ℕ) (placed : List ℕ) (count line : ℕ) (text : List ℕ) (e : CertError) → IsFaultAtLevels w n (record { placed = placed; left = count } ∷ []) line text e
    → IsFaultBefore w n placed count line text e
IsFaultBefore-all w n placed count line text e (inl fault) = fault
IsFaultBefore-all w n placed count line text e (inr h) = absurd h.3

only_tree : (w : Version) (n : ℕ) (placed : List ℕ) (line : ℕ) (text rest : List ℕ) (next : ℕ) (ts : Nodes) → AllHaveShape w n placed ts → child_count ts ≡ 1 → text ≡ trees_text w ts ++ rest → next ≡ line_after line (nodes_count ts)
    → BeginsWithTree w n placed line text rest next Any
only_tree w n placed line text rest next no_nodes shapes counted is next_is = absurd (omega (arith, counted))
only_tree w n placed line text rest next (node t no_nodes) shapes counted is next_is = record {
  tree = t;
  shape = shapes.0;
  is = is ∙ ap (λ l. l ++ rest) (append-nil (tree_text w t));
  next_is = next_is ∙ ap (line_after line) (omega arith);
  holds = tt;
}
only_tree w n placed line text rest next (node t (node s others)) shapes counted is next_is = absurd (omega (arith, counted))

-- one tree alone
pub BeginsWithTree-only : (w : Version) (n : ℕ) (placed : List ℕ) (line : ℕ) (text rest : List ℕ) (next : ℕ) → BeginsWithTrees w n placed 1 line text rest next Any → BeginsWithTree w n placed line text rest next Any
BeginsWithTree-only w n placed line text rest next h = only_tree w n placed line text rest next h.trees h.shapes h.counted h.is h.next_is

only_fault : (w : Version) (n : ℕ) (placed : List ℕ) (line : ℕ) (text rest : List ℕ) (e : CertError) (ts : Nodes) → line ≤ 18446744073709551615 → child_count ts < 1 → text ≡ trees_text w ts ++ rest
    → IsTreeTextFault w n (n - length placed) placed (line_after line (nodes_count ts)) rest e → IsTreeTextFault w n (n - length placed) placed line text e
only_fault w n placed line text rest e no_nodes small few is fault =
    subst (λ (l : List ℕ). IsTreeTextFault w n (n - length placed) placed line l e) (sym is)
    (subst (λ (j : ℕ). IsTreeTextFault w n (n - length placed) placed j rest e) (sym (line_after-none line small)) fault)
only_fault w n placed line text rest e (node t others) small few is fault = absurd (omega (arith, few))

-- a fault of it
pub IsTreeTextFault-only : (w : Version) (n : ℕ) (placed : List ℕ) (line : ℕ) (text : List ℕ) (e : CertError) → line ≤ 18446744073709551615 → IsFaultBefore w n placed 1 line text e
    → IsTreeTextFault w n (n - length placed) placed line text e
IsTreeTextFault-only w n placed line text e small k = only_fault w n placed line text k.1 e k.0 small k.4 k.2 k.5

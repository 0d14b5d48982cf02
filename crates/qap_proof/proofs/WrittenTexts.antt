-- Texts of proofs, piece by piece.
use Rattle.std.proofs.Common.{◌≡◌, ℕ, ◌+◌, ◌<◌, List, [], ◌∷◌, ◌++◌, length, take, drop, get_or, ℤ, pos, refl, sym, ap, ap₂, ◌∙◌, arith, append_assoc}
use Rattle.std.specs.Fmt.{signed_decimal}
use Rattle.std.specs.declared.vec.Vec.{Vec}
use Rattle.std.specs.declared.alloc.Global.{Global}
use Rattle.std.proofs.lemmas.List.{append-nil, take-append-drop, take_more, length-take}
use Rattle.qap_lines.specs.LineText.{numbers_text, line_text}
use Rattle.qap_lines.proofs.WrittenTexts.{numbers_text-push}
use Rattle.qap_proof.specs.Memory.{node_of, nodes_of}
use Rattle.qap_proof.specs.NodeLine.{split_of}
use Rattle.qap_proof.specs.Text.{letter, split_numbers, by_turns, tree_text, trees_text}
use Rattle.qap_proof.specs.declared.node_line.SplitLine.{SplitLine}
use Rattle.qap_proof.specs.declared.tree.Tree.{Tree}
use Rattle.qap_proof.specs.declared.tree.Tree.TheViews.{Split}
use Rattle.qap_proof.proofs.Memory.{node_of-Split}

by_turns-append : (fs ks : List ℕ) (f k : ℕ) → length fs ≡ length ks → by_turns (fs ++ f ∷ []) (ks ++ k ∷ []) ≡ by_turns fs ks ++ pos (f + 1) ∷ pos (k + 1) ∷ []
by_turns-append [] [] f k same = refl
by_turns-append [] (x ∷ ks) f k same = absurd (omega (arith, same))
by_turns-append (x ∷ fs) [] f k same = absurd (omega (arith, same))
by_turns-append (x ∷ fs) (y ∷ ks) f k same =
    ap (λ l. pos (x + 1) ∷ pos (y + 1) ∷ l) (by_turns-append fs ks f k (omega (arith, same)))

-- a facility and a location more
pub by_turns-more : (fs ks : List ℕ) (t : ℕ) → length ks ≡ length fs → t < length fs → by_turns (take (t + 1) fs) (take (t + 1) ks) ≡ by_turns (take t fs) (take t ks) ++ pos (get_or fs t 0 + 1) ∷ pos (get_or ks t 0 + 1) ∷ []
by_turns-more fs ks t paired within =
    ap₂ by_turns (take_more fs t 0 within) (take_more ks t 0 (omega (arith, paired, within)))
    ∙ by_turns-append (take t fs) (take t ks) (get_or fs t 0) (get_or ks t 0) (omega (arith, length-take t fs, length-take t ks, paired))

-- two numbers more at the end of a line
pub numbers_text-push_two : (line now middle new : List ℕ) (zs : List ℤ) (y z : ℤ) → now ≡ line ++ numbers_text zs → middle ≡ now ++ 32 ∷ signed_decimal y → new ≡ middle ++ 32 ∷ signed_decimal z → new ≡ line ++ numbers_text (zs ++ y ∷ z ∷ [])
numbers_text-push_two line now middle new zs y z is one two =
    numbers_text-push line middle new (zs ++ y ∷ []) z (numbers_text-push line now middle zs y is one) two
    ∙ ap (λ l. line ++ numbers_text l) (append_assoc zs (y ∷ []) (z ∷ []))

trees_text-append : (xs ys : List Tree) → trees_text (nodes_of (xs ++ ys)) ≡ trees_text (nodes_of xs) ++ trees_text (nodes_of ys)
trees_text-append [] ys = refl
trees_text-append (x ∷ xs) ys =
    ap (λ l. tree_text (node_of x) ++ l) (trees_text-append xs ys) ∙ sym (append_assoc (tree_text (node_of x)) (trees_text (nodes_of xs)) (trees_text (nodes_of ys)))

-- the lines of one tree more
pub trees_text-more : (ts : List Tree) (i : ℕ) (t : Tree) → i < length ts → t ≡ get_or ts i t → trees_text (nodes_of (take (i + 1) ts)) ≡ trees_text (nodes_of (take i ts)) ++ tree_text (node_of t)
trees_text-more ts i t inside is =
    ap (λ l. trees_text (nodes_of l)) (take_more ts i t inside ∙ ap (λ x. take i ts ++ x ∷ []) (sym is))
    ∙ trees_text-append (take i ts) (t ∷ [])
    ∙ ap (λ l. trees_text (nodes_of (take i ts)) ++ l) (append-nil (tree_text (node_of t)))

-- what follows them
pub trees_text-rest : (ts : List Tree) (i : ℕ) (t : Tree) → i < length ts → t ≡ get_or ts i t → trees_text (nodes_of ts) ≡ (trees_text (nodes_of (take i ts)) ++ tree_text (node_of t)) ++ trees_text (nodes_of (drop (i + 1) ts))
trees_text-rest ts i t inside is =
    ap (λ l. trees_text (nodes_of l)) (sym (take-append-drop (i + 1) ts))
    ∙ trees_text-append (take (i + 1) ts) (drop (i + 1) ts)
    ∙ ap (λ l. l ++ trees_text (nodes_of (drop (i + 1) ts))) (trees_text-more ts i t inside is)

-- what a split's text is, by its children
pub tree_text-split : (t : Tree) (s : SplitLine) (children : Vec Tree Global) → t ≡ Split s children → tree_text (node_of t) ≡ line_text (letter s.side) (split_numbers (split_of s)) ++ trees_text (nodes_of children.items)
tree_text-split t s children is = ap tree_text (node_of-Split t s children is)

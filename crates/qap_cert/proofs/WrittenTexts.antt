-- Texts of certificates, piece by piece.
use Rattle.std.proofs.Common.{◌≡◌, ℕ, ◌+◌, ◌<◌, List, [], ◌∷◌, ◌++◌, length, take, drop, get_or, refl, sym, ap, ◌∙◌, append_assoc, Vec, Global}
use Rattle.std.proofs.lemmas.List.{append-nil, take-append-drop, take_more}
use Rattle.std.specs.Prelude.{codes}
use Rattle.qap_lines.specs.LineText.{line_text}
use Rattle.qap_cert.specs.Text.{tree_text, trees_text}
use Rattle.qap_cert.specs.Tree.{Node, node_step, node_of, nodes_of}
use Rattle.qap_cert.specs.Version.{split_numbers}
use Rattle.qap_cert.specs.declared.tree.Tree.{Tree}
use Rattle.qap_cert.specs.declared.tree.Tree.TheViews.{Split}
use Rattle.qap_cert.specs.declared.tree.Tree.TheVariants.{rolls-Split}
use Rattle.qap_cert.specs.declared.tree.Tree.TheOpen.{Split as Layer}
use Rattle.qap_cert.specs.declared.tree.Tree.TheFolds.{fold-roll-Tree}
use Rattle.qap_cert.specs.declared.version.Version.TheVariants.{Second}

-- the text of trees and of others behind them is their two texts
pub trees_text-append : (xs ys : List Tree) → trees_text Second (nodes_of (xs ++ ys)) ≡ trees_text Second (nodes_of xs) ++ trees_text Second (nodes_of ys)
trees_text-append [] ys = refl
trees_text-append (x ∷ xs) ys =
    ap (λ l. tree_text Second (node_of x) ++ l) (trees_text-append xs ys) ∙ sym (append_assoc (tree_text Second (node_of x)) (trees_text Second (nodes_of xs)) (trees_text Second (nodes_of ys)))

-- the lines of one tree more
pub trees_text-more : (ts : List Tree) (i : ℕ) (t : Tree) → i < length ts → t ≡ get_or ts i t → trees_text Second (nodes_of (take (i + 1) ts)) ≡ trees_text Second (nodes_of (take i ts)) ++ tree_text Second (node_of t)
trees_text-more ts i t inside is =
    ap (λ l. trees_text Second (nodes_of l)) (take_more ts i t inside ∙ ap (λ x. take i ts ++ x ∷ []) (sym is))
    ∙ trees_text-append (take i ts) (t ∷ [])
    ∙ ap (λ l. trees_text Second (nodes_of (take i ts)) ++ l) (append-nil (tree_text Second (node_of t)))

-- what follows them
pub trees_text-rest : (ts : List Tree) (i : ℕ) (t : Tree) → i < length ts → t ≡ get_or ts i t
    → trees_text Second (nodes_of ts) ≡ (trees_text Second (nodes_of (take i ts)) ++ tree_text Second (node_of t)) ++ trees_text Second (nodes_of (drop (i + 1) ts))
trees_text-rest ts i t inside is =
    ap (λ l. trees_text Second (nodes_of l)) (sym (take-append-drop (i + 1) ts))
    ∙ trees_text-append (take (i + 1) ts) (drop (i + 1) ts)
    ∙ ap (λ l. l ++ trees_text Second (nodes_of (drop (i + 1) ts))) (trees_text-more ts i t inside is)

-- what a split's text is, by its children
pub tree_text-split : (tree : Tree) (f : ℕ) (children : Vec Tree Global) → tree ≡ Split f children → tree_text Second (node_of tree) ≡ line_text (codes "s") (split_numbers Second f) ++ trees_text Second (nodes_of children.items)
tree_text-split tree f children is =
    ap (λ t. tree_text Second (node_of t)) (is ∙ sym (rolls-Split f children)) ∙ ap (tree_text Second) (fold-roll-Tree Node node_step (Layer f children))

-- The lines of pairs, one by one.
use Rattle.std.proofs.Common.{◌≡◌, sym, subst, ap, ◌∙◌, ℕ, ◌+◌, ◌<◌, List, [], ◌++◌, append_assoc, drop, get_or, length}
use Rattle.std.proofs.lemmas.List.{drop_more}
use Rattle.plan_table.specs.Spelling.{Spells}
use Rattle.plan_answer.specs.Listing.{ArePairLines, pair_line}
use Rattle.plan_answer.specs.declared.pairs.Pair.{Pair}

-- what is written goes in front of the lines of the pairs that are left
abbrev pub GoesBefore : List (List ℕ) → ℕ → List Pair → List Pair → List ℕ → Type 0
GoesBefore names scale all left done = (rest : List ℕ) → ArePairLines names scale left rest → ArePairLines names scale all (done ++ rest)

-- with the line of the next pair, what is written goes in front of the lines of the pairs behind that one
pub one_more : (names : List (List ℕ)) (scale : ℕ) (xs : List Pair) (i : ℕ) (d : Pair) (done from to cost : List ℕ) → i < length xs
    → from ≡ get_or names (get_or xs i d).from [] → to ≡ get_or names (get_or xs i d).to [] → Spells cost (get_or xs i d).cost scale
    → GoesBefore names scale xs (drop i xs) done → GoesBefore names scale xs (drop (i + 1) xs) (done ++ pair_line from to cost)
one_more names scale xs i d done from to cost inside e f spelled before rest lines =
    let line = pair_line from to cost in
    let x = get_or xs i d in
    let here = ap (λ (a : List ℕ). pair_line a to cost ++ rest) e ∙ ap (λ (b : List ℕ). pair_line (get_or names x.from []) b cost ++ rest) f in
    rw (append_assoc done line rest) (before (line ++ rest) (subst (λ (ys : List Pair). ArePairLines names scale ys (line ++ rest)) (sym (drop_more xs i d inside)) (cost, rest, spelled, lines, here)))

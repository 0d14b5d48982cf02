-- Of the pieces those are kept that are not empty.
use Rattle.std.proofs.Common.{rules, tests, ℕ, Bool, List, ◌==◌, not, length, map, filter, Bor, ap, ◌∙◌}
use Rattle.std.proofs.lemmas.List.Elements.{filter_from_retain}
use Rattle.space_script.proofs.Filters.{map-filter}
use Rattle.space_script.proofs.line.words.Goals as goal

has_bytes : List ℕ → Bool
has_bytes piece = not (length piece == 0)

pub returns : goal.returns
unfolding has_bytes
returns c =
    let kept = filter_from_retain _ (λ x. has_bytes x.now) (λ p x b q k. search (rules, tests)) _ _ _ c.retain.ensures.filtered in
    ap (map (λ (piece : Bor (List ℕ)). piece.now)) kept ∙ map-filter (λ (piece : Bor (List ℕ)). piece.now) has_bytes c.in_ok-words.words.items ∙ ap (filter has_bytes) c.in_ok-words.ensures

-- Names, broken into lines.
use Rattle.std.specs.Prelude.{◌≡◌, ℕ, ◌+◌, List, [], ◌++◌, length, slice_index_or}
use Rattle.std.specs.List.{concat}
use Rattle.plan_picture.specs.Joining.{joined_to}
use Rattle.plan_picture.specs.Marks.{line_y, name_mark}
use Rattle.plan_picture.specs.declared.layout.Centre.{Centre}

-- of `all` lines around a point, these, the first of which has the number `from`
abbrev pub lines_mark : Centre → ℕ → ℕ → List ℕ → List (List ℕ) → List ℕ
lines_mark centre all from style lines =
    joined_to (λ i. name_mark centre.x (line_y centre.y all (from + i)) style (slice_index_or lines i [])) (length lines)

-- two texts around a point, each in full, in some lines one below the other
pub record AreNames (centre : Centre) (first first_style second second_style text : List ℕ) : Type 0 where
  pub first_lines : List (List ℕ)
  pub second_lines : List (List ℕ)
  pub all_of_first : concat first_lines ≡ first
  pub all_of_second : concat second_lines ≡ second
  pub is :
      text
      ≡ lines_mark centre (length first_lines + length second_lines) 0 first_style first_lines
      ++ lines_mark centre (length first_lines + length second_lines) (length first_lines) second_style second_lines

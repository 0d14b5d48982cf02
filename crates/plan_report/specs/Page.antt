-- The page of a report (HTML, 4).
use Rattle.std.specs.Prelude.{◌≡◌, ℕ, ℤ, Bool, List, [], ◌∷◌, ◌++◌, codes, if◌then◌else◌, int_lt, Option, None, Some}
use Rattle.std.specs.List.{concat}
use Rattle.std.specs.Option.{option_map}
use Rattle.std.specs.Str.Lossy.{utf8_lossy}
use Rattle.plan_file.specs.declared.tables.NamedProblem.{NamedProblem}
use Rattle.plan_answer.specs.Answer.{IsVerdictText}
use Rattle.plan_picture.specs.Escaping.{escaped}
use Rattle.plan_picture.specs.Picture.{IsPicture}
use Rattle.plan_report.specs.Pairs.{ArePairRows}
use Rattle.plan_report.specs.Rows.{places_table}
use Rattle.plan_report.specs.declared.page.Report.{Report}

-- what is between the titles of the document and of the page
abbrev pub style : List ℕ
style =
    codes "</title>\n<style>\n"
    ++ codes "body { font-family: system-ui, sans-serif; line-height: 1.4; color: #222; max-width: 60em; margin: 0 auto; padding: 1em; }\n"
    ++ codes "h1 { overflow-wrap: anywhere; }\nfigure { margin: 1em 0; overflow-x: auto; }\ntable { border-collapse: collapse; }\n"
    ++ codes "th, td { text-align: left; padding: 0.25em 1em 0.25em 0; border-bottom: 1px solid #ddd; overflow-wrap: anywhere; }\n"
    ++ codes "pre { background: #f4f4f4; padding: 0.6em; white-space: pre-wrap; overflow-wrap: anywhere; }\n"
    ++ codes "footer, .empty { color: #777; }\n.verdict { font-size: 1.3em; font-weight: bold; }\n"
    ++ codes ".number { text-align: right; }\n@media (min-width: 50em) { svg { max-width: 100%; height: auto; } }\n"
    ++ codes "@media print { body { max-width: none; padding: 0; } svg { max-width: 100%; max-height: 15cm; height: auto; } figure, tr, pre { break-inside: avoid; } h2 { break-after: avoid; } }\n"
    ++ codes "</style>\n</head>\n<body>\n<h1>"

-- what the verdict means
abbrev pub proof_note : Bool → List ℕ
proof_note is_open =
    if is_open
    then codes "<p>The search was stopped: an arrangement may cost less, but none less than the lower of these numbers, which is proved.</p>\n"
    else codes "<p>This is the least cost that the plan allows, which is proved, not estimated.</p>\n"

-- the heading of the comparison with today's arrangement
abbrev pub compared_start : List ℕ
compared_start = codes "<h2>Today and the best arrangement</h2>\n<pre>"

-- the comparison
abbrev pub comparison : List ℕ → List ℕ
comparison text = concat (compared_start ∷ escaped (utf8_lossy text) ∷ codes "</pre>\n" ∷ [])

-- the comparison, if there is one
abbrev pub compared_part : Option (List ℕ) → List ℕ
compared_part None = []
compared_part (Some text) = comparison text

-- the document's beginning
abbrev pub page_start : List ℕ
page_start =
    codes "<!DOCTYPE html>\n<html lang=\"en\">\n<head>\n<meta charset=\"utf-8\"/>\n"
    ++ codes "<meta name=\"viewport\" content=\"width=device-width, initial-scale=1\"/>\n<title>"

-- what is between the title and the verdict
abbrev pub verdict_start : List ℕ
verdict_start = codes "</h1>\n<p class=\"verdict\">"

-- what follows the verdict
abbrev pub verdict_end : List ℕ
verdict_end = codes "</p>\n"

-- what precedes the picture
abbrev pub figure_start : List ℕ
figure_start = codes "<figure>\n"

-- what is between the picture and the places
abbrev pub places_start : List ℕ
places_start = codes "</figure>\n<h2>Departments and places</h2>\n<table>\n<tr><th>Department</th><th>Place</th></tr>\n"

-- what is between the places and the costliest pairs
abbrev pub pairs_start : List ℕ
pairs_start =
    codes "</table>\n<h2>The costliest pairs</h2>\n<table>\n<tr><th>From</th><th>To</th><th class=\"number\">Cost</th></tr>\n"

-- what is between the costliest pairs and the commands
abbrev pub check_start : List ℕ
check_start =
    codes "</table>\n<h2>How to check it</h2>\n<p>These commands solve the plan again, write a proof, "
    ++ codes "and check it with a program that takes nothing in it on trust:</p>\n<pre>"

-- what is between the commands and the version
abbrev pub footer_start : List ℕ
footer_start = codes "</pre>\n<footer>Written by qapplan "

-- the document's end
abbrev pub page_end : List ℕ
page_end = codes "</footer>\n</body>\n</html>\n"

-- the title, what is proved about the cost, the comparison, the picture without a caption, the place of each department, the
-- costliest pairs, and some commands
pub record IsPage (P : NamedProblem) (p : List ℕ) (c g : ℤ) (r : Report) (text : List ℕ) : Type 0 where
  pub verdict : List ℕ
  pub picture : List ℕ
  pub pairs : List ℕ
  pub commands : List ℕ
  pub proved : IsVerdictText P c g verdict
  pub drawn : IsPicture P p [] [] picture
  pub dearest : ArePairRows P p pairs
  pub is :
      text
      ≡ concat
      (page_start
      ∷ escaped r.title.now
      ∷ style
      ∷ escaped r.title.now
      ∷ verdict_start
      ∷ escaped (utf8_lossy verdict)
      ∷ verdict_end
      ∷ proof_note (int_lt g c)
      ∷ compared_part (option_map (λ compared. compared.now) r.compared)
      ∷ figure_start
      ∷ picture
      ∷ places_start
      ∷ places_table P p
      ∷ pairs_start
      ∷ pairs
      ∷ check_start
      ∷ escaped commands
      ∷ footer_start
      ∷ escaped r.version.now
      ∷ page_end
      ∷ [])

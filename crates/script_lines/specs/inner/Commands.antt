-- Lines that begin with the word of a command.
--     IsPlace       the first two words say this position, and these are left
--     BeginsPlace   they say this position, whatever is left
--     IsAnswer      what was read of a line, in a language, is what it says; or it is refused
--     IsReadIn      a line of this word and these other words is read so, or refused
--     IsRead        the same in any language
--     IsTreeRead    the same of a line for a new tree, of which this is left behind the word
use Rattle.std.specs.Prelude.{◌≡◌, ℕ, List, ◌∷◌, Result, MatchResult, codes}
use Rattle.script_lines.specs.Dialect.{Language}
use Rattle.script_lines.specs.Line.{IsGap, IsLine, fields}
use Rattle.script_lines.specs.LineValue.{line_of}
use Rattle.script_lines.specs.Refusals.{Refuses}
use Rattle.script_lines.specs.ScriptLine.{Gap}
use Rattle.script_lines.specs.declared.error.LineError.{LineError}
use Rattle.script_lines.specs.declared.line.Line.{Line}
use Rattle.script_lines.specs.inner.Word.{IsFirstWord, IsSpread}

pub record IsPlace (all left : List (List ℕ)) (gap : Gap) : Type 0 where
  pub word : List ℕ
  pub beside : List ℕ
  pub first : all ≡ word ∷ beside ∷ left
  pub says : IsGap word beside gap

abbrev pub BeginsPlace : List (List ℕ) → Gap → Type 0
BeginsPlace all gap = (left : List (List ℕ)) × IsPlace all left gap

abbrev pub IsAnswer : Language → List ℕ → Result Line LineError → Type 0
IsAnswer lang line read = MatchResult read (λ l. IsLine lang line (line_of l)) (Refuses (IsLine lang line))

abbrev pub IsReadIn : Language → List ℕ → List (List ℕ) → Result Line LineError → Type 0
IsReadIn lang word all read = (line : List ℕ) → fields line ≡ word ∷ all → IsAnswer lang line read

abbrev pub IsRead : List ℕ → List (List ℕ) → Result Line LineError → Type 0
IsRead word all read = (lang : Language) → IsReadIn lang word all read

abbrev pub IsTreeRead : Language → List ℕ → Result Line LineError → Type 0
IsTreeRead lang left read =
    (line text : List ℕ) → IsSpread line text → IsFirstWord text (codes "tree") left → IsAnswer lang line read

-- The lines of a text. Offsets and columns are in bytes, lines are counted from 0.
--     newline                       The byte that ends a line.
--     starts_from, line_starts      Where lines start: behind each newline, of what is from an offset on; of a whole
--                                   text, at 0 too.
--     IsAt                          A line and column are those of an offset: it is so many bytes behind the start of
--                                   the line, and before the start of the next one.
use Rattle.std.specs.Prelude.{◌≡◌, ℕ, ◌+◌, ◌<◌, cond, ◌==◌, List, [], ◌∷◌, length, slice_index}
use Rattle.text_edit.specs.declared.line_index.LineCol.{LineCol}

abbrev pub newline : ℕ
newline = 10

abbrev pub starts_from : ℕ → List ℕ → List ℕ
starts_from at [] = []
starts_from at (b ∷ bs) = cond (b == newline) ((at + 1) ∷ starts_from (at + 1) bs) (starts_from (at + 1) bs)

abbrev pub line_starts : List ℕ → List ℕ
line_starts s = 0 ∷ starts_from 0 s

pub record IsAt (s : List ℕ) (p : LineCol) (n : ℕ) : Type 0 where
  pub line : p.line < length (line_starts s)
  pub col : n ≡ slice_index (line_starts s) p.line + p.col
  pub before : p.line + 1 < length (line_starts s) → n < slice_index (line_starts s) (p.line + 1)

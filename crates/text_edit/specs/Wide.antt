-- Columns in units of UTF-16 and UTF-32.
--     units, wide_len               How many units a character has in an encoding, and a text.
--     IsWide                        A line and column in bytes, which an offset of the text has, are those in units.
use Rattle.std.specs.Prelude.{◌≡◌, ℕ, ◌-◌, cond, nat_lt, List, slice_range, IsCharBoundary}
use Rattle.std.specs.List.{sum_by}
use Rattle.std.specs.Str.{chars}
use Rattle.text_edit.specs.Lines.{IsAt}
use Rattle.text_edit.specs.declared.line_index.LineCol.{LineCol}
use Rattle.text_edit.specs.declared.wide.WideLineCol.{WideLineCol}
use Rattle.text_edit.specs.declared.wide.WideEncoding.{WideEncoding}
use Rattle.text_edit.specs.declared.wide.WideEncoding.TheVariants.{Utf16, Utf32}

abbrev pub units : WideEncoding → ℕ → ℕ
units Utf16 c = cond (nat_lt c 0x10000) 1 2
units Utf32 c = 1

abbrev pub wide_len : WideEncoding → List ℕ → ℕ
wide_len encoding s = sum_by (units encoding) (chars s)

abbrev pub IsWide : List ℕ → WideEncoding → LineCol → WideLineCol → Type 0
IsWide s encoding p w = (n : ℕ) × IsCharBoundary s n × IsAt s p n × (w.line ≡ p.line)
    × (w.col ≡ wide_len encoding (slice_range s (n - p.col) n))

-- A line and a column in units have one column in bytes.
use Rattle.std.proofs.Common.{◌≡◌, ◌≢◌, ◌∙◌, ◌+◌, ◌-◌, ◌<◌, ◌≤◌, ℕ, List, length, get_or, take, drop, ap, sym, subst, arith, IsCharBoundary}
use Rattle.std.specs.Prelude.{slice_range}
use Rattle.std.specs.Str.{IsUtf8}
use Rattle.std.proofs.lemmas.List.{length-drop, get_or-drop}
use Rattle.std.proofs.lemmas.Str.{IsUtf8-drop}
use Rattle.text_edit.specs.Lines.{line_starts, IsAt}
use Rattle.text_edit.specs.Wide.{wide_len, IsWide}
use Rattle.text_edit.specs.declared.line_index.LineCol.{LineCol}
use Rattle.text_edit.specs.declared.wide.WideLineCol.{WideLineCol}
use Rattle.text_edit.specs.declared.wide.WideEncoding.{WideEncoding}
use Rattle.text_edit.proofs.Columns.{wide-only}
use Rattle.text_edit.proofs.Measuring.{boundary-start}

-- a place in a text is one in what follows an offset
boundary-in-rest : (s : List ℕ) (i j n : ℕ) → IsCharBoundary s n → n ≡ i + j → i ≤ length s → IsCharBoundary (drop i s) j
boundary-in-rest s i j n here is within =
    let at : get_or (drop i s) j 0 ≡ get_or s n 0 = get_or-drop i s j 0 ∙ ap (λ k. get_or s k 0) (sym is) in
    let len : length (drop i s) ≡ length s - i = length-drop i s in
    (omega (arith, here.0), λ less lead. let own : 192 ≤ get_or s n 0 = here.1 (omega arith) (omega arith) in omega arith)

abbrev HasColumn : List ℕ → WideEncoding → ℕ → ℕ → Type 0
HasColumn s encoding wide col = IsCharBoundary s col × (wide_len encoding (take col s) ≡ wide)

-- the column in bytes of what is such a place
column-is : (s : List ℕ) (encoding : WideEncoding) (p : LineCol) (w : WideLineCol) (start : ℕ) → IsCharBoundary s start → start ≡ get_or (line_starts s) w.line 0 → IsWide s encoding p w → HasColumn (drop start s) encoding w.col p.col
column-is s encoding p w start here is (n, there, at, line, units) =
    let from : start ≡ get_or (line_starts s) p.line 0 = is ∙ ap (λ k. get_or (line_starts s) k 0) line in
    let col : n ≡ get_or (line_starts s) p.line 0 + p.col = at.col in
    let whole : n ≡ start + p.col = omega arith in
    let first : n - p.col ≡ start = omega arith in
    let width : n - (n - p.col) ≡ p.col = omega arith in
    let slice : slice_range s (n - p.col) n ≡ take p.col (drop start s) = ap (λ k. take k (drop (n - p.col) s)) width ∙ ap (λ k. take p.col (drop k s)) first in
    (boundary-in-rest s start p.col n there whole here.0, sym (units ∙ ap (wide_len encoding) slice))

pub none-without-column : (s : List ℕ) (encoding : WideEncoding) (w : WideLineCol) (start : ℕ) → IsCharBoundary s start → start ≡ get_or (line_starts s) w.line 0 → ((n : ℕ) → IsCharBoundary (drop start s) n → wide_len encoding (take n (drop start s)) ≢ w.col) → (p : LineCol) → ¬ (IsWide s encoding p w)
none-without-column s encoding w start here is none p wide =
    let own = column-is s encoding p w start here is wide in
    none p.col own.0 own.1

pub one-with-column : (s rest : List ℕ) (encoding : WideEncoding) (w : WideLineCol) (start col : ℕ) → IsUtf8 s → w.line < length (line_starts s) → start ≡ get_or (line_starts s) w.line 0 → rest ≡ drop start s → HasColumn rest encoding w.col col → (p : LineCol) → IsWide s encoding p w → p ≡ record { line = w.line; col = col }
one-with-column s rest encoding w start col utf8 inside is rest_is there p wide =
    let P : ℕ → Type 0 = IsCharBoundary s in
    let here : IsCharBoundary s start = subst P (sym is) (boundary-start s utf8 w.line inside) in
    let Q : List ℕ → Type 0 = λ t. HasColumn t encoding w.col col in
    let column : HasColumn (drop start s) encoding w.col col = subst Q rest_is there in
    let own = column-is s encoding p w start here is wide in
    let same : p.col ≡ col = wide-only encoding (drop start s) p.col col (IsUtf8-drop s start utf8 here) own.0 column.0 (own.1 ∙ sym column.1) in
    let line : p.line ≡ w.line = sym wide.3 in
    ap (λ (k : ℕ). record { line = k; col = p.col }) line ∙ ap (λ (k : ℕ). record { line = w.line; col = k }) same

pub none-where-none : (s : List ℕ) (encoding : WideEncoding) (p place : LineCol) (w : WideLineCol) → p ≡ place → ((n : ℕ) → IsAt s place n → ¬ (IsCharBoundary s n)) → ¬ (IsWide s encoding p w)
none-where-none s encoding p place w same none wide =
    let At : LineCol → Type 0 = λ q. IsAt s q wide.0 in
    none wide.0 (subst At same wide.2) wide.1

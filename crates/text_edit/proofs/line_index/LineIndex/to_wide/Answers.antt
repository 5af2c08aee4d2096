use Rattle.std.proofs.Common.{◌≡◌, ◌+◌, ◌-◌, ℕ, List, get_or, sym, subst, arith, IsCharBoundary}
use Rattle.std.specs.Str.{IsUtf8}
use Rattle.text_edit.specs.Lines.{line_starts}
use Rattle.text_edit.proofs.Measuring.{boundary-start}
use Rattle.text_edit.proofs.line_index.LineIndex.to_wide.Goals as goal

pub range-before-requires-clause-start_boundary : goal.range-before-requires-clause-start_boundary
range-before-requires-clause-start_boundary c _ =
    let s = c.args.self.now in
    let place = c.in_ok-offset.ensures.place.1 in
    let U : List ℕ → Type 0 = IsUtf8 in
    let utf8 : IsUtf8 s = subst U c.self.view_is c.self.invariant.0 in
    let line = c.args.line_col.line in
    let col : c.in_ok-offset.offset ≡ get_or (line_starts s) line 0 + c.args.line_col.col = place.col in
    let start : get_or (line_starts s) line 0 ≡ c.in_ok-offset.offset - c.args.line_col.col = omega arith in
    let P : ℕ → Type 0 = IsCharBoundary s in
    let Q : List ℕ → Type 0 = λ t. IsCharBoundary t (c.in_ok-offset.offset - c.args.line_col.col) in
    subst Q (sym c.self.view_is) (subst P start (boundary-start s utf8 line place.line))

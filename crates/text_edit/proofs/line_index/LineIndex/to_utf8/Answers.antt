use Rattle.std.proofs.Common.{◌≡◌, ◌<◌, ℕ, List, length, get_or, drop, subst, arith, IsCharBoundary}
use Rattle.std.proofs.lemmas.Grind.{common_steps}
use Rattle.std.specs.Str.{IsUtf8}
use Rattle.text_edit.specs.Lines.{line_starts}
use Rattle.text_edit.specs.declared.line_index.LineCol.{LineCol}
use Rattle.text_edit.proofs.Measuring.{boundary-start}
use Rattle.text_edit.proofs.WidePlaces.{one-with-column, none-where-none}
use Rattle.text_edit.proofs.line_index.LineIndex.to_utf8.Goals as goal

pub range_from-requires : goal.range_from-requires
range_from-requires c _ =
    let s = c.self.inside.text.now in
    let line = c.args.wide.line in
    let inside : line < length (line_starts s) = grind (arith, common_steps) in
    let start : get_or (line_starts s) line 0 ≡ c.in_ok-start.field-0.now = grind (arith, common_steps) in
    let P : ℕ → Type 0 = IsCharBoundary s in
    subst P start (boundary-start s c.self.invariant.0 line inside)

pub returns-in-Some-offset-clause-only : goal.returns-in-Some-offset-clause-only
returns-in-Some-offset-clause-only c q wide =
    let s = c.args.self.now in
    let line = c.args.wide.line in
    let U : List ℕ → Type 0 = IsUtf8 in
    let utf8 : IsUtf8 s = subst U c.self.view_is c.self.invariant.0 in
    let inside : line < length (line_starts s) = grind (arith, common_steps) in
    let start : c.in_ok-start.field-0.now ≡ get_or (line_starts s) line 0 = grind (arith, common_steps) in
    let rest : c.range_from.result.now ≡ drop c.in_ok-start.field-0.now s = grind (arith, common_steps) in
    one-with-column s c.range_from.result.now c.args.encoding c.args.wide c.in_ok-start.field-0.now c.in-Some.col utf8 inside start rest c.in-Some.ensures q wide

pub returns-in-None-clause-place : goal.returns-in-None-clause-place
returns-in-None-clause-place c p wide =
    let s = c.args.self.now in
    let line = c.args.wide.line in
    let U : List ℕ → Type 0 = IsUtf8 in
    let utf8 : IsUtf8 s = subst U c.self.view_is c.self.invariant.0 in
    let inside : line < length (line_starts s) = grind (arith, common_steps) in
    let start : c.in_ok-start.field-0.now ≡ get_or (line_starts s) line 0 = grind (arith, common_steps) in
    let rest : c.range_from.result.now ≡ drop c.in_ok-start.field-0.now s = grind (arith, common_steps) in
    let place : LineCol = record { line = line; col = c.in-Some.col } in
    none-where-none s c.args.encoding p place c.args.wide (one-with-column s c.range_from.result.now c.args.encoding c.args.wide c.in_ok-start.field-0.now c.in-Some.col utf8 inside start rest c.in-Some.ensures p wide) c.in-None.ensures.place wide

use Rattle.std.proofs.Common.{◌≡◌, ◌∙◌, ◌+◌, ◌-◌, ◌<◌, ◌≤◌, ◌++◌, ℕ, List, length, take, drop, ap, sym, subst, arith, IsCharBoundary}
use Rattle.std.specs.Prelude.{encode_utf8}
use Rattle.std.specs.Char.{len_utf8}
use Rattle.std.specs.Str.{IsUtf8}
use Rattle.std.proofs.lemmas.Grind.{common_steps}
use Rattle.std.proofs.lemmas.List.{length-append}
use Rattle.std.proofs.lemmas.Str.{drop_past_char, IsUtf8-past_char, IsCharBoundary-from_drop, length-encode}
use Rattle.text_edit.specs.Wide.{units, wide_len}
use Rattle.text_edit.specs.declared.wide.WideEncoding.{WideEncoding}
use Rattle.text_edit.proofs.Measuring.{wide_len-first, wide_len-nil, units-le, length-first}
use Rattle.text_edit.proofs.Columns.{wide-cut, wide-between, none-sooner}
use Rattle.text_edit.proofs.wide.WideEncoding.bytes_of.Goals as goal

boundary : (text left : List ℕ) → IsUtf8 left → drop (length text - length left) text ≡ left → IsCharBoundary text (length text - length left)
boundary text left utf8 is = let U : List ℕ → Type 0 = IsUtf8 in IsCharBoundary-from_drop text (length text - length left) (omega arith) (subst U (sym is) utf8)

-- how many units what is passed has
measured-is : (encoding : WideEncoding) (text left : List ℕ) (measured : ℕ) → IsUtf8 text → IsUtf8 left → drop (length text - length left) text ≡ left → measured + wide_len encoding left ≡ wide_len encoding text → wide_len encoding (take (length text - length left) text) ≡ measured
measured-is encoding text left measured utf8 own is whole = omega (arith, ap (wide_len encoding) is, wide-cut encoding text (length text - length left) utf8 (boundary text left own is))

pub returns-in_default : goal.returns-in_default
returns-in_default c n here is =
    let v = c.characters.invariant in
    let encoding = c.args.self in
    let test : c.characters.measured < c.args.wide = grind (arith, common_steps) in
    let none : wide_len encoding c.characters.left.now ≡ 0 = ap (wide_len encoding) c.in_default.ensures ∙ wide_len-nil encoding in
    let whole : c.characters.measured + wide_len encoding c.characters.left.now ≡ wide_len encoding c.args.text.now = v.whole in
    omega (arith, wide-cut encoding c.args.text.now n c.utf8.text here)

pub characters-smaller : goal.characters-smaller
characters-smaller c =
    let some = length-first c.characters.left.now c.in-Some.rest.now c.in-Some.first c.in-Some.ensures in
    omega arith

pub characters-preserved : goal.characters-preserved
characters-preserved c =
    let v = c.characters.invariant in
    let encoding = c.args.self in
    let text = c.args.text.now in
    let first = c.in-Some.first in
    let left = c.characters.left.now in
    let rest = c.in-Some.rest.now in
    let is : left ≡ encode_utf8 first ++ rest = c.in-Some.ensures in
    let width : length (encode_utf8 first) ≡ len_utf8 first = length-encode first in
    let len : length left ≡ length (encode_utf8 first) + length rest = ap length is ∙ length-append (encode_utf8 first) rest in
    let own : c.units-measured.result ≡ units encoding first = c.units-measured.ensures in
    let small : units encoding first ≤ length (encode_utf8 first) = units-le encoding first in
    let bound : c.characters.measured + length left ≤ length text = v.bound in
    let whole : c.characters.measured + wide_len encoding left ≡ wide_len encoding text = v.whole in
    let parts : wide_len encoding left ≡ units encoding first + wide_len encoding rest = wide_len-first encoding left rest first v.is_text is in
    let test : c.characters.measured < c.args.wide = grind (arith, common_steps) in
    let here : IsCharBoundary text (length text - length left) = boundary text left v.is_text v.left_is in
    let passed : wide_len encoding (take (length text - length left) text) ≡ c.characters.measured = measured-is encoding text left c.characters.measured c.utf8.text v.is_text v.left_is whole in
    let behind : drop (length text - length left) text ≡ encode_utf8 first ++ rest = v.left_is ∙ is in
    let further : (length text - length left) + len_utf8 first ≡ length text - length rest = omega (arith, v.shorter) in
    record {
      is_text = IsUtf8-past_char left rest first v.is_text is;
      shorter = omega (arith, v.shorter);
      left_is = ap (λ n. drop n text) (sym further) ∙ drop_past_char text rest (length text - length left) first behind;
      bound = omega arith;
      whole = omega arith;
      first = λ m there same.
          let more : wide_len encoding (take (length text - length left) text) < wide_len encoding (take m text) = omega (arith, same) in
          let past : (length text - length left) + len_utf8 first ≤ m = none-sooner encoding text rest (length text - length left) m first c.utf8.text here there behind more (v.first m there same) in
          omega arith;
    }

pub returns-then-measured-wide : goal.returns-then-measured-wide
returns-then-measured-wide c =
    let v = c.characters.invariant in
    let encoding = c.args.self in
    let text = c.args.text.now in
    let left = c.characters.left.now in
    let whole : c.characters.measured + wide_len encoding left ≡ wide_len encoding text = v.whole in
    let test : c.characters.measured ≡ c.args.wide = grind (arith, common_steps) in
    (boundary text left v.is_text v.left_is, measured-is encoding text left c.characters.measured c.utf8.text v.is_text v.left_is whole ∙ test)

pub returns-else-measured-wide : goal.returns-else-measured-wide
returns-else-measured-wide c n there is =
    let v = c.characters.invariant in
    let encoding = c.args.self in
    let text = c.args.text.now in
    let left = c.characters.left.now in
    let whole : c.characters.measured + wide_len encoding left ≡ wide_len encoding text = v.whole in
    let here : IsCharBoundary text (length text - length left) = boundary text left v.is_text v.left_is in
    let passed : wide_len encoding (take (length text - length left) text) ≡ c.characters.measured = measured-is encoding text left c.characters.measured c.utf8.text v.is_text v.left_is whole in
    let from : length text - length left ≤ n = v.first n there is in
    let more : c.args.wide < c.characters.measured = grind (arith, common_steps) in
    omega (arith, wide-between encoding text (length text - length left) n c.utf8.text from here, is)

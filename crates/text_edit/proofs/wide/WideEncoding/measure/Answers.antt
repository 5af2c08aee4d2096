use Rattle.std.proofs.Common.{◌≡◌, ◌∙◌, ◌+◌, ◌≤◌, ◌++◌, length, ap, arith}
use Rattle.std.specs.Prelude.{encode_utf8}
use Rattle.std.proofs.lemmas.List.{length-append}
use Rattle.std.proofs.lemmas.Str.{IsUtf8-past_char}
use Rattle.text_edit.specs.Wide.{units, wide_len}
use Rattle.text_edit.proofs.Measuring.{wide_len-first, wide_len-nil, units-le, length-first}
use Rattle.text_edit.proofs.wide.WideEncoding.measure.Goals as goal

pub characters-smaller : goal.characters-smaller
characters-smaller c =
    let some = length-first c.characters.left.now c.in-Some.rest.now c.in-Some.first c.in-Some.ensures in
    omega arith

pub characters-preserved : goal.characters-preserved
characters-preserved c =
    let v = c.characters.invariant in
    let encoding = c.args.self in
    let first = c.in-Some.first in
    let left = c.characters.left.now in
    let rest = c.in-Some.rest.now in
    let is : left ≡ encode_utf8 first ++ rest = c.in-Some.ensures in
    let len : length left ≡ length (encode_utf8 first) + length rest = ap length is ∙ length-append (encode_utf8 first) rest in
    let own : c.units-measured.result ≡ units encoding first = c.units-measured.ensures in
    let small : units encoding first ≤ length (encode_utf8 first) = units-le encoding first in
    let bound : c.characters.measured + length left ≤ length c.args.text.now = v.bound in
    let whole : c.characters.measured + wide_len encoding left ≡ wide_len encoding c.args.text.now = v.whole in
    let parts : wide_len encoding left ≡ units encoding first + wide_len encoding rest = wide_len-first encoding left rest first v.is_text is in
    record {
      is_text = IsUtf8-past_char left rest first v.is_text is;
      bound = omega arith;
      whole = omega arith;
    }

pub returns : goal.returns
returns c =
    let whole : c.characters.measured + wide_len c.args.self c.characters.left.now ≡ wide_len c.args.self c.args.text.now = c.characters.invariant.whole in
    let none : wide_len c.args.self c.characters.left.now ≡ 0 = ap (wide_len c.args.self) c.in_default.ensures ∙ wide_len-nil c.args.self in
    omega arith

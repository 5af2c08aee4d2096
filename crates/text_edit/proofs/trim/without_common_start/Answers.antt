use Rattle.std.proofs.Common.{◌≡◌, ◌∙◌, ◌++◌, ap, sym}
use Rattle.std.specs.Prelude.{encode_utf8}
use Rattle.std.proofs.lemmas.List.{append_assoc}
use Rattle.std.proofs.lemmas.Str.{IsUtf8-past_char}
use Rattle.text_edit.proofs.Narrowing.{strip-start}
use Rattle.text_edit.proofs.trim.without_common_start.Goals as goal

pub characters-preserved : goal.characters-preserved
characters-preserved c =
    let v = c.characters.invariant in
    let first = c.in-Some.first in
    let new_is : c.characters.new_left.now ≡ encode_utf8 first ++ c.in-Some-strip_prefix.new_rest.now = strip-start first c.characters.new_left.now c.in-Some-strip_prefix.new_rest.now c.in-Some-strip_prefix.ensures.cases in
    record {
      old_text = IsUtf8-past_char c.characters.old_left.now c.in-Some.old_rest.now first v.old_text c.in-Some.ensures;
      new_text = IsUtf8-past_char c.characters.new_left.now c.in-Some-strip_prefix.new_rest.now first v.new_text new_is;
      cut = (v.cut.0 ++ encode_utf8 first, v.cut.1 ∙ ap (λ t. v.cut.0 ++ t) c.in-Some.ensures ∙ sym (append_assoc v.cut.0 (encode_utf8 first) c.in-Some.old_rest.now), v.cut.2 ∙ ap (λ t. v.cut.0 ++ t) new_is ∙ sym (append_assoc v.cut.0 (encode_utf8 first) c.in-Some-strip_prefix.new_rest.now));
    }

use Rattle.std.proofs.Common.{◌≡◌, refl, lit<, sym, subst}
use Rattle.std.proofs.lemmas.Str.Pattern.{strip_suffix_char}
use Rattle.script_lines.specs.Line.{fields, line_text}
use Rattle.script_lines.specs.inner.Word.{IsBeforeSpaces}
use Rattle.script_lines.proofs.LineTexts.{line-text-is}
use Rattle.script_lines.proofs.WordByWord.{words-before}
use Rattle.script_lines.proofs.field.Fields.of_line.Goals as goal

pub returns-clause-spread : goal.returns-clause-spread
returns-clause-spread c =
    let text = c.args.text.now in
    let is : line_text text ≡ c.unwrap_or-text.result.now = line-text-is text c.strip_suffix.result c.args.text c.unwrap_or-text.result (strip_suffix_char 13 text c.strip_suffix.result c.strip_suffix.ensures.cases (lit< tt)) refl c.unwrap_or-text.ensures in
    (subst (λ l. IsBeforeSpaces l c.without_last_spaces-line.result.now) (sym is) c.without_last_spaces-line.ensures.spaces, c.without_last_spaces-line.ensures.rest)

pub returns-clause-fields : goal.returns-clause-fields
unfolding fields
returns-clause-fields c = sym (words-before _ _ (returns-clause-spread c).0)

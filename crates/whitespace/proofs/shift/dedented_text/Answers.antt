use Rattle.std.specs.Prelude.{◌≡◌, ◌++◌, ◌∷◌, Some, None, string_bytes, IfOk}
use Rattle.std.proofs.Common.{lit<, sym, ◌∙◌, subst, ap}
use Rattle.std.proofs.lemmas.Str.Pattern.{split_parts}
use Rattle.whitespace.specs.Level.{newline}
use Rattle.whitespace.proofs.Dedented.{after, text_after, line_more, dedented_at, dedented_none, after_at, after_none}
use Rattle.whitespace.proofs.shift.dedented_text.Goals as goal

pub returns-in_default : goal.returns-in_default
returns-in_default c =
    let none = split_parts newline c.args.text.now None c.in_default.ensures.cases (lit< tt) in
    subst (λ t. IfOk c.from_str.result (λ s. string_bytes s ≡ t)) (sym (dedented_none c.args.level.0 c.args.text.now none)) c.from_str.ensures.ok

pub lines-init : goal.lines-init
lines-init c =
    let parts = split_parts newline c.args.text.now (Some (c.in-Some.first, c.in-Some.lines)) c.in-Some.ensures.cases (lit< tt) in
    record {
      text = text_after c.args.text.now c.in-Some.first.now c.in-Some.lines.now c.utf8.text parts.0;
      whole = ap (λ t. t ++ newline ∷ after c.args.level.0 c.in-Some.lines.now) c.in_ok-out.ensures.ok ∙ sym (dedented_at c.args.level.0 c.args.text.now c.in-Some.first.now c.in-Some.lines.now parts.0 parts.1);
    }

pub lines-preserved : goal.lines-preserved
lines-preserved c =
    let parts = split_parts newline c.lines.rest.now (Some (c.in-Some-split_once.line, c.in-Some-split_once.further)) c.in-Some-split_once.ensures.cases (lit< tt) in
    record {
      text = text_after c.lines.rest.now c.in-Some-split_once.line.now c.in-Some-split_once.further.now c.lines.invariant.text parts.0;
      whole =
          line_more (string_bytes c.lines.out) (string_bytes c.push_line.new.out) c.dedented_line.result.now (after c.args.level.0 c.in-Some-split_once.further.now) (after c.args.level.0 c.lines.rest.now) c.in_ok-push_line.ensures
          (after_at c.args.level.0 c.lines.rest.now c.in-Some-split_once.line.now c.in-Some-split_once.further.now parts.0 parts.1 ∙ ap (λ t. t ++ newline ∷ after c.args.level.0 c.in-Some-split_once.further.now) (sym c.dedented_line.ensures))
          ∙ c.lines.invariant.whole;
    }

pub returns : goal.returns
returns c =
    let none = split_parts newline c.lines.rest.now None c.in_default-split_once.ensures.cases (lit< tt) in
    c.in_ok-push_line-2.ensures ∙ ap (λ t. string_bytes c.lines.out ++ newline ∷ t) (c.dedented_line-2.ensures ∙ sym (after_none c.args.level.0 c.lines.rest.now none)) ∙ c.lines.invariant.whole

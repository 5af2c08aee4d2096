use Rattle.std.proofs.Common.{◌≡◌, ℕ, List, ◌∷◌, Result, Ok, Err, IfOk, IfErr, ap, subst, sym, ◌∙◌}
use Rattle.std.proofs.lemmas.Result.{MatchResult-weaker}
use Rattle.script_lines.specs.Dialect.{Language}
use Rattle.script_lines.specs.Line.{IsLine, fields, no_command}
use Rattle.script_lines.specs.LineValue.{language_of, line_of}
use Rattle.script_lines.specs.Refusals.{Refuses}
use Rattle.script_lines.specs.declared.error.LineError.{LineError}
use Rattle.script_lines.specs.declared.line.Line.{Line}
use Rattle.script_lines.specs.inner.Commands.{IsRead, IsReadIn}
use Rattle.script_lines.specs.inner.Word.{IsFirstWord}
use Rattle.script_lines.proofs.OtherWords.{no-line}
use Rattle.script_lines.proofs.Refusing.{bad-refuses}
use Rattle.script_lines.proofs.line.read_line.Goals as goal

-- a line of this word is read in any language, so in this one
read : (lang : Language) (text : List ℕ) (all behind : List (List ℕ)) (first word : List ℕ) (r : Result Line LineError) → all ≡ fields text → all ≡ first ∷ behind → first ≡ word → IsRead word behind r
    → IfOk r (λ l. IsLine lang text (line_of l)) × IfErr r (Refuses (IsLine lang text))
read lang text all behind first word (Ok l) spread begins is told = (told lang text (sym spread ∙ begins ∙ ap (λ w. w ∷ behind) is), tt)
read lang text all behind first word (Err e) spread begins is told = (tt, told lang text (sym spread ∙ begins ∙ ap (λ w. w ∷ behind) is))

-- the same of a word that this language has
read-in : (lang : Language) (text : List ℕ) (all behind : List (List ℕ)) (first word : List ℕ) (r : Result Line LineError) → all ≡ fields text → all ≡ first ∷ behind → first ≡ word → IsReadIn lang word behind r
    → IfOk r (λ l. IsLine lang text (line_of l)) × IfErr r (Refuses (IsLine lang text))
read-in lang text all behind first word (Ok l) spread begins is told = (told text (sym spread ∙ begins ∙ ap (λ w. w ∷ behind) is), tt)
read-in lang text all behind first word (Err e) spread begins is told = (tt, told text (sym spread ∙ begins ∙ ap (λ w. w ∷ behind) is))

pub returns-in-tree-clause-ok : goal.returns-in-tree-clause-ok
returns-in-tree-clause-ok c =
    let first = subst (λ w. IsFirstWord c.of_line-fields.result.rest.now w c.word.new.self.rest.now) c.in-tree.is c.in-Some.ensures.text in
    MatchResult-weaker c.tree_line.result (c.tree_line.ensures c.args.text.now c.of_line-fields.result.rest.now c.of_line-fields.ensures.spread first) (λ l is. is) (λ e refuses. tt)

pub returns-in-tree-clause-bad : goal.returns-in-tree-clause-bad
returns-in-tree-clause-bad c =
    let first = subst (λ w. IsFirstWord c.of_line-fields.result.rest.now w c.word.new.self.rest.now) c.in-tree.is c.in-Some.ensures.text in
    MatchResult-weaker c.tree_line.result (c.tree_line.ensures c.args.text.now c.of_line-fields.result.rest.now c.of_line-fields.ensures.spread first) (λ l is. tt) (λ e refuses. refuses)

pub returns-in-edit-clause-ok : goal.returns-in-edit-clause-ok
returns-in-edit-clause-ok c = (read (language_of c.args.language.now) c.args.text.now _ _ _ _ c.edit_line.result c.of_line-fields.ensures.fields c.in-Some.ensures.words c.in-edit.is c.edit_line.ensures).0

pub returns-in-edit-clause-bad : goal.returns-in-edit-clause-bad
returns-in-edit-clause-bad c = (read (language_of c.args.language.now) c.args.text.now _ _ _ _ c.edit_line.result c.of_line-fields.ensures.fields c.in-Some.ensures.words c.in-edit.is c.edit_line.ensures).1

pub returns-in-map-clause-ok : goal.returns-in-map-clause-ok
returns-in-map-clause-ok c = (read (language_of c.args.language.now) c.args.text.now _ _ _ _ c.map_line.result c.of_line-fields.ensures.fields c.in-Some.ensures.words c.in-map.is c.map_line.ensures).0

pub returns-in-map-clause-bad : goal.returns-in-map-clause-bad
returns-in-map-clause-bad c = (read (language_of c.args.language.now) c.args.text.now _ _ _ _ c.map_line.result c.of_line-fields.ensures.fields c.in-Some.ensures.words c.in-map.is c.map_line.ensures).1

pub returns-in-insert-clause-ok : goal.returns-in-insert-clause-ok
returns-in-insert-clause-ok c = (read (language_of c.args.language.now) c.args.text.now _ _ _ _ c.insert_line.result c.of_line-fields.ensures.fields c.in-Some.ensures.words c.in-insert.is c.insert_line.ensures).0

pub returns-in-insert-clause-bad : goal.returns-in-insert-clause-bad
returns-in-insert-clause-bad c = (read (language_of c.args.language.now) c.args.text.now _ _ _ _ c.insert_line.result c.of_line-fields.ensures.fields c.in-Some.ensures.words c.in-insert.is c.insert_line.ensures).1

pub returns-in-delete-clause-ok : goal.returns-in-delete-clause-ok
returns-in-delete-clause-ok c = (read (language_of c.args.language.now) c.args.text.now _ _ _ _ c.delete_line.result c.of_line-fields.ensures.fields c.in-Some.ensures.words c.in-delete.is c.delete_line.ensures).0

pub returns-in-delete-clause-bad : goal.returns-in-delete-clause-bad
returns-in-delete-clause-bad c = (read (language_of c.args.language.now) c.args.text.now _ _ _ _ c.delete_line.result c.of_line-fields.ensures.fields c.in-Some.ensures.words c.in-delete.is c.delete_line.ensures).1

pub returns-in-replace-clause-ok : goal.returns-in-replace-clause-ok
returns-in-replace-clause-ok c = (read (language_of c.args.language.now) c.args.text.now _ _ _ _ c.replace_line.result c.of_line-fields.ensures.fields c.in-Some.ensures.words c.in-replace.is c.replace_line.ensures).0

pub returns-in-replace-clause-bad : goal.returns-in-replace-clause-bad
returns-in-replace-clause-bad c = (read (language_of c.args.language.now) c.args.text.now _ _ _ _ c.replace_line.result c.of_line-fields.ensures.fields c.in-Some.ensures.words c.in-replace.is c.replace_line.ensures).1

pub returns-in-range-clause-ok : goal.returns-in-range-clause-ok
returns-in-range-clause-ok c = (read (language_of c.args.language.now) c.args.text.now _ _ _ _ c.range_line.result c.of_line-fields.ensures.fields c.in-Some.ensures.words c.in-range.is c.range_line.ensures).0

pub returns-in-range-clause-bad : goal.returns-in-range-clause-bad
returns-in-range-clause-bad c = (read (language_of c.args.language.now) c.args.text.now _ _ _ _ c.range_line.result c.of_line-fields.ensures.fields c.in-Some.ensures.words c.in-range.is c.range_line.ensures).1

pub returns-in-note-clause-ok : goal.returns-in-note-clause-ok
returns-in-note-clause-ok c = (read (language_of c.args.language.now) c.args.text.now _ _ _ _ c.note_line.result c.of_line-fields.ensures.fields c.in-Some.ensures.words c.in-note.is c.note_line.ensures).0

pub returns-in-note-clause-bad : goal.returns-in-note-clause-bad
returns-in-note-clause-bad c = (read (language_of c.args.language.now) c.args.text.now _ _ _ _ c.note_line.result c.of_line-fields.ensures.fields c.in-Some.ensures.words c.in-note.is c.note_line.ensures).1

pub returns-in-order-clause-ok : goal.returns-in-order-clause-ok
returns-in-order-clause-ok c = (read (language_of c.args.language.now) c.args.text.now _ _ _ _ c.order_line.result c.of_line-fields.ensures.fields c.in-Some.ensures.words c.in-order.is c.order_line.ensures).0

pub returns-in-order-clause-bad : goal.returns-in-order-clause-bad
returns-in-order-clause-bad c = (read (language_of c.args.language.now) c.args.text.now _ _ _ _ c.order_line.result c.of_line-fields.ensures.fields c.in-Some.ensures.words c.in-order.is c.order_line.ensures).1

pub returns-in-show-clause-ok : goal.returns-in-show-clause-ok
returns-in-show-clause-ok c = (read-in (language_of c.args.language.now) c.args.text.now _ _ _ _ c.show_line.result c.of_line-fields.ensures.fields c.in-Some.ensures.words c.in-show.is c.show_line.ensures).0

pub returns-in-show-clause-bad : goal.returns-in-show-clause-bad
returns-in-show-clause-bad c = (read-in (language_of c.args.language.now) c.args.text.now _ _ _ _ c.show_line.result c.of_line-fields.ensures.fields c.in-Some.ensures.words c.in-show.is c.show_line.ensures).1

pub returns-in-spaced-clause-ok : goal.returns-in-spaced-clause-ok
returns-in-spaced-clause-ok c = (read-in (language_of c.args.language.now) c.args.text.now _ _ _ _ c.spaced_line.result c.of_line-fields.ensures.fields c.in-Some.ensures.words c.in-spaced.is c.spaced_line.ensures).0

pub returns-in-spaced-clause-bad : goal.returns-in-spaced-clause-bad
returns-in-spaced-clause-bad c = (read-in (language_of c.args.language.now) c.args.text.now _ _ _ _ c.spaced_line.result c.of_line-fields.ensures.fields c.in-Some.ensures.words c.in-spaced.is c.spaced_line.ensures).1

pub returns-in-wrap-clause-ok : goal.returns-in-wrap-clause-ok
returns-in-wrap-clause-ok c = (read-in (language_of c.args.language.now) c.args.text.now _ _ _ _ c.wrap_line.result c.of_line-fields.ensures.fields c.in-Some.ensures.words c.in-wrap.is c.wrap_line.ensures).0

pub returns-in-wrap-clause-bad : goal.returns-in-wrap-clause-bad
returns-in-wrap-clause-bad c = (read-in (language_of c.args.language.now) c.args.text.now _ _ _ _ c.wrap_line.result c.of_line-fields.ensures.fields c.in-Some.ensures.words c.in-wrap.is c.wrap_line.ensures).1

pub returns-in-indent-clause-ok : goal.returns-in-indent-clause-ok
returns-in-indent-clause-ok c = (read-in (language_of c.args.language.now) c.args.text.now _ _ _ _ c.shift_line.result c.of_line-fields.ensures.fields c.in-Some.ensures.words c.in-indent.is c.shift_line.ensures).0

pub returns-in-indent-clause-bad : goal.returns-in-indent-clause-bad
returns-in-indent-clause-bad c = (read-in (language_of c.args.language.now) c.args.text.now _ _ _ _ c.shift_line.result c.of_line-fields.ensures.fields c.in-Some.ensures.words c.in-indent.is c.shift_line.ensures).1

pub returns-in-dedent-clause-ok : goal.returns-in-dedent-clause-ok
returns-in-dedent-clause-ok c = (read-in (language_of c.args.language.now) c.args.text.now _ _ _ _ c.shift_line-in-dedent.result c.of_line-fields.ensures.fields c.in-Some.ensures.words c.in-dedent.is c.shift_line-in-dedent.ensures).0

pub returns-in-dedent-clause-bad : goal.returns-in-dedent-clause-bad
returns-in-dedent-clause-bad c = (read-in (language_of c.args.language.now) c.args.text.now _ _ _ _ c.shift_line-in-dedent.result c.of_line-fields.ensures.fields c.in-Some.ensures.words c.in-dedent.is c.shift_line-in-dedent.ensures).1

pub returns-in-finish-clause-ok : goal.returns-in-finish-clause-ok
returns-in-finish-clause-ok c = (read (language_of c.args.language.now) c.args.text.now _ _ _ _ c.finish_line.result c.of_line-fields.ensures.fields c.in-Some.ensures.words c.in-finish.is c.finish_line.ensures).0

pub returns-in-finish-clause-bad : goal.returns-in-finish-clause-bad
returns-in-finish-clause-bad c = (read (language_of c.args.language.now) c.args.text.now _ _ _ _ c.finish_line.result c.of_line-fields.ensures.fields c.in-Some.ensures.words c.in-finish.is c.finish_line.ensures).1

pub returns-in_default-text-clause-bad : goal.returns-in_default-text-clause-bad
returns-in_default-text-clause-bad c =
    let other = c.in_default-text in
    bad-refuses (IsLine (language_of c.args.language.now) c.args.text.now) c.from.result _ c.from.ensures (no-line (language_of c.args.language.now) c.args.text.now c.in-Some.word.text.now _ (sym c.of_line-fields.ensures.fields ∙ c.in-Some.ensures.words) (sym (ap no_command c.in-Some.ensures.words) ∙ c.in-Some.ensures.blank) (record {
      not_kinds = other.not-kinds;
      not_tree = other.not-tree;
      not_edit = other.not-edit;
      not_map = other.not-map;
      not_insert = other.not-insert;
      not_delete = other.not-delete;
      not_replace = other.not-replace;
      not_range = other.not-range;
      not_note = other.not-note;
      not_remove = other.not-remove;
      not_order = other.not-order;
      not_show = other.not-show;
      not_spaced = other.not-spaced;
      not_wrap = other.not-wrap;
      not_indent = other.not-indent;
      not_dedent = other.not-dedent;
      not_finish = other.not-finish;
    }))

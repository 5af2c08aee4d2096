-- What the assist makes of a list.
--     calls, after_calls            The calls on the first three arguments, in order; an editor after some calls.
--     Rearranges                    One editor is another after these calls, on the three child nodes of a root.
--     IsRearranged                  An edit is what an editor with these calls makes under a tree number, and its text is what
--                                   `changed_text` says.
--
-- Of `(1, 2, 3)` the assist records the replacements of `1` by `2` and of `2` by `1`, and the deletion of the siblings
-- from the second comma to the `3`.
use Rattle.std.specs.Prelude.{◌≡◌, ℕ, List, [], ◌∷◌}
use Rattle.std.specs.List.{fold}
use Rattle.syntax_editor.specs.Tree.{text}
use Rattle.syntax_editor.specs.Element.{Element, subtree}
use Rattle.syntax_editor.specs.Kinds.{COMMA}
use Rattle.syntax_editor.specs.SyntaxElement.{child_nodes}
use Rattle.syntax_editor.specs.ElementForms.TheVariants.{Node}
use Rattle.syntax_editor.specs.Plan.{Edit, Makes}
use Rattle.syntax_editor.specs.RewritingLaws.{changed_text}
use Rattle.list_removal.specs.Removal.{removal}
use Rattle.syntax_editor.specs.Editor.{Editor, after_call, plan_of}
use Rattle.syntax_editor.specs.RecordCall.{RecordCall, Replacing}

abbrev pub calls : Element → Element → Element → List RecordCall
calls first second third = Replacing (Node first) (Node second) ∷ Replacing (Node second) (Node first) ∷ removal COMMA (Node third) ∷ []

abbrev pub after_calls : List RecordCall → Editor → Editor
after_calls calls editor = fold (λ e call. after_call call e) editor calls

pub record Rearranges (root : Element) (before after : Editor) : Type 0 where
  pub first : Element
  pub second : Element
  pub third : Element
  pub arguments : child_nodes root ≡ first ∷ second ∷ third ∷ []
  pub recorded : after ≡ after_calls (calls first second third) before

pub record IsRearranged (editor : Editor) (number : ℕ) (edit : Edit) : Type 0 where
  pub after : Editor
  pub rearranges : Rearranges editor.root editor after
  pub makes : Makes (plan_of after) number edit
  pub text_is : text edit.new_root.root ≡ changed_text after.changes (subtree after.root)

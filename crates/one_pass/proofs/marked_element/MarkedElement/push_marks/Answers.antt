use Rattle.std.proofs.Common.{◌≡◌, ◌++◌, List, map, ap, sym, ◌∙◌}
use Rattle.std.proofs.lemmas.List.{append-nil, at_drop_all}
use Rattle.one_pass.specs.inner.Marked.{Marking, marks_of, mark_below}
use Rattle.one_pass.specs.inner.Pass.{own_marks}
use Rattle.one_pass.proofs.MarksGiven.{both}
use Rattle.one_pass.proofs.marked_element.MarkedElement.push_marks.Goals as goal
use Rattle.one_pass.proofs.marked_element.MarkedElement.push_marks.Goals.{in-Some+in_ok-push_mark, in_default}

pub returns : goal.returns
returns c =
    let path = c.args.path.now in
    let before : List Marking = marks_of c.args.found.now.items in
    let tops : marks_of c.match-top.found.items ≡ before ++ map (mark_below path) (own_marks c.args.top) = elim c.match-top.branch [
      | in-Some+in_ok-push_mark w ↦ ap (λ v. marks_of v.items) w.found-is ∙ w.in_ok-push_mark.ensures ∙ ap (λ t. before ++ map (mark_below path) (own_marks t)) (sym w.in-Some.is)
      | in_default w ↦ ap (λ v. marks_of v.items) w.found-is ∙ sym (append-nil before) ∙ ap (λ t. before ++ map (mark_below path) (own_marks t)) (sym w.in_default.is)
    ] in
    let middle = marks_of c.match-top.found.items in
    let ms = c.deref-mark-items.result.now in
    let after = marks_of c.loop-mark.found.items in
    let all = sym (append-nil after) ∙ sym (at_drop_all (λ xs. after ++ map (mark_below path) (marks_of xs)) ms c.loop-mark.mark-index c.loop-mark-test.false) ∙ c.loop-mark.invariant ∙ ap (λ xs. middle ++ map (mark_below path) (marks_of xs)) c.deref-mark-items.ensures.value in
    both path before middle after (own_marks c.args.top) (marks_of c.args.self.now.marks.items) tops all

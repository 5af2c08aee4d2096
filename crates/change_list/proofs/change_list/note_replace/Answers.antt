use Rattle.std.proofs.Common.{◌≡◌, Some, None, cond, ◌||◌, ap, subst, sym, ◌∙◌}
use Rattle.cst_core.specs.Path.{same_path}
use Rattle.cst_core.specs.SyntaxElement.{element_of}
use Rattle.path_table.specs.inner.PathTable.{place_at, value_by_path}
use Rattle.path_table.proofs.PathTables.{at-place}
use Rattle.change_list.proofs.Noted.{noted-first, noted-again}
use Rattle.change_list.proofs.change_list.note_replace.Goals as goal
use Rattle.change_list.proofs.change_list.note_replace.Goals.{then-known, else-known}

pub returns-in-None : goal.returns-in-None
returns-in-None c =
    let p = (element_of c.args.element.now).path in
    let entered : place_at c.enter.new.self p ≡ Some c.in_ok-place.place = subst (λ q. place_at c.enter.new.self q ≡ Some c.in_ok-place.place) c.slots.ensures c.in_ok-place.ensures.entered in
    let none : value_by_path c.args.index.now p ≡ None = sym (c.in_ok-place.ensures.values p) ∙ at-place c.enter.new.self p c.in_ok-place.place entered ∙ sym c.at.ensures ∙ c.in-None.is in
    record {
      tree = c.set.ensures.tree;
      noted = λ cs new long deletes agrees. record {
        says = noted-first c.args.element.now new cs (value_by_path c.args.index.now) (value_by_path c.set.new.self) agrees.says c.args.is_deleted deletes c.args.number long none
            (λ q. c.set.ensures.put p entered q ∙ ap (cond (same_path p q) (Some (record { first = c.args.number; is_deleted = c.args.is_deleted }))) (c.in_ok-place.ensures.values q));
        tree = c.set.ensures.tree;
      };
    }

pub returns-after-known : goal.returns-after-known
returns-after-known c =
    let p = (element_of c.args.element.now).path in
    let r = c.in-Some.known in
    let entered : place_at c.enter.new.self p ≡ Some c.in_ok-place.place = subst (λ q. place_at c.enter.new.self q ≡ Some c.in_ok-place.place) c.slots.ensures c.in_ok-place.ensures.entered in
    let known : value_by_path c.args.index.now p ≡ Some r = sym (c.in_ok-place.ensures.values p) ∙ at-place c.enter.new.self p c.in_ok-place.place entered ∙ sym c.at.ensures ∙ c.in-Some.is in
    let deleted : c.if-known.set ≡ (r.is_deleted || c.args.is_deleted) = elim c.if-known.branch [
      | then-known w ↦ w.set-is ∙ w.if-known.true ∙ sym (ap (λ b. b || c.args.is_deleted) w.if-known.true)
      | else-known w ↦ w.set-is ∙ sym (ap (λ b. b || c.args.is_deleted) w.if-known.false)
    ] in
    record {
      tree = c.set-in-Some.ensures.tree;
      noted = λ cs new long deletes agrees. record {
        says = noted-again c.args.element.now new cs (value_by_path c.args.index.now) (value_by_path c.set-in-Some.new.self) agrees.says c.args.is_deleted deletes r known
            (λ q. c.set-in-Some.ensures.put p entered q
            ∙ ap (λ b. cond (same_path p q) (Some (record { first = r.first; is_deleted = b })) (value_by_path c.enter.new.self q)) deleted
            ∙ ap (cond (same_path p q) (Some (record { first = r.first; is_deleted = r.is_deleted || c.args.is_deleted }))) (c.in_ok-place.ensures.values q));
        tree = c.set-in-Some.ensures.tree;
      };
    }

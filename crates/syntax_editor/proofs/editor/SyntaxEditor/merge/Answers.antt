use Rattle.std.proofs.Common.{◌≡◌, ◌++◌, [], Result, Ok, Err, OnOk, OnErr, unwrap_or, false, true, sym, subst, ◌∙◌}
use Rattle.std.specs.Prelude.{is_err}
use Rattle.std.proofs.lemmas.Bool.{true≢false}
use Rattle.edit_map.specs.Builder.{IsMadeOf}
use Rattle.syntax_editor.specs.Editor.{Editor}
use Rattle.syntax_editor.proofs.Merged.{merged-editor}
use Rattle.syntax_editor.proofs.editor.SyntaxEditor.merge.Goals as goal

where_ok : {A E P : Type 0} (r : Result A E) → OnOk r P → is_err r ≡ false → P
where_ok (Ok a) holds is = holds
where_ok (Err e) holds is = absurd (true≢false is)

where_err : {A E P : Type 0} (r : Result A E) → OnErr r P → is_err r ≡ true → P
where_err (Err e) holds is = holds
where_err (Ok a) holds is = absurd (true≢false (sym is))

pub returns-clause-merged : goal.returns-clause-merged
returns-clause-merged c =
    let m = c.in-Ok.mapping in
    let taken : Editor = record { root = c.self-2.inside.root; changes = c.self-2.inside.changes; registrations = c.self-2.inside.registrations.items; factory = c.self-2.inside.factory } in
    let over = where_ok c.take_over.result c.take_over.ensures.ok (sym c.is_err.ensures.value ∙ c.if-is_err.false) in
    let of_other : IsMadeOf (unwrap_or c.args.other.factory [] ++ unwrap_or c.self.inside.factory []) m = subst (λ (e : Editor). IsMadeOf (unwrap_or e.factory [] ++ unwrap_or c.self.inside.factory []) m) c.other.view_is c.in-Ok.ensures in
    let copies : IsMadeOf (unwrap_or c.args.other.factory [] ++ unwrap_or c.args.self.now.factory []) m = subst (λ (e : Editor). IsMadeOf (unwrap_or c.args.other.factory [] ++ unwrap_or e.factory []) m) c.self.view_is of_other in
    merged-editor c.args.self.now c.args.other taken c.of_mapping.result m (c.self-2.view_is ∙ over) c.of_mapping.ensures copies

pub returns-then-not-is_mergeable-clause-refused : goal.returns-then-not-is_mergeable-clause-refused
returns-then-not-is_mergeable-clause-refused c = λ are. true≢false (sym (c.is_mergeable.ensures.1 are) ∙ c.if-not-is_mergeable.true)

pub returns-in_default-clause-refused : goal.returns-in_default-clause-refused
returns-in_default-clause-refused c = c.is_mergeable.ensures.0 c.if-not-is_mergeable.false

pub returns-then-is_err-clause-refused : goal.returns-then-is_err-clause-refused
returns-then-is_err-clause-refused c = c.is_mergeable.ensures.0 c.if-not-is_mergeable.false

pub returns-then-is_err-clause-handed_back : goal.returns-then-is_err-clause-handed_back
returns-then-is_err-clause-handed_back c = where_err c.take_over.result c.take_over.ensures.kept (sym c.is_err.ensures.value ∙ c.if-is_err.true)

pub returns-then-is_err-clause-unchanged : goal.returns-then-is_err-clause-unchanged
returns-then-is_err-clause-unchanged c = where_err c.take_over.result c.take_over.ensures.err (sym c.is_err.ensures.value ∙ c.if-is_err.true)

pub returns-clause-accepted : goal.returns-clause-accepted
returns-clause-accepted c = c.is_mergeable.ensures.0 c.if-not-is_mergeable.false

pub invariant_of-self : goal.invariant_of-self
invariant_of-self c = record { is_root = c.self-2.invariant.is_root; fit = c.self-2.invariant.fit }

use Rattle.std.proofs.Common.{All, sym, subst, ◌∙◌}
use Rattle.edit_plan.specs.Fits.{Fits}
use Rattle.syntax_editor.proofs.editor.SyntaxEditor.is_mergeable.Goals as goal

pub returns-then-eq : goal.returns-then-eq
returns-then-eq c =
    let root = c.self.inside.root in
    rw (← c.self.view_is, ← c.other.view_is) (
      λ fits. record {
        one_root = sym c.eq.ensures ∙ c.if-eq.true;
        fit = subst (All (Fits root)) c.as_slice.ensures (c.all_fit.ensures.0 fits);
      },
      λ mergeable. c.all_fit.ensures.1 (subst (All (Fits root)) (sym c.as_slice.ensures) mergeable.fit),
    )

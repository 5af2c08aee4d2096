use Rattle.std.specs.Prelude.{All}
use Rattle.std.proofs.Common.{sym, subst}
use Rattle.std.proofs.lemmas.List.Elements.{All-append, All-nil}
use Rattle.edit_change.specs.Fits.{Fits}
use Rattle.syntax_editor.specs.Editor.{Editor}
use Rattle.syntax_editor.proofs.editor.SyntaxEditor.take_over.Goals as goal

pub invariant_of-self : goal.invariant_of-self
invariant_of-self c = record { is_root = c.self.invariant.is_root; fit = c.self.invariant.fit }

pub invariant_of-self-in_err-append : goal.invariant_of-self-in_err-append
invariant_of-self-in_err-append c = record { is_root = c.self.invariant.is_root; fit = rw c.in_err-append.ensures.err c.self.invariant.fit }

pub invariant_of-other : goal.invariant_of-other
invariant_of-other c = record { is_root = c.other.invariant.is_root; fit = rw c.in_err-append.ensures.kept c.other.invariant.fit }

pub invariant_of-self-2 : goal.invariant_of-self-2
invariant_of-self-2 c =
    let others : All (Fits c.self.inside.root) c.other.inside.changes = subst (λ (e : Editor). All (Fits e.root) c.other.inside.changes) (sym c.self.view_is) (subst (λ (e : Editor). All (Fits c.args.self.now.root) e.changes) (sym c.other.view_is) c.requires) in
    record { is_root = c.self.invariant.is_root; fit = rw c.in_ok-append.ensures.ok (All-append (Fits c.self.inside.root) c.self.inside.changes c.other.inside.changes c.self.invariant.fit others) }

pub invariant_of-other-2 : goal.invariant_of-other-2
invariant_of-other-2 c = record { is_root = c.other.invariant.is_root; fit = rw c.in_ok-append.ensures.taken (All-nil (Fits c.other.inside.root)) }

use Rattle.std.proofs.Common.{subst, sym}
use Rattle.std.specs.Prelude.{All}
use Rattle.std.proofs.lemmas.List.Elements.{All-from_recursion, recursion_from_All}
use Rattle.edit_change.proofs.Lists.{all-append}
use Rattle.edit_change.specs.inner.DocumentOrder.{FitsSome}
use Rattle.syntax_editor.proofs.editor.SyntaxEditor.clashes_with.Goals as goal

pub first_clash-requires : goal.first_clash-requires
first_clash-requires c =
    let own : All FitsSome c.as_slice.result.now = subst (All FitsSome) (sym c.as_slice.ensures) (λ k d l. (c.self.inside.root, c.self.invariant.fit k d l)) in
    let other : All FitsSome c.as_slice-2.result.now = subst (All FitsSome) (sym c.as_slice-2.ensures) (λ k d l. (c.other.inside.root, c.other.invariant.fit k d l)) in
    All-from_recursion FitsSome _ (all-append FitsSome _ _ (recursion_from_All FitsSome _ own) (recursion_from_All FitsSome _ other))

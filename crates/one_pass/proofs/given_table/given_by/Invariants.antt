use Rattle.std.proofs.Common.{◌≡◌, map, take}
use Rattle.std.specs.Prelude.{All}
use Rattle.cst_core.specs.Element.{subtree}
use Rattle.cst_core.specs.SyntaxElement.{element_of}
use Rattle.one_pass.specs.inner.Built.{AreBuilt}
use Rattle.one_pass.specs.inner.Pass.{given_trees}
use Rattle.one_pass.specs.inner.GivenTables.{each_rewritten, AreMarkedEach}
use Rattle.one_pass.specs.inner.OwnerTables.{moved_dependent}
use Rattle.edit_change.specs.inner.Aimed.{aims_of}
use Rattle.edit_change.specs.TouchedNodes.{touched_each, Raises}
use Rattle.one_pass.proofs.given_table.given_by.Given as goal

abbrev pub invariant-loop-it : goal.invariant-loop-it
invariant-loop-it l = aims_of l.aims.items ≡ map moved_dependent (take l.it-index l.dependents)

abbrev pub invariant-loop-element : goal.invariant-loop-element
invariant-loop-element l = record {
  count : Raises (All (λ e. AreBuilt (map moved_dependent l.dependents) (subtree e)) (map element_of l.elements)) (touched_each (map moved_dependent l.dependents) (map element_of (take l.element-index l.elements))) l.fn.builds l.builds;
  trees : given_trees l.entry.items ≡ each_rewritten l.given (map moved_dependent l.dependents) (map element_of (take l.element-index l.elements));
  marks : AreMarkedEach l.given l.registered (map moved_dependent l.dependents) (map element_of (take l.element-index l.elements)) l.entry.items;
}

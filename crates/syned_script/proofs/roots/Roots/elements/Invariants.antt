-- The elements so far, and then those that the references from here on lead to, are all.
use Rattle.std.proofs.Common.{◌≡◌, ◌++◌, map, drop, option_map}
use Rattle.script_lines.specs.LineValue.{ref_of}
use Rattle.syned_script.specs.State.{elements_in}
use Rattle.syned_script.specs.inner.SessionState.{roots_of}
use Rattle.syned_script.proofs.roots.Roots.elements.Given as goal

abbrev pub invariant-loop-reference : goal.invariant-loop-reference
invariant-loop-reference l =
    option_map (λ es. l.elements.items ++ es) (elements_in (roots_of l.self) (map ref_of (drop l.reference-index l.references)))
    ≡ elements_in (roots_of l.self) (map ref_of l.references)

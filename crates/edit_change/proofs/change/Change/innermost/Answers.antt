use Rattle.std.proofs.Common.{◌≡◌, ◌++◌, ◌∷◌, [], length, sym, ◌∙◌, ap, arith}
use Rattle.std.proofs.lemmas.List.{length-append}
use Rattle.cst_core.specs.Path.{Path, parent_path, above, up_to}
use Rattle.cst_core.proofs.LastSlot.{parent_path-push}
use Rattle.edit_change.specs.Nesting.{surroundings}
use Rattle.edit_change.proofs.Around.{up_to_parent}
use Rattle.edit_change.proofs.change.Change.innermost.Goals as goal
use Rattle.edit_change.proofs.change.Change.innermost.Goals.{in-Replace, in-ReplaceWithMany, in-ReplaceAll}

above-push : (q p : Path) (s : _) → q ≡ p ++ s ∷ [] → up_to p ≡ above q
above-push q p s is =
    ap up_to (sym (ap parent_path is ∙ parent_path-push p s)) ∙ up_to_parent q (λ none. let l = ap length (sym none ∙ is) in absurd (omega (arith, l, length-append p (s ∷ []))))

pub returns : goal.returns
returns c =
    let parent = above-push c.match-self.target.now _ _ c.in_ok-parent.ensures.cases.0 in
    elim c.match-self.branch [
      | in-Replace w ↦ parent ∙ ap (λ p. above p.now) w.target-is ∙ ap above w.slots-target.ensures ∙ ap surroundings (sym w.in-Replace.is)
      | in-ReplaceWithMany w ↦ parent ∙ ap (λ p. above p.now) w.target-is ∙ ap above w.slots-target-in-ReplaceWithMany.ensures ∙ ap surroundings (sym w.in-ReplaceWithMany.is)
      | in-ReplaceAll w ↦ parent ∙ ap (λ p. above p.now) w.target-is ∙ ap above w.slots-target-in-ReplaceAll.ensures ∙ ap surroundings (sym w.in-ReplaceAll.is)
    ]

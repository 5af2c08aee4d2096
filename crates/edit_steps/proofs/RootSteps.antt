-- A step over the top of an element: nothing in the element changes.
--     top-none                       in no tree does an aim over the top alter children
--     still-takes, still-counts      a stage with nothing more done; a count that stays
--     top-splices, top-counts        the same of all stages
use Rattle.std.specs.Prelude.{◌≡◌, ◌<◌, ◌^◌, ℕ, zero, suc, true, false, List, [], ◌∷◌, ◌++◌, map, None, Option, refl}
use Rattle.std.proofs.Common.{ap, sym, subst, ◌∙◌, arith}
use Rattle.std.proofs.lemmas.Bool.{false≢true}
use Rattle.green_tree.specs.Path.{Path, has_path, parent_path, last_slot, counted_from}
use Rattle.green_tree.specs.Tree.{SyntaxTree}
use Rattle.green_tree.specs.Green.{Branch}
use Rattle.edit_change.specs.Aim.{replaces}
use Rattle.green_tree.specs.Count.{counted}
use Rattle.edit_change.specs.inner.Aimed.{aim_in, numbered}
use Rattle.edit_change.specs.declared.aimed.Aimed.{Aimed}
use Rattle.edit_change.specs.declared.aimed.AimForm.{AimForm}
use Rattle.edit_change.specs.declared.aimed.AimForm.TheVariants.{FirstIn, AfterElement, Over}
use Rattle.edit_steps.specs.inner.AimTargets.{live_target}
use Rattle.edit_steps.specs.inner.Visited.{held_at}
use Rattle.edit_steps.specs.inner.Stage.{old_tree, StageTakesStep, StageCountsStep}
use Rattle.edit_steps.specs.inner.Splicing.{Splices, CountsSplice}
use Rattle.edit_steps.specs.declared.stage.Stage.{Stage}
use Rattle.edit_steps.specs.declared.stages.Stages.{Stages}
use Rattle.edit_steps.proofs.Aims.{found-dead, found-none}
use Rattle.edit_steps.proofs.Stepping.{dead-tree, dead-counted}
use Rattle.edit_steps.proofs.StepOfStage.{builds-dead}

no-top : (p : Path) (ns : List ℕ) → has_path (map (λ j. p ++ j ∷ []) ns) [] ≡ false
no-top p [] = refl
no-top [] (n ∷ ns) = no-top [] ns
no-top (i ∷ p) (n ∷ ns) = no-top (i ∷ p) ns

pub top-none : (t : SyntaxTree) (p : Path) (w : AimForm) → replaces [] (aim_in p w) ≡ true → live_target t p w ≡ None
top-none t p FirstIn top = absurd (false≢true top)
top-none t p AfterElement top = absurd (false≢true top)
top-none t p (Over zero) top = refl
top-none t [] (Over (suc n)) top = refl
top-none t (i ∷ p) (Over (suc n)) top =
    absurd (false≢true (sym (no-top (parent_path (i ∷ p)) (counted_from (last_slot (i ∷ p)) (suc n))) ∙ top))

module _ (a : Aimed) (top : replaces [] (numbered a).1 ≡ true) where
  pub still-takes : (s : Stage) (ts : List SyntaxTree) → StageTakesStep s s (numbered a) ts
  still-takes s ts = λ given xs ys stage next gives.
      let none = top-none (old_tree s) a.path.now a.form top in
      let dead = found-dead (old_tree s) given xs (numbered a) ys (held_at s.visited) a.path.now a.form refl none in
      record {
        tree = stage.tree ∙ dead-tree (old_tree s) given xs (numbered a) ys (held_at s.visited) dead.0 dead.1;
        counted = dead-counted (old_tree s) given xs (numbered a) ys (held_at s.visited) dead.0 dead.1 stage.counted;
        visited = stage.visited;
      }

  pub still-counts : (s : Stage) (builds : ℕ) → builds < 2 ^ 64 → StageCountsStep s (numbered a) builds builds
  still-counts s builds fits =
      let none = builds-dead (old_tree s) (aim_in a.path.now a.form) (found-none (old_tree s) a.path.now a.form (top-none (old_tree s) a.path.now a.form top)) in
      let same : builds ≡ counted builds 0 = omega (arith, fits) in
      same ∙ ap (counted builds) (sym none)

  module _ (s : Stages) (new_root : Option Branch) (o : Option ℕ) (free : o ≡ None) where
    abbrev placed : Stages
    placed = record { tree = s.tree; new_root = new_root; payloads = s.payloads; waiting = s.waiting; builds = s.builds }

    pub top-splices : (ts : List SyntaxTree) → Splices s placed o (numbered a) ts
    top-splices ts = subst (λ x. Splices s placed x (numbered a) ts) (sym free) (refl, refl, still-takes s.tree ts)

    pub top-counts : s.builds < 2 ^ 64 → CountsSplice s placed o (numbered a)
    top-counts fits = subst (λ x. CountsSplice s placed x (numbered a)) (sym free) (still-counts s.tree s.builds fits)

-- The code of a tree, by which it is data that proofs can tell apart: the steps that build it.
--     tree_code                      its code, by which a tree is data that proofs can tell apart
--     tree_from_steps, built-tree_steps, built-forest_steps      a tree is told by the steps that build it
--     branch_code                    the code of a node and its children
use Rattle.std.specs.Prelude.{◌≡◌, ℕ, List, [], ◌∷◌, ◌⊎◌, refl}
use Rattle.std.specs.Coded.{Coded, code_by, coded_ℕ, coded_list, coded×, coded⊎}
use base.Stored.{coded_unit}
use mathlib.Core.Logic.{inl, inr}
use mathlib.Core.Path.{◌∙◌, ap}
use Rattle.green_tree.specs.Tree.{Forest, Node, Token, Tree, end, label, more, SyntaxTree}
use Rattle.green_tree.specs.Green.{Branch}

-- ---- the code of a tree: the steps that build it over a stack of forests
-- The first kind of step puts the empty forest on the stack. The second puts a token before the forest on top.
-- The third makes a node of the forest on top, and puts it before the one below.
abbrev Step : Type 0 → Type 0
Step L = Unit {0} ⊎ ((L × List ℕ) ⊎ L)

abbrev mutual
  tree_steps : {L : Type 0} → Tree L → List (Step L) → List (Step L)
  tree_steps (Token l s) next = inr (inl (l, s)) ∷ next
  tree_steps (Node l f) next = forest_steps f (inr (inr l) ∷ next)

  forest_steps : {L : Type 0} → Forest L → List (Step L) → List (Step L)
  forest_steps end next = inl tt ∷ next
  forest_steps (more t f) next = forest_steps f (tree_steps t next)

abbrev built : {L : Type 0} → List (Step L) → List (Forest L) → Forest L
built [] [] = end
built [] (f ∷ stack) = f
built (inl e ∷ next) stack = built next (end ∷ stack)
built (inr (inl t) ∷ next) [] = end
built (inr (inl t) ∷ next) (f ∷ stack) = built next (more (Token t.0 t.1) f ∷ stack)
built (inr (inr l) ∷ next) [] = end
built (inr (inr l) ∷ next) (f ∷ []) = end
built (inr (inr l) ∷ next) (f ∷ g ∷ stack) = built next (more (Node l f) g ∷ stack)

mutual
  pub built-tree_steps : {L : Type 0} (t : Tree L) (next : List (Step L)) (f : Forest L) (stack : List (Forest L)) → built (tree_steps t next) (f ∷ stack) ≡ built next (more t f ∷ stack)
  built-tree_steps (Token l s) next f stack = refl
  built-tree_steps (Node l g) next f stack = built-forest_steps g (inr (inr l) ∷ next) (f ∷ stack)

  pub built-forest_steps : {L : Type 0} (f : Forest L) (next : List (Step L)) (stack : List (Forest L)) → built (forest_steps f next) stack ≡ built next (f ∷ stack)
  built-forest_steps end next stack = refl
  built-forest_steps (more t f) next stack = built-forest_steps f (tree_steps t next) stack ∙ built-tree_steps t next f stack

abbrev tree_or : {L : Type 0} → Tree L → Forest L → Tree L
tree_or d end = d
tree_or d (more t f) = t

abbrev tree_from : {L : Type 0} → L × List (Step L) → Tree L
tree_from steps = tree_or (Token steps.0 []) (built steps.1 (end ∷ []))

pub tree_from_steps : {L : Type 0} (t : Tree L) → tree_from (label t, tree_steps t []) ≡ t
tree_from_steps t = ap (tree_or (Token (label t) [])) (built-tree_steps t [] end [])

abbrev step_code : {L : Type 0} → Coded L → Coded (Step L)
step_code c = coded⊎ coded_unit (coded⊎ (coded× c (coded_list coded_ℕ)) c)

abbrev pub tree_code : {L : Type 0} → Coded L → Coded (Tree L)
tree_code {L} c = code_by (L × List (Step L)) (coded× c (coded_list (step_code c))) (λ t. (label t, tree_steps t [])) tree_from tree_from_steps

-- the code by which a branch is a model's value
abbrev pub branch_code : Coded Branch
branch_code = code_by (ℕ × List SyntaxTree) (coded× coded_ℕ (coded_list (tree_code coded_ℕ))) (λ b. (b.kind, b.children)) (λ p. record { kind = p.0; children = p.1 }) (λ _. refl)

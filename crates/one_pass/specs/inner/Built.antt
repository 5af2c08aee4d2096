-- Which nodes a pass from the leaves up builds anew.
--     built, nodes_built            of the nodes above one of these paths, or at one, those that no aim replaces, nor what they are in; of a whole tree
--     built_from                    those of children from a slot on
--     IsBuilt, AreBuilt             a node of the tree that no aim replaces, nor what it is in; such is each node whose children an aim alters
use Rattle.std.specs.Prelude.{◌≡◌, ℕ, suc, ◌+◌, true, false, not, cond, List, [], ◌∷◌, ◌++◌, All}
use Rattle.std.specs.Option.{option_map_or}
use Rattle.green_tree.specs.Path.{Path}
use Rattle.green_tree.specs.Tree.{Forest, Token, Node, end, more, SyntaxTree, is_token, at}
use Rattle.edit_change.specs.Aim.{parents}
use Rattle.edit_change.specs.Rewriting.{NumberedAim, is_replaced}
use Rattle.edit_change.specs.Effort.{inside, parents_of}

module _ (cs : List NumberedAim) where
  abbrev mutual
    -- of the part at a path, where the other paths are those of the altered nodes, counted from this part
    pub built : Path → SyntaxTree → List Path → ℕ
    built p (Token k s) ps = 0
    built p (Node k f) [] = 0
    built p (Node k f) (q ∷ ps) = 1 + built_from p 0 f (q ∷ ps)

    pub built_from : Path → ℕ → Forest ℕ → List Path → ℕ
    built_from p i end ps = 0
    built_from p i (more t f) ps = cond (is_replaced cs (p ++ i ∷ [])) 0 (built (p ++ i ∷ []) t (inside i ps)) + built_from p (suc i) f ps

  abbrev pub nodes_built : SyntaxTree → ℕ
  nodes_built t = built [] t (parents_of cs)

-- Where each node that is touched is such, all of them are built.
pub record IsBuilt (cs : List NumberedAim) (t : SyntaxTree) (p : Path) : Type 0 where
  pub node : option_map_or (λ e. not (is_token e)) (at t p) false ≡ true
  pub stays : (s r : Path) → s ++ r ≡ p → is_replaced cs s ≡ false

abbrev pub AreBuilt : List NumberedAim → SyntaxTree → Type 0
AreBuilt cs t = All (λ c. (p : Path) → parents c.1 ≡ p ∷ [] → IsBuilt cs t p) cs

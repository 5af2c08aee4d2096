-- The examples of docs/DEFINITIONS.md, computed.
use Rattle.std.specs.Prelude.{◌≡◌, ℕ, Bool, true, false, cond, nat_eq, List, [], ◌∷◌, refl}
use Rattle.green_tree.specs.Tree.{Tree, SyntaxTree, Token, node}
use Rattle.edit_change.specs.Aim.{FirstIn, Over}
use Rattle.edit_change.specs.Rewriting.{NumberedAim, rewritten}
use Rattle.edit_change.specs.inner.Aimed.{siblings_from}
use Rattle.edit_change.specs.Topmost.{topmost}
use Rattle.one_pass.specs.inner.Marked.{MarkTree, Marking, marked, wanted}

three_siblings : siblings_from (1 ∷ []) 3 ≡ (1 ∷ []) ∷ (2 ∷ []) ∷ (3 ∷ []) ∷ []
three_siblings = refl

only_top : siblings_from [] 3 ≡ [] ∷ []
only_top = refl

-- the tree `L`, its kinds numbered in the order in which they come
abbrev l : SyntaxTree
l = node 1 (Token 2 (40 ∷ []) ∷ node 3 (Token 4 (49 ∷ []) ∷ []) ∷ Token 5 (44 ∷ []) ∷ Token 6 (32 ∷ []) ∷ node 3 (Token 4 (50 ∷ []) ∷ []) ∷ Token 7 (41 ∷ []) ∷ [])

-- one element first in L/1, two in the place of L/4
abbrev aims : List NumberedAim
aims = (0, FirstIn (1 ∷ [])) ∷ (1, Over ((4 ∷ []) ∷ [])) ∷ []

abbrev given : ℕ → List (Tree Bool)
given c = cond (nat_eq c 0) (Token true [] ∷ []) (node true (Token true [] ∷ []) ∷ Token true [] ∷ [])

three_places : topmost (λ b. b) (rewritten (λ p k. false) given aims [] l) ≡ (1 ∷ 0 ∷ []) ∷ (4 ∷ []) ∷ (5 ∷ []) ∷ []
three_places = refl

-- the mark 0 at L/1, 1 at L/4, 2 at L/5; what stands in the place of L/4 has the mark 1 at its first child
abbrev sought : List Marking
sought = (0, 1 ∷ []) ∷ (1, 4 ∷ []) ∷ (2, 5 ∷ []) ∷ []

abbrev given_marks : ℕ → List MarkTree
given_marks c = cond (nat_eq c 0) (Token [] [] ∷ []) (node [] (Token (1 ∷ []) [] ∷ []) ∷ Token [] [] ∷ [])

three_marks : marked (rewritten (wanted sought) given_marks aims [] l) ≡ (0, 1 ∷ []) ∷ (1, 4 ∷ 0 ∷ []) ∷ (2, 6 ∷ []) ∷ []
three_marks = refl

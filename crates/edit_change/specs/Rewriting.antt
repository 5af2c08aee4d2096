-- The tree that a set of numbered aims makes of an old one, all of them at once.
--     NumberedAim, numbers          An aim with the number of its change; the numbers alone.
--     inserts_at, replacements_at   The numbers of the changes that insert into a gap; of those whose first target is a path.
--     is_replaced                   Some change replaces this path.
--     gap_order                     The order of several inserts into one gap: the recorded order. This definition alone says so.
--     gap, slot                     The elements in a gap: those of its inserts, in that order. In a child's slot: those of the replacement
--                                   that starts there, none if one starts earlier, else the child.
--     rewritten, rewritten_from     A tree with every child list made anew at once: gap 0, slot 0, gap 1, slot 1, .., the last gap; the
--                                   same of children from a slot on.
--     rewritten_whole               The same where the top itself may be replaced.
--
-- In `rewritten`, `label_at` labels what is kept, and `given` says which elements each change adds. Inserting `x` and
-- then `y` after `R/0`: gap 1 has `x` and then `y`, and the text is `(xy1, 2)`.
use Rattle.std.specs.Prelude.{ℕ, suc, Bool, cond, List, [], ◌∷◌, ◌++◌, map, filter, flat_map}
use Rattle.std.specs.List.{list_any}
use Rattle.green_tree.specs.Path.{Path}
use Rattle.green_tree.specs.Tree.{Tree, Forest, Token, Node, end, more, SyntaxTree, forest}
use Rattle.edit_change.specs.Aim.{Aim, aims_at_gap, starts_at, replaces}

-- ---- what aims where
abbrev pub NumberedAim : Type 0
NumberedAim = ℕ × Aim

abbrev pub numbers : List NumberedAim → List ℕ
numbers cs = map (λ c. c.0) cs

abbrev pub inserts_at : List NumberedAim → Path → ℕ → List ℕ
inserts_at cs p i = numbers (filter (λ c. aims_at_gap p i c.1) cs)

abbrev pub replacements_at : List NumberedAim → Path → List ℕ
replacements_at cs p = numbers (filter (λ c. starts_at p c.1) cs)

abbrev pub is_replaced : List NumberedAim → Path → Bool
is_replaced cs p = list_any (λ c. replaces p c.1) cs

-- The gap rule: the inserts of one gap stand in recorded order.
abbrev pub gap_order : List ℕ → List ℕ
gap_order inserts = inserts

-- ---- rewriting, where `label_at` labels what is kept, by its path and kind, and `given` says what each change gives
module _ {L : Type 0} (label_at : Path → ℕ → L) (given : ℕ → List (Tree L)) (cs : List NumberedAim) where
  abbrev pub gap : Path → ℕ → List (Tree L)
  gap p i = flat_map given (gap_order (inserts_at cs p i))

  -- A replaced slot holds what the replacement gives that starts there, and nothing if it starts before. Any other keeps its child.
  abbrev pub slot : Path → Tree L → List (Tree L)
  slot p kept = cond (is_replaced cs p) (flat_map given (replacements_at cs p)) (kept ∷ [])

  abbrev mutual
    pub rewritten : Path → SyntaxTree → Tree L
    rewritten p (Token k s) = Token (label_at p k) s
    rewritten p (Node k f) = Node (label_at p k) (forest (rewritten_from p 0 f))

    -- gap i, slot i, and so on to the last gap
    pub rewritten_from : Path → ℕ → Forest ℕ → List (Tree L)
    rewritten_from p i end = gap p i
    rewritten_from p i (more t f) = gap p i ++ slot (p ++ i ∷ []) (rewritten (p ++ i ∷ []) t) ++ rewritten_from p (suc i) f

  abbrev pub rewritten_whole : SyntaxTree → List (Tree L)
  rewritten_whole t = slot [] (rewritten [] t)

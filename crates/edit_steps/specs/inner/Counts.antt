-- What is told of a node's gaps and slots.
--     Counts                         it is told how much each gap and each slot of a node holds; past the last child there is a gap alone
--     slot_width                     how much aims leave in a slot: its child, or what replaces it
--     IsCounted                      so it is told what aims leave there
use Rattle.std.specs.Prelude.{◌≡◌, ◌≤◌, ◌<◌, ◌+◌, ℕ, cond, List, [], ◌∷◌, ◌++◌, flat_map, length}
use Rattle.green_tree.specs.Path.{Path}
use Rattle.green_tree.specs.Tree.{SyntaxTree}
use Rattle.edit_change.specs.Rewriting.{NumberedAim, replacements_at, is_replaced, gap}
use Rattle.edit_change.specs.inner.KindOnly.{kind_only}
use Rattle.edit_steps.specs.inner.Widths.{Held}

pub record Counts (in_gap in_slot : ℕ → ℕ) (count : ℕ) (h : Held) : Type 0 where
  pub widths : (i : ℕ) → i < count → h.widths i ≡ in_gap i + in_slot i
  pub last : h.widths count ≡ in_gap count + 1
  pub gaps : (i : ℕ) → i ≤ count → h.gaps i ≡ in_gap i

abbrev pub slot_width : (ℕ → List SyntaxTree) → List NumberedAim → Path → ℕ
slot_width given cs p = cond (is_replaced cs p) (length (flat_map given (replacements_at cs p))) 1

abbrev pub IsCounted : (ℕ → List SyntaxTree) → List NumberedAim → Path → ℕ → Held → Type 0
IsCounted given cs p count h =
    Counts (λ i. length (gap kind_only given cs p i)) (λ i. slot_width given cs (p ++ i ∷ [])) count h

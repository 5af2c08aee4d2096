-- Where something aims in a tree, by paths alone: all that the place of its payload hangs on.
--     Gap                           A node, and an index from 0 to its number of children. Gap i is before child i, and the last gap is
--                                   after the last child.
--     Aim                           Where a change aims, by paths alone: first in a node, after an element (`AfterElement`), or over its
--                                   targets. The new tree depends only on this and on the payload.
--     gap_of, aims_at_gap           The gap that an aim fills, if it is an insert and not after the top; an aim fills this gap.
--     same_gap                      Two aims fill one gap.
--     starts_at, replaces           A replacement has this path as its first target; among its targets.
--     parents                       The path of the node whose child list an aim alters. A replaced root has none.
use Rattle.std.specs.Prelude.{ℕ, suc, Bool, false, ◌&&◌, nat_eq, List, [], ◌∷◌, Option, Some, None}
use Rattle.std.specs.Option.{option_map_or}
use Rattle.green_tree.specs.Path.{Path, same_path, has_path, parent_path, last_slot}

pub record Gap : Type 0 where
  pub node : Path
  pub index : ℕ

pub data Aim : Type 0 where
  FirstIn : (node : Path) → Aim
  AfterElement : (element : Path) → Aim
  Over : (replaced : List Path) → Aim

-- ---- inserts
-- after the top there is no gap
abbrev gap_after : Path → Option Gap
gap_after [] = None
gap_after (i ∷ p) = Some (record { node = parent_path (i ∷ p); index = suc (last_slot (i ∷ p)) })

abbrev pub gap_of : Aim → Option Gap
gap_of (FirstIn p) = Some (record { node = p; index = 0 })
gap_of (AfterElement p) = gap_after p
gap_of (Over ps) = None

abbrev pub aims_at_gap : Path → ℕ → Aim → Bool
aims_at_gap p i a = option_map_or (λ g. same_path p g.node && nat_eq i g.index) (gap_of a) false

abbrev pub same_gap : Aim → Aim → Bool
same_gap (FirstIn p) (FirstIn q) = same_path p q
same_gap (FirstIn p) (AfterElement q) = false
same_gap (FirstIn p) (Over qs) = false
same_gap (AfterElement p) (FirstIn q) = false
same_gap (AfterElement p) (AfterElement q) = same_path p q
same_gap (AfterElement p) (Over qs) = false
same_gap (Over ps) a = false

-- ---- replacements
abbrev pub starts_at : Path → Aim → Bool
starts_at p (FirstIn q) = false
starts_at p (AfterElement q) = false
starts_at p (Over []) = false
starts_at p (Over (q ∷ qs)) = same_path p q

abbrev pub replaces : Path → Aim → Bool
replaces p (FirstIn q) = false
replaces p (AfterElement q) = false
replaces p (Over qs) = has_path qs p

-- ---- the node whose children are altered
abbrev path_above : Path → List Path
path_above [] = []
path_above (i ∷ p) = parent_path (i ∷ p) ∷ []

abbrev pub parents : Aim → List Path
parents (FirstIn p) = p ∷ []
parents (AfterElement p) = path_above p
parents (Over []) = []
parents (Over (p ∷ ps)) = path_above p

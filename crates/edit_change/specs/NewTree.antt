-- The tree that a set of changes makes of an old one, all of them at once.
--     change_aims                   The numbered aims of numbered changes.
--     Origin, OriginTree            A label that adds to a kind the address that the element was copied from, and the change whose payload
--                                   it is in, if any; a tree of such labels.
--     plain                         The tree with the kinds alone as labels.
--     origin                        The label of an element copied from a path below an address, in the payload of a change or in none.
--     moved_path, moved_aim         A path below the owner's target, moved below the target's place in the payload; an aim with its paths
--                                   moved so.
--     only                          Those of some numbered aims whose numbers pass a test.
--     targets_of, payload_of        The targets of the change of a number; its payload.
--     is_free                       The change of this number is independent.
--     independents                  The aims of the changes that are neither dropped nor owned.
--     dependents                    The aims of the changes that a change owns, moved into its payload.
--     payload_rewritten             The payload as it was recorded, each element rewritten by such aims.
--     given, given_within           The elements that a change adds: its payload, rewritten by its dependents; the same with owners nested
--                                   at most n deep.
--     Gives                         The equation that says so. `given` meets it and nothing else does (a law), so a reader can ignore how
--                                   `given` computes.
--     tree_rewritten                The old tree, rewritten by some changes.
--     new_tree                      The old tree, rewritten by the independent changes.
--     stage_tree, stage_payload     `new_tree` of only those changes that are done; a payload, rewritten by only those dependents that are
--                                   done.
--
-- Inserting `x` first in `R/1` and replacing `R/1` by `R`: the replacement owns the insert, the place of `R/1` in `R`
-- is `1`, and the text is `((x1, 2), 2)`.
--
-- A payload is taken as it was when the plan was made: only the changes that its change owns show in it. Replacing
-- `R/1` by `R/4` and inserting `x` first in `R/4`: `(2, x2)`. If one element is the payload of two changes, each of its
-- copies shows only what its change owns.
use Rattle.std.specs.Prelude.{◌≡◌, ℕ, zero, suc, Bool, false, List, [], ◌++◌, map, length, drop, filter, slice_get, unwrap_or, Option, Some, None}
use Rattle.std.specs.List.{enumerate_from}
use Rattle.std.specs.Option.{option_map_or}
use Rattle.cst_core.specs.Path.{Path, first_item}
use Rattle.cst_core.specs.Tree.{Tree, SyntaxTree, relabelled}
use Rattle.cst_core.specs.Element.{Address, Element, address, subtree}
use Rattle.edit_change.specs.Aim.{Aim, FirstIn, AfterElement, Over}
use Rattle.edit_change.specs.Rewriting.{NumberedAim, rewritten, rewritten_whole}
use Rattle.edit_change.specs.Change.{payload, targets}
use Rattle.edit_change.specs.ChangeAim.{aim}
use Rattle.edit_change.specs.Nesting.{is_independent, has_owner}
use Rattle.edit_change.specs.declared.change.Change.{Change}

-- ---- aims of changes
abbrev pub change_aims : List (ℕ × Change) → List NumberedAim
change_aims ds = map (λ d. (d.0, aim d.1)) ds

-- ---- origins
pub record Origin : Type 0 where
  pub kind : ℕ
  pub address : Address
  pub change : Option ℕ

abbrev pub OriginTree : Type 0
OriginTree = Tree Origin

abbrev pub plain : OriginTree → SyntaxTree
plain t = relabelled (λ o. o.kind) t

abbrev pub origin : Address → Option ℕ → Path → ℕ → Origin
origin a change p k = record { kind = k; address = record { number = a.number; path = a.path ++ p }; change = change }

-- ---- into a payload
-- the path n and what is below it, exchanged for the path q
abbrev pub moved_path : Path → Path → Path → Path
moved_path n q p = q ++ drop (length n) p

abbrev pub moved_aim : Path → Path → Aim → Aim
moved_aim n q (FirstIn p) = FirstIn (moved_path n q p)
moved_aim n q (AfterElement p) = AfterElement (moved_path n q p)
moved_aim n q (Over ps) = Over (map (moved_path n q) ps)

-- ---- what each change gives
abbrev pub only : (ℕ → Bool) → List NumberedAim → List NumberedAim
only done cs = filter (λ c. done c.0) cs

module _ (changes : List Change) where
  abbrev pub targets_of : ℕ → List Path
  targets_of c = option_map_or targets (slice_get changes c) []

  abbrev pub payload_of : ℕ → List Element
  payload_of c = option_map_or payload (slice_get changes c) []

  abbrev pub is_free : ℕ → Bool
  is_free c = option_map_or (is_independent changes) (slice_get changes c) false

  abbrev pub independents : List NumberedAim
  independents = change_aims (filter (λ d. is_independent changes d.1) (enumerate_from 0 changes))

  abbrev pub payload_rewritten : (ℕ → List OriginTree) → List NumberedAim → ℕ → List OriginTree
  payload_rewritten given cs c = map (λ e. rewritten (origin (address e) (Some c)) given cs [] (subtree e)) (payload_of c)

-- `places` has the place of each keeping replacement's target in its payload, by the replacement's number
module _ (changes : List Change) (places : ℕ → Path) where
  abbrev pub dependents : ℕ → List NumberedAim
  dependents c =
      let target = unwrap_or (first_item (targets_of changes c)) [] in
      map (λ d. (d.0, moved_aim target (places c) (aim d.1))) (filter (λ d. has_owner changes c d.1) (enumerate_from 0 changes))

  -- with the changes nested in it down to this depth
  abbrev pub given_within : ℕ → ℕ → List OriginTree
  given_within zero c = payload_rewritten changes (λ _. []) [] c
  given_within (suc depth) c = payload_rewritten changes (given_within depth) (dependents c) c

  -- Changes are never nested deeper than there are changes.
  abbrev pub given : ℕ → List OriginTree
  given c = given_within (length changes) c

  abbrev pub Gives : (ℕ → List OriginTree) → Type 0
  Gives g = (c : ℕ) → g c ≡ payload_rewritten changes g (dependents c) c

  -- ---- the new tree
  abbrev pub tree_rewritten : List NumberedAim → Element → List OriginTree
  tree_rewritten cs root = rewritten_whole (origin (address root) None) given cs (subtree root)

  abbrev pub new_tree : Element → List OriginTree
  new_tree root = tree_rewritten (independents changes) root

  -- ---- the stage where these changes are done
  abbrev pub stage_tree : (ℕ → Bool) → Element → List OriginTree
  stage_tree done root = tree_rewritten (only done (independents changes)) root

  abbrev pub stage_payload : (ℕ → Bool) → ℕ → List OriginTree
  stage_payload done c = payload_rewritten changes given (only done (dependents c)) c

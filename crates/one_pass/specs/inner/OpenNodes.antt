-- Nodes that are made anew, each inside the one before it, as far as their children are made.
--     coming, sought_in             the aims that are still to come, and the sought marks, as they are seen from the node
--     child_made, to_come, past     what is made of a child by the aims inside it; what is still to be put; what comes after the child in the slot
--     child_built, nothing, to_build, past_built      how many nodes are built for them: a child is its own, what is given none
--     to_do, past_do                how many elements are left; without the child in the slot
--     kinds_to_come, kinds_past     what is still to be put, and what comes after that child, as trees of kinds alone
--     whole                         what a node becomes
--     wholes, path_to               what the first of several becomes around this tree; the path of the node inside them
--     found_above, built_above      the marks that all of them still find; how many nodes are built for them
--     InOrder                       the aims that are to come are ahead, in document order
--     IsSameNode                    a node stays
--     found_with, IsFurther         what is due is put, and its marks are found, or it is still to come
--     carried_to, FindsShared       where a sought mark goes, if the children from a slot on are shared from a place on; it is found there
--     IsShared                      the children before a slot are shared
--     PutsNext                      what the next aim's change gives is put
--     IsPassed, IsToOpen            the child in the slot is replaced, or a token; it is this node, and stays
--     IsLeft, IsEnded               fewer aims are to come; nothing is
--     IsNext                        the next aim is inside the child in the slot, which is this node and stays
--     IsNodeOpened, Enters          a node is opened with its aims; a child with those inside it
--     PutsMade                      a child that was made is put
--     FindsWholeNode                the marks that are to come are found
use Rattle.std.specs.Prelude.{◌≡◌, ◌<◌, ◌≤◌, ◌⊎◌, ℕ, suc, ◌+◌, ◌-◌, cond, nat_lt, List, [], ◌∷◌, ◌++◌, map, drop, length, get_or, slice_get, sum}
use Rattle.std.specs.Option.{option_map_or}
use Rattle.std.specs.List.{AllByRecursion}
use Rattle.green_tree.specs.Path.{Path}
use Rattle.green_tree.specs.Tree.{Tree, SyntaxTree, forest, node}
use Rattle.green_tree.specs.inner.TreeSize.{forest_size}
use Rattle.green_tree.specs.Green.{Branch, Leaf}
use Rattle.green_tree.specs.GreenElement.{element_tree, element_trees}
use Rattle.green_tree.specs.declared.green.GreenElement.{GreenElement}
use Rattle.green_tree.specs.declared.green.GreenElement.TheVariants.{Node, Token}
use Rattle.edit_change.specs.Rewriting.{rewritten}
use Rattle.edit_change.specs.declared.aimed.Aimed.{Aimed}
use Rattle.edit_change.specs.inner.Aimed.{FormedAim, of_formed}
use Rattle.edit_change.specs.inner.KindOnly.{kind_only}
use Rattle.one_pass.specs.declared.marked_element.GivenTable.{GivenTable}
use Rattle.one_pass.specs.declared.open_node.OpenNode.{OpenNode}
use Rattle.one_pass.specs.declared.mark.Walk.{Walk}
use Rattle.one_pass.specs.inner.Built.{nodes_built}
use Rattle.one_pass.specs.inner.Marked.{MarkTree, Marking, marked_from, mark_below, marks_of, marks_seen, leads, sought_below, wanted, marks_at, InPathOrder, FromChild, Finds}
use Rattle.one_pass.specs.inner.Pass.{AreMarkedIn, given_in, Puts, FindsChange}
use Rattle.one_pass.specs.inner.Sweep.{lowered, seen_at, left, Rising, From, IsBelow}

abbrev pub coming : OpenNode → List FormedAim
coming f = seen_at f.depth f.aims.now

abbrev pub sought_in : OpenNode → List Marking
sought_in f = marks_seen f.depth f.sought.now

-- ---- what is still to be put
module _ {L : Type 0} (label : List Marking → Path → ℕ → L) (given : ℕ → List (Tree L)) (f : OpenNode) where
  abbrev pub child_made : ℕ → List FormedAim → GreenElement → Tree L
  child_made i xs e = rewritten (label (sought_below i (marks_seen f.depth f.sought.now))) given (map of_formed xs) [] (element_tree e)

  abbrev pub to_come : List (Tree L)
  to_come = left given child_made f.passed (seen_at f.depth f.aims.now) f.slot (drop f.slot f.elements.now)

  abbrev pub past : List (Tree L)
  past = left given child_made f.passed (seen_at f.depth f.aims.now) (suc f.slot) (drop (suc f.slot) f.elements.now)

abbrev pub child_built : ℕ → List FormedAim → GreenElement → ℕ
child_built i xs e = nodes_built (map of_formed xs) (element_tree e)

abbrev pub nothing : ℕ → List ℕ
nothing c = []

abbrev pub to_build : OpenNode → ℕ
to_build f = sum (left nothing child_built f.passed (seen_at f.depth f.aims.now) f.slot (drop f.slot f.elements.now))

abbrev pub past_built : OpenNode → ℕ
past_built f = sum (left nothing child_built f.passed (seen_at f.depth f.aims.now) (suc f.slot) (drop (suc f.slot) f.elements.now))

abbrev pub to_do : OpenNode → ℕ
to_do f = forest_size (forest (element_trees (drop f.slot f.elements.now)))

abbrev pub past_do : OpenNode → ℕ
past_do f = forest_size (forest (element_trees (drop (suc f.slot) f.elements.now)))

abbrev pub kinds_to_come : GivenTable → OpenNode → List SyntaxTree
kinds_to_come table f = to_come (λ ms. kind_only) (given_in table) f

abbrev pub kinds_past : GivenTable → OpenNode → List SyntaxTree
kinds_past table f = past (λ ms. kind_only) (given_in table) f

-- ---- open nodes
abbrev pub whole : GivenTable → OpenNode → SyntaxTree
whole table f = node f.kind.0 (element_trees f.out.items ++ kinds_to_come table f)

abbrev pub wholes : GivenTable → List OpenNode → SyntaxTree → SyntaxTree
wholes table [] t = t
wholes table (f ∷ fs) t = node f.kind.0 (element_trees f.out.items ++ wholes table fs t ∷ kinds_past table f)

abbrev pub path_to : Path → List OpenNode → Path
path_to path [] = path
path_to path (f ∷ fs) = path_to (path ++ length f.out.items ∷ []) fs

abbrev pub found_above : (ℕ → List MarkTree) → Path → List OpenNode → List Marking
found_above trees path [] = []
found_above trees path (f ∷ fs) =
    found_above trees (path ++ length f.out.items ∷ []) fs ++ map (mark_below path) (marked_from (suc (length f.out.items)) (past wanted trees f))

abbrev pub built_above : List OpenNode → ℕ
built_above [] = 0
built_above (f ∷ fs) = suc (past_built f) + built_above fs

-- ---- what calls do to them
-- all that is to come is still ahead
pub record InOrder (f : OpenNode) : Type 0 where
  pub within : f.slot ≤ length f.elements.now
  pub rising : Rising (seen_at f.depth f.aims.now)
  pub begins : From (f.slot + f.slot) (seen_at f.depth f.aims.now)
  pub ascending : InPathOrder (marks_seen f.depth f.sought.now)
  pub from : FromChild f.slot (marks_seen f.depth f.sought.now)

pub record IsSameNode (f g : OpenNode) : Type 0 where
  pub kind : g.kind ≡ f.kind
  pub elements : g.elements ≡ f.elements
  pub depth : g.depth ≡ f.depth

-- the marks found so far, and those that are to come
abbrev pub found_with : (ℕ → List MarkTree) → Walk → Path → OpenNode → List Marking
found_with trees w path f =
    marks_of w.found.items ++ map (mark_below path) (marked_from (length f.out.items) (to_come wanted trees f))

module _ (table : GivenTable) (before after : Walk) (f g : OpenNode) where
  pub record IsFurther : Type 0 where
    pub same : IsSameNode f g
    pub path : after.path.items ≡ before.path.items
    pub count : after.builds ≡ before.builds
    pub order : InOrder g
    pub trees : element_trees g.out.items ++ kinds_to_come table g ≡ element_trees f.out.items ++ kinds_to_come table f
    pub marks : (trees : ℕ → List MarkTree) → AreMarkedIn table trees → found_with trees after before.path.items g ≡ found_with trees before before.path.items f
    pub built : to_build g ≡ to_build f
    pub size : to_do g ≤ to_do f

abbrev pub carried_to : ℕ → ℕ → List GreenElement → ℕ → Path → List Marking
carried_to place first es n [] = []
carried_to place first es n (i ∷ p) =
    cond (nat_lt i first) [] (option_map_or (λ e. cond (leads (element_tree e) p) ((n, (place + (i - first)) ∷ p) ∷ []) []) (slice_get es i) [])

abbrev pub FindsShared : Walk → Walk → OpenNode → ℕ → Marking → Type 0
FindsShared before after f first m =
    Finds before.found after.found (map (mark_below before.path.items) (carried_to (length f.out.items) first f.elements.now m.0 m.1))

module _ (until : ℕ) (before after : Walk) (f g : OpenNode) where
  pub record IsShared : Type 0 where
    pub same : IsSameNode f g
    pub aims : g.aims ≡ f.aims
    pub passed : g.passed ≡ f.passed
    pub slot : g.slot ≡ until
    pub ascending : InPathOrder (marks_seen g.depth g.sought.now)
    pub from : FromChild until (marks_seen g.depth g.sought.now)
    pub path : after.path.items ≡ before.path.items
    pub count : after.builds ≡ before.builds
    pub trees : (given : ℕ → List SyntaxTree) → element_trees g.out.items ++ to_come (λ ms. kind_only) given g ≡ element_trees f.out.items ++ to_come (λ ms. kind_only) given f
    pub marks : (trees : ℕ → List MarkTree) → found_with trees after before.path.items g ≡ found_with trees before before.path.items f
    pub built : to_build g ≡ to_build f
    pub size : to_do g ≤ to_do f

module _ (table : GivenTable) (before after : Walk) (f g : OpenNode) where
  pub record PutsNext : Type 0 where
    pub aim : Aimed
    pub aims : f.aims.now ≡ aim ∷ g.aims.now
    pub same : IsSameNode f g
    pub sought : g.sought ≡ f.sought
    pub slot : g.slot ≡ f.slot
    pub passed : g.passed ≡ f.passed
    pub path : after.path.items ≡ before.path.items
    pub count : after.builds ≡ before.builds
    pub trees : Puts f.out g.out (given_in table aim.change)
    pub marks : FindsChange before f.out after table aim.change

-- one that is replaced, or a token
abbrev pub IsPassed : OpenNode → Type 0
IsPassed f = (f.slot < f.passed) ⊎ ((l : Leaf) × ((d : GreenElement) → get_or f.elements.now f.slot d ≡ Token l))

pub record IsToOpen (f : OpenNode) (b : Branch) : Type 0 where
  pub stays : f.passed ≤ f.slot
  pub element : (d : GreenElement) → get_or f.elements.now f.slot d ≡ Node b

abbrev pub IsLeft : OpenNode → OpenNode → Type 0
IsLeft f g = length g.aims.now < length f.aims.now

pub record IsEnded (g : OpenNode) : Type 0 where
  pub slot : length g.elements.now ≤ g.slot
  pub aims : length g.aims.now ≡ 0

pub record IsNext (f : OpenNode) (b : Branch) : Type 0 where
  pub order : InOrder f
  pub within : f.slot < length f.elements.now
  pub element : (d : GreenElement) → get_or f.elements.now f.slot d ≡ Node b
  pub stays : f.passed ≤ f.slot
  pub some : 0 < length f.aims.now
  pub inside : (d : Aimed) → IsBelow f.slot (lowered f.depth (get_or f.aims.now 0 d))

-- with these aims, where these marks are sought
pub record IsNodeOpened (b : Branch) (way : ℕ) (xs : List Aimed) (sought : List Marking) (before after : Walk) (f : OpenNode) : Type 0 where
  pub kind : f.kind.0 ≡ b.kind
  pub elements : element_trees f.elements.now ≡ b.children
  pub depth : f.depth ≡ way
  pub aims : f.aims.now ≡ xs
  pub ascending : InPathOrder (marks_seen way f.sought.now)
  pub from : FromChild 0 (marks_seen way f.sought.now)
  pub sought_are : (i : ℕ) → sought_below i (marks_seen way f.sought.now) ≡ sought_below i sought
  pub out : f.out.items ≡ []
  pub slot : f.slot ≡ 0
  pub passed : f.passed ≡ 0
  pub found : marks_of after.found.items ≡ marks_of before.found.items ++ map (λ n. (n, after.path.items)) (marks_at sought [])

-- the aims of a node are those inside the child that is opened, and those behind it, and so are the marks
pub record Enters (b : Branch) (before after : Walk) (f g inner : OpenNode) : Type 0 where
  pub same : IsSameNode f g
  pub slot : g.slot ≡ f.slot
  pub passed : g.passed ≡ f.passed
  pub out : g.out ≡ f.out
  pub parts : f.aims.now ≡ inner.aims.now ++ g.aims.now
  pub inside : AllByRecursion (IsBelow f.slot) (seen_at f.depth inner.aims.now)
  pub behind : From (suc f.slot + suc f.slot) (seen_at f.depth g.aims.now)
  pub ascending : InPathOrder (marks_seen f.depth g.sought.now)
  pub from : FromChild (suc f.slot) (marks_seen f.depth g.sought.now)
  pub sought_are : (i : ℕ) → suc f.slot ≤ i → sought_below i (marks_seen f.depth g.sought.now) ≡ sought_below i (marks_seen f.depth f.sought.now)
  pub opened : IsNodeOpened b (f.depth + 1) inner.aims.now (sought_below f.slot (marks_seen f.depth f.sought.now)) before after inner

pub record PutsMade (made : GreenElement) (before after : Walk) (f g : OpenNode) : Type 0 where
  pub same : IsSameNode f g
  pub sought : g.sought ≡ f.sought
  pub aims : g.aims ≡ f.aims
  pub passed : g.passed ≡ f.passed
  pub slot : g.slot ≡ suc f.slot
  pub out : g.out.items ≡ f.out.items ++ made ∷ []
  pub path : (p : Path) (n : ℕ) → before.path.items ≡ p ++ n ∷ [] → after.path.items ≡ p
  pub found : after.found.items ≡ before.found.items
  pub count : after.builds ≡ before.builds

abbrev pub FindsWholeNode : GivenTable → Walk → Walk → OpenNode → Type 0
FindsWholeNode table before after f =
    (trees : ℕ → List MarkTree) → AreMarkedIn table trees → marks_of after.found.items ≡ found_with trees before before.path.items f

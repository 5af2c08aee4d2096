-- The nodes of the old element to which steps came, as code has them.
--     held_in, held_at               what the node with a number holds; what that at a path holds
--     links, below_at, below_in      by slot, the numbers of the nodes below one; that in a slot
--     leads, number_at               the number to which a path leads from one; from the top
--     SameHeld                       all nodes hold what they held
--     IsEntered                      a node has the number of one below it in a slot: that which it had there, or else the next one
--     HasRoom, NodeHasRoom           a node has room for one change more there; the node with a number has
--     PutsAt                         one node holds one change more
--     IsVisited                      there is a top, each number below a node is that of a node, and of one path
use Rattle.std.specs.Prelude.{◌≡◌, ◌≢◌, ◌≤◌, ◌<◌, ◌+◌, ◌++◌, ◌∷◌, [], ℕ, ⊤, cond, nat_eq, unwrap_or, List, length, slice_get, slice_index_or, Option, Some, option_and_then}
use Rattle.std.specs.List.{fold}
use Rattle.std.specs.Option.{option_map_or, option_flatten}
use Rattle.green_tree.specs.Path.{Path}
use Rattle.edit_steps.specs.declared.stage.among.Among.{Among}
use Rattle.edit_steps.specs.declared.stage.among.Among.TheVariants.{Gap, Slots}
use Rattle.edit_steps.specs.declared.stage.visited.VisitedNodes.{VisitedNodes}
use Rattle.edit_steps.specs.inner.Widths.{index_of, count_of, Held, nothing_put, VisitedNode, held_of, IsPut}

-- ---- what a node holds
abbrev pub held_in : VisitedNodes → ℕ → Held
held_in v n = option_map_or held_of (slice_get v.nodes.items n) nothing_put

-- ---- ways
abbrev pub below_at : List (Option ℕ) → ℕ → Option ℕ
below_at ls i = option_flatten (slice_get ls i)

abbrev below_of : VisitedNode → ℕ → Option ℕ
below_of x i = below_at x.below i

abbrev pub links : VisitedNodes → ℕ → List (Option ℕ)
links v n = option_map_or (λ x. x.below) (slice_get v.nodes.items n) []

abbrev pub below_in : VisitedNodes → ℕ → ℕ → Option ℕ
below_in v n i = below_at (links v n) i

abbrev pub leads : (ℕ → ℕ → Option ℕ) → Option ℕ → Path → Option ℕ
leads below o p = fold (λ m i. option_and_then (λ n. below n i) m) o p

abbrev pub number_at : VisitedNodes → Path → Option ℕ
number_at v p = leads (below_in v) (Some 0) p

abbrev pub held_at : VisitedNodes → Path → Held
held_at v p = option_map_or (held_in v) (number_at v p) nothing_put

abbrev pub SameHeld : VisitedNodes → VisitedNodes → Type 0
SameHeld before after = (p : Path) → held_at after p ≡ held_at before p

pub record IsVisited (v : VisitedNodes) : Type 0 where
  pub top : 0 < length v.nodes.items
  pub within : (n i m : ℕ) → below_in v n i ≡ Some m → m < length v.nodes.items
  pub paths : (path_of : ℕ → Path) × (path_of 0 ≡ []) × ((n i m : ℕ) → below_in v n i ≡ Some m → path_of m ≡ path_of n ++ i ∷ [])

pub record IsEntered (before after : VisitedNode) (slot next n : ℕ) : Type 0 where
  pub number : n ≡ unwrap_or (below_of before slot) next
  pub held : held_of after ≡ held_of before
  pub below : (i : ℕ) → below_of after i ≡ cond (nat_eq slot i) (Some n) (below_of before i)

-- ---- room, and one change more
abbrev GapRoom : VisitedNode → Among → Type 0
GapRoom x (Gap g) = g < length x.gaps
GapRoom x (Slots i n) = ⊤

pub record HasRoom (x : VisitedNode) (at : Among) : Type 0 where
  pub first : index_of at < length x.widths
  pub all : index_of at + count_of at ≤ length x.widths
  pub gap : GapRoom x at

pub record NodeHasRoom (v : VisitedNodes) (n : ℕ) (at : Among) : Type 0 where
  pub within : n < length v.nodes.items
  pub room : (x : VisitedNode) → x ≡ slice_index_or v.nodes.items n x → HasRoom x at

pub record PutsAt (before after : VisitedNodes) (p : Path) (at : Among) (w : ℕ) : Type 0 where
  pub here : IsPut (held_at before p) (held_at after p) at w
  pub others : (q : Path) → q ≢ p → held_at after q ≡ held_at before q

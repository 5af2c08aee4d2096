-- The nearest mapped node on the way up.
--     PassesTo                       on the way up from a node, none has a copy before this one
--     PassesAll                      none has a copy
--     IsNearest                      the copy of the nearest mapped one of a node and those above it, and how many slots lead to that one
use Rattle.std.specs.Prelude.{◌≡◌, ℕ, ◌≤◌, ◌++◌, length, drop, Option, None, option_map}
use Rattle.cst_core.specs.Path.{up_to}
use Rattle.cst_core.specs.Element.{Element}
use Rattle.edit_map.specs.Mapping.{Mapping}
use Rattle.edit_map.specs.Following.{step_among}

pub record PassesTo (m : Mapping) (node above : Element) : Type 0 where
  pub number : above.number ≡ node.number
  pub short : length above.path ≤ length node.path
  pub same : (e : Element) → e.number ≡ node.number → step_among m e (up_to node.path) ≡ step_among m e (up_to above.path)

abbrev pub PassesAll : Mapping → Element → Type 0
PassesAll m node = (e : Element) → e.number ≡ node.number → step_among m e (up_to node.path) ≡ None

abbrev pub IsNearest : Mapping → Element → Option (Element × ℕ) → Type 0
IsNearest m node nearest =
    (e : Element) → e.number ≡ node.number → step_among m e (up_to node.path) ≡ option_map (λ f. record f.0 { path = f.0.path ++ drop f.1 e.path }) nearest

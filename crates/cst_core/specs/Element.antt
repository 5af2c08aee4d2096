-- Element values of trees that have a number.
--     Address, address              A number and a path; those of an element value.
--     Element                       What a contract sees of an element value: a tree's number, the whole tree, and a path in it.
--     subtree                       The tree at the value's path.
--     same_address, same_element    Two addresses have equal numbers and paths; two values have equal addresses.
--     IsElement, IsNode, IsToken    The path leads to something; to a node; to a token.
--     IsChild                       The second value is a child of the first: it has the same tree number, is no root, and has the path of
--                                   the first as its parent path.
--     element_at, below             The value of the same tree at a path; at a path counted from the element.
--     root_of, parent_of            The root of the value's tree; the parent, which a root lacks.
--     NumbersTell                   Among some element values, equal tree numbers mean equal trees. This holds if every number comes from
--                                   one source.
use Rattle.std.specs.Prelude.{◌≡◌, ◌≢◌, ℕ, AllPairs, Bool, true, false, ◌&&◌, List, [], ◌∷◌, ◌++◌, unwrap_or, nat_eq, Option, Some, None, option_map, IsSome}
use Rattle.green_tree.specs.Path.{Path, same_path, parent_path}
use Rattle.green_tree.specs.Tree.{Token, SyntaxTree, at, is_token}

pub record Address : Type 0 where
  pub number : ℕ
  pub path : Path

pub record Element : Type 0 where
  pub number : ℕ
  pub root : SyntaxTree
  pub path : Path

abbrev pub address : Element → Address
address e = record { number = e.number; path = e.path }

abbrev pub same_address : Address → Address → Bool
same_address a b = nat_eq a.number b.number && same_path a.path b.path

abbrev pub same_element : Element → Element → Bool
same_element e f = same_address (address e) (address f)

abbrev pub IsElement : Element → Type 0
IsElement e = IsSome (at e.root e.path)

abbrev pub IsNode : Element → Type 0
IsNode e = option_map is_token (at e.root e.path) ≡ Some false

abbrev pub IsToken : Element → Type 0
IsToken e = option_map is_token (at e.root e.path) ≡ Some true

-- an empty token where the path leads nowhere, which is true of no element value
abbrev pub subtree : Element → SyntaxTree
subtree e = unwrap_or (at e.root e.path) (Token 0 [])

abbrev pub element_at : Element → Path → Element
element_at e p = record e { path = p }

abbrev pub below : Element → Path → Element
below e p = record e { path = e.path ++ p }

abbrev pub root_of : Element → Element
root_of e = record e { path = [] }

abbrev parent_at : Element → Path → Option Element
parent_at e [] = None
parent_at e (i ∷ p) = Some (element_at e (parent_path (i ∷ p)))

abbrev pub parent_of : Element → Option Element
parent_of e = parent_at e e.path

abbrev pub IsChild : Element → Element → Type 0
IsChild parent e = (e.number ≡ parent.number) × (e.path ≢ []) × (parent_path e.path ≡ parent.path)

abbrev pub NumbersTell : List Element → Type 0
NumbersTell es = AllPairs (λ e f. e.number ≡ f.number → e.root ≡ f.root) es

-- How mappings are made.
--     SameCopies                    Two mappings have the same copy of each address.
--     IsMadeOf                      A mapping is made of a list of pairs, the newest first: the newest pair of each address wins, and there
--                                   are no other pairs. Their order is left open.
--     IsPair, ArePairs              A pair of two nodes that rises; each pair of a mapping is one.
--     AreDistinct                   No address has two pairs.
--     IsMapping                     `ArePairs` and `AreDistinct`: this holds for every mapping in code.
--     Builder                       The parent of the copies, and the pairs so far, the newest first.
--     with_pairs                    A builder with more pairs, the newest of them last.
--     IsPairUnder, ArePairsUnder    What a builder asks of a pair: the copy is a child of its parent, and the two are a pair; each pair of
--                                   a builder meets this.
--     RefusesPair                   Why a pair is refused: `NotAChild`, else `NotYounger`, else `OtherShape`. `Memory` is returned only for
--                                   a pair that meets all three.
--     RefusesFirst                  Why a list of pairs is refused: for the first pair that is not accepted. `Memory` is returned only if
--                                   that pair and all before it would be accepted.
--     RefusesChildren               Why inputs and outputs are refused: `MoreInputs`, if there are more inputs than outputs; else as
--                                   `RefusesFirst` says. `Memory` is returned only if there are not more inputs.
use Rattle.std.specs.Prelude.{◌≡◌, ◌≢◌, ◌<◌, ◌≤◌, List, ◌∷◌, ◌++◌, length, reverse, All, AllPairs, Contains}
use Rattle.std.specs.List.{zip}
use Rattle.cst_core.specs.Tree.{SameShape}
use Rattle.cst_core.specs.Element.{Address, Element, address, IsChild, IsNode, subtree}
use Rattle.edit_map.specs.Mapping.{Mapping, copy, Rises}
use Rattle.edit_map.specs.declared.map_error.MapError.{MapError}
use Rattle.edit_map.specs.declared.map_error.MapError.TheVariants.{NotAChild, NotYounger, OtherShape, MoreInputs, Memory}

abbrev pub SameCopies : Mapping → Mapping → Type 0
SameCopies m n = (x : Address) → copy m x ≡ copy n x

pub record IsMadeOf (pairs m : Mapping) : Type 0 where
  pub copies : SameCopies m pairs
  pub among : All (Contains pairs) m

pub record IsPair (pair : Element × Element) : Type 0 where
  pub rises : Rises pair
  pub input : IsNode pair.0
  pub output : IsNode pair.1

abbrev pub ArePairs : Mapping → Type 0
ArePairs m = All IsPair m

abbrev pub AreDistinct : Mapping → Type 0
AreDistinct m = AllPairs (λ p q. address p.0 ≢ address q.0) m

pub record IsMapping (m : Mapping) : Type 0 where
  pub pairs : ArePairs m
  pub distinct : AreDistinct m

pub record Builder : Type 0 where
  pub parent : Element
  pub pairs : Mapping

abbrev pub with_pairs : Builder → List (Element × Element) → Builder
with_pairs b pairs = record b { pairs = reverse pairs ++ b.pairs }

pub record IsPairUnder (parent : Element) (pair : Element × Element) : Type 0 where
  pub child : IsChild parent pair.1
  pub is_pair : IsPair pair

abbrev pub ArePairsUnder : Builder → Type 0
ArePairsUnder b = All (IsPairUnder b.parent) b.pairs

-- The tests of a pair take no memory, so want of it is answered of a pair that passes them alone.
abbrev pub RefusesPair : Element → Element × Element → MapError → Type 0
RefusesPair parent pair NotAChild = IsChild parent pair.1 → ⊥
RefusesPair parent pair NotYounger = IsChild parent pair.1 × (pair.1.number ≤ pair.0.number)
RefusesPair parent pair OtherShape = IsChild parent pair.1 × (pair.0.number < pair.1.number) × (SameShape (subtree pair.0) (subtree pair.1) → ⊥)
RefusesPair parent pair MoreInputs = ⊥
RefusesPair parent pair Memory = IsPairUnder parent pair

pub record RefusesFirst (parent : Element) (pairs : List (Element × Element)) (e : MapError) : Type 0 where
  pub before : List (Element × Element)
  pub pair : Element × Element
  pub after : List (Element × Element)
  pub is : pairs ≡ before ++ pair ∷ after
  pub taken : All (IsPairUnder parent) before
  pub refused : RefusesPair parent pair e

abbrev refuses_one : Element → List Element → List Element → MapError → Type 0
refuses_one parent inputs outputs e = (length inputs ≤ length outputs) × RefusesFirst parent (zip inputs outputs) e

abbrev pub RefusesChildren : Element → List Element → List Element → MapError → Type 0
RefusesChildren parent inputs outputs MoreInputs = length outputs < length inputs
RefusesChildren parent inputs outputs Memory = length inputs ≤ length outputs
RefusesChildren parent inputs outputs reason = refuses_one parent inputs outputs reason

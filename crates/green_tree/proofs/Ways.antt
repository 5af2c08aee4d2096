-- The way down a path, and back.
--     rebuilt-push                   the last of the nodes on the way is the first that is made anew
--     all_pushed                     each of these nodes has its slot, and the last one
--     way_none                       nothing is above the top itself
--     IsOnWay, on_way                where the path goes on, the next child is there, and one node more is above it
--     at_top                         what is spliced in the node itself
--     way_ends                       what is spliced in the node at the end is spliced at the end of the path
use Rattle.std.proofs.Common.{◌≡◌, ℕ, ◌+◌, ◌<◌, List, [], ◌∷◌, ◌++◌, length, take, drop, get_or, Some, refl, ap, sym, subst, ◌∙◌, arith, add-one, drop-cons}
use Rattle.std.specs.Prelude.{slice_get, option_and_then}
use Rattle.std.specs.Option.{option_map_or}
use Rattle.std.specs.List.{AllByRecursion}
use Rattle.std.proofs.lemmas.List.{length-append, length-map, drop_all}
use Rattle.green_tree.specs.Path.{Path}
use Rattle.green_tree.specs.Tree.{SyntaxTree, node, forest, trees, at}
use Rattle.green_tree.specs.Green.{Branch, branch_tree}
use Rattle.green_tree.specs.Green as green
use Rattle.green_tree.specs.GreenElement.{element_tree, element_trees}
use Rattle.green_tree.specs.declared.green.GreenElement.{GreenElement}
use Rattle.green_tree.specs.declared.green.splices.WayNode.{WayNode}
use Rattle.green_tree.specs.inner.Splices.{CanSplice, spliced, updated_at}
use Rattle.green_tree.specs.inner.Ways.{LeadsToNode, exchanged, rebuilt, HasSlot, IsWay}
use Rattle.green_tree.proofs.Lookup.{trees-forest}
use Rattle.green_tree.proofs.Slots.{slice_get-child}
use Rattle.green_tree.proofs.SpliceSteps.{below}

pub rebuilt-push : (ns : List WayNode) (n : WayNode) (t : SyntaxTree) → rebuilt (ns ++ n ∷ []) t ≡ rebuilt ns (exchanged n.node.now n.slot t)
rebuilt-push [] n t = refl
rebuilt-push (m ∷ ns) n t = ap (exchanged m.node.now m.slot) (rebuilt-push ns n t)

pub all_pushed : (ns : List WayNode) (n : WayNode) → AllByRecursion HasSlot (ns ++ n ∷ []) → AllByRecursion HasSlot ns × HasSlot n
all_pushed [] n all = (tt, all.0)
all_pushed (m ∷ ns) n all = let rest = all_pushed ns n all.1 in ((all.0, rest.0), rest.1)

all_with : (ns : List WayNode) (n : WayNode) → AllByRecursion HasSlot ns → HasSlot n → AllByRecursion HasSlot (ns ++ n ∷ [])
all_with [] n all has = (has, tt)
all_with (m ∷ ns) n all has = (all.0, all_with ns n all.1 has)

pub way_none : (t : SyntaxTree) (p : Path) → IsWay t p [] t
way_none t p = record { there = refl; up = λ h. refl; inside = tt }

module _ (t : SyntaxTree) (p : Path) (to : LeadsToNode t p) (above : List WayNode) where
  can_splice : (u : SyntaxTree) → IsWay t p above u → CanSplice u (drop (length above) p) 0 0
  can_splice u way = record { kind = to.kind; below = to.below; there = sym way.there ∙ to.there; within = omega arith }

  module _ (b : Branch) (way : IsWay t p above (branch_tree b)) (long : length above < length p) (es : List GreenElement) (same : element_trees es ≡ b.children) (i : ℕ) (slot : i ≡ get_or p (length above) 0) where
    abbrev d : ℕ
    d = length above

    on : drop d p ≡ i ∷ drop (d + 1) p
    on = drop-cons p d 0 long ∙ ap (λ m. get_or p d 0 ∷ drop m p) (sym (add-one d)) ∙ ap (λ j. j ∷ drop (d + 1) p) (sym slot)

    pub record IsOnWay : Type 0 where
      pub inside : i < length es
      pub can : (e : GreenElement) → e ≡ get_or es i e → CanSplice (element_tree e) (drop (d + 1) p) 0 0
      pub next : (e : GreenElement) → e ≡ get_or es i e → (n : WayNode) → n.node.now ≡ b → n.slot ≡ i → IsWay t p (above ++ n ∷ []) (element_tree e)

    pub on_way : IsOnWay
    on_way =
        let there = below b es same 0 0 (drop d p) i (drop (d + 1) p) on (can_splice (branch_tree b) way) in
        let inside : i < length es = there.inside in
        record {
          inside = inside;
          can = there.can;
          next = λ e here n is at_slot.
              let found : slice_get (trees (forest b.children)) i ≡ Some (element_tree e) = slice_get-child b es i e same inside here in
              let more : length (above ++ n ∷ []) ≡ d + 1 = length-append above (n ∷ []) in
              let step : (h : SyntaxTree → SyntaxTree) → updated_at (branch_tree b) (drop d p) h ≡ exchanged b i (updated_at (element_tree e) (drop (d + 1) p) h) =
              λ h. ap (λ q. updated_at (branch_tree b) q h) on
              ∙ ap (λ o. option_map_or (λ x. spliced i 1 (updated_at x (drop (d + 1) p) h ∷ []) (branch_tree b)) o (branch_tree b)) found
              ∙ ap (λ us. node b.kind (take i us ++ (updated_at (element_tree e) (drop (d + 1) p) h ∷ []) ++ drop (i + 1) us)) (trees-forest b.children) in
              record {
                there = way.there ∙ ap (at (branch_tree b)) on ∙ ap (λ o. option_and_then (λ c. at c (drop (d + 1) p)) o) found ∙ ap (λ m. at (element_tree e) (drop m p)) (sym more);
                up = λ h.
                    way.up h
                    ∙ ap (rebuilt above) (step h ∙ ap (λ c. exchanged c i (updated_at (element_tree e) (drop (d + 1) p) h)) (sym is) ∙ ap (λ j. exchanged n.node.now j (updated_at (element_tree e) (drop (d + 1) p) h)) (sym at_slot))
                    ∙ sym (rebuilt-push above n (updated_at (element_tree e) (drop (d + 1) p) h))
                    ∙ ap (λ m. rebuilt (above ++ n ∷ []) (updated_at (element_tree e) (drop m p) h)) (sym more);
                inside = all_with above n way.inside (subst (λ c. n.slot < length c.children) (sym is) (subst (λ j. j < length b.children) (sym at_slot) (omega (arith, inside, ap length same, length-map es element_tree))));
              };
        }

module _ (t : SyntaxTree) (p : Path) (above : List WayNode) (b : Branch) (way : IsWay t p above (branch_tree b)) (all : length above ≡ length p) where
  ended : drop (length above) p ≡ []
  ended = drop_all (length above) p (omega (arith, all))

  pub room_at_end : (first count : ℕ) → CanSplice t p first count → CanSplice (branch_tree b) [] first count
  room_at_end first count can = record { kind = can.kind; below = can.below; there = ap (at (branch_tree b)) (sym ended) ∙ sym way.there ∙ can.there; within = can.within }

  pub way_ends : (h : SyntaxTree → SyntaxTree) → rebuilt above (h (branch_tree b)) ≡ updated_at t p h
  way_ends h = ap (λ q. rebuilt above (updated_at (branch_tree b) q h)) (sym ended) ∙ sym (way.up h)

-- what is spliced in the node itself
pub at_top : (b : Branch) (first count : ℕ) (ts : List SyntaxTree) → branch_tree (green.spliced b first (first + count) ts) ≡ spliced first count ts (branch_tree b)
at_top b first count ts = ap (λ us. node b.kind (take first us ++ ts ++ drop (first + count) us)) (sym (trees-forest b.children))

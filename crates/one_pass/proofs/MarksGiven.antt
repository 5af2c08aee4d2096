-- The trees and the marks of what changes give, one element after another.
use Rattle.std.specs.Prelude.{◌≡◌, ℕ, ◌<◌, ◌+◌, List, [], ◌∷◌, ◌++◌, map, length, drop, get_or, slice_get, Option, Some, None, Vec, refl}
use Rattle.std.specs.Option.{option_map_or}
use Rattle.std.proofs.Common.{ap, ap₂, sym, arith, ◌∙◌}
use Rattle.std.specs.Global.{Global}
use Rattle.std.proofs.Math.ListN.{get_or-map}
use Rattle.std.proofs.lemmas.Option.{slice_get-get_or, slice_get_within}
use mathlib.Core.List.{map-map}
use mathlib.Core.Path.{fun_ext}
use Rattle.std.proofs.lemmas.List.{append_assoc, length-append, length-map, map-append, at_drop_more}
use Rattle.green_tree.specs.Path.{Path}
use Rattle.green_tree.specs.Tree.{SyntaxTree, Token, Node}
use Rattle.green_tree.specs.GreenElement.{element_tree, element_trees}
use Rattle.green_tree.specs.declared.green.GreenElement.{GreenElement}
use Rattle.one_pass.specs.inner.Marked.{MarkTree, Marking, marked, mark_below}
use Rattle.one_pass.specs.inner.Pass.{marks_there, AreMarked, AreMarkedIn, entry_in, given_in, topped}
use Rattle.one_pass.specs.declared.marked_element.MarkedElement.{MarkedElement}
use Rattle.one_pass.specs.declared.marked_element.GivenTable.{GivenTable}
use Rattle.one_pass.proofs.Sweeping.{at-any}
use Rattle.one_pass.proofs.Marks.{shown, shown-append, shown-one, marks-node, marks-token}

-- ---- trees
pub pushed : {X : Type 0} (before after given rest all : List X) → after ≡ before ++ given → before ++ (given ++ rest) ≡ all → after ++ rest ≡ all
pushed before after given rest all a h = ap (λ xs. xs ++ rest) a ∙ append_assoc before given rest ∙ h

-- so many elements more
pub width : (old new : List GreenElement) (given : List SyntaxTree) (ts : List MarkTree) → element_trees new ≡ element_trees old ++ given → length ts ≡ length given → length new ≡ length old + length ts
width old new given ts e l =
    sym (length-map new element_tree) ∙ ap length e ∙ length-append (element_trees old) given ∙ ap₂ (λ a b. a + b) (length-map old element_tree) (sym l)

pub as_many_in : (top : Option ℕ) (es : List MarkedElement) (ts : List MarkTree) → AreMarked top es ts → length ts ≡ length es
as_many_in top es ts h = sym (length-map ts marked) ∙ ap length h ∙ length-map es (marks_there top)

module _ (table : GivenTable) (trees : ℕ → List MarkTree) (are : AreMarkedIn table trees) where
  pub as_many : (c : ℕ) → length (trees c) ≡ length (given_in table c)
  as_many c =
      as_many_in table.top (entry_in table c) (trees c) (are c) ∙ sym (length-map (entry_in table c) (λ e. element_tree e.element))

pub sole : {X : Type 0} (xs : List X) (x : X) → length xs ≡ 1 → x ≡ get_or xs 0 x → xs ≡ x ∷ []
sole [] x l is = absurd (omega (arith, l))
sole (y ∷ []) x l is = ap (λ z. z ∷ []) (sym is)
sole (y ∷ z ∷ xs) x l is = absurd (omega (arith, l))

-- what stands at a number
pub entry-at : (table : GivenTable) (n : ℕ) (v : Vec MarkedElement Global) → n < length table.entries.items → v ≡ get_or table.entries.items n v → entry_in table n ≡ v.items
entry-at table n v l is = ap (λ o. option_map_or (λ (w : Vec MarkedElement Global). w.items) o []) (slice_get-get_or table.entries.items n v l ∙ ap (λ x. Some x) (sym is))

pub entry-within : (table : GivenTable) (n : ℕ) → length (entry_in table n) ≡ 1 → n < length table.entries.items
entry-within table n one = go (slice_get table.entries.items n) refl one
  where
    go : (o : Option (Vec MarkedElement Global)) → slice_get table.entries.items n ≡ o → length (option_map_or (λ w. w.items) o []) ≡ 1 → n < length table.entries.items
    go None is h = absurd (omega (arith, h))
    go (Some v) is h = slice_get_within table.entries.items n v is

-- the marks of one of several given elements
pub marked-at : (top : Option ℕ) (es : List MarkedElement) (ts : List MarkTree) (i : ℕ) (e : MarkedElement) (d : MarkTree) → AreMarked top es ts → i < length es → e ≡ get_or es i e → (i < length ts) × (marked (get_or ts i d) ≡ marks_there top e)
marked-at top es ts i e d h l is =
    let inside : i < length ts = omega (arith, l, as_many_in top es ts h) in
    let long : length (map marked ts) ≡ length ts = length-map ts marked in
    let own : marked (get_or ts i d) ≡ get_or (map marked ts) i (marks_there top e) = sym (get_or-map marked ts i d) ∙ at-any (map marked ts) i (marked d) (marks_there top e) (omega (arith, inside, long)) in
    (inside, own ∙ ap (λ xs. get_or xs i (marks_there top e)) h ∙ get_or-map (marks_there top) es i e ∙ ap (marks_there top) (sym is))

-- one given element, and the tree with its marks
pub only-one : (top : Option ℕ) (es : List MarkedElement) (e : MarkedElement) (ts : List MarkTree) → es ≡ e ∷ [] → AreMarked top es ts → (t : MarkTree) × (ts ≡ t ∷ []) × (marked t ≡ marks_there top e)
only-one top es e [] is h = let l = as_many_in top es [] h in absurd (omega (arith, l, ap length is))
only-one top es e (t ∷ u ∷ ts) is h = let l = as_many_in top es (t ∷ u ∷ ts) h in absurd (omega (arith, l, ap length is))
only-one top es e (t ∷ []) is h =
    let same : marked t ∷ [] ≡ marks_there top e ∷ [] = h ∙ ap (map (marks_there top)) is in
    (t, refl, cc)

-- what gives nothing has no marks
pub none-there : (top : Option ℕ) (es : List MarkedElement) (ts : List MarkTree) → es ≡ [] → AreMarked top es ts → ts ≡ []
none-there top es [] none h = refl
none-there top es (t ∷ ts) none h = let l = as_many_in top es (t ∷ ts) h in absurd (omega (arith, l, ap length none))

-- ---- marks
module _ (path : Path) where
  -- those of a top, and then the others
  pub both : (before middle after own others : List Marking) → middle ≡ before ++ map (mark_below path) own → after ≡ middle ++ map (mark_below path) others → after ≡ before ++ map (mark_below path) (own ++ others)
  both before middle after own others m a =
      a ∙ ap (λ xs. xs ++ map (mark_below path) others) m ∙ append_assoc before (map (mark_below path) own) (map (mark_below path) others) ∙ ap (λ xs. before ++ xs) (sym (map-append (mark_below path) own others))

  -- one tree of several
  pub element_more : (before after all : List Marking) (n next i : ℕ) (ts : List MarkTree) (d : MarkTree) (ms : List Marking) → i < length ts → marked (get_or ts i d) ≡ ms → after ≡ before ++ map (mark_below (path ++ n ∷ [])) ms → next ≡ n + 1 → before ++ shown path n (drop i ts) ≡ all → after ++ shown path next (drop (i + 1) ts) ≡ all
  element_more before after all n next i ts d ms l m a x h =
      let t = get_or ts i d in
      let rest = drop (i + 1) ts in
      let own : map (mark_below (path ++ n ∷ [])) ms ≡ shown path n (t ∷ []) = ap (map (mark_below (path ++ n ∷ []))) (sym m) ∙ sym (shown-one path n t) in
      ap₂ (λ xs k. xs ++ shown path k rest) (a ∙ ap (λ xs. before ++ xs) own) x ∙ append_assoc before (shown path n (t ∷ [])) (shown path (n + 1) rest) ∙ ap (λ xs. before ++ xs) (sym (shown-append path n (t ∷ []) rest)) ∙ sym (at_drop_more (λ us. before ++ shown path n us) ts i d l) ∙ h

-- ---- one mark more at each top
pub marked-topped : (n : ℕ) (t : MarkTree) → marked (topped n t) ≡ (n, []) ∷ marked t
marked-topped n (Token l s) = marks-token (n ∷ l) s ∙ ap (λ ms. (n, []) ∷ ms) (sym (marks-token l s))
marked-topped n (Node l f) = marks-node (n ∷ l) f ∙ ap (λ ms. (n, []) ∷ ms) (sym (marks-node l f))

topped-in : (n : ℕ) (es : List MarkedElement) (ts : List MarkTree) → AreMarked None es ts → AreMarked (Some n) es (map (topped n) ts)
topped-in n es ts h =
    map-map marked (topped n) ts ∙ ap (λ f. map f ts) (fun_ext (marked-topped n)) ∙ sym (map-map (λ (ms : List Marking). (n, []) ∷ ms) marked ts) ∙ ap (map (λ (ms : List Marking). (n, []) ∷ ms)) h ∙ map-map (λ (ms : List Marking). (n, []) ∷ ms) (marks_there None) es

pub all-topped : (table after : GivenTable) (n : ℕ) (trees : ℕ → List MarkTree) → table.top ≡ None → after.top ≡ Some n → after.entries.items ≡ table.entries.items → AreMarkedIn table trees → AreMarkedIn after (λ c. map (topped n) (trees c))
all-topped table after n trees none some same are c =
    topped-in n (entry_in table c) (trees c) (are c ∙ ap (λ top. map (marks_there top) (entry_in table c)) none) ∙ ap₂ (λ top es. map (marks_there top) (option_map_or (λ w. w.items) (slice_get es c) [])) (sym some) (sym same)

-- Turns of an open node.
--     shown-on                      marks of trees that are put, and then of the rest
--     item-at                       an item that is there
--     one-found                     the marks of one item more of a list
--     same-both, same-sought, same-coming      a node stays; its marks do; its aims do
use Rattle.std.specs.Prelude.{◌≡◌, ℕ, zero, suc, ◌+◌, ◌<◌, List, [], ◌∷◌, ◌++◌, map, flat_map, drop, length, get_or, refl}
use Rattle.std.proofs.Common.{ap, ap₂, sym, ◌∙◌, arith}
use Rattle.std.proofs.lemmas.List.{append_assoc, map-append, at_drop_more}
use Rattle.green_tree.specs.Path.{Path}
use Rattle.one_pass.specs.declared.open_node.OpenNode.{OpenNode}
use Rattle.one_pass.specs.declared.mark.Walk.{Walk}
use Rattle.one_pass.specs.inner.Marked.{MarkTree, Marking, mark_below, marks_seen}
use Rattle.one_pass.specs.inner.Sweep.{seen_at}
use Rattle.one_pass.specs.inner.OpenNodes.{coming, sought_in, IsSameNode, IsShared}
use Rattle.one_pass.proofs.Marks.{shown, shown-append}
use Rattle.one_pass.proofs.MarksGiven.{pushed}

pub shown-on : (path : Path) (before after : List Marking) (start next : ℕ) (s later all : List MarkTree) → after ≡ before ++ shown path start s → next ≡ start + length s → all ≡ s ++ later → after ++ shown path next later ≡ before ++ shown path start all
shown-on path before after start next s later all a x is =
    ap₂ (λ ms k. ms ++ shown path k later) a x ∙ append_assoc before (shown path start s) (shown path (start + length s) later) ∙ ap (λ ms. before ++ ms) (sym (shown-append path start s later)) ∙ ap (λ us. before ++ shown path start us) (sym is)

pub item-at : {X : Type 0} (xs : List X) (i : ℕ) → i < length xs → (x : X) × (x ≡ get_or xs i x)
item-at [] i l = absurd (omega (arith, l))
item-at (x ∷ xs) zero l = (x, refl)
item-at (x ∷ xs) (suc i) l = item-at xs i (omega (arith, l))

pub same-both : (f g h : OpenNode) → IsSameNode f g → IsSameNode g h → IsSameNode f h
same-both f g h x y = record { kind = y.kind ∙ x.kind; elements = y.elements ∙ x.elements; depth = y.depth ∙ x.depth }

pub same-sought : (f g : OpenNode) → IsSameNode f g → g.sought ≡ f.sought → sought_in g ≡ sought_in f
same-sought f g same sought = ap₂ (λ d xs. marks_seen d xs.now) same.depth sought

pub same-coming : (i : ℕ) (start after : Walk) (f g : OpenNode) → IsShared i start after f g → coming g ≡ coming f
same-coming i start after f g x = ap₂ (λ d xs. seen_at d xs.now) x.same.depth x.aims

-- ---- the marks of one item more of a list
pub one-found : {X : Type 0} (g : X → List Marking) (path p : Path) (xs : List X) (i : ℕ) (d : X) (before after all : List Marking) → i < length xs → p ≡ path → after ≡ before ++ map (mark_below p) (g (get_or xs i d)) → before ++ map (mark_below path) (flat_map g (drop i xs)) ≡ all → after ++ map (mark_below path) (flat_map g (drop (i + 1) xs)) ≡ all
one-found g path p xs i d before after all l is found h =
    let rest = flat_map g (drop (i + 1) xs) in
    let own = g (get_or xs i d) in
    pushed before after (map (mark_below path) own) (map (mark_below path) rest) all (found ∙ ap (λ q. before ++ map (mark_below q) own) is) (ap (λ ms. before ++ ms) (sym (map-append (mark_below path) own rest)) ∙ sym (at_drop_more (λ ys. before ++ map (mark_below path) (flat_map g ys)) xs i d l) ∙ h)

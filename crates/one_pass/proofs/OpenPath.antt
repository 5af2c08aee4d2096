-- Nodes that are open above one another: one more of them, at the end.
--     wholes-push, path-push, found-push, built-push    what they become, where they are, and what they still find and build
--     work_above, work-push         how many steps all of them still take, at most
--     AreWaiting, waiting-push, waiting-pop    each of them has come to a child
--     none-left                     where there are none
--     marks-inside, count-opened, count-closed    what is still to be found and built, where a child is opened, and where it is made
use Rattle.std.specs.Prelude.{◌≡◌, ℕ, suc, ◌+◌, ◌*◌, ◌<◌, List, [], ◌∷◌, ◌++◌, map, length, refl}
use Rattle.std.proofs.Common.{ap, ap₂, sym, ◌∙◌, arith}
use Rattle.std.proofs.lemmas.List.{append_assoc, append-nil}
use Rattle.green_tree.specs.Path.{Path}
use Rattle.green_tree.specs.Tree.{SyntaxTree, node}
use Rattle.green_tree.specs.GreenElement.{element_trees}
use Rattle.one_pass.specs.inner.Marked.{MarkTree, Marking, marked, mark_below, wanted, InPathOrder, FromChild}
use Rattle.one_pass.specs.inner.OpenNodes.{sought_in, kinds_past, past, past_built, past_do, wholes, path_to, found_above, built_above}
use Rattle.one_pass.specs.inner.Sweep.{seen_at, Rising, From}
use Rattle.one_pass.specs.declared.marked_element.GivenTable.{GivenTable}
use Rattle.one_pass.specs.declared.open_node.OpenNode.{OpenNode}
use Rattle.green_tree.specs.Count.{counted}
use Rattle.one_pass.proofs.Counted.{count-on}
use Rattle.one_pass.proofs.Marks.{shown, shown-append, shown-one}

pub wholes-push : (table : GivenTable) (fs : List OpenNode) (f : OpenNode) (t : SyntaxTree) → wholes table (fs ++ f ∷ []) t ≡ wholes table fs (node f.kind.0 (element_trees f.out.items ++ t ∷ kinds_past table f))
wholes-push table [] f t = refl
wholes-push table (g ∷ fs) f t =
    ap (λ u. node g.kind.0 (element_trees g.out.items ++ u ∷ kinds_past table g)) (wholes-push table fs f t)

pub path-push : (path : Path) (fs : List OpenNode) (f : OpenNode) → path_to path (fs ++ f ∷ []) ≡ path_to path fs ++ length f.out.items ∷ []
path-push path [] f = refl
path-push path (g ∷ fs) f = path-push (path ++ length g.out.items ∷ []) fs f

pub found-push : (trees : ℕ → List MarkTree) (path : Path) (fs : List OpenNode) (f : OpenNode) → found_above trees path (fs ++ f ∷ []) ≡ shown (path_to path fs) (suc (length f.out.items)) (past wanted trees f) ++ found_above trees path fs
found-push trees path [] f = sym (append-nil _)
found-push trees path (g ∷ fs) f =
    let own = shown path (suc (length g.out.items)) (past wanted trees g) in
    let below = path ++ length g.out.items ∷ [] in
    ap (λ ms. ms ++ own) (found-push trees below fs f) ∙ append_assoc (shown (path_to below fs) (suc (length f.out.items)) (past wanted trees f)) (found_above trees below fs) own

pub built-push : (fs : List OpenNode) (f : OpenNode) → built_above (fs ++ f ∷ []) ≡ suc (past_built f) + built_above fs
built-push [] f = refl
built-push (g ∷ fs) f = omega (arith, built-push fs f)

-- ---- how much there is to do
abbrev pub work_above : List OpenNode → ℕ
work_above [] = 0
work_above (f ∷ fs) = 2 * past_do f + 1 + work_above fs

pub work-push : (fs : List OpenNode) (f : OpenNode) → work_above (fs ++ f ∷ []) ≡ 2 * past_do f + 1 + work_above fs
work-push [] f = refl
work-push (g ∷ fs) f = omega (arith, work-push fs f)

-- ---- each has come to a child, and its aims and marks are behind that
pub record IsWaiting (f : OpenNode) : Type 0 where
  pub within : f.slot < length f.elements.now
  pub rising : Rising (seen_at f.depth f.aims.now)
  pub behind : From (suc f.slot + suc f.slot) (seen_at f.depth f.aims.now)
  pub ascending : InPathOrder (sought_in f)
  pub from : FromChild (suc f.slot) (sought_in f)

abbrev pub AreWaiting : List OpenNode → Type 0
AreWaiting [] = Unit {0}
AreWaiting (f ∷ fs) = IsWaiting f × AreWaiting fs

pub waiting-push : (fs : List OpenNode) (f : OpenNode) → AreWaiting fs → IsWaiting f → AreWaiting (fs ++ f ∷ [])
waiting-push [] f h l = (l, tt)
waiting-push (g ∷ fs) f h l = (h.0, waiting-push fs f h.1 l)

pub waiting-pop : (fs : List OpenNode) (f : OpenNode) → AreWaiting (fs ++ f ∷ []) → AreWaiting fs × IsWaiting f
waiting-pop [] f h = (tt, h.0)
waiting-pop (g ∷ fs) f h =
    let rest = waiting-pop fs f h.1 in
    ((h.0, rest.0), rest.1)

-- ---- marks
shown-cons : (path : Path) (i : ℕ) (t : MarkTree) (ts : List MarkTree) → shown path i (t ∷ ts) ≡ map (mark_below (path ++ i ∷ [])) (marked t) ++ shown path (suc i) ts
shown-cons path i t ts =
    let next : i + 1 ≡ suc i = omega arith in
    shown-append path i (t ∷ []) ts ∙ ap₂ (λ ms k. ms ++ shown path k ts) (shown-one path i t) next

module _ (path inner : Path) (found more : List Marking) (n : ℕ) (t : MarkTree) (below higher all : List Marking) (come after : List MarkTree) where
  pub marks-inside : inner ≡ path ++ n ∷ [] → more ++ below ≡ found ++ map (mark_below inner) (marked t) → come ≡ t ∷ after → found ++ shown path n come ++ higher ≡ all → more ++ below ++ (shown path (suc n) after ++ higher) ≡ all
  marks-inside is opened split h =
      let own = map (mark_below (path ++ n ∷ [])) (marked t) in
      let later = shown path (suc n) after in
      let here : more ++ below ≡ found ++ own = opened ∙ ap (λ p. found ++ map (mark_below p) (marked t)) is in
      let grouped : found ++ own ++ (later ++ higher) ≡ found ++ (own ++ later) ++ higher = simp append_assoc in
      ap (λ ms. ms ++ (later ++ higher)) here ∙ grouped ∙ ap (λ ms. found ++ ms ++ higher) (sym (ap (shown path n) split ∙ shown-cons path n t after)) ∙ h

-- ---- counts
pub count-opened : (here inner own rest above more : ℕ) → here ≡ own + rest → suc inner ≡ own → more ≡ suc rest + above → inner + (1 + more) ≡ here + (1 + above)
count-opened here inner own rest above more a b m = omega (arith, a, b, m)

pub count-closed : (start now next here rest above more own : ℕ) → next ≡ counted now 1 → here ≡ 0 → more ≡ suc rest + above → ((further : ℕ) → counted now (here + (1 + more) + further) ≡ counted start (own + further)) → (further : ℕ) → counted next (rest + (1 + above) + further) ≡ counted start (own + further)
count-closed start now next here rest above more own n none m h further =
    let whole : 1 + (rest + (1 + above) + further) ≡ here + (1 + more) + further = omega (arith, none, m) in
    count-on now next 1 n (rest + (1 + above) + further) ∙ ap (counted now) whole ∙ h further

pub count-done : (start now next here more own : ℕ) → next ≡ counted now 1 → here ≡ 0 → more ≡ 0 → ((further : ℕ) → counted now (here + (1 + more) + further) ≡ counted start (own + further)) → next ≡ counted start own
count-done start now next here more own n none empty h =
    let one : 1 ≡ here + (1 + more) + 0 = omega (arith, none, empty) in
    let all : own + 0 ≡ own = omega arith in
    n ∙ ap (counted now) one ∙ h 0 ∙ ap (counted start) all

pub none-left : (fs : List OpenNode) → length fs ≡ 0 → fs ≡ []
none-left [] h = refl
none-left (f ∷ fs) h = absurd (omega (arith, h))

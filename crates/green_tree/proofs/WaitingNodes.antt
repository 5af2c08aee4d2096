-- The child nodes that wait to be looked at, put on a stack from the last to the first.
use Rattle.std.proofs.Common.{◌≡◌, ℕ, suc, ◌+◌, ◌<◌, ◌≤◌, true, false, List, [], ◌∷◌, ◌++◌, length, get_or, take, drop, Option, Some, None, refl, ap, sym, ◌∙◌, subst, arith, add-one, append_assoc, drop-cons}
use Rattle.std.specs.Prelude.{option_map, sum_by, find}
use Rattle.std.specs.Option.{option_or}
use Rattle.std.proofs.lemmas.List.{append-nil, take_all, length-map}
use Rattle.std.proofs.lemmas.List.Sums.{sum_by-append}
use Rattle.green_tree.specs.Path.{Path}
use Rattle.green_tree.specs.Tree.{SyntaxTree, forest, trees}
use Rattle.green_tree.specs.Order.{start}
use Rattle.green_tree.specs.Green.{Branch, branch_tree}
use Rattle.green_tree.specs.GreenElement.{element_tree, element_trees}
use Rattle.green_tree.specs.inner.FirstNode.{starts_as, first_from}
use Rattle.green_tree.specs.inner.Stacked.{AreStacked}
use Rattle.green_tree.specs.inner.TreeSize.{size, forest_size}
use Rattle.green_tree.specs.inner.Waiting.{StartsWithin, depth_of, first_in, waiting_size, LeavesWaiting}
use Rattle.green_tree.specs.declared.green.GreenElement.{GreenElement}
use Rattle.green_tree.specs.declared.first_node.Waiting.{Waiting}
use Rattle.green_tree.proofs.FirstNode.{rest, first-here, first-below, find-rest, first-nowhere}
use Rattle.green_tree.proofs.FoundTokens.{IsChildAt}
use Rattle.green_tree.proofs.Lookup.{trees-forest}
use Rattle.green_tree.proofs.Options.{or_none, map_or, or_or, map_map, map_each}
use Rattle.green_tree.proofs.Stacks.{stack_low, stack_append, stack_up_to, stack_rest, stack_last, take_fewer, take_front, take_length}

first_in-append : (kind offset : ℕ) (path : Path) (ws vs : List Waiting) → first_in kind offset path (ws ++ vs) ≡ option_or (first_in kind offset path vs) (first_in kind offset path ws)
first_in-append kind offset path [] vs = sym (or_none (first_in kind offset path vs))
first_in-append kind offset path (w ∷ ws) vs =
    let own = option_map (λ p. take w.depth path ++ w.slot ∷ p) (first_from kind w.begin offset (branch_tree w.node.now)) in
    ap (λ o. option_or o own) (first_in-append kind offset path ws vs) ∙ or_or (first_in kind offset path vs) (first_in kind offset path ws) own

first_in-same : (kind offset low high : ℕ) (p q : Path) (ws : List Waiting) → AreStacked depth_of StartsWithin low high ws → take high p ≡ take high q → first_in kind offset p ws ≡ first_in kind offset q ws
first_in-same kind offset low high p q [] is same = refl
first_in-same kind offset low high p q (w ∷ ws) is same =
    let below = stack_low depth_of StartsWithin w.depth high ws is.1.1 in
    let front : take w.depth p ≡ take w.depth q = take_fewer w.depth high p below ∙ ap (take w.depth) same ∙ sym (take_fewer w.depth high q below) in
    ap (λ r. option_or (first_in kind offset p ws) (option_map (λ s. r ++ w.slot ∷ s) (first_from kind w.begin offset (branch_tree w.node.now)))) front
    ∙ ap (λ o. option_or o (option_map (λ s. take w.depth q ++ w.slot ∷ s) (first_from kind w.begin offset (branch_tree w.node.now)))) (first_in-same kind offset w.depth high p q ws is.1.1 same)

-- ---- the children of a node, from a slot on
abbrev from_slot : ℕ → ℕ → ℕ → Branch → ℕ → Option Path
from_slot kind begin offset b slot = find (starts_as kind begin offset (branch_tree b)) (rest (branch_tree b) slot)

pub record AreWaiting (b : Branch) (es : List GreenElement) (begin offset depth slot : ℕ) (old new : List Waiting) : Type 0 where
  pub more : List Waiting
  pub added : new ≡ old ++ more
  pub stacked : AreStacked depth_of StartsWithin depth depth more
  pub first : (kind : ℕ) (path : Path) → length path ≡ depth → first_in kind offset path more ≡ option_map (λ p. path ++ p) (from_slot kind begin offset b slot)
  pub smaller : sum_by waiting_size more ≤ forest_size (forest (element_trees (drop slot es)))

pub waiting_none : (b : Branch) (es : List GreenElement) (begin offset depth slot : ℕ) (old : List Waiting) → element_trees es ≡ b.children → length es ≤ slot → AreWaiting b es begin offset depth slot old old
waiting_none b es begin offset depth slot old same past =
    let long : length (trees (forest b.children)) ≤ slot = rw (trees-forest, ← same, length-map) past in
    record {
      more = [];
      added = sym (append-nil old);
      stacked = omega arith;
      first = λ kind path deep. ap (option_map (λ p. path ++ p)) (sym (first-nowhere kind begin offset b.kind (forest b.children) slot long));
      smaller = omega arith;
    }

-- the first one from a slot on is in the child there, or else it is after that
slot_first : (kind begin offset : ℕ) (b : Branch) (i at : ℕ) (c : SyntaxTree) → IsChildAt b i c → at ≡ begin + start (branch_tree b) (i ∷ []) → from_slot kind begin offset b i ≡ option_or (option_map (λ p. i ∷ p) (first_from kind at offset c)) (from_slot kind begin offset b (i + 1))
slot_first kind begin offset b i at c child is =
    find-rest kind begin offset b.kind (forest b.children) i c child.there
    ∙ ap (λ n. option_or (option_map (λ p. i ∷ p) (first_from kind n offset c)) (from_slot kind begin offset b (suc i))) (sym is)
    ∙ ap (λ n. option_or (option_map (λ p. i ∷ p) (first_from kind at offset c)) (from_slot kind begin offset b n)) (sym (add-one i))

size_from : (es : List GreenElement) (i : ℕ) (e : GreenElement) → i < length es → e ≡ get_or es i e → forest_size (forest (element_trees (drop i es))) ≡ size (element_tree e) + forest_size (forest (element_trees (drop (i + 1) es)))
size_from es i e h is =
    let next : drop i es ≡ e ∷ drop (i + 1) es = rw (add-one, is) (drop-cons es i e h) in
    ap (λ xs. forest_size (forest (element_trees xs))) next

pub waiting_past : {b : Branch} {es : List GreenElement} {begin offset depth slot : ℕ} {old now : List Waiting} (i at : ℕ) (e : GreenElement) → i < length es → e ≡ get_or es i e → slot ≡ i + 1 → IsChildAt b i (element_tree e) → at ≡ begin + start (branch_tree b) (i ∷ []) → ((kind : ℕ) → first_from kind at offset (element_tree e) ≡ None)
    → AreWaiting b es begin offset depth slot old now → AreWaiting b es begin offset depth i old now
waiting_past {b} {es} {begin} {offset} {depth} {slot} i at e h is up child begins none so_far = record {
  more = so_far.more;
  added = so_far.added;
  stacked = so_far.stacked;
  first = λ kind path deep.
      so_far.first kind path deep
      ∙ ap (λ n. option_map (λ p. path ++ p) (from_slot kind begin offset b n)) up
      ∙ ap (option_map (λ p. path ++ p)) (sym (slot_first kind begin offset b i at (element_tree e) child begins ∙ ap (λ o. option_or (option_map (λ p. i ∷ p) o) (from_slot kind begin offset b (i + 1))) (none kind)));
  smaller = omega (arith, so_far.smaller, size_from es i e h is, ap (λ n. forest_size (forest (element_trees (drop n es)))) up);
}

pub waiting_one : {b : Branch} {es : List GreenElement} {begin offset slot : ℕ} {old now new : List Waiting} (entry : Waiting) (e : GreenElement) → entry.slot < length es → e ≡ get_or es entry.slot e → slot ≡ entry.slot + 1 → IsChildAt b entry.slot (element_tree e) → element_tree e ≡ branch_tree entry.node.now → entry.begin ≡ begin + start (branch_tree b) (entry.slot ∷ []) → StartsWithin entry
    → AreWaiting b es begin offset entry.depth slot old now → new ≡ now ++ entry ∷ [] → AreWaiting b es begin offset entry.depth entry.slot old new
waiting_one {b} {es} {begin} {offset} {slot} {old} {now} {new} entry e h is up child same begins fits so_far push =
    let i = entry.slot in
    let long : size (element_tree e) ≡ size (branch_tree entry.node.now) = ap size same in
    record {
      more = so_far.more ++ entry ∷ [];
      added = push ∙ ap (λ ws. ws ++ entry ∷ []) so_far.added ∙ append_assoc old so_far.more (entry ∷ []);
      stacked = stack_append depth_of StartsWithin entry.depth entry.depth entry.depth so_far.more (entry ∷ []) so_far.stacked (omega arith, (fits, omega arith));
      first = λ kind path deep.
          let all : take entry.depth path ≡ path = take_all entry.depth path (omega arith) in
          let own = first_from kind entry.begin offset (branch_tree entry.node.now) in
          first_in-append kind offset path so_far.more (entry ∷ [])
          ∙ ap (λ o. option_or (option_map (λ p. take entry.depth path ++ i ∷ p) own) o) (so_far.first kind path deep ∙ ap (λ n. option_map (λ p. path ++ p) (from_slot kind begin offset b n)) up)
          ∙ ap (λ q. option_or (option_map (λ p. q ++ i ∷ p) own) (option_map (λ p. path ++ p) (from_slot kind begin offset b (i + 1)))) all
          ∙ ap (λ o. option_or o (option_map (λ p. path ++ p) (from_slot kind begin offset b (i + 1)))) (sym (map_map (λ p. path ++ p) (λ p. i ∷ p) (λ p. path ++ i ∷ p) own (λ p. refl)))
          ∙ sym (map_or (λ p. path ++ p) (option_map (λ p. i ∷ p) own) (from_slot kind begin offset b (i + 1)))
          ∙ ap (λ t. option_map (λ p. path ++ p) (option_or (option_map (λ p. i ∷ p) (first_from kind entry.begin offset t)) (from_slot kind begin offset b (i + 1)))) (sym same)
          ∙ ap (option_map (λ p. path ++ p)) (sym (slot_first kind begin offset b i entry.begin (element_tree e) child begins));
      smaller = omega (arith, so_far.smaller, long, size_from es i e h is, sum_by-append waiting_size so_far.more (entry ∷ []), ap (λ n. forest_size (forest (element_trees (drop n es)))) up);
    }

pub waiting_all : {b : Branch} {es : List GreenElement} {begin offset depth slot : ℕ} {old new : List Waiting} → element_trees es ≡ b.children → slot ≡ 0 → AreWaiting b es begin offset depth slot old new → LeavesWaiting (branch_tree b) begin offset depth old new
waiting_all {b} {es} {begin} {offset} {depth} {slot} same none so_far =
    let whole : forest_size (forest (element_trees (drop slot es))) ≡ forest_size (forest b.children) = ap (λ n. forest_size (forest (element_trees (drop n es)))) none ∙ ap (λ ts. forest_size (forest ts)) same in
    record {
      more = so_far.more;
      added = so_far.added;
      stacked = so_far.stacked;
      first = λ kind path deep other. so_far.first kind path deep ∙ ap (λ n. option_map (λ p. path ++ p) (from_slot kind begin offset b n)) none ∙ ap (option_map (λ p. path ++ p)) (sym (first-below kind begin offset b.kind (forest b.children) other));
      smaller = omega (arith, so_far.smaller, whole);
    }

-- ---- the search
-- the first node is what the stack leads to
pub record IsSought (kind offset : ℕ) (t : SyntaxTree) (path : Path) (stack : List Waiting) : Type 0 where
  pub stacked : AreStacked depth_of StartsWithin 0 (length path) stack
  pub first : first_from kind 0 offset t ≡ first_in kind offset path stack

-- the way to the last entry of the stack, which stands first in the text
pub record IsFirst (kind offset : ℕ) (t : SyntaxTree) (rest : List Waiting) (last : Waiting) (way : Path) : Type 0 where
  pub within : StartsWithin last
  pub stacked : AreStacked depth_of StartsWithin 0 (length way) rest
  pub first : first_from kind 0 offset t ≡ option_or (option_map (λ p. way ++ p) (first_from kind last.begin offset (branch_tree last.node.now))) (first_in kind offset way rest)

pub popped_first : {kind offset : ℕ} {t : SyntaxTree} {path front way : Path} {stack rest : List Waiting} {last : Waiting} → IsSought kind offset t path stack → stack ≡ rest ++ last ∷ [] → front ≡ take last.depth path → way ≡ front ++ last.slot ∷ [] → IsFirst kind offset t rest last way
popped_first {kind} {offset} {t} {path} {front} {way} {stack} {rest} {last} sought pop cut push =
    let stacked = subst (AreStacked depth_of StartsWithin 0 (length path)) pop sought.stacked in
    let top = stack_last depth_of StartsWithin 0 (length path) rest last stacked in
    let before = stack_rest depth_of StartsWithin 0 (length path) rest last stacked in
    let is : way ≡ take last.depth path ++ last.slot ∷ [] = push ∙ ap (λ p. p ++ last.slot ∷ []) cut in
    let deep = take_length last.depth path way last.slot top.1 is in
    let same = take_front last.depth path way last.slot top.1 is in
    let own = first_from kind last.begin offset (branch_tree last.node.now) in
    let on : (p : Path) → take last.depth path ++ (last.slot ∷ p) ≡ way ++ p = λ p. sym (ap (λ q. q ++ p) is ∙ append_assoc (take last.depth path) (last.slot ∷ []) p) in
    record {
      within = top.0;
      stacked = stack_up_to depth_of StartsWithin 0 last.depth (length way) rest before (omega arith);
      first =
          sought.first ∙ ap (first_in kind offset path) pop
          ∙ first_in-append kind offset path rest (last ∷ [])
          ∙ ap (λ o. option_or (option_map (λ p. take last.depth path ++ last.slot ∷ p) own) o) (first_in-same kind offset 0 last.depth path way rest before same)
          ∙ ap (λ o. option_or o (first_in kind offset way rest)) (map_each (λ p. take last.depth path ++ last.slot ∷ p) (λ p. way ++ p) own on);
    }

pub search_found : {kind offset : ℕ} {t : SyntaxTree} {rest : List Waiting} {last : Waiting} {way : Path} → IsFirst kind offset t rest last way → starts_as kind last.begin offset (branch_tree last.node.now) [] ≡ true → Some way ≡ first_from kind 0 offset t
search_found {kind} {offset} {t} {rest} {last} {way} first here = sym (
    first.first
    ∙ ap (λ o. option_or (option_map (λ p. way ++ p) o) (first_in kind offset way rest)) (first-here kind last.begin offset last.node.now.kind (forest last.node.now.children) here)
    ∙ ap Some (append-nil way))

pub search_on : {kind offset depth : ℕ} {t : SyntaxTree} {rest new : List Waiting} {last : Waiting} {way : Path} → IsFirst kind offset t rest last way → starts_as kind last.begin offset (branch_tree last.node.now) [] ≡ false → depth ≡ length way → LeavesWaiting (branch_tree last.node.now) last.begin offset depth rest new → IsSought kind offset t way new
search_on {kind} {offset} {depth} {t} {rest} {new} {last} {way} first other deep leaves =
    let more = subst (λ d. AreStacked depth_of StartsWithin d d leaves.more) deep leaves.stacked in
    record {
      stacked = subst (AreStacked depth_of StartsWithin 0 (length way)) (sym leaves.added) (stack_append depth_of StartsWithin 0 (length way) (length way) rest leaves.more first.stacked more);
      first =
          first.first
          ∙ ap (λ o. option_or o (first_in kind offset way rest)) (sym (leaves.first kind way (sym deep) other))
          ∙ sym (first_in-append kind offset way rest leaves.more)
          ∙ ap (first_in kind offset way) (sym leaves.added);
    }

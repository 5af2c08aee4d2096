-- A text that is written from a stack of nodes, each with the child that comes next.
use Rattle.std.proofs.Common.{◌≡◌, ℕ, ◌+◌, ◌<◌, ◌≤◌, List, [], ◌∷◌, ◌++◌, length, get_or, drop, Option, Some, None, refl, ap, sym, ◌∙◌, subst, arith, add-one, append_assoc, append-nil}
use Rattle.std.proofs.Output.{has_written_append, writes_in_calls_nil}
use Rattle.std.specs.Fmt.{HasWritten, IsPlainFormatter}
use Rattle.std.specs.Prelude.{sum_by, option_to_list}
use Rattle.std.specs.declared.fmt.Formatter.{Formatter}
use Rattle.std.proofs.lemmas.List.{length-map, drop_all}
use Rattle.std.proofs.lemmas.List.Sums.{sum_by-append}
use Rattle.green_tree.specs.Tree.{text, forest}
use Rattle.green_tree.specs.Green.{Branch, branch_tree, texts}
use Rattle.green_tree.specs.GreenElement.{element_tree, element_trees}
use Rattle.green_tree.specs.inner.TreeSize.{size, forest_size}
use Rattle.green_tree.specs.declared.green.GreenElement.{GreenElement}
use Rattle.green_tree.specs.declared.green.GreenElement.TheVariants.{Node, Token}
use Rattle.green_tree.specs.declared.text.OpenNode.{OpenNode}
use Rattle.green_tree.proofs.Covering.{drop_at}
use Rattle.green_tree.proofs.Lookup.{trees-forest}
use Rattle.green_tree.proofs.Slots.{slice_get-child}

-- ---- what is left of a text
module _ {W : Type 0} (took : W → List ℕ → W → Type 0) where
  -- g is f after writing a text, which with what is left is all
  pub record IsWrittenTo (all left : List ℕ) (f g : Formatter W) : Type 0 where
    pub done : List ℕ
    pub wrote : HasWritten took f done g
    pub rest : done ++ left ≡ all

  pub nothing_written : (all : List ℕ) (f : Formatter W) → IsPlainFormatter f → IsWrittenTo all all f f
  nothing_written all f plain = record {
    done = [];
    wrote = record { wrote = writes_in_calls_nil took f.writer; plain = plain };
    rest = refl;
  }

  pub more_written : {all left : List ℕ} {f g h : Formatter W} (piece next : List ℕ) → IsWrittenTo all left f g → left ≡ piece ++ next → HasWritten took g piece h → IsWrittenTo all next f h
  more_written {all} {left} {f} {g} {h} piece next so_far splits more = record {
    done = so_far.done ++ piece;
    wrote = has_written_append took _ _ _ _ _ so_far.wrote more;
    rest = append_assoc so_far.done piece next ∙ ap (λ t. so_far.done ++ t) (sym splits) ∙ so_far.rest;
  }

-- ---- of nodes that are open
abbrev pub left_of : OpenNode → List ℕ
left_of o = texts (drop o.next o.node.now.children)

abbrev pub left_above : List OpenNode → List ℕ
left_above [] = []
left_above (o ∷ os) = left_above os ++ left_of o

abbrev pub left_in : Option OpenNode → List OpenNode → List ℕ
left_in None os = []
left_in (Some o) os = left_of o ++ left_above os

left_last : (os : List OpenNode) (o : OpenNode) → left_above (os ++ o ∷ []) ≡ left_of o ++ left_above os
left_last [] o = sym (append-nil (left_of o))
left_last (x ∷ os) o = ap (λ t. t ++ left_of x) (left_last os o) ∙ append_assoc (left_of o) (left_above os) (left_of x)

-- each turn of the walk makes this less
abbrev pub open_weight : OpenNode → ℕ
open_weight o = forest_size (forest (drop o.next o.node.now.children)) + forest_size (forest (drop o.next o.node.now.children)) + 1

abbrev pub weight_in : Option OpenNode → List OpenNode → ℕ
weight_in None os = 0
weight_in (Some o) os = open_weight o + sum_by open_weight os

-- the child that comes next
pub record IsNextChild (o : OpenNode) (e : GreenElement) : Type 0 where
  pub text : left_of o ≡ text (element_tree e) ++ texts (drop (o.next + 1) o.node.now.children)
  pub size : forest_size (forest (drop o.next o.node.now.children)) ≡ size (element_tree e) + forest_size (forest (drop (o.next + 1) o.node.now.children))

pub next_child : (o : OpenNode) (es : List GreenElement) (e : GreenElement) → element_trees es ≡ o.node.now.children → o.next < length es → e ≡ get_or es o.next e → IsNextChild o e
next_child o es e same h is =
    let there = slice_get-child o.node.now es o.next e same h is in
    let next : drop o.next o.node.now.children ≡ element_tree e ∷ drop (o.next + 1) o.node.now.children = rw add-one (drop_at o.node.now.children o.next (element_tree e) (rw trees-forest at there)) in
    record { text = ap texts next; size = ap (λ ts. forest_size (forest ts)) next }

-- after the last child nothing is left
pub none_next : (o : OpenNode) (es : List GreenElement) → element_trees es ≡ o.node.now.children → length es ≤ o.next → drop o.next o.node.now.children ≡ []
none_next o es same h = rw (← same) (drop_all o.next (element_trees es) (rw length-map h))

-- ---- the turns
left_popped : (o : OpenNode) (above rest : List OpenNode) (next : Option OpenNode) → drop o.next o.node.now.children ≡ [] → above ≡ rest ++ option_to_list next → (next ≡ None → length above ≡ 0) → left_in (Some o) above ≡ left_in next rest
left_popped o [] rest None none pop ends = ap (λ ts. texts ts ++ []) none
left_popped o (x ∷ above) rest None none pop ends = absurd (omega (arith, ends refl))
left_popped o above rest (Some p) none pop ends = ap (λ ts. texts ts ++ left_above above) none ∙ ap left_above pop ∙ left_last rest p

left_entered : (o : OpenNode) (above new : List OpenNode) (e : GreenElement) (below : Branch) (parent : OpenNode) → IsNextChild o e → element_tree e ≡ branch_tree below → left_of parent ≡ texts (drop (o.next + 1) o.node.now.children) → new ≡ above ++ parent ∷ [] → left_in (Some o) above ≡ texts below.children ++ left_above new
left_entered o above new e below parent next is rest push =
    ap (λ t. t ++ left_above above) (next.text ∙ ap (λ t. text t ++ texts (drop (o.next + 1) o.node.now.children)) is ∙ ap (λ t. texts below.children ++ t) (sym rest))
    ∙ append_assoc (texts below.children) (left_of parent) (left_above above)
    ∙ ap (λ t. texts below.children ++ t) (sym (ap left_above push ∙ left_last above parent))

pub weight_entered : (o : OpenNode) (above new : List OpenNode) (e : GreenElement) (below : Branch) (parent : OpenNode) → IsNextChild o e → element_tree e ≡ branch_tree below → drop parent.next parent.node.now.children ≡ drop (o.next + 1) o.node.now.children → new ≡ above ++ parent ∷ []
    → forest_size (forest below.children) + forest_size (forest below.children) + 1 + sum_by open_weight new < weight_in (Some o) above
weight_entered o above new e below parent next is rest push =
    let own : size (element_tree e) ≡ forest_size (forest below.children) + 1 = ap size is in
    let left : forest_size (forest (drop parent.next parent.node.now.children)) ≡ forest_size (forest (drop (o.next + 1) o.node.now.children)) = ap (λ ts. forest_size (forest ts)) rest in
    omega (arith, own, left, next.size, ap (sum_by open_weight) push, sum_by-append open_weight above (parent ∷ []))

size_some : (e : GreenElement) → 0 < size (element_tree e)
size_some (Node b) = omega arith
size_some (Token l) = omega arith

pub weight_after : (o : OpenNode) (above : List OpenNode) (e : GreenElement) → IsNextChild o e
    → forest_size (forest (drop (o.next + 1) o.node.now.children)) + forest_size (forest (drop (o.next + 1) o.node.now.children)) + 1 + sum_by open_weight above < weight_in (Some o) above
weight_after o above e next = omega (arith, next.size, size_some e)

module _ {W : Type 0} (took : W → List ℕ → W → Type 0) where
  pub starts_written : (b : Branch) (above : List OpenNode) (f : Formatter W) → above ≡ [] → IsPlainFormatter f → IsWrittenTo took (text (branch_tree b)) (texts b.children ++ left_above above) f f
  starts_written b above f none plain =
      let all : text (branch_tree b) ≡ texts b.children ++ left_above above = sym (append-nil (texts b.children)) ∙ ap (λ os. texts b.children ++ left_above os) (sym none) in
      subst (λ t. IsWrittenTo took (text (branch_tree b)) t f f) all (nothing_written took (text (branch_tree b)) f plain)

  pub popped_written : {all : List ℕ} {f g : Formatter W} (o : OpenNode) (above rest : List OpenNode) (next : Option OpenNode) → IsWrittenTo took all (left_in (Some o) above) f g → drop o.next o.node.now.children ≡ [] → above ≡ rest ++ option_to_list next → (next ≡ None → length above ≡ 0) → IsWrittenTo took all (left_in next rest) f g
  popped_written {all} {f} {g} o above rest next so_far none pop ends = subst (λ t. IsWrittenTo took all t f g) (left_popped o above rest next none pop ends) so_far

  pub entered_written : {all : List ℕ} {f g : Formatter W} (o : OpenNode) (above new : List OpenNode) (e : GreenElement) (below : Branch) (parent : OpenNode) → IsWrittenTo took all (left_in (Some o) above) f g → IsNextChild o e → element_tree e ≡ branch_tree below → left_of parent ≡ texts (drop (o.next + 1) o.node.now.children) → new ≡ above ++ parent ∷ []
      → IsWrittenTo took all (texts below.children ++ left_above new) f g
  entered_written {all} {f} {g} o above new e below parent so_far next is rest push =
      subst (λ t. IsWrittenTo took all t f g) (left_entered o above new e below parent next is rest push) so_far

  pub token_written : {all : List ℕ} {f g h : Formatter W} (o : OpenNode) (above : List OpenNode) (e : GreenElement) (piece : List ℕ) → IsWrittenTo took all (left_in (Some o) above) f g → IsNextChild o e → text (element_tree e) ≡ piece → HasWritten took g piece h
      → IsWrittenTo took all (texts (drop (o.next + 1) o.node.now.children) ++ left_above above) f h
  token_written {all} {f} {g} {h} o above e piece so_far next is more =
      let rest = texts (drop (o.next + 1) o.node.now.children) in
      more_written took piece (rest ++ left_above above) so_far
      (ap (λ t. t ++ left_above above) (next.text ∙ ap (λ t. t ++ rest) is) ∙ append_assoc piece rest (left_above above))
      more

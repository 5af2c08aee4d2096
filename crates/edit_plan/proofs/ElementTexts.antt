-- Where the text of an element stands in the text of its tree.
--     forest-split                  the texts before and behind a child
--     text-split                    those before and behind an element; the former are as long as the element starts
--     text-stands                   the text from where an element starts up to where it ends
--     element-there                 a value that a path leads to
use Rattle.std.proofs.Common.{◌≡◌, ◌∙◌, ℕ, zero, suc, ◌+◌, ◌-◌, List, [], ◌∷◌, ◌++◌, length, take, Some, None, ap, sym, refl, arith, append_assoc, length-append, slice_range}
use Rattle.std.specs.Prelude.{slice_get, option_and_then, option_map, unwrap_or}
use Rattle.std.proofs.lemmas.List.{append-nil, take_all}
use Rattle.std.specs.Option.{option_map_or}
use Rattle.cst_core.specs.Path.{Path}
use Rattle.cst_core.specs.Tree.{Tree, SyntaxTree, Forest, Token, Node, end, more, at, trees, forest, text, forest_text, text_length}
use Rattle.cst_core.specs.Order.{start}
use Rattle.cst_core.specs.Element.{Element, element_at, subtree}
use Rattle.cst_core.specs.SyntaxElement.{element_of, syntax_as, syntax_at}
use Rattle.cst_core.specs.declared.element.SyntaxElement.{SyntaxElement}
use Rattle.green_tree.proofs.Starts.{start-top, start-node}
use Rattle.text_edit.proofs.Holding.{range-between}

forest-split : {L : Type 0} (f : Forest L) (j : ℕ) (c : Tree L) → slice_get (trees f) j ≡ Some c → (rest : List ℕ) × (forest_text f ≡ forest_text (forest (take j (trees f))) ++ text c ++ rest)
forest-split end j c there = absurd (cc)
forest-split (more t f) zero c there =
    let same : t ≡ c = cc in
    (forest_text f, ap (λ d. text d ++ forest_text f) same)
forest-split (more t f) (suc j) c there =
    let next = forest-split f j c there in
    let front = forest_text (forest (take j (trees f))) in
    (next.0, ap (λ u. text t ++ u) next.1 ∙ sym (append_assoc (text t) (front ++ text c) next.0) ∙ ap (λ u. u ++ next.0) (sym (append_assoc (text t) front (text c))))

pub text-split : {L : Type 0} (t : Tree L) (p : Path) (c : Tree L) → at t p ≡ Some c → (front : List ℕ) × (rest : List ℕ) × (text t ≡ front ++ text c ++ rest) × (length front ≡ start t p)
text-split t [] c there =
    let same : t ≡ c = cc in
    ([], [], ap text same ∙ (let e : text c ≡ text c ++ [] = simp append-nil in e), sym (start-top t))
text-split (Token l s) (i ∷ p) c there = absurd (cc)
text-split (Node l f) (i ∷ p) c there =
    elim (slice_get (trees f) i) as (λ o. slice_get (trees f) i ≡ o → option_and_then (λ d. at d p) o ≡ Some c → (front : List ℕ) × (rest : List ℕ) × (forest_text f ≡ front ++ text c ++ rest) × (length front ≡ start (Node l f) (i ∷ p))) [
      | None ↦ λ child below. absurd (cc)
      | Some d ↦ λ child below.
          let inside = text-split d p c below in
          let around = forest-split f i d child in
          let ahead = forest_text (forest (take i (trees f))) in
          let begins : start (Node l f) (i ∷ p) ≡ length ahead + start d p = start-node l f i p ∙ ap (λ o. length ahead + option_map_or (λ x. start x p) o 0) child in (
            ahead ++ inside.0,
            inside.1 ++ around.0,
            around.1 ∙ ap (λ u. ahead ++ u ++ around.0) inside.2 ∙ (let e : ahead ++ (inside.0 ++ text c ++ inside.1) ++ around.0 ≡ (ahead ++ inside.0) ++ text c ++ (inside.1 ++ around.0) = simp append_assoc in e),
            length-append ahead inside.0 ∙ ap (λ n. length ahead + n) inside.3 ∙ sym begins,
          )
    ] refl there

pub text-stands : {L : Type 0} (t : Tree L) (p : Path) (c : Tree L) → at t p ≡ Some c → slice_range (text t) (start t p) (start t p + text_length c) ≡ text c
text-stands t p c there =
    let split = text-split t p c there in
    let n = start t p in
    let len = length (text c) in
    let first : n - n ≡ 0 = omega arith in
    let last : (n + len) - n ≡ len = omega arith in
    let all : len - 0 ≡ len = omega arith in
    let whole : slice_range (text c) 0 len ≡ text c = ap (λ k. take k (text c)) all ∙ take_all len (text c) (omega arith) in
    ap (λ u. slice_range u n (n + len)) split.2 ∙ sym (range-between split.0 (text c) split.1 n n (n + len) split.3 (omega arith) (omega arith) (omega arith)) ∙ ap (λ k. slice_range (text c) k ((n + len) - n)) first ∙ ap (λ k. slice_range (text c) 0 k) last ∙ whole

element-as : (t : SyntaxTree) (e : Element) (x : SyntaxElement) → Some (syntax_as t e) ≡ Some x → element_of x ≡ e
element-as (Token k s) e x is = let same : syntax_as (Token k s) e ≡ x = cc in ap element_of (sym same)
element-as (Node k f) e x is = let same : syntax_as (Node k f) e ≡ x = cc in ap element_of (sym same)

pub element-there : (root : Element) (p : Path) (x : SyntaxElement) → syntax_at root p ≡ Some x → (element_of x ≡ element_at root p) × (at root.root p ≡ Some (subtree (element_at root p)))
element-there root p x there =
    elim (at root.root p) as (λ o. at root.root p ≡ o → option_map (λ t. syntax_as t (element_at root p)) o ≡ Some x → (element_of x ≡ element_at root p) × (at root.root p ≡ Some (unwrap_or (at root.root p) (Token 0 [])))) [
      | None ↦ λ found made. absurd (cc)
      | Some t ↦ λ found made. (element-as t (element_at root p) x made, found ∙ ap (λ o. Some (unwrap_or o (Token 0 []))) (sym found))
    ] refl there

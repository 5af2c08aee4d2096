-- Whitespace tokens indented and dedented.
--     Built, built_none, built_kept, built_changed      the new children so far, from slot to slot
--     node_is, child_le            a node by its children; no child's text is longer
--     refused_above                a refusal of a child is one of the node
--     rest_of, joined              the rest of a list of shared elements; two lists of these
--     tree_at                      an element of a list of shared elements
--     token_kept, token_shifted    a token that stays, and one that changes
use Rattle.std.specs.Prelude.{◌≡◌, ℕ, zero, suc, ◌+◌, ◌-◌, ◌≤◌, [], ◌∷◌, ◌++◌, take, drop, map, ◌==◌, ◌&&◌, ◌<◌, ◌≢◌, true, false, List, length, slice_index, cond, refl}
use Rattle.std.proofs.Common.{ap, sym, ◌∙◌, subst, arith, get_or, append_assoc}
use Rattle.std.proofs.lemmas.Bool.{cases_Bool, cond-true, cond-false, and_parts, eqb-true, eq-eqb}
use Rattle.std.proofs.lemmas.List.{length-append, length-map, length-drop, length-take-le, take_all, drop-map, map-append, take_more, drop-append-le, drop_all, append-nil, get_or-map}
use Rattle.std.proofs.lemmas.List.Folds.{list_any_at}
use mathlib.Core.Logic.{inl, inr}
use Rattle.cst_core.specs.Tree.{Token, Node, more, SyntaxTree, node, forest, text, forest_text, text_length}
use Rattle.cst_core.specs.Kinds.{WHITESPACE}
use Rattle.whitespace.specs.Level.{newline, is_newline, has_newline}
use Rattle.whitespace.specs.Indentation.{forest_with_texts}
use Rattle.whitespace.specs.inner.Shift.{shifted_text, shifted, ShiftRefuses}
use Rattle.whitespace.specs.declared.indent_error.IndentError.{IndentError}
use Rattle.whitespace.specs.declared.indent_error.IndentError.TheVariants.{LevelTooLarge, TooLong, NoTreeNumber, NotYounger, Memory}
use Rattle.whitespace.specs.declared.shift.Shift.{Shift}
use Rattle.whitespace.specs.declared.shift.Shift.TheVariants.{Indent, Dedent}
use Rattle.whitespace.proofs.Dedented.{dedented_none}

text_kept : (shift : Shift) (s : List ℕ) → has_newline s ≡ false → shifted_text shift s ≡ s
text_kept (Indent level) s none = cond-false _ _ _ none
text_kept (Dedent level) s none = dedented_none level.0 s other
  where
    other : (i : ℕ) → i < length s → slice_index s i ≢ newline
    other i below is = let there : has_newline s ≡ true = list_any_at is_newline s i 0 below (eq-eqb _ newline is) in cc

module _ (shift : Shift) (k : ℕ) (s : List ℕ) where
  pub token_kept : ((k == WHITESPACE.0) && has_newline s) ≡ false → Token k s ≡ shifted shift (Token k s)
  token_kept stays =
      elim (cases_Bool (k == WHITESPACE.0)) [
        | inl is ↦ ap (Token k) (sym (cond-true _ _ _ is ∙ text_kept shift s (ap (λ b. b && has_newline s) (sym is) ∙ stays)))
        | inr other ↦ ap (Token k) (sym (cond-false _ _ _ other))
      ]

  pub token_shifted : ((k == WHITESPACE.0) && has_newline s) ≡ true → Token WHITESPACE.0 (shifted_text shift s) ≡ shifted shift (Token k s)
  token_shifted changes =
      let parts = and_parts (k == WHITESPACE.0) (has_newline s) changes in
      ap (λ n. Token n (shifted_text shift s)) (sym (eqb-true k WHITESPACE.0 parts.0)) ∙ ap (Token k) (sym (cond-true _ _ _ parts.0))

-- ---- the children of a node
module _ (shift : Shift) where
  -- these begin the new children of a node, and those after them up to this slot stay
  pub record Built (old new : List SyntaxTree) (n : ℕ) : Type 0 where
    pub short : length new ≤ n
    pub made : new ++ drop (length new) (take n old) ≡ map (shifted shift) (take n old)

  pub built_none : (old : List SyntaxTree) → Built old [] 0
  built_none old = record { short = omega arith; made = refl }

  module _ (old new : List SyntaxTree) (n : ℕ) (t : SyntaxTree) (below : n < length old) (is : t ≡ get_or old n t) (so_far : Built old new n) where
    one_more : take (n + 1) old ≡ take n old ++ t ∷ []
    one_more = take_more old n t below ∙ ap (λ u. take n old ++ u ∷ []) (sym is)

    reach : length (take n old) ≡ n
    reach = length-take-le n old (omega arith)

    mapped : map (shifted shift) (take (n + 1) old) ≡ map (shifted shift) (take n old) ++ shifted shift t ∷ []
    mapped = ap (map (shifted shift)) one_more ∙ map-append (shifted shift) (take n old) (t ∷ [])

    pub built_kept : t ≡ shifted shift t → Built old new (n + 1)
    built_kept stays =
        let within : length new ≤ length (take n old) = subst (λ k. length new ≤ k) (sym reach) so_far.short in
        record {
          short = let fits = so_far.short in omega arith;
          made =
              ap (λ ts. new ++ drop (length new) ts) one_more
              ∙ ap (λ ts. new ++ ts) (drop-append-le (length new) (take n old) (t ∷ []) within)
              ∙ sym (append_assoc new (drop (length new) (take n old)) (t ∷ []))
              ∙ ap (λ ts. ts ++ t ∷ []) so_far.made
              ∙ ap (λ u. map (shifted shift) (take n old) ++ u ∷ []) stays
              ∙ sym mapped;
        }

    pub built_changed : (u : SyntaxTree) (next : List SyntaxTree) → u ≡ shifted shift t → next ≡ new ++ drop (length new) (take n old) ++ u ∷ [] → Built old next (n + 1)
    built_changed u next changed all =
        let whole : next ≡ map (shifted shift) (take (n + 1) old) = all ∙ ap (λ ts. ts ++ u ∷ []) so_far.made ∙ ap (λ v. map (shifted shift) (take n old) ++ v ∷ []) changed ∙ sym mapped in
        let count : length (take (n + 1) old) ≡ n + 1 = length-take-le (n + 1) old (omega arith) in
        let long : length next ≡ n + 1 = ap length whole ∙ length-map (take (n + 1) old) (shifted shift) ∙ count in
        record {
          short = omega (arith, long);
          made = ap (λ ts. next ++ ts) (drop_all (length next) (take (n + 1) old) (omega (arith, long, count))) ∙ append-nil next ∙ whole;
        }

  forest_is : (ts : List SyntaxTree) → forest_with_texts (λ kind s. cond (kind == WHITESPACE.0) (shifted_text shift s) s) (forest ts) ≡ forest (map (shifted shift) ts)
  forest_is [] = refl
  forest_is (t ∷ ts) = ap (more (shifted shift t)) (forest_is ts)

  pub node_is : (k : ℕ) (ts : List SyntaxTree) → shifted shift (node k ts) ≡ node k (map (shifted shift) ts)
  node_is k ts = ap (Node k) (forest_is ts)

  -- no child's text is longer than that of the node
  texts_le : (ts : List SyntaxTree) (i : ℕ) (d : SyntaxTree) → i < length ts → length (text (get_or ts i d)) ≤ length (forest_text (forest ts))
  texts_le [] i d below = absurd (omega arith)
  texts_le (t ∷ ts) zero d below = omega (arith, length-append (text t) (forest_text (forest ts)))
  texts_le (t ∷ ts) (suc i) d below = omega (arith, length-append (text t) (forest_text (forest ts)), texts_le ts i d (omega arith))

  pub child_le : (k : ℕ) (ts : List SyntaxTree) (i : ℕ) (t : SyntaxTree) → i < length ts → t ≡ get_or ts i t → text_length (shifted shift t) ≤ text_length (shifted shift (node k ts))
  child_le k ts i t below is =
      let here : shifted shift t ≡ get_or (map (shifted shift) ts) i t = ap (shifted shift) is ∙ sym (get_or-map (shifted shift) ts i t t below) in
      let size : length (map (shifted shift) ts) ≡ length ts = length-map ts (shifted shift) in
      subst (λ u. length (text u) ≤ text_length (shifted shift (node k ts))) (sym here)
      (subst (λ u. length (text (get_or (map (shifted shift) ts) i t)) ≤ length (text u)) (sym (node_is k ts)) (texts_le (map (shifted shift) ts) i t (omega (arith, size))))

-- a refusal of a smaller text is one of a greater
pub refused_above : (e : IndentError) (m n : ℕ) → m ≤ n → ShiftRefuses m e → ShiftRefuses n e
refused_above LevelTooLarge m n le refuses = refuses
refused_above TooLong m n le refuses = omega arith
refused_above NoTreeNumber m n le refuses = refuses
refused_above NotYounger m n le refuses = refuses
refused_above Memory m n le refuses = refuses

-- ---- shared elements, by what they stand for
module _ {X : Type 0} (tree_of : X → SyntaxTree) where
  pub tree_at : (es : List X) (i : ℕ) (e : X) → i < length es → e ≡ get_or es i e → tree_of e ≡ get_or (map tree_of es) i (tree_of e)
  tree_at es i e below is = ap tree_of is ∙ sym (get_or-map tree_of es i e (tree_of e) below)

-- the rest of a list, as a slice
pub rest_of : {X : Type 0} (tree_of : X → SyntaxTree) (es : List X) (k n : ℕ) → k ≡ n → map tree_of (take (length es - k) (drop k es)) ≡ drop n (map tree_of es)
rest_of tree_of es k n is =
    let all : length (drop k es) ≤ length es - k = omega (arith, length-drop k es) in
    ap (map tree_of) (take_all (length es - k) (drop k es) all) ∙ sym (drop-map tree_of k es) ∙ ap (λ m. drop m (map tree_of es)) is

pub joined : {X : Type 0} (tree_of : X → SyntaxTree) (es fs : List X) (rest : List SyntaxTree) (gs : List X) → gs ≡ es ++ fs → map tree_of fs ≡ rest → map tree_of gs ≡ map tree_of es ++ rest
joined tree_of es fs rest gs is are = ap (map tree_of) is ∙ map-append tree_of es fs ∙ ap (λ ts. map tree_of es ++ ts) are

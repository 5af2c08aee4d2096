-- Text edits that are applied to a part of a text.
--     StartsFrom                    pieces that start at an offset or after it
--     skip                          what stands before all pieces stays
--     Made                          pieces make this of a part of the text, whatever comes after it
--     made-none, made-edit, made-seq      no piece; one; those of two parts side by side
--     made-change                   what a change does
--     made-inserts                  what several inserts of one gap do
--     pieces_of                     what the changes do that stand in some trees
--     pieces-append, pieces-numbers, pieces-node      those of trees side by side; of numbers alone; of a node
use Rattle.std.specs.Prelude.{◌≡◌, ℕ, suc, ◌+◌, ◌-◌, ◌≤◌, cond, List, [], ◌∷◌, ◌++◌, length, take, drop, flat_map, slice_get, Option, Some, None, refl}
use Rattle.std.specs.Option.{option_map_or}
use Rattle.std.specs.List.{AllByRecursion}
use Rattle.std.proofs.Common.{ap, ap₂, sym, subst, ◌∙◌, arith}
use Rattle.std.proofs.lemmas.Bool.{cases_Bool}
use Rattle.std.proofs.lemmas.List.{append_assoc, append-nil, length-append}
use Rattle.std.proofs.lemmas.Grind.{flat_map-append}
use mathlib.Core.Logic.{inl, inr}
use Rattle.cst_core.specs.Path.{same_path}
use Rattle.cst_core.specs.Tree.{Tree, Token, Node, forest, tokens, forest_tokens}
use Rattle.cst_core.specs.Element.{Element}
use Rattle.edit_change.specs.declared.change.Change.{Change}
use Rattle.edit_change.proofs.Paths.{same_path-true}
use Rattle.text_edit.specs.TextPiece.{TextPiece, AreApart, applied_from}
use Rattle.one_pass.specs.TextEdits.{offset, old_text, number_token, text_piece, altering_pieces}

abbrev pub StartsFrom : ℕ → List TextPiece → Type 0
StartsFrom n [] = Unit {0}
StartsFrom n (e ∷ es) = (n ≤ e.first) × (e.first ≤ e.stop) × StartsFrom n es

pub starts-weaker : (m n : ℕ) → m ≤ n → (es : List TextPiece) → StartsFrom n es → StartsFrom m es
starts-weaker m n l [] h = tt
starts-weaker m n l (e ∷ es) h = (omega (arith, l, h.0), h.1, starts-weaker m n l es h.2)

rises-earlier : (m n to : ℕ) → m ≤ n → (es : List TextPiece) → AreApart n es to → AreApart m es to
rises-earlier m n to l [] h = omega (arith, l, h)
rises-earlier m n to l (e ∷ es) h = (omega (arith, l, h.0), h.1, h.2)

rises-append : (from mid to : ℕ) (xs ys : List TextPiece) → AreApart from xs mid → AreApart mid ys to → AreApart from (xs ++ ys) to
rises-append from mid to [] ys h k = rises-earlier from mid to h ys k
rises-append from mid to (x ∷ xs) ys h k = (h.0, h.1, rises-append x.stop mid to xs ys h.2 k)

pub starts-append : (n : ℕ) (xs ys : List TextPiece) → StartsFrom n xs → StartsFrom n ys → StartsFrom n (xs ++ ys)
starts-append n [] ys h k = k
starts-append n (x ∷ xs) ys h k = (h.0, h.1, starts-append n xs ys h.2 k)

take-past : (s t : List ℕ) (k : ℕ) → take (length s + k) (s ++ t) ≡ s ++ take k t
take-past [] t k =
    let same : 0 + k ≡ k = omega arith in
    ap (λ n. take n t) same
take-past (x ∷ s) t k =
    let same : suc (length s) + k ≡ suc (length s + k) = omega arith in
    ap (λ n. take n (x ∷ (s ++ t))) same ∙ ap (λ u. x ∷ u) (take-past s t k)

drop-past : (s t : List ℕ) (k : ℕ) → drop (length s + k) (s ++ t) ≡ drop k t
drop-past [] t k =
    let same : 0 + k ≡ k = omega arith in
    ap (λ n. drop n t) same
drop-past (x ∷ s) t k =
    let same : suc (length s) + k ≡ suc (length s + k) = omega arith in
    ap (λ n. drop n (x ∷ (s ++ t))) same ∙ drop-past s t k

pub skip : (from : ℕ) (s t : List ℕ) (es : List TextPiece) → StartsFrom (from + length s) es → applied_from from es (s ++ t) ≡ s ++ applied_from (from + length s) es t
skip from s t [] h = refl
skip from s t (e ∷ es) h =
    let next = from + length s in
    let first : e.first - from ≡ length s + (e.first - next) = omega (arith, h.0) in
    let stop : e.stop - from ≡ length s + (e.stop - next) = omega (arith, h.0, h.1) in
    let kept : take (e.first - from) (s ++ t) ≡ s ++ take (e.first - next) t = ap (λ n. take n (s ++ t)) first ∙ take-past s t (e.first - next) in
    let left : drop (e.stop - from) (s ++ t) ≡ drop (e.stop - next) t = ap (λ n. drop n (s ++ t)) stop ∙ drop-past s t (e.stop - next) in
    let rest = applied_from e.stop es (drop (e.stop - next) t) in
    ap₂ (λ a b. a ++ e.text ++ applied_from e.stop es b) kept left ∙ ap (λ a. a ++ rest) (append_assoc s (take (e.first - next) t) e.text) ∙ append_assoc s (take (e.first - next) t ++ e.text) rest

pub record Made (from : ℕ) (old : List ℕ) (es : List TextPiece) (new : List ℕ) : Type 0 where
  pub starts : StartsFrom from es
  pub rises : AreApart from es (from + length old)
  pub law : (rest : List TextPiece) (t : List ℕ) → StartsFrom (from + length old) rest → applied_from from (es ++ rest) (old ++ t) ≡ new ++ applied_from (from + length old) rest t

pub made-none : (from : ℕ) (old : List ℕ) → Made from old [] old
made-none from old = record {
  starts = tt;
  rises = omega arith;
  law = λ rest t h. skip from old t rest h;
}

pub made-edit : (from : ℕ) (old new : List ℕ) → Made from old (record { first = from; stop = from + length old; text = new } ∷ []) new
made-edit from old new = record {
  starts = (omega arith, omega arith, tt);
  rises = (omega arith, omega arith, omega arith);
  law = λ rest t h.
      let none : from - from ≡ 0 = omega arith in
      let stop : from + length old - from ≡ length old + 0 = omega arith in
      let left : drop (from + length old - from) (old ++ t) ≡ t = ap (λ n. drop n (old ++ t)) stop ∙ drop-past old t 0 in
      ap₂ (λ n s. take n (old ++ t) ++ new ++ applied_from (from + length old) rest s) none left;
}

pub made-seq : (from : ℕ) (a b : List ℕ) (es fs : List TextPiece) (x y : List ℕ) → Made from a es x → Made (from + length a) b fs y → Made from (a ++ b) (es ++ fs) (x ++ y)
made-seq from a b es fs x y m n =
    let long : from + length (a ++ b) ≡ from + length a + length b = omega (arith, length-append a b) in
    record {
      starts = starts-append from es fs m.starts (starts-weaker from (from + length a) (omega arith) fs n.starts);
      rises = subst (λ k. AreApart from (es ++ fs) k) (sym long) (rises-append from (from + length a) (from + length a + length b) es fs m.rises n.rises);
      law = λ rest t h.
          let after : StartsFrom (from + length a + length b) rest = subst (λ k. StartsFrom k rest) long h in
          ap₂ (λ us s. applied_from from us s) (append_assoc es fs rest) (append_assoc a b t) ∙ m.law (fs ++ rest) (b ++ t) (starts-append (from + length a) fs rest n.starts (starts-weaker (from + length a) (from + length a + length b) (omega arith) rest after)) ∙ ap (λ s. x ++ s) (n.law rest t after) ∙ sym (append_assoc x y (applied_from (from + length a + length b) rest t)) ∙ ap (λ k. x ++ y ++ applied_from k rest t) (sym long);
    }

-- ---- what changes do
module _ (root : Element) (cs : List Change) (new : ℕ → List ℕ) where
  abbrev pub does : ℕ → List TextPiece
  does n = option_map_or (altering_pieces root (new n)) (slice_get cs n) []

  pub made-change : (n : ℕ) (c : Change) (from : ℕ) (old : List ℕ) → slice_get cs n ≡ Some c → offset root c ≡ from → old_text root c ≡ old → Made from old (does n) (new n)
  made-change n c from old at_n starts takes =
      let is : does n ≡ altering_pieces root (new n) c = ap (λ o. option_map_or (altering_pieces root (new n)) o []) at_n in
      elim (cases_Bool (same_path (old_text root c) (new n))) [
        | inl same ↦
            let none : does n ≡ [] = is ∙ ap (λ b. cond b [] (text_piece root (new n) c ∷ [])) same in
            let kept : old ≡ new n = sym takes ∙ same_path-true (old_text root c) (new n) same in
            subst (λ es. Made from old es (new n)) (sym none) (subst (λ s. Made from old [] s) kept (made-none from old))
        | inr other ↦
            let one : does n ≡ text_piece root (new n) c ∷ [] = is ∙ ap (λ b. cond b [] (text_piece root (new n) c ∷ [])) other in
            let moved : text_piece root (new n) c ∷ [] ≡ record { first = from; stop = from + length old; text = new n } ∷ [] = ap₂ (λ a s. record { first = a; stop = a + length s; text = new n } ∷ []) starts takes in
            subst (λ es. Made from old es (new n)) (sym (one ∙ moved)) (made-edit from old (new n))
      ]

  abbrev pub InsertsHere : ℕ → ℕ → Type 0
  InsertsHere from n = (c : Change) × (slice_get cs n ≡ Some c) × (offset root c ≡ from) × (old_text root c ≡ [])

  pub made-inserts : (from : ℕ) (ns : List ℕ) → AllByRecursion (InsertsHere from) ns → Made from [] (flat_map does ns) (flat_map new ns)
  made-inserts from [] a = made-none from []
  made-inserts from (n ∷ ns) a =
      let same : from ≡ from + 0 = omega arith in
      let here = a.0 in
      made-seq from [] [] (does n) (flat_map does ns) (new n) (flat_map new ns) (made-change n here.0 from [] here.1 here.2 here.3) (subst (λ k. Made k [] (flat_map does ns) (flat_map new ns)) same (made-inserts from ns a.1))

  -- ---- in the order in which they stand
  abbrev pub pieces_of : List (Tree (List ℕ)) → List TextPiece
  pieces_of ts = flat_map does (flat_map (λ k. k.0) (flat_map tokens ts))

  pub pieces-append : (xs ys : List (Tree (List ℕ))) → pieces_of (xs ++ ys) ≡ pieces_of xs ++ pieces_of ys
  pieces-append xs ys =
      ap (λ ks. flat_map does (flat_map (λ k. k.0) ks)) (flat_map-append tokens xs ys) ∙ ap (flat_map does) (flat_map-append (λ k. k.0) (flat_map tokens xs) (flat_map tokens ys)) ∙ flat_map-append does (flat_map (λ k. k.0) (flat_map tokens xs)) (flat_map (λ k. k.0) (flat_map tokens ys))

  number-does : (n : ℕ) (o : Option Change) → slice_get cs n ≡ o → pieces_of (option_map_or (λ d. Token (n ∷ []) [] ∷ []) o []) ≡ does n
  number-does n None h = ap (λ o. option_map_or (altering_pieces root (new n)) o []) (sym h)
  number-does n (Some d) h = append-nil (does n)

  pub pieces-numbers : (ns : List ℕ) → pieces_of (flat_map (number_token cs) ns) ≡ flat_map does ns
  pieces-numbers [] = refl
  pieces-numbers (n ∷ ns) = pieces-append (number_token cs n) (flat_map (number_token cs) ns) ∙ ap₂ (λ a b. a ++ b) (number-does n (slice_get cs n) refl) (pieces-numbers ns)

  tokens-of : (ts : List (Tree (List ℕ))) → forest_tokens (forest ts) ≡ flat_map tokens ts
  tokens-of [] = refl
  tokens-of (t ∷ ts) = ap (λ ks. tokens t ++ ks) (tokens-of ts)

  pub pieces-node : (ts : List (Tree (List ℕ))) → pieces_of (Node [] (forest ts) ∷ []) ≡ pieces_of ts
  pieces-node ts = ap (λ ks. flat_map does (flat_map (λ k. k.0) ks)) (append-nil (forest_tokens (forest ts)) ∙ tokens-of ts)

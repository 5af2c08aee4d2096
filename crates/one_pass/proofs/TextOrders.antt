-- The order in which changes stand in a text, and what they take away.
--     syntax-there                  an element that a path leads to
--     offset-start                  where a change starts that is no insert after an element
--     offset-end                    where an insert after an element is
--     native-there, fits-there      what a change aims at is there
--     range-next, range-none        a sibling more of a range; none is left
--     pushed-each, both-there       a fact of each item of a list; items of two lists of one length
--     one-marked, all-marked        elements that are marked by numbers
--     pieces-given                  what all changes do, by a table that has what each one gives
--     piece-is                      an edit, as a piece
--     pieces-none, pieces-same, pieces-other      what a change does to the text
--     numbers-of-root               the marks of the new root, in which each change is one token
--     one-numbered                  each change gives one token there
use Rattle.std.specs.Prelude.{◌≡◌, ℕ, zero, suc, ◌+◌, ◌-◌, ◌<◌, ◌≤◌, true, false, cond, List, [], ◌∷◌, ◌++◌, map, flat_map, length, slice_get, Option, Some, None, option_map, Vec, refl}
use Rattle.std.specs.Option.{option_map_or}
use Rattle.std.proofs.Common.{ap, ap₂, sym, subst, ◌∙◌, arith}
use Rattle.std.proofs.lemmas.Option.{none-some, same_Some, slice_get-get_or}
use Rattle.std.proofs.lemmas.List.{append-nil, map-append}
use Rattle.std.proofs.lemmas.Grind.{flat_map-append}
use Rattle.cst_core.specs.Path.{Path, same_path, counted_from}
use Rattle.cst_core.specs.Tree.{Tree, Forest, Token, Node, end, more, SyntaxTree, trees, forest, at, text, forest_text, forest_relabelled, tokens, forest_tokens}
use Rattle.cst_core.specs.Order.{start}
use Rattle.cst_core.specs.AtOffset.{end_of}
use Rattle.cst_core.specs.Element.{Element, element_at}
use Rattle.cst_core.specs.SyntaxElement.{element_of, syntax_at, syntax_as}
use Rattle.cst_core.specs.declared.element.SyntaxElement.{SyntaxElement}
use Rattle.edit_change.specs.Aim.{AfterElement}
use Rattle.edit_change.specs.ChangeAim.{aim, aim_path}
use Rattle.edit_change.specs.PositionForm.{FirstChild, After}
use Rattle.edit_change.specs.declared.change.Change.{Change}
use Rattle.edit_change.specs.declared.change.Change.TheVariants.{Insert, InsertAll, Replace, ReplaceWithMany, ReplaceAll}
use Rattle.edit_change.specs.Rewriting.{NumberedAim, gap, slot, rewritten, rewritten_from, rewritten_whole, inserts_at, replacements_at, is_replaced, gap_order}
use Rattle.edit_change.specs.NewTree.{Origin, OriginTree, plain, given}
use Rattle.one_pass.specs.inner.OwnerTables.{AreGiven}
use Rattle.one_pass.specs.TextEdits.{offset, old_text, number_token, in_text_order, text_piece, altering_pieces, text_pieces}
use Rattle.one_pass.specs.inner.TextOrder.{pieces_by}
use Rattle.one_pass.specs.inner.Pass.{entry_in, given_in, marks_there, AreMarked, AreMarkedIn}
use Rattle.one_pass.specs.declared.marked_element.MarkedElement.{MarkedElement}
use Rattle.std.specs.Global.{Global}
use Rattle.one_pass.specs.declared.marked_element.GivenTable.{GivenTable}
use Rattle.one_pass.specs.inner.Marked.{Marking, marked, marked_from, mark_below, marks_of}
use Rattle.one_pass.specs.declared.mark.Mark.{Mark}
use Rattle.cst_core.specs.declared.element.SyntaxElement.TheVariants as form
use Rattle.one_pass.proofs.MarksGiven.{as_many_in}
use Rattle.one_pass.proofs.Marks.{marks-node, marks-token, marked_from-append}

-- ---- elements that are there
element-as : (t : SyntaxTree) (x : Element) → element_of (syntax_as t x) ≡ x
element-as (Token k s) x = refl
element-as (Node k f) x = refl

syntax-from : (o : Option SyntaxTree) (x : Element) (s : SyntaxElement) → option_map (λ t. syntax_as t x) o ≡ Some s → element_of s ≡ x
syntax-from None x s h = absurd (none-some s h)
syntax-from (Some t) x s h = ap element_of (sym (same_Some _ s h)) ∙ element-as t x

pub syntax-there : (e : Element) (p : Path) (s : SyntaxElement) → syntax_at e p ≡ Some s → element_of s ≡ element_at e p
syntax-there e p s h = syntax-from (at e.root p) (element_at e p) s h

pub offset-start : (root : Element) (c : Change) → (aim c ≡ AfterElement (aim_path c) → ⊥) → offset root c ≡ start root.root (aim_path c)
offset-start root (Insert (After e) x) h = absurd (h refl)
offset-start root (InsertAll (After e) x) h = absurd (h refl)
offset-start root (Insert (FirstChild n) x) h = refl
offset-start root (InsertAll (FirstChild n) x) h = refl
offset-start root (Replace t e) h = refl
offset-start root (ReplaceWithMany t es) h = refl
offset-start root (ReplaceAll first last es) h = refl

pub offset-end : (root : Element) (c : Change) → aim c ≡ AfterElement (aim_path c) → offset root c ≡ end_of (element_at root (aim_path c))
offset-end root (Insert (After e) x) h = refl
offset-end root (InsertAll (After e) x) h = refl
offset-end root (Insert (FirstChild n) x) h = absurd (cc)
offset-end root (InsertAll (FirstChild n) x) h = absurd (cc)
offset-end root (Replace t e) h = absurd (cc)
offset-end root (ReplaceWithMany t es) h = absurd (cc)
offset-end root (ReplaceAll first last es) h = absurd (cc)

-- ---- ranges
pub range-next : {Y : Type 0} (g : ℕ → List Y) (i n : ℕ) → i < n → flat_map g (counted_from i (n - i)) ≡ g i ++ flat_map g (counted_from (i + 1) (n - (i + 1)))
range-next g i n h =
    let more : n - i ≡ suc (n - (i + 1)) = omega arith in
    let next : suc i ≡ i + 1 = omega arith in
    ap (λ k. flat_map g (counted_from i k)) more ∙ ap (λ j. g i ++ flat_map g (counted_from j (n - (i + 1)))) next

pub range-none : {Y : Type 0} (g : ℕ → List Y) (i n : ℕ) → n ≤ i → flat_map g (counted_from i (n - i)) ≡ []
range-none g i n h =
    let none : n - i ≡ 0 = omega arith in
    ap (λ k. flat_map g (counted_from i k)) none

pub flat_map-map : {X Y Z : Type 0} (g : Y → List Z) (h : X → Y) (xs : List X) → flat_map g (map h xs) ≡ flat_map (λ x. g (h x)) xs
flat_map-map g h [] = refl
flat_map-map g h (x ∷ xs) = ap (λ ys. g (h x) ++ ys) (flat_map-map g h xs)

-- ---- lists
pub pushed-each : {X : Type 0} (P : ℕ → X → Type 0) (xs : List X) (x : X) → ((c : ℕ) (g : X) → slice_get xs c ≡ Some g → P c g) → P (length xs) x → (c : ℕ) (g : X) → slice_get (xs ++ x ∷ []) c ≡ Some g → P c g
pushed-each P [] x each here zero g h = subst (P 0) (same_Some x g h) here
pushed-each P [] x each here (suc c) g h = absurd (none-some g h)
pushed-each P (y ∷ xs) x each here zero g h = each 0 g h
pushed-each P (y ∷ xs) x each here (suc c) g h = pushed-each (λ n. P (suc n)) xs x (λ n. each (suc n)) here c g h

pub both-there : {X Y : Type 0} (P : ℕ → Option X → Option Y → Type 0) (xs : List X) (ys : List Y) → length xs ≡ length ys → ((c : ℕ) → P c None None) → ((c : ℕ) (x : X) (y : Y) → slice_get xs c ≡ Some x → P c (Some x) (Some y)) → (c : ℕ) → P c (slice_get xs c) (slice_get ys c)
both-there P [] [] l none some c = none c
both-there P [] (y ∷ ys) l none some c = absurd (omega arith)
both-there P (x ∷ xs) [] l none some c = absurd (omega arith)
both-there P (x ∷ xs) (y ∷ ys) l none some zero = some 0 x y refl
both-there P (x ∷ xs) (y ∷ ys) l none some (suc c) = both-there (λ n. P (suc n)) xs ys (omega arith) (λ n. none (suc n)) (λ n. some (suc n)) c

-- ---- an element that is marked by a number
pub one-marked : (es : List MarkedElement) (e : MarkedElement) (c : ℕ) → es ≡ e ∷ [] → marks_of e.marks.items ≡ (c, []) ∷ [] → AreMarked None es (Token (c ∷ []) [] ∷ [])
one-marked es e c one h =
    ap (λ ms. ms ∷ []) (marks-token (c ∷ []) [] ∙ sym h) ∙ sym (ap (map (marks_there None)) one)

pub all-marked : (table : GivenTable) (changes : List Change) → table.top ≡ None → length table.entries.items ≡ length changes → ((c : ℕ) (v : Vec MarkedElement Global) → slice_get table.entries.items c ≡ Some v → AreMarked None v.items (Token (c ∷ []) [] ∷ [])) → AreMarkedIn table (number_token changes)
all-marked table changes top long each c =
    both-there (λ n x y. AreMarked table.top (option_map_or (λ (w : Vec MarkedElement Global). w.items) x []) (option_map_or (λ d. Token (n ∷ []) [] ∷ []) y [])) table.entries.items changes long (λ n. refl) (λ n v d h. subst (λ o. AreMarked o v.items (Token (n ∷ []) [] ∷ [])) (sym top) (each n v h)) c

pub one-numbered : (table : GivenTable) (changes : List Change) (c : ℕ) → AreMarkedIn table (number_token changes) → c < length changes → length (entry_in table c) ≡ 1
one-numbered table changes c are l =
    sym (as_many_in table.top (entry_in table c) (number_token changes c) (are c)) ∙ ap (λ o. length (option_map_or (λ (d : Change). Token (c ∷ []) [] ∷ []) o [])) (slice_get-get_or changes c unused l)
  where
    unused : Change
    unused = ReplaceWithMany (form.Token (record { number = 0; root = Token 0 []; path = [] })) []

-- ---- marks where nodes have none
abbrev numbers_in : List Marking → List ℕ
numbers_in ms = map (λ m. m.0) ms

abbrev labels_of : List (Tree (List ℕ)) → List ℕ
labels_of ts = flat_map (λ k. k.0) (flat_map tokens ts)

numbers-below : (p : Path) (ms : List Marking) → numbers_in (map (mark_below p) ms) ≡ numbers_in ms
numbers-below p [] = refl
numbers-below p (m ∷ ms) = ap (λ ns. m.0 ∷ ns) (numbers-below p ms)

numbers-here : (ns : List ℕ) → numbers_in (map (λ m. (m, [])) ns) ≡ ns
numbers-here [] = refl
numbers-here (n ∷ ns) = ap (λ ms. n ∷ ms) (numbers-here ns)

labels-forest : (ts : List (Tree (List ℕ))) → forest_tokens (forest ts) ≡ flat_map tokens ts
labels-forest [] = refl
labels-forest (t ∷ ts) = ap (λ us. tokens t ++ us) (labels-forest ts)

-- The trees whose marks are the labels of their tokens.
abbrev pub IsTold : Tree (List ℕ) → Type 0
IsTold t = numbers_in (marked t) ≡ flat_map (λ k. k.0) (tokens t)

abbrev pub AreTold : List (Tree (List ℕ)) → Type 0
AreTold ts = (i : ℕ) → numbers_in (marked_from i ts) ≡ labels_of ts

told-token : (l s : List ℕ) → IsTold (Token l s)
told-token l s = ap numbers_in (marks-token l s) ∙ numbers-here l ∙ sym (append-nil l)

told-none : AreTold []
told-none i = refl

told-append : (xs ys : List (Tree (List ℕ))) → AreTold xs → AreTold ys → AreTold (xs ++ ys)
told-append xs ys of_xs of_ys i =
    ap numbers_in (marked_from-append i xs ys) ∙ map-append (λ m. m.0) (marked_from i xs) (marked_from (i + length xs) ys) ∙ ap₂ (λ a b. a ++ b) (of_xs i) (of_ys (i + length xs)) ∙ sym (flat_map-append (λ k. k.0) (flat_map tokens xs) (flat_map tokens ys)) ∙ ap (flat_map (λ k. k.0)) (sym (flat_map-append tokens xs ys))

told-one : (t : Tree (List ℕ)) → IsTold t → AreTold (t ∷ [])
told-one t h i =
    ap numbers_in (append-nil (map (mark_below (i ∷ [])) (marked t))) ∙ numbers-below (i ∷ []) (marked t) ∙ h ∙ ap (flat_map (λ k. k.0)) (sym (append-nil (tokens t)))

trees-of : (ts : List (Tree (List ℕ))) → trees (forest ts) ≡ ts
trees-of [] = refl
trees-of (t ∷ ts) = ap (λ us. t ∷ us) (trees-of ts)

told-node : (ts : List (Tree (List ℕ))) → AreTold ts → IsTold (Node [] (forest ts))
told-node ts h =
    ap numbers_in (marks-node [] (forest ts)) ∙ ap (λ us. numbers_in (marked_from 0 us)) (trees-of ts) ∙ h 0 ∙ ap (flat_map (λ k. k.0)) (sym (labels-forest ts))

module _ (changes : List Change) (cs : List NumberedAim) where
  told-token-of : (c : ℕ) (o : Option Change) → AreTold (option_map_or (λ d. Token (c ∷ []) [] ∷ []) o [])
  told-token-of c None = told-none
  told-token-of c (Some d) = told-one (Token (c ∷ []) []) (told-token (c ∷ []) [])

  told-given : (ns : List ℕ) → AreTold (flat_map (number_token changes) ns)
  told-given [] = told-none
  told-given (n ∷ ns) = told-append (number_token changes n) (flat_map (number_token changes) ns) (told-token-of n (slice_get changes n)) (told-given ns)

  told-slot : (p : Path) (t : Tree (List ℕ)) → IsTold t → AreTold (slot (λ p k. []) (number_token changes) cs p t)
  told-slot p t h =
      elim (is_replaced cs p) as (λ b. AreTold (cond b (flat_map (number_token changes) (replacements_at cs p)) (t ∷ []))) [
        | true ↦ told-given (replacements_at cs p)
        | false ↦ told-one t h
      ]

  mutual
    told-rewritten : (p : Path) (t : SyntaxTree) → IsTold (rewritten (λ p k. []) (number_token changes) cs p t)
    told-rewritten p (Token k s) = told-token [] s
    told-rewritten p (Node k f) = told-node (rewritten_from (λ p k. []) (number_token changes) cs p 0 f) (told-rewritten_from p 0 f)

    told-rewritten_from : (p : Path) (i : ℕ) (f : Forest ℕ) → AreTold (rewritten_from (λ p k. []) (number_token changes) cs p i f)
    told-rewritten_from p i end = told-given (gap_order (inserts_at cs p i))
    told-rewritten_from p i (more t f) =
        let before = gap (λ p k. []) (number_token changes) cs p i in
        let here = slot (λ p k. []) (number_token changes) cs (p ++ i ∷ []) (rewritten (λ p k. []) (number_token changes) cs (p ++ i ∷ []) t) in
        told-append (before ++ here) (rewritten_from (λ p k. []) (number_token changes) cs p (suc i) f) (told-append before here (told-given (gap_order (inserts_at cs p i))) (told-slot (p ++ i ∷ []) _ (told-rewritten (p ++ i ∷ []) t))) (told-rewritten_from p (suc i) f)

  pub numbers-of : (ms : List Mark) → map (λ m. m.number) ms ≡ map (λ m. m.0) (marks_of ms)
  numbers-of [] = refl
  numbers-of (m ∷ ms) = ap (λ ns. m.number ∷ ns) (numbers-of ms)

  numbers-of-marks : (t : SyntaxTree) → map (λ m. m.0) (marked_from 0 (rewritten_whole (λ p k. []) (number_token changes) cs t)) ≡ flat_map (λ k. k.0) (flat_map tokens (rewritten_whole (λ p k. []) (number_token changes) cs t))
  numbers-of-marks t = told-slot [] _ (told-rewritten [] t) 0

  pub numbers-of-root : (t : SyntaxTree) (u : Tree (List ℕ)) → rewritten_whole (λ p k. []) (number_token changes) cs t ≡ u ∷ [] → map (λ m. m.0) (marked u) ≡ flat_map (λ k. k.0) (flat_map tokens (rewritten_whole (λ p k. []) (number_token changes) cs t))
  numbers-of-root t u is =
      sym (numbers-below (0 ∷ []) (marked u)) ∙ ap numbers_in (sym (append-nil (map (mark_below (0 ∷ [])) (marked u)))) ∙ ap (λ us. numbers_in (marked_from 0 us)) (sym is) ∙ numbers-of-marks t

-- ---- what a change does to the text
module _ (root : Element) (changes : List Change) (table : GivenTable) (n : ℕ) where
  abbrev new_text : List ℕ
  new_text = flat_map text (given_in table n)

  pub pieces-none : slice_get changes n ≡ None → pieces_by root changes table n ≡ []
  pieces-none h = ap (λ o. option_map_or (altering_pieces root new_text) o []) h

  pub pieces-same : (c : Change) → slice_get changes n ≡ Some c → same_path (old_text root c) new_text ≡ true → pieces_by root changes table n ≡ []
  pieces-same c h same = ap (λ o. option_map_or (altering_pieces root new_text) o []) h ∙ ap (λ b. cond b [] (text_piece root new_text c ∷ [])) same

  pub pieces-other : (c : Change) → slice_get changes n ≡ Some c → same_path (old_text root c) new_text ≡ false → pieces_by root changes table n ≡ text_piece root new_text c ∷ []
  pieces-other c h other = ap (λ o. option_map_or (altering_pieces root new_text) o []) h ∙ ap (λ b. cond b [] (text_piece root new_text c ∷ [])) other

pub piece-is : (root : Element) (c : Change) (first stop : ℕ) (s new : List ℕ) → first ≡ offset root c → stop ≡ offset root c + length (old_text root c) → s ≡ new → record { first = first; stop = stop; text = s } ≡ text_piece root new c
piece-is root c first stop s new f g h =
    let moved : record { first = first; stop = stop; text = s } ≡ record { first = offset root c; stop = offset root c + length (old_text root c); text = s } = ap₂ (λ x y. record { first = x; stop = y; text = s }) f g in
    moved ∙ ap (λ t. text_piece root t c) h

-- ---- what each change gives
mutual
  text-plain : (t : OriginTree) → text (plain t) ≡ text t
  text-plain (Token l s) = refl
  text-plain (Node l f) = text-plain-forest f

  text-plain-forest : (f : Forest Origin) → forest_text (forest_relabelled (λ (o : Origin). o.kind) f) ≡ forest_text f
  text-plain-forest end = refl
  text-plain-forest (more t f) = ap₂ (λ a b. a ++ b) (text-plain t) (text-plain-forest f)

texts-plain : (ts : List OriginTree) → flat_map text (map plain ts) ≡ flat_map text ts
texts-plain [] = refl
texts-plain (t ∷ ts) = ap₂ (λ a b. a ++ b) (text-plain t) (texts-plain ts)

flat_map-alike : {X Y : Type 0} (f g : X → List Y) → ((x : X) → f x ≡ g x) → (xs : List X) → flat_map f xs ≡ flat_map g xs
flat_map-alike f g h [] = refl
flat_map-alike f g h (x ∷ xs) = ap₂ (λ a b. a ++ b) (h x) (flat_map-alike f g h xs)

pub pieces-given : (root : Element) (changes : List Change) (places : ℕ → Path) (table : GivenTable) → AreGiven changes places table → flat_map (pieces_by root changes table) (in_text_order root changes) ≡ text_pieces root changes places
pieces-given root changes places table are =
    flat_map-alike (pieces_by root changes table) (λ n. option_map_or (altering_pieces root (flat_map text (given changes places n))) (slice_get changes n) []) (λ n. ap (λ new. option_map_or (altering_pieces root new) (slice_get changes n) []) (ap (flat_map text) (are n) ∙ texts-plain (given changes places n))) (in_text_order root changes)

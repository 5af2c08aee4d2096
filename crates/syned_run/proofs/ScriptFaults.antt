-- When the text of a line says nothing, by a test that computes.
--     maybe_number, maybe_ref, maybe_kind      a field is for some number; for some reference; is the name of some kind
--     maybe_fields                             fields are those of some line that makes no tree
--     maybe_tree                               a text may be a line for a new tree: it begins with the word, has a `(` before the name of a
--                                              kind, and a `)`
--     says_nothing, nothing-said               a text may be none of these; then it says nothing
use Rattle.std.specs.Prelude.{◌≡◌, ℕ, zero, suc, ◌<◌, ◌==◌, ◌^◌, Bool, true, false, not, ◌&&◌, ◌||◌, cond, List, [], ◌∷◌, ◌++◌, length, Option, Some, None, slice_get, codes, bytes_eq, nat_eq, nat_lt, refl}
use Rattle.std.specs.List.{list_all, list_any, starts_with}
use Rattle.std.specs.Option.{option_or}
use Rattle.std.specs.Char.{digit_value}
use Rattle.std.specs.Str.Parse.{AllDigits, digits_value}
use Rattle.std.proofs.Common.{sym, ◌∙◌, ap, ap₂, subst, inl, inr}
use Rattle.std.proofs.lemmas.Bool.{cases_Bool, le-leb, lt-ltb, eq-eqb, eqb-true, false≢true}
use Rattle.std.proofs.lemmas.List.{append_assoc}
use Rattle.std.proofs.lemmas.List.Folds.{list_any-append}
use Rattle.std.proofs.lemmas.List.Sums.{list_all-from_AllPass}
use Rattle.std.proofs.lemmas.Slice.Eq.{bytes_eq-Decides}
use Rattle.cst_core.specs.Tree.{SyntaxTree, Token, Node}
use Rattle.cst_core.specs.Kind.{name_of, kind_names}
use Rattle.tree_text.specs.Grammar.{IsExpression, is_gap_space}
use Rattle.tree_text.specs.Grammar.{begins_with_name_byte}
use Rattle.tree_text.specs.KindNames.{name_in}
use Rattle.tree_text.specs.KindNames as kinds
use Rattle.script_lines.specs.Name.{IsName, starts_with_letter}
use Rattle.script_lines.specs.Name as names
use Rattle.script_lines.specs.ScriptLine.{Ref, Gap, First, Last, Before, After, ScriptLine, Blank, Kinds, Tree, Edit, Map, Insert, Delete, Replace, Range, Note, Remove, Order, Show, Spaced, Wrap, Shifted, Finish}
use Rattle.script_lines.specs.Line.{line_text, between, fields, is_comment, no_command, Each, IsNumber, IsRef, IsGap, IsSpaces, IsTreeLine, IsLine}
use Rattle.syned_run.proofs.ScriptLines.{both, syned, is_name, is_digit, is_numeral}
use Rattle.syned_run.proofs.ScriptRuns.{true-and}

-- ---- fields
abbrev maybe_number : List ℕ → Bool
maybe_number field = is_numeral field && nat_lt (digits_value 10 field) (2 ^ 64)

abbrev parts_maybe : List (List ℕ) → Bool
parts_maybe [] = false
parts_maybe (name ∷ slots) = is_name name && list_all maybe_number slots

abbrev maybe_ref : List ℕ → Bool
maybe_ref field = parts_maybe (between 47 field)

abbrev maybe_kind : List ℕ → Bool
maybe_kind field = list_any (bytes_eq field) kind_names

name-passes : (name : List ℕ) → IsName name → is_name name ≡ true
name-passes name named =
    true-and (starts_with_letter name && list_all names.is_name_byte name) _ (true-and (starts_with_letter name) _ named.0 (list_all-from_AllPass names.is_name_byte name named.1)) (le-leb (length name) 32 named.2)

digits-pass : (cs : List ℕ) → AllDigits 10 cs → list_all is_digit cs ≡ true
digits-pass [] all = refl
digits-pass (c ∷ cs) all = true-and (is_digit c) (list_all is_digit cs) (lt-ltb (digit_value c) 10 all.0) (digits-pass cs all.1)

number-passes : (field : List ℕ) (n : ℕ) → IsNumber field n → maybe_number field ≡ true
number-passes field n is =
    let numeral = true-and (nat_lt 0 (length field)) (list_all is_digit field) (lt-ltb 0 (length field) is.0.0) (digits-pass field is.0.1) in
    true-and (is_numeral field) (nat_lt (digits_value 10 field) (2 ^ 64)) numeral (lt-ltb (digits_value 10 field) (2 ^ 64) (subst (λ v. v < 2 ^ 64) (sym is.1) is.2))

numbers-pass : (fs : List (List ℕ)) (ns : List ℕ) → Each IsNumber fs ns → list_all maybe_number fs ≡ true
numbers-pass [] [] all = refl
numbers-pass [] (n ∷ ns) all = absurd all
numbers-pass (f ∷ fs) [] all = absurd all
numbers-pass (f ∷ fs) (n ∷ ns) all = true-and (maybe_number f) (list_all maybe_number fs) (number-passes f n all.0) (numbers-pass fs ns all.1)

ref-passes : (field : List ℕ) (r : Ref) → IsRef field r → maybe_ref field ≡ true
ref-passes field r is =
    ap parts_maybe is.parts ∙ true-and (is_name r.name) (list_all maybe_number is.slots) (name-passes r.name is.named) (numbers-pass is.slots r.path is.numbered)

refs-pass : (fs : List (List ℕ)) (rs : List Ref) → Each IsRef fs rs → list_all maybe_ref fs ≡ true
refs-pass [] [] all = refl
refs-pass [] (r ∷ rs) all = absurd all
refs-pass (f ∷ fs) [] all = absurd all
refs-pass (f ∷ fs) (r ∷ rs) all = true-and (maybe_ref f) (list_all maybe_ref fs) (ref-passes f r all.0) (refs-pass fs rs all.1)

or-right : (a b : Bool) → b ≡ true → (a || b) ≡ true
or-right true b h = refl
or-right false b h = h

listed : (ns : List (List ℕ)) (k : ℕ) (n : List ℕ) → slice_get ns k ≡ Some n → list_any (bytes_eq n) ns ≡ true
listed [] k n is = absurd (cc)
listed (m ∷ ns) zero n is =
    let same : n ≡ m = cc in
    ap (λ b. b || list_any (bytes_eq n) ns) ((bytes_eq-Decides n m).1 same)
listed (m ∷ ns) (suc k) n is = or-right (bytes_eq n m) (list_any (bytes_eq n) ns) (listed ns k n is)

kind-passes : (k : ℕ) (n : List ℕ) → name_of k ≡ Some n → maybe_kind n ≡ true
kind-passes k n is = listed kind_names k n is

-- ---- lines that make no tree, by their fields
abbrev is_place : List ℕ → Bool
is_place word = list_any (bytes_eq word) (codes "first" ∷ codes "last" ∷ codes "before" ∷ codes "after" ∷ [])

abbrev edit_fields : List (List ℕ) → Bool
edit_fields (name ∷ f ∷ []) = is_name name && maybe_ref f
edit_fields _ = false

abbrev map_fields : List (List ℕ) → Bool
map_fields (f ∷ g ∷ h ∷ []) = maybe_ref f && maybe_ref g && maybe_ref h
map_fields _ = false

abbrev insert_fields : List (List ℕ) → Bool
insert_fields (word ∷ f ∷ fs) = is_place word && maybe_ref f && list_all maybe_ref fs
insert_fields _ = false

abbrev delete_fields : List (List ℕ) → Bool
delete_fields (f ∷ []) = maybe_ref f
delete_fields _ = false

abbrev replace_fields : List (List ℕ) → Bool
replace_fields (f ∷ fs) = maybe_ref f && list_all maybe_ref fs
replace_fields _ = false

abbrev range_fields : List (List ℕ) → Bool
range_fields (f ∷ g ∷ fs) = maybe_ref f && maybe_ref g && list_all maybe_ref fs
range_fields _ = false

abbrev remove_fields : List (List ℕ) → Bool
remove_fields (f ∷ kind ∷ []) = maybe_ref f && maybe_kind kind
remove_fields _ = false

abbrev finish_fields : List (List ℕ) → Bool
finish_fields [] = true
finish_fields _ = false

-- those of a word
abbrev word_fields : List ℕ → List (List ℕ) → Bool
word_fields word fs =
    cond (bytes_eq word (codes "edit")) (edit_fields fs) (
    cond (bytes_eq word (codes "map")) (map_fields fs) (
    cond (bytes_eq word (codes "insert")) (insert_fields fs) (
    cond (bytes_eq word (codes "delete")) (delete_fields fs) (
    cond (bytes_eq word (codes "replace")) (replace_fields fs) (
    cond (bytes_eq word (codes "range")) (range_fields fs) (
    cond (bytes_eq word (codes "note")) (edit_fields fs) (
    cond (bytes_eq word (codes "remove")) (remove_fields fs) (
    cond (bytes_eq word (codes "order")) (list_all maybe_number fs) (
    cond (bytes_eq word (codes "finish")) (finish_fields fs) false)))))))))

abbrev maybe_fields : List (List ℕ) → Bool
maybe_fields [] = true
maybe_fields (word ∷ fs) = cond (is_comment word) true (word_fields word fs)

-- ---- lines for new trees
abbrev begins_tree : List ℕ → Bool
begins_tree [] = false
begins_tree (b ∷ bs) = cond (b == 32) (begins_tree bs) (starts_with nat_eq (b ∷ bs) (codes "tree"))

abbrev has : ℕ → List ℕ → Bool
has b text = list_any (nat_eq b) text

abbrev behind_open : List ℕ → List ℕ
behind_open [] = []
behind_open (b ∷ bs) = cond (nat_eq 40 b) bs (behind_open bs)

abbrev front_name : List ℕ → List ℕ
front_name [] = []
front_name (b ∷ bs) = cond (kinds.is_name_byte b) (b ∷ front_name bs) []

abbrev maybe_tree : List ℕ → Bool
maybe_tree text = begins_tree text && has 41 text && maybe_kind (front_name (behind_open text))

tree-begins : (before rest : List ℕ) → IsSpaces before → begins_tree (before ++ (codes "tree" ++ rest)) ≡ true
tree-begins [] rest spaces = refl
tree-begins (b ∷ before) rest spaces =
    ap (λ c. cond c (begins_tree (before ++ (codes "tree" ++ rest))) (starts_with nat_eq (b ∷ (before ++ (codes "tree" ++ rest))) (codes "tree"))) (eq-eqb b 32 spaces.0) ∙ tree-begins before rest spaces.1

-- a byte in a part
right-has : (b : ℕ) (xs ys : List ℕ) → has b ys ≡ true → has b (xs ++ ys) ≡ true
right-has b xs ys h = list_any-append (nat_eq b) xs ys ∙ or-right (has b xs) (has b ys) h

left-has : (b : ℕ) (xs ys : List ℕ) → has b xs ≡ true → has b (xs ++ ys) ≡ true
left-has b xs ys h = list_any-append (nat_eq b) xs ys ∙ ap (λ c. c || has b ys) h

-- no `(` in spaces and names
opens-not : (xs ys : List ℕ) → has 40 xs ≡ false → has 40 ys ≡ false → has 40 (xs ++ ys) ≡ false
opens-not xs ys h i = list_any-append (nat_eq 40) xs ys ∙ ap₂ (λ a b. a || b) h i

spaces-open : (s : List ℕ) → IsSpaces s → has 40 s ≡ false
spaces-open [] spaces = refl
spaces-open (b ∷ s) spaces = ap₂ (λ c d. c || d) (ap (nat_eq 40) spaces.0) (spaces-open s spaces.1)

name-open : (s : List ℕ) → list_all names.is_name_byte s ≡ true → has 40 s ≡ false
name-open [] all = refl
name-open (b ∷ s) all =
    let parts = both (names.is_name_byte b) (list_all names.is_name_byte s) all in
    elim (cases_Bool (nat_eq 40 b)) [
      | inl same ↦ absurd (false≢true (ap names.is_name_byte (eqb-true 40 b same) ∙ parts.0))
      | inr differ ↦ ap₂ (λ c d. c || d) differ (name-open s parts.1)
    ]

behind-open : (before w : List ℕ) → has 40 before ≡ false → behind_open (before ++ 40 ∷ w) ≡ w
behind-open [] w none = refl
behind-open (b ∷ before) w none = step (nat_eq 40 b) none (behind-open before w) where
  step : (c : Bool) → (c || has 40 before) ≡ false → (has 40 before ≡ false → behind_open (before ++ 40 ∷ w) ≡ w) → cond c (before ++ 40 ∷ w) (behind_open (before ++ 40 ∷ w)) ≡ w
  step true h later = absurd (false≢true (sym h))
  step false h later = later h

front-ends : (w : List ℕ) → begins_with_name_byte w ≡ false → front_name w ≡ []
front-ends [] ends = refl
front-ends (b ∷ w) ends = ap (λ c. cond c (b ∷ front_name w) []) ends

front-is : (n w : List ℕ) → list_all kinds.is_name_byte n ≡ true → begins_with_name_byte w ≡ false → front_name (n ++ w) ≡ n
front-is [] w all ends = front-ends w ends
front-is (b ∷ n) w all ends =
    let parts = both (kinds.is_name_byte b) (list_all kinds.is_name_byte n) all in
    ap (λ c. cond c (b ∷ front_name (n ++ w)) []) parts.0 ∙ ap (λ m. b ∷ m) (front-is n w parts.1 ends)

-- the name of a kind
own-name : (o : Option (List ℕ)) (n : List ℕ) → option_or o None ≡ Some n → o ≡ Some n
own-name None n is = is
own-name (Some m) n is = is

passes-at : (test : List ℕ → Bool) (ns : List (List ℕ)) (k : ℕ) (n : List ℕ) → list_all test ns ≡ true → slice_get ns k ≡ Some n → test n ≡ true
passes-at test [] k n all is = absurd (cc)
passes-at test (m ∷ ns) zero n all is =
    let same : m ≡ n = cc in
    ap test (sym same) ∙ (both (test m) (list_all test ns) all).0
passes-at test (m ∷ ns) (suc k) n all is = passes-at test ns k n (both (test m) (list_all test ns) all).1 is

-- what is written for a node: a `(`, a name, and what ends by a `)`
pub record Written (w : List ℕ) : Type 0 where
  pub kind : ℕ
  pub name : List ℕ
  pub inside : List ℕ
  pub is : w ≡ 40 ∷ (name ++ (inside ++ 41 ∷ []))
  pub named : name_of kind ≡ Some name
  pub ends : begins_with_name_byte inside ≡ false

written : (t : SyntaxTree) (w : List ℕ) → IsExpression (name_in []) is_gap_space t w → Written w
written (Token k s) w h = absurd (false≢true (sym h.0))
written (Node k f) w h =
    let opened = h.1 in
    let kind = opened.is_second in
    let elements = kind.is_second in
    record {
      kind = k;
      name = kind.first;
      inside = elements.first;
      is = opened.joined ∙ ap₂ (λ x y. x ++ y) opened.is_first (kind.joined ∙ ap (λ x. kind.first ++ x) (elements.joined ∙ ap (λ x. elements.first ++ x) elements.is_second));
      named = own-name (name_of k) kind.first kind.is_first;
      ends = elements.is_first.0;
    }

apart : (a b : List ℕ) → begins_with_name_byte a ≡ false → begins_with_name_byte ((a ++ 41 ∷ []) ++ b) ≡ false
apart [] b ends = refl
apart (x ∷ a) b ends = ends

tree-passes : (text name : List ℕ) (root : SyntaxTree) → IsTreeLine syned text name root → maybe_tree (line_text text) ≡ true
tree-passes text name root is =
    let e = written root is.expression is.drawn.0 in
    let before = is.before ++ codes "tree" ++ is.between ++ name ++ is.after in
    let whole : List ℕ = before ++ 40 ∷ ((e.name ++ (e.inside ++ 41 ∷ [])) ++ is.rest) in
    let same : line_text text ≡ whole = is.is ∙ append_assoc before is.expression is.rest ∙ ap (λ w. before ++ (w ++ is.rest)) e.is in
    let behind : List ℕ = codes "tree" ++ (is.between ++ (name ++ (is.after ++ 40 ∷ ((e.name ++ (e.inside ++ 41 ∷ [])) ++ is.rest)))) in
    let regrouped : whole ≡ is.before ++ behind = regroup is.before (codes "tree") is.between name is.after (40 ∷ ((e.name ++ (e.inside ++ 41 ∷ [])) ++ is.rest)) in
    let first : begins_tree whole ≡ true = ap begins_tree regrouped ∙ tree-begins is.before (is.between ++ (name ++ (is.after ++ 40 ∷ ((e.name ++ (e.inside ++ 41 ∷ [])) ++ is.rest)))) is.spaces.0 in
    let close : has 41 whole ≡ true = right-has 41 before _ (left-has 41 (e.name ++ (e.inside ++ 41 ∷ [])) is.rest (right-has 41 e.name (e.inside ++ 41 ∷ []) (right-has 41 e.inside (41 ∷ []) refl))) in
    let none : has 40 before ≡ false = opens-not (is.before ++ codes "tree" ++ is.between ++ name) is.after (opens-not (is.before ++ codes "tree" ++ is.between) name (opens-not (is.before ++ codes "tree") is.between (opens-not is.before (codes "tree") (spaces-open is.before is.spaces.0) refl) (spaces-open is.between is.spaces.1)) (name-open name (list_all-from_AllPass names.is_name_byte name is.named.1))) (spaces-open is.after is.spaces.2) in
    let spelled : list_all kinds.is_name_byte e.name ≡ true = passes-at (list_all kinds.is_name_byte) kind_names e.kind e.name refl e.named in
    let found : front_name (behind_open whole) ≡ e.name =
    ap front_name (behind-open before _ none ∙ append_assoc e.name (e.inside ++ 41 ∷ []) is.rest) ∙ front-is e.name ((e.inside ++ 41 ∷ []) ++ is.rest) spelled (apart e.inside is.rest e.ends) in
    let kind : maybe_kind (front_name (behind_open whole)) ≡ true = ap maybe_kind found ∙ kind-passes e.kind e.name e.named in
    ap maybe_tree same ∙ true-and (begins_tree whole && has 41 whole) _ (true-and (begins_tree whole) (has 41 whole) first close) kind
  where
    regroup : (a b c d e f : List ℕ) → (a ++ b ++ c ++ d ++ e) ++ f ≡ a ++ (b ++ (c ++ (d ++ (e ++ f))))
    regroup a b c d e f = simp append_assoc

-- ---- lines that say nothing
abbrev pub says_nothing : List ℕ → Bool
says_nothing text = not (maybe_fields (fields text)) && not (maybe_tree (line_text text))

refuted : {A : Type 0} (fs gs : List (List ℕ)) → not (maybe_fields fs) ≡ true → fs ≡ gs → maybe_fields gs ≡ true → A
refuted fs gs h is passes = absurd (false≢true (sym (ap not (ap maybe_fields is ∙ passes)) ∙ h))

blank-passes : (fs : List (List ℕ)) → no_command fs ≡ true → maybe_fields fs ≡ true
blank-passes [] h = refl
blank-passes (f ∷ fs) h = ap (λ b. cond b true (word_fields f fs)) h

gap-passes : (word f : List ℕ) (fs : List (List ℕ)) (at : Gap) → IsGap word f at → list_all maybe_ref fs ≡ true → insert_fields (word ∷ f ∷ fs) ≡ true
gap-passes word f fs (First r) is all = true-and (is_place word && maybe_ref f) _ (true-and (is_place word) (maybe_ref f) (ap is_place is.0) (ref-passes f r is.1)) all
gap-passes word f fs (Last r) is all = true-and (is_place word && maybe_ref f) _ (true-and (is_place word) (maybe_ref f) (ap is_place is.0) (ref-passes f r is.1)) all
gap-passes word f fs (Before r) is all = true-and (is_place word && maybe_ref f) _ (true-and (is_place word) (maybe_ref f) (ap is_place is.0) (ref-passes f r is.1)) all
gap-passes word f fs (After r) is all = true-and (is_place word && maybe_ref f) _ (true-and (is_place word) (maybe_ref f) (ap is_place is.0) (ref-passes f r is.1)) all

unsaid : (text : List ℕ) → not (maybe_fields (fields text)) ≡ true → not (maybe_tree (line_text text)) ≡ true → (l : ScriptLine) → IsLine syned text l → ⊥
unsaid text h t (Kinds names) said = false≢true said.0
unsaid text h t (Show detail) said = false≢true said.0
unsaid text h t (Spaced at payload) said = false≢true said.3
unsaid text h t (Wrap node kind before after) said = false≢true said.4
unsaid text h t (Shifted shift name node) said = false≢true said.1
unsaid text h t Blank said = refuted (fields text) (fields text) h refl (blank-passes (fields text) said)
unsaid text h t (Tree name root) said = false≢true (sym (ap not (tree-passes text name root said)) ∙ t)
unsaid text h t (Edit name node) said = refuted (fields text) _ h said.1 (true-and (is_name name) (maybe_ref said.0) (name-passes name said.2) (ref-passes said.0 node said.3))
unsaid text h t (Map parent input output) said =
    refuted (fields text) _ h said.3 (true-and (maybe_ref said.0 && maybe_ref said.1) (maybe_ref said.2) (true-and (maybe_ref said.0) (maybe_ref said.1) (ref-passes said.0 parent said.4) (ref-passes said.1 input said.5)) (ref-passes said.2 output said.6))
unsaid text h t (Insert at payload) said = refuted (fields text) _ h said.3 (gap-passes said.0 said.1 said.2 at said.4 (refs-pass said.2 payload said.5))
unsaid text h t (Delete target) said = refuted (fields text) _ h said.1 (ref-passes said.0 target said.2)
unsaid text h t (Replace target payload) said =
    refuted (fields text) _ h said.2 (true-and (maybe_ref said.0) (list_all maybe_ref said.1) (ref-passes said.0 target said.3) (refs-pass said.1 payload said.4))
unsaid text h t (Range first last payload) said =
    refuted (fields text) _ h said.3 (true-and (maybe_ref said.0 && maybe_ref said.1) (list_all maybe_ref said.2) (true-and (maybe_ref said.0) (maybe_ref said.1) (ref-passes said.0 first said.4) (ref-passes said.1 last said.5)) (refs-pass said.2 payload said.6))
unsaid text h t (Note word element) said = refuted (fields text) _ h said.1 (true-and (is_name word) (maybe_ref said.0) (name-passes word said.2) (ref-passes said.0 element said.3))
unsaid text h t (Remove element separator) said =
    refuted (fields text) _ h said.2 (true-and (maybe_ref said.0) (maybe_kind said.1) (ref-passes said.0 element said.3) (kind-passes separator.0 said.1 (own-name (name_of separator.0) said.1 said.4)))
unsaid text h t (Order order) said = refuted (fields text) _ h said.1 (numbers-pass said.0 order said.2)
unsaid text h t Finish said = refuted (fields text) _ h said refl

pub nothing-said : (text : List ℕ) → says_nothing text ≡ true → (l : ScriptLine) → IsLine syned text l → ⊥
nothing-said text h =
    let parts = both (not (maybe_fields (fields text))) (not (maybe_tree (line_text text))) h in
    unsaid text parts.0 parts.1

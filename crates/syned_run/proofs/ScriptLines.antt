-- When the text of a line says what is wanted, by a test that computes.
--     both                  two tests that hold together
--     same_fields           two lists of fields are equal
--     is_name               a text is a name of a script
--     is_digit, is_numeral, reads_number, all_numbers      a digit; digits; those of this number; fields are for these numbers
--     refers, all_refer     a field is for this reference; fields are for these
--     gap_word, gap_ref     the word of a position, and the element beside it
--     begins                fields are these words, and for these references
--     past_line, is_drawn   what is left behind a line for a new tree; its tree is one that a line may have
--     reads                 a text says this line
--     says                  where the test holds, it does, in the dialect `Syned`
use Rattle.std.specs.Prelude.{◌≡◌, ℕ, ◌^◌, Bool, true, false, not, ◌&&◌, List, [], ◌∷◌, ◌++◌, length, Option, Some, None, option_map, option_and_then, codes, bytes_eq, nat_eq, nat_le, nat_lt, refl}
use Rattle.std.specs.List.{list_all}
use Rattle.std.specs.Char.{digit_value}
use Rattle.std.specs.Str.Parse.{AllDigits, digits_value}
use Rattle.std.proofs.Common.{◌∙◌, ap, ap₂}
use Rattle.std.proofs.lemmas.Bool.{and_parts, leb-true, ltb-true, eqb-true, false≢true}
use Rattle.std.proofs.lemmas.List.{append_assoc, append-nil}
use Rattle.std.proofs.lemmas.List.Sums.{AllPass-from_list_all}
use Rattle.std.proofs.lemmas.Slice.Eq.{bytes_eq-Decides}
use Rattle.cst_core.specs.Tree.{SyntaxTree, Token, Node, is_token}
use Rattle.tree_text.specs.Depth.{depth, depth_limit}
use Rattle.tree_text.specs.Grammar.{IsExactly}
use Rattle.tree_text.specs.KindNames.{name_in}
use Rattle.script_lines.specs.Dialect.{Language, new_language}
use Rattle.script_lines.specs.declared.dialect.Dialect.TheVariants.{Syned}
use Rattle.script_lines.specs.Name.{IsName, is_name_byte, starts_with_letter}
use Rattle.script_lines.specs.ScriptLine.{Ref, Gap, First, Last, Before, After, ScriptLine, Blank, Kinds, Tree, Edit, Map, Insert, Delete, Replace, Range, Note, Remove, Order, Show, Spaced, Wrap, Shifted, Finish}
use Rattle.script_lines.specs.Line.{line_text, between, fields, is_blank, Each, IsNumber, IsRef, IsGap, IsTreeLine, IsLine}
use Rattle.syned_run.proofs.ScriptExpressions.{Past, past_text, text-past, past_gap, gap-past, past_spaces, spaces-past, past_tree, tree-past, both-there}

-- ---- tests
pub both : (a b : Bool) → (a && b) ≡ true → (a ≡ true) × (b ≡ true)
both a b h = and_parts a b h

abbrev pub same_fields : List (List ℕ) → List (List ℕ) → Bool
same_fields [] [] = true
same_fields [] (y ∷ ys) = false
same_fields (x ∷ xs) [] = false
same_fields (x ∷ xs) (y ∷ ys) = bytes_eq x y && same_fields xs ys

pub fields-same : (xs ys : List (List ℕ)) → same_fields xs ys ≡ true → xs ≡ ys
fields-same [] [] h = refl
fields-same [] (y ∷ ys) h = absurd (false≢true h)
fields-same (x ∷ xs) [] h = absurd (false≢true h)
fields-same (x ∷ xs) (y ∷ ys) h =
    let parts = both (bytes_eq x y) (same_fields xs ys) h in
    ap₂ (λ f fs. f ∷ fs) ((bytes_eq-Decides x y).0 parts.0) (fields-same xs ys parts.1)

-- ---- names, numbers and references
abbrev pub is_name : List ℕ → Bool
is_name name = starts_with_letter name && list_all is_name_byte name && nat_le (length name) 32

pub named : (name : List ℕ) → is_name name ≡ true → IsName name
named name h =
    let parts = both (starts_with_letter name && list_all is_name_byte name) (nat_le (length name) 32) h in
    let letters = both (starts_with_letter name) (list_all is_name_byte name) parts.0 in
    (letters.0, AllPass-from_list_all is_name_byte name letters.1, leb-true (length name) 32 parts.1)

abbrev pub is_digit : ℕ → Bool
is_digit c = nat_lt (digit_value c) 10

abbrev pub is_numeral : List ℕ → Bool
is_numeral field = nat_lt 0 (length field) && list_all is_digit field

abbrev pub reads_number : List ℕ → ℕ → Bool
reads_number field n = is_numeral field && nat_eq (digits_value 10 field) n && nat_lt n (2 ^ 64)

digits-are : (cs : List ℕ) → list_all is_digit cs ≡ true → AllDigits 10 cs
digits-are [] h = tt
digits-are (c ∷ cs) h =
    let parts = both (is_digit c) (list_all is_digit cs) h in
    (ltb-true (digit_value c) 10 parts.0, digits-are cs parts.1)

number : (field : List ℕ) (n : ℕ) → reads_number field n ≡ true → IsNumber field n
number field n h =
    let parts = both (is_numeral field && nat_eq (digits_value 10 field) n) (nat_lt n (2 ^ 64)) h in
    let front = both (is_numeral field) (nat_eq (digits_value 10 field) n) parts.0 in
    let numeral = both (nat_lt 0 (length field)) (list_all is_digit field) front.0 in
    ((ltb-true 0 (length field) numeral.0, digits-are field numeral.1), eqb-true (digits_value 10 field) n front.1, ltb-true n (2 ^ 64) parts.1)

abbrev pub all_numbers : List (List ℕ) → List ℕ → Bool
all_numbers [] [] = true
all_numbers [] (n ∷ ns) = false
all_numbers (f ∷ fs) [] = false
all_numbers (f ∷ fs) (n ∷ ns) = reads_number f n && all_numbers fs ns

numbers : (fs : List (List ℕ)) (ns : List ℕ) → all_numbers fs ns ≡ true → Each IsNumber fs ns
numbers [] [] h = tt
numbers [] (n ∷ ns) h = absurd (false≢true h)
numbers (f ∷ fs) [] h = absurd (false≢true h)
numbers (f ∷ fs) (n ∷ ns) h =
    let parts = both (reads_number f n) (all_numbers fs ns) h in
    (number f n parts.0, numbers fs ns parts.1)

-- the parts of a reference, its name first
abbrev parts_refer : List (List ℕ) → Ref → Bool
parts_refer [] r = false
parts_refer (name ∷ slots) r = bytes_eq name r.name && is_name r.name && all_numbers slots r.path

abbrev pub refers : List ℕ → Ref → Bool
refers field r = parts_refer (between 47 field) r

parts-are : (field : List ℕ) (parts : List (List ℕ)) (r : Ref) → between 47 field ≡ parts → parts_refer parts r ≡ true → IsRef field r
parts-are field [] r is h = absurd (false≢true h)
parts-are field (name ∷ slots) r is h =
    let parts = both (bytes_eq name r.name && is_name r.name) (all_numbers slots r.path) h in
    let front = both (bytes_eq name r.name) (is_name r.name) parts.0 in
    record { slots = slots; parts = is ∙ ap (λ n. n ∷ slots) ((bytes_eq-Decides name r.name).0 front.0); named = named r.name front.1; numbered = numbers slots r.path parts.1 }

pub is_ref : (field : List ℕ) (r : Ref) → refers field r ≡ true → IsRef field r
is_ref field r h = parts-are field (between 47 field) r refl h

abbrev pub all_refer : List (List ℕ) → List Ref → Bool
all_refer [] [] = true
all_refer [] (r ∷ rs) = false
all_refer (f ∷ fs) [] = false
all_refer (f ∷ fs) (r ∷ rs) = refers f r && all_refer fs rs

pub are_refs : (fs : List (List ℕ)) (rs : List Ref) → all_refer fs rs ≡ true → Each IsRef fs rs
are_refs [] [] h = tt
are_refs [] (r ∷ rs) h = absurd (false≢true h)
are_refs (f ∷ fs) [] h = absurd (false≢true h)
are_refs (f ∷ fs) (r ∷ rs) h =
    let parts = both (refers f r) (all_refer fs rs) h in
    (is_ref f r parts.0, are_refs fs rs parts.1)

-- ---- the fields of a line: its word, and others that are no references; then those that are
abbrev pub gap_word : Gap → List ℕ
gap_word (First node) = codes "first"
gap_word (Last node) = codes "last"
gap_word (Before element) = codes "before"
gap_word (After element) = codes "after"

abbrev pub gap_ref : Gap → Ref
gap_ref (First node) = node
gap_ref (Last node) = node
gap_ref (Before element) = element
gap_ref (After element) = element

pub is_gap : (beside : List ℕ) (at : Gap) → IsRef beside (gap_ref at) → IsGap (gap_word at) beside at
is_gap beside (First node) h = (refl, h)
is_gap beside (Last node) h = (refl, h)
is_gap beside (Before element) h = (refl, h)
is_gap beside (After element) h = (refl, h)

-- these words first, and references for the rest
abbrev pub begins : List (List ℕ) → List (List ℕ) → List Ref → Bool
begins fs [] rs = all_refer fs rs
begins [] (w ∷ ws) rs = false
begins (f ∷ fs) (w ∷ ws) rs = bytes_eq f w && begins fs ws rs

pub record Begins (fs ws : List (List ℕ)) (rs : List Ref) : Type 0 where
  pub others : List (List ℕ)
  pub is : fs ≡ ws ++ others
  pub are : Each IsRef others rs

pub begin : (fs ws : List (List ℕ)) (rs : List Ref) → begins fs ws rs ≡ true → Begins fs ws rs
begin fs [] rs h = record { others = fs; is = refl; are = are_refs fs rs h }
begin [] (w ∷ ws) rs h = absurd (false≢true h)
begin (f ∷ fs) (w ∷ ws) rs h =
    let parts = both (bytes_eq f w) (begins fs ws rs) h in
    let rest = begin fs ws rs parts.1 in
    record { others = rest.others; is = ap₂ (λ x xs. x ∷ xs) ((bytes_eq-Decides f w).0 parts.0) rest.is; are = rest.are }

-- as many fields as references
one : (fs : List (List ℕ)) (r : Ref) → Each IsRef fs (r ∷ []) → (f : List ℕ) × (fs ≡ f ∷ []) × IsRef f r
one [] r h = absurd h
one (f ∷ []) r h = (f, refl, h.0)
one (f ∷ g ∷ fs) r h = absurd h.1

more : (fs : List (List ℕ)) (r : Ref) (rs : List Ref) → Each IsRef fs (r ∷ rs) → (f : List ℕ) × (gs : List (List ℕ)) × (fs ≡ f ∷ gs) × IsRef f r × Each IsRef gs rs
more [] r rs h = absurd h
more (f ∷ fs) r rs h = (f, fs, refl, h.0, h.1)

-- ---- lines
-- scripts of the dialect `Syned` are read so
abbrev pub syned : Language
syned = new_language Syned

abbrev pub is_drawn : SyntaxTree → Bool
is_drawn root = not (is_token root) && nat_le (depth root) depth_limit

-- spaces, the word, spaces, the name, spaces, the expression, spaces
abbrev past_line : List ℕ → SyntaxTree → List ℕ → Option (List ℕ)
past_line name root w =
    option_and_then (λ a. option_and_then (λ b. option_and_then (λ c. option_and_then (λ d. option_map past_gap (past_tree root d)) (past_spaces c)) (past_text name b)) (past_spaces a)) (past_text (codes "tree") (past_gap w))

abbrev is_past : Option (List ℕ) → Bool
is_past (Some []) = true
is_past _ = false

abbrev kind_field : Option (List ℕ) → List ℕ → Bool
kind_field None kind = false
kind_field (Some name) kind = bytes_eq name kind

abbrev removes : List (List ℕ) → Ref → Option (List ℕ) → Bool
removes (w ∷ f ∷ kind ∷ []) element named = bytes_eq w (codes "remove") && refers f element && kind_field named kind
removes _ element named = false

abbrev orders : List (List ℕ) → List ℕ → Bool
orders [] order = false
orders (w ∷ fs) order = bytes_eq w (codes "order") && all_numbers fs order

abbrev pub reads : List ℕ → ScriptLine → Bool
reads text Blank = is_blank text
reads text (Kinds names) = false
reads text (Show detail) = false
reads text (Spaced at payload) = false
reads text (Wrap node kind before after) = false
reads text (Shifted shift name node) = false
reads text (Tree name root) = is_past (past_line name root (line_text text)) && is_name name && is_drawn root
reads text (Edit name node) = begins (fields text) (codes "edit" ∷ name ∷ []) (node ∷ []) && is_name name
reads text (Map parent input output) = begins (fields text) (codes "map" ∷ []) (parent ∷ input ∷ output ∷ [])
reads text (Insert at payload) = begins (fields text) (codes "insert" ∷ gap_word at ∷ []) (gap_ref at ∷ payload)
reads text (Delete target) = begins (fields text) (codes "delete" ∷ []) (target ∷ [])
reads text (Replace target payload) = begins (fields text) (codes "replace" ∷ []) (target ∷ payload)
reads text (Range first last payload) = begins (fields text) (codes "range" ∷ []) (first ∷ last ∷ payload)
reads text (Note word element) = begins (fields text) (codes "note" ∷ word ∷ []) (element ∷ []) && is_name word
reads text (Remove element separator) = removes (fields text) element (name_in [] separator.0)
reads text (Order order) = orders (fields text) order
reads text Finish = same_fields (fields text) (codes "finish" ∷ [])

not-token : (t : SyntaxTree) → not (is_token t) ≡ true → is_token t ≡ false
not-token (Token k s) h = absurd (false≢true h)
not-token (Node k f) h = refl

past-is : (o : Option (List ℕ)) → is_past o ≡ true → o ≡ Some []
past-is None h = absurd (false≢true h)
past-is (Some []) h = refl
past-is (Some (b ∷ bs)) h = absurd (false≢true h)

mapped-is : (o : Option (List ℕ)) → option_map past_gap o ≡ Some [] → (w : List ℕ) × (o ≡ Some w) × (past_gap w ≡ [])
mapped-is None h = absurd (cc)
mapped-is (Some w) h = let none : past_gap w ≡ [] = cc in (w, refl, none)

regroup : (a b c d e f g : List ℕ) → a ++ (b ++ (c ++ (d ++ (e ++ (f ++ g))))) ≡ a ++ b ++ c ++ d ++ e ++ f ++ g
regroup a b c d e f g = simp append_assoc

assemble : (w a b c d e f g v1 v2 v3 v4 v5 v6 : List ℕ) → w ≡ a ++ v1 → v1 ≡ b ++ v2 → v2 ≡ c ++ v3 → v3 ≡ d ++ v4 → v4 ≡ e ++ v5 → v5 ≡ f ++ v6 → v6 ≡ g ++ [] → w ≡ a ++ b ++ c ++ d ++ e ++ f ++ g
assemble w a b c d e f g v1 v2 v3 v4 v5 v6 h1 h2 h3 h4 h5 h6 h7 =
    h1 ∙ ap (λ x. a ++ x) (h2 ∙ ap (λ x. b ++ x) (h3 ∙ ap (λ x. c ++ x) (h4 ∙ ap (λ x. d ++ x) (h5 ∙ ap (λ x. e ++ x) (h6 ∙ ap (λ x. f ++ x) (h7 ∙ append-nil g)))))) ∙ regroup a b c d e f g

exact : (s w r : List ℕ) → Past (IsExactly s) w r → w ≡ s ++ r
exact s w r p = p.is ∙ ap (λ x. x ++ r) p.says

to-end : {P : List ℕ → Type 0} (w r : List ℕ) (p : Past P w r) → r ≡ [] → w ≡ p.front ++ []
to-end w r p none = p.is ∙ ap (λ x. p.front ++ x) none

drawn : (text name : List ℕ) (root : SyntaxTree) → past_line name root (line_text text) ≡ Some [] → IsName name → is_drawn root ≡ true → IsTreeLine syned text name root
drawn text name root past spelled h =
    let parts = both (not (is_token root)) (nat_le (depth root) depth_limit) h in
    let w = line_text text in
    let word = both-there (past_text (codes "tree") (past_gap w)) _ [] past in
    let between = both-there (past_spaces word.value) _ [] word.then in
    let named = both-there (past_text name between.value) _ [] between.then in
    let after = both-there (past_spaces named.value) _ [] named.then in
    let tree = mapped-is (past_tree root after.value) after.then in
    let a = gap-past w in
    let b = text-past (codes "tree") (past_gap w) word.value word.first in
    let c = spaces-past word.value between.value between.first in
    let d = text-past name between.value named.value named.first in
    let e = spaces-past named.value after.value after.first in
    let f = tree-past root after.value tree.0 tree.1 in
    let g = gap-past tree.0 in
    record {
      before = a.front;
      between = c.front;
      after = e.front;
      expression = f.front;
      rest = g.front;
      is = assemble w a.front (codes "tree") c.front name e.front f.front g.front (past_gap w) word.value between.value named.value after.value tree.0 a.is (exact (codes "tree") (past_gap w) word.value b) c.is (exact name between.value named.value d) e.is f.is (to-end tree.0 (past_gap tree.0) g tree.2);
      spaces = (a.says, c.says.0, e.says.0, g.says);
      apart = (c.says.1, e.says.1);
      named = spelled;
      drawn = ((not-token root parts.0, f.says), leb-true (depth root) depth_limit parts.1);
    }

-- ---- removals
pub record Removes (fs : List (List ℕ)) (element : Ref) (named : Option (List ℕ)) : Type 0 where
  pub field : List ℕ
  pub kind : List ℕ
  pub is : fs ≡ codes "remove" ∷ field ∷ kind ∷ []
  pub referred : IsRef field element
  pub is_kind : named ≡ Some kind

kind-is : (named : Option (List ℕ)) (kind : List ℕ) → kind_field named kind ≡ true → named ≡ Some kind
kind-is None kind h = absurd (false≢true h)
kind-is (Some name) kind h = ap Some ((bytes_eq-Decides name kind).0 h)

removed : (fs : List (List ℕ)) (element : Ref) (named : Option (List ℕ)) → removes fs element named ≡ true → Removes fs element named
removed (w ∷ f ∷ kind ∷ []) element named h =
    let parts = both (bytes_eq w (codes "remove") && refers f element) (kind_field named kind) h in
    let front = both (bytes_eq w (codes "remove")) (refers f element) parts.0 in
    record { field = f; kind = kind; is = ap (λ x. x ∷ f ∷ kind ∷ []) ((bytes_eq-Decides w (codes "remove")).0 front.0); referred = is_ref f element front.1; is_kind = kind-is named kind parts.1 }
removed fs element named h = absurd (false≢true h)

ordered : (fs : List (List ℕ)) (order : List ℕ) → orders fs order ≡ true → (gs : List (List ℕ)) × (fs ≡ codes "order" ∷ gs) × Each IsNumber gs order
ordered [] order h = absurd (false≢true h)
ordered (w ∷ fs) order h =
    let parts = both (bytes_eq w (codes "order")) (all_numbers fs order) h in
    (fs, ap (λ x. x ∷ fs) ((bytes_eq-Decides w (codes "order")).0 parts.0), numbers fs order parts.1)

-- ---- what a text says
pub says : (text : List ℕ) (l : ScriptLine) → reads text l ≡ true → IsLine syned text l
says text Blank h = h
says text (Kinds names) h = absurd (false≢true h)
says text (Show detail) h = absurd (false≢true h)
says text (Spaced at payload) h = absurd (false≢true h)
says text (Wrap node kind before after) h = absurd (false≢true h)
says text (Shifted shift name node) h = absurd (false≢true h)
says text (Tree name root) h =
    let parts = both (is_past (past_line name root (line_text text)) && is_name name) (is_drawn root) h in
    let front = both (is_past (past_line name root (line_text text))) (is_name name) parts.0 in
    drawn text name root (past-is (past_line name root (line_text text)) front.0) (named name front.1) parts.1
says text (Edit name node) h =
    let parts = both (begins (fields text) (codes "edit" ∷ name ∷ []) (node ∷ [])) (is_name name) h in
    let b = begin (fields text) (codes "edit" ∷ name ∷ []) (node ∷ []) parts.0 in
    let o = one b.others node b.are in
    (o.0, b.is ∙ ap (λ fs. codes "edit" ∷ name ∷ fs) o.1, named name parts.1, o.2)
says text (Map parent input output) h =
    let b = begin (fields text) (codes "map" ∷ []) (parent ∷ input ∷ output ∷ []) h in
    let p = more b.others parent (input ∷ output ∷ []) b.are in
    let i = more p.1 input (output ∷ []) p.4 in
    let o = one i.1 output i.4 in
    (p.0, i.0, o.0, b.is ∙ ap (λ fs. codes "map" ∷ fs) (p.2 ∙ ap (λ fs. p.0 ∷ fs) (i.2 ∙ ap (λ fs. i.0 ∷ fs) o.1)), p.3, i.3, o.2)
says text (Insert at payload) h =
    let b = begin (fields text) (codes "insert" ∷ gap_word at ∷ []) (gap_ref at ∷ payload) h in
    let f = more b.others (gap_ref at) payload b.are in
    (gap_word at, f.0, f.1, b.is ∙ ap (λ fs. codes "insert" ∷ gap_word at ∷ fs) f.2, is_gap f.0 at f.3, f.4)
says text (Delete target) h =
    let b = begin (fields text) (codes "delete" ∷ []) (target ∷ []) h in
    let o = one b.others target b.are in
    (o.0, b.is ∙ ap (λ fs. codes "delete" ∷ fs) o.1, o.2)
says text (Replace target payload) h =
    let b = begin (fields text) (codes "replace" ∷ []) (target ∷ payload) h in
    let f = more b.others target payload b.are in
    (f.0, f.1, b.is ∙ ap (λ fs. codes "replace" ∷ fs) f.2, f.3, f.4)
says text (Range first last payload) h =
    let b = begin (fields text) (codes "range" ∷ []) (first ∷ last ∷ payload) h in
    let f = more b.others first (last ∷ payload) b.are in
    let g = more f.1 last payload f.4 in
    (f.0, g.0, g.1, b.is ∙ ap (λ fs. codes "range" ∷ fs) (f.2 ∙ ap (λ fs. f.0 ∷ fs) g.2), f.3, g.3, g.4)
says text (Note word element) h =
    let parts = both (begins (fields text) (codes "note" ∷ word ∷ []) (element ∷ [])) (is_name word) h in
    let b = begin (fields text) (codes "note" ∷ word ∷ []) (element ∷ []) parts.0 in
    let o = one b.others element b.are in
    (o.0, b.is ∙ ap (λ fs. codes "note" ∷ word ∷ fs) o.1, named word parts.1, o.2)
says text (Remove element separator) h =
    let r = removed (fields text) element (name_in [] separator.0) h in
    (r.field, r.kind, r.is, r.referred, r.is_kind)
says text (Order order) h = ordered (fields text) order h
says text Finish h = fields-same _ _ h

-- What the lines of a script do, one after the other, as a function.
--     same_tree             two trees are equal
--     is_child              one element is a child of the other
--     with_pair             a pair ahead of a mapping, without the one that it had of the element
--     map_step              what a pair does below a parent
--     step                  what a line does; nothing is said of `finish`
--     steps                 it does that
--     is_syned              a language of the dialect `Syned`
--     run                   the state after lines that all go on, in this dialect
--     runs                  they are carried out
use Rattle.std.specs.Prelude.{◌≡◌, ℕ, Bool, true, false, not, ◌&&◌, cond, List, [], ◌∷◌, All, MatchOption, Option, Some, None, option_map, option_and_then, unwrap_or, bytes_eq, nat_le, nat_eq, Contains, refl, filter, find, suc}
use Rattle.std.specs.Option.{option_map_or}
use Rattle.std.proofs.Common.{sym, ◌∙◌, ap, ap₂, subst, arith}
use Rattle.std.proofs.lemmas.Bool.{leb-true, leb-false, eqb-true, eq-eqb, false≢true}
use Rattle.std.proofs.lemmas.List.Elements.{All-cons, All-contains_itself, All-filter}
use Rattle.std.proofs.lemmas.Slice.Eq.{bytes_eq-Decides}
use Rattle.cst_core.specs.Path.{parent_path, same_path}
use Rattle.cst_core.specs.Tree.{SyntaxTree, Token, Node, Forest, end, more, SameShape, without_texts, at, is_token}
use Rattle.cst_core.specs.Element.{Address, Element, IsChild, IsNode, address, same_address, subtree}
use Rattle.syntax_editor.specs.Mapping.{Mapping}
use Rattle.syntax_editor.specs.Builder.{SameCopies, IsPair}
use Rattle.syntax_editor.specs.MapError.{MapError}
use Rattle.syntax_editor.specs.MapError.TheVariants as map_error
use Rattle.syntax_editor.specs.Editor.{Editor, Maps}
use Rattle.tree_text.specs.KindNames.{KindName}
use Rattle.script_lines.specs.Dialect.{Language}
use Rattle.script_lines.specs.declared.dialect.Dialect.{Dialect}
use Rattle.script_lines.specs.declared.dialect.Dialect.TheVariants.{Syned, Wide}
use Rattle.script_lines.specs.Line.{IsLine}
use Rattle.script_lines.specs.ScriptLine as line
use Rattle.script_lines.specs.ScriptLine.{ScriptLine}
use Rattle.syned_script.specs.declared.refusal.Refusal.TheVariants as refused
use Rattle.syned_script.specs.State.{State, Editing, Step, Goes, Refuses, IsBad, Steps, PairStep, MapStep, with_editor, tree_step, edit_step, note_step, order_step, recorded_in, call_in, node_in, element_in}
use Rattle.syned_script.specs.Script.{Carried}
use Rattle.syned_run.proofs.ScriptLines.{both, reads, says, syned}

-- ---- equal trees
abbrev mutual
  pub same_tree : SyntaxTree → SyntaxTree → Bool
  same_tree (Token k s) (Token l t) = nat_eq k l && bytes_eq s t
  same_tree (Token k s) (Node l g) = false
  same_tree (Node k f) (Token l t) = false
  same_tree (Node k f) (Node l g) = nat_eq k l && same_forest f g

  same_forest : Forest ℕ → Forest ℕ → Bool
  same_forest end end = true
  same_forest end (more u g) = false
  same_forest (more t f) end = false
  same_forest (more t f) (more u g) = same_tree t u && same_forest f g

mutual
  tree-same : (t u : SyntaxTree) → same_tree t u ≡ true → t ≡ u
  tree-same (Token k s) (Token l t) h =
      let parts = both (nat_eq k l) (bytes_eq s t) h in
      ap₂ (λ x y. Token x y) (eqb-true k l parts.0) ((bytes_eq-Decides s t).0 parts.1)
  tree-same (Token k s) (Node l g) h = absurd (false≢true h)
  tree-same (Node k f) (Token l t) h = absurd (false≢true h)
  tree-same (Node k f) (Node l g) h =
      let parts = both (nat_eq k l) (same_forest f g) h in
      ap₂ (λ x y. Node x y) (eqb-true k l parts.0) (forest-same f g parts.1)

  forest-same : (f g : Forest ℕ) → same_forest f g ≡ true → f ≡ g
  forest-same end end h = refl
  forest-same end (more u g) h = absurd (false≢true h)
  forest-same (more t f) end h = absurd (false≢true h)
  forest-same (more t f) (more u g) h =
      let parts = both (same_tree t u) (same_forest f g) h in
      ap₂ (λ x y. more x y) (tree-same t u parts.0) (forest-same f g parts.1)

pub true-and : (a b : Bool) → a ≡ true → b ≡ true → (a && b) ≡ true
true-and true b h i = i
true-and false b h i = h

mutual
  tree-itself : (t : SyntaxTree) → same_tree t t ≡ true
  tree-itself (Token k s) = true-and (nat_eq k k) (bytes_eq s s) (eq-eqb k k refl) ((bytes_eq-Decides s s).1 refl)
  tree-itself (Node k f) = true-and (nat_eq k k) (same_forest f f) (eq-eqb k k refl) (forest-itself f)

  forest-itself : (f : Forest ℕ) → same_forest f f ≡ true
  forest-itself end = refl
  forest-itself (more t f) = true-and (same_tree t t) (same_forest f f) (tree-itself t) (forest-itself f)

abbrev pub has_shape : SyntaxTree → SyntaxTree → Bool
has_shape t u = same_tree (without_texts t) (without_texts u)

other_shape : (t u : SyntaxTree) → has_shape t u ≡ false → SameShape t u → ⊥
other_shape t u h same = false≢true (sym h ∙ sym (ap (same_tree (without_texts t)) same) ∙ tree-itself (without_texts t))

-- ---- a child
abbrev pub is_child : Element → Element → Bool
is_child parent e = nat_eq e.number parent.number && not (bytes_eq e.path []) && bytes_eq (parent_path e.path) parent.path

pub not-true : (b : Bool) → not b ≡ true → b ≡ false
not-true true h = absurd (false≢true h)
not-true false h = refl

child-is : (parent e : Element) → is_child parent e ≡ true → IsChild parent e
child-is parent e h =
    let parts = both (nat_eq e.number parent.number && not (bytes_eq e.path [])) (bytes_eq (parent_path e.path) parent.path) h in
    let front = both (nat_eq e.number parent.number) (not (bytes_eq e.path [])) parts.0 in
    (eqb-true e.number parent.number front.0, λ none. false≢true (sym (not-true (bytes_eq e.path []) front.1) ∙ (bytes_eq-Decides e.path []).1 none), (bytes_eq-Decides (parent_path e.path) parent.path).0 parts.1)

false-not : (b : Bool) → (b ≡ true → ⊥) → not b ≡ true
false-not true h = absurd (h refl)
false-not false h = refl

no-child : (parent e : Element) → is_child parent e ≡ false → IsChild parent e → ⊥
no-child parent e h is =
    let front = true-and (nat_eq e.number parent.number) (not (bytes_eq e.path [])) (eq-eqb e.number parent.number is.0) (false-not (bytes_eq e.path []) (λ same. is.1 ((bytes_eq-Decides e.path []).0 same))) in
    false≢true (sym h ∙ true-and (nat_eq e.number parent.number && not (bytes_eq e.path [])) (bytes_eq (parent_path e.path) parent.path) front ((bytes_eq-Decides (parent_path e.path) parent.path).1 is.2))

-- ---- a pair
abbrev pub is_node_at : Option SyntaxTree → Bool
is_node_at None = false
is_node_at (Some t) = not (is_token t)

abbrev pub are_nodes : Element × Element → Bool
are_nodes pair = is_node_at (at pair.0.root pair.0.path) && is_node_at (at pair.1.root pair.1.path)

node-there : (o : Option SyntaxTree) → is_node_at o ≡ true → option_map is_token o ≡ Some false
node-there None h = absurd (false≢true h)
node-there (Some t) h = ap Some (not-true (is_token t) h)

pub node-is : (e : Element) → is_node_at (at e.root e.path) ≡ true → IsNode e
node-is e h = node-there (at e.root e.path) h

pub pair-is : (pair : Element × Element) → nat_le pair.1.number pair.0.number ≡ false → has_shape (subtree pair.0) (subtree pair.1) ≡ true → are_nodes pair ≡ true → IsPair pair
pair-is pair younger shape nodes =
    let both_nodes = both (is_node_at (at pair.0.root pair.0.path)) (is_node_at (at pair.1.root pair.1.path)) nodes in
    record { rises = (leb-false pair.1.number pair.0.number younger, tree-same _ _ shape); input = node-is pair.0 both_nodes.0; output = node-is pair.1 both_nodes.1 }

abbrev pub refusal_of : MapError → Option Step
refusal_of e = Some (Refuses (refused.Map e))

-- a pair ahead of those of other elements
abbrev is_other : Element × Element → Element × Element → Bool
is_other pair q = not (same_address (address q.0) (address pair.0))

abbrev pub with_pair : Element × Element → Mapping → Mapping
with_pair pair m = pair ∷ filter (is_other pair) m

abbrev pub mapped : Element × Element → Editor → Editor
mapped pair editor = record editor { factory = Some (with_pair pair (unwrap_or editor.factory [])) }

-- by whether it is a child, no younger one, of the same shape, and both are nodes
abbrev picked : Bool → Bool → Bool → Bool → State → Option Step
picked false old shape nodes t = refusal_of map_error.NotAChild
picked true true shape nodes t = refusal_of map_error.NotYounger
picked true false false nodes t = refusal_of map_error.OtherShape
picked true false true false t = None
picked true false true true t = Some (Goes t)

abbrev pub pair_step : State → Element → Element × Element → Editing → Option Step
pair_step s parent pair e =
    picked (is_child parent pair.1) (nat_le pair.1.number pair.0.number) (has_shape (subtree pair.0) (subtree pair.1)) (are_nodes pair) (with_editor (mapped pair e.editor) e s)

pub some-same : {A : Type 0} (x y : A) → Some x ≡ Some y → y ≡ x
some-same x y h = cc

-- whose copy of an element is the first pair's is found in the other pairs alike
alike : (a b x : Address) → same_address a b ≡ true → same_address a x ≡ same_address b x
alike a b x h =
    let parts = both (nat_eq a.number b.number) (same_path a.path b.path) h in
    ap₂ (λ n q. nat_eq n x.number && same_path q x.path) (eqb-true a.number b.number parts.0) ((bytes_eq-Decides a.path b.path).0 parts.1)

abbrev found_in : Address → Mapping → Option (Element × Element)
found_in x m = find (λ q. same_address (address q.0) x) m

found-other : (pair : Element × Element) (x : Address) (m : Mapping) → same_address (address pair.0) x ≡ false → found_in x (filter (is_other pair) m) ≡ found_in x m
found-other pair x [] apart = refl
found-other pair x (q ∷ m) apart = step (same_address (address q.0) (address pair.0)) refl (found-other pair x m apart) where
  step : (t : Bool) → same_address (address q.0) (address pair.0) ≡ t → found_in x (filter (is_other pair) m) ≡ found_in x m → found_in x (cond (not t) (q ∷ filter (is_other pair) m) (filter (is_other pair) m)) ≡ found_in x (q ∷ m)
  step true same rest =
      rest ∙ sym (ap (λ t. cond t (Some q) (found_in x m)) (alike (address q.0) (address pair.0) x same ∙ apart))
  step false other rest = ap (λ o. cond (same_address (address q.0) x) (Some q) o) rest

same-copies : (pair : Element × Element) (m : Mapping) → SameCopies (with_pair pair m) (pair ∷ m)
same-copies pair m x = ap (λ o. option_map (λ q. q.1) o) (step (same_address (address pair.0) x) refl) where
  step : (t : Bool) → same_address (address pair.0) x ≡ t → cond t (Some pair) (found_in x (filter (is_other pair) m)) ≡ cond t (Some pair) (found_in x m)
  step true same = refl
  step false other = found-other pair x m other

among : (pair : Element × Element) (m : Mapping) → All (Contains (pair ∷ m)) (with_pair pair m)
among pair m =
    let all = All-contains_itself (pair ∷ m) in
    All-cons (Contains (pair ∷ m)) pair (filter (is_other pair) m) (all 0 pair (omega arith)) (All-filter (is_other pair) (Contains (pair ∷ m)) m (λ k d within. all (suc k) d (omega (arith, within))))

pub maps : (pair : Element × Element) (editor : Editor) → Maps (pair ∷ []) editor (mapped pair editor)
maps pair editor = record {
  others = refl;
  factory = record {
    mapping = with_pair pair (unwrap_or editor.factory []);
    factory = refl;
    copies = record { copies = same-copies pair (unwrap_or editor.factory []); among = among pair (unwrap_or editor.factory []) };
  };
}

pair-steps : (s : State) (parent : Element) (pair : Element × Element) (e : Editing) (child old shape nodes : Bool) (x : Step) → is_child parent pair.1 ≡ child → nat_le pair.1.number pair.0.number ≡ old → has_shape (subtree pair.0) (subtree pair.1) ≡ shape → are_nodes pair ≡ nodes → picked child old shape nodes (with_editor (mapped pair e.editor) e s) ≡ Some x → PairStep s parent pair e x
pair-steps s parent pair e false old shape nodes x c o h n is =
    subst (PairStep s parent pair e) (sym (some-same _ x is)) (no-child parent pair.1 c)
pair-steps s parent pair e true true shape nodes x c o h n is =
    subst (PairStep s parent pair e) (sym (some-same _ x is)) (child-is parent pair.1 c, leb-true pair.1.number pair.0.number o)
pair-steps s parent pair e true false false nodes x c o h n is =
    subst (PairStep s parent pair e) (sym (some-same _ x is)) (child-is parent pair.1 c, leb-false pair.1.number pair.0.number o, other_shape (subtree pair.0) (subtree pair.1) h)
pair-steps s parent pair e true false true false x c o h n is = absurd (cc)
pair-steps s parent pair e true false true true x c o h n is =
    subst (PairStep s parent pair e) (sym (some-same _ x is)) (record { child = child-is parent pair.1 c; is_pair = pair-is pair o h n }, (mapped pair e.editor, maps pair e.editor, refl))

-- ---- a line
abbrev pub map_step : State → Option Element → Option Element → Option Element → Option Step
map_step s (Some parent) (Some input) (Some output) = option_map_or (pair_step s parent (input, output)) s.editing (Some IsBad)
map_step s _ _ _ = Some IsBad

abbrev pub step : State → ScriptLine → Option Step
step s line.Blank = Some (Goes s)
step s (line.Tree name root) = Some (tree_step s name root)
step s (line.Edit name node) = Some (edit_step s name (node_in s.roots node))
step s (line.Map parent input output) = map_step s (node_in s.roots parent) (node_in s.roots input) (node_in s.roots output)
step s (line.Note word element) = Some (note_step s word (element_in s.roots element))
step s (line.Order order) = Some (order_step s order)
step s (line.Kinds names) = None
step s (line.Show detail) = None
step s (line.Spaced at payload) = None
step s (line.Wrap node kind before after) = None
step s (line.Shifted shift name node) = None
step s line.Finish = None
step s call = Some (recorded_in s (call_in s.roots call))

map-editing : (s : State) (parent input output : Element) (e : Option Editing) (x : Step) → option_map_or (pair_step s parent (input, output)) e (Some IsBad) ≡ Some x → MatchOption e (x ≡ IsBad) (λ e. PairStep s parent (input, output) e x)
map-editing s parent input output None x is = some-same _ x is
map-editing s parent input output (Some e) x is = pair-steps s parent (input, output) e _ _ _ _ x refl refl refl refl is

map-steps : (s : State) (parent input output : Option Element) (x : Step) → map_step s parent input output ≡ Some x → MapStep s parent input output x
map-steps s (Some parent) (Some input) (Some output) x is = map-editing s parent input output s.editing x is
map-steps s parent input output x is = some-same _ x is

pub steps : (s : State) (l : ScriptLine) (x : Step) → step s l ≡ Some x → Steps s l x
steps s (line.Map parent input output) x is = map-steps s (node_in s.roots parent) (node_in s.roots input) (node_in s.roots output) x is
steps s (line.Kinds names) x is = absurd (cc)
steps s (line.Show detail) x is = absurd (cc)
steps s (line.Spaced at payload) x is = absurd (cc)
steps s (line.Wrap node kind before after) x is = absurd (cc)
steps s (line.Shifted shift name node) x is = absurd (cc)
steps s line.Finish x is = absurd (cc)
steps s l x is = some-same _ x is

-- ---- the language
abbrev is_nil : List KindName → Bool
is_nil [] = true
is_nil (k ∷ ks) = false

abbrev is_plain : Dialect → List KindName → Bool
is_plain Syned kinds = is_nil kinds
is_plain Wide kinds = false

abbrev pub is_syned : Language → Bool
is_syned l = is_plain l.dialect l.kinds

plain-is : (d : Dialect) (kinds : List KindName) → is_plain d kinds ≡ true → record { dialect = d; kinds = kinds } ≡ syned
plain-is Syned [] h = refl
plain-is Syned (k ∷ ks) h = absurd (false≢true h)
plain-is Wide kinds h = absurd (false≢true h)

pub syned-is : (l : Language) → is_syned l ≡ true → l ≡ syned
syned-is l h = plain-is l.dialect l.kinds h

-- ---- lines
abbrev to_state : Option Step → Option State
to_state (Some (Goes t)) = cond (is_syned t.language) (Some t) None
to_state _ = None

abbrev pub run : State → List ScriptLine → Option State
run s [] = Some s
run s (l ∷ ls) = option_and_then (λ t. run t ls) (to_state (step s l))

abbrev pub all_read : List (List ℕ) → List ScriptLine → Bool
all_read [] [] = true
all_read [] (l ∷ ls) = false
all_read (text ∷ texts) [] = false
all_read (text ∷ texts) (l ∷ ls) = reads text l && all_read texts ls

record Went (o : Option Step) (f : State → Option State) (t : State) : Type 0 where
  pub next : State
  pub is : o ≡ Some (Goes next)
  pub plain : is_syned next.language ≡ true
  pub rest : f next ≡ Some t

went-at : (b : Bool) (next : State) (f : State → Option State) (t : State) → is_syned next.language ≡ b → option_and_then f (cond b (Some next) None) ≡ Some t → Went (Some (Goes next)) f t
went-at true next f t plain is = record { next = next; is = refl; plain = plain; rest = is }
went-at false next f t plain is = absurd (cc)

went : (o : Option Step) (f : State → Option State) (t : State) → option_and_then f (to_state o) ≡ Some t → Went o f t
went None f t is = absurd (cc)
went (Some (Goes next)) f t is = went-at (is_syned next.language) next f t refl is
went (Some (Refuses r)) f t is = absurd (cc)
went (Some IsBad) f t is = absurd (cc)

pub runs : (texts : List (List ℕ)) (ls : List ScriptLine) (s t : State) → is_syned s.language ≡ true → all_read texts ls ≡ true → run s ls ≡ Some t → Carried texts s t
runs [] [] s t plain read is = some-same s t is
runs [] (l ∷ ls) s t plain read is = absurd (false≢true read)
runs (text ∷ texts) [] s t plain read is = absurd (false≢true read)
runs (text ∷ texts) (l ∷ ls) s t plain read is =
    let parts = both (reads text l) (all_read texts ls) read in
    let on = went (step s l) (λ u. run u ls) t is in
    let said = subst (λ g. IsLine g text l) (sym (syned-is s.language plain)) (says text l parts.0) in
    (l, on.next, said, steps s l (Goes on.next) on.is, runs texts ls on.next t on.plain parts.1 on.rest)

pub stays-syned : (ls : List ScriptLine) (s t : State) → is_syned s.language ≡ true → run s ls ≡ Some t → is_syned t.language ≡ true
stays-syned [] s t plain is = ap (λ x. is_syned x.language) (some-same s t is) ∙ plain
stays-syned (l ∷ ls) s t plain is = let on = went (step s l) (λ u. run u ls) t is in stays-syned ls on.next t on.plain on.rest

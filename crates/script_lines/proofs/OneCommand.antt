-- What a line says that begins with the word of a command.
--     differs          a word is not that of what a line says
--     of-other-word, another   it is no other command's
--     only-edit and the like      what stands behind the word
use Rattle.std.proofs.Common.{◌≡◌, ℕ, Bool, true, false, not, ◌&&◌, nat_eq, List, [], ◌∷◌, ◌++◌, codes, Some, refl, sym, ◌∙◌, ap, subst}
use Rattle.std.specs.Cmp.Lexicographic.{pointwise}
use Rattle.std.proofs.lemmas.Bool.{false≢true}
use Rattle.cst_core.specs.SyntaxKind.{SyntaxKind}
use Rattle.cst_core.specs.Tree.{SyntaxTree}
use Rattle.tree_text.specs.KindNames.{name_in}
use Rattle.script_lines.specs.Dialect.{Language, is_wide}
use Rattle.script_lines.specs.Line.{Each, IsGap, IsLine, IsNumber, IsRef, IsTreeLine, detail_name, fields, is_comment, shift_word}
use Rattle.script_lines.specs.Name.{IsName}
use Rattle.script_lines.specs.inner.Taken.{AreRoundBar}
use Rattle.script_lines.specs.declared.detail.Detail.{Detail}
use Rattle.script_lines.specs.declared.line.Shift.{Shift}
use Rattle.script_lines.specs.declared.line.Shift.TheVariants.{Indent, Dedent}
use Rattle.script_lines.specs.ScriptLine.{Ref, Gap, ScriptLine, Kinds, Tree, Edit, Map, Insert, Delete, Replace, Range, Note, Remove, Order, Show, Spaced, Wrap, Shifted, Finish}
use Rattle.script_lines.proofs.WordOfLine.{begins, word-of}

-- what a line says that has none of these words: those of a line that indents or dedents are both none of them
abbrev differs : List ℕ → ScriptLine → Bool
differs word (Shifted shift name node) = not (pointwise nat_eq word (codes "indent")) && not (pointwise nat_eq word (codes "dedent"))
differs word l = not (pointwise nat_eq word (word-of l))

not-true : (b : Bool) → not b ≡ true → b ≡ false
not-true true is = absurd (false≢true is)
not-true false is = refl

first-not : (b c : Bool) → (not b && not c) ≡ true → b ≡ false
first-not true c is = absurd (false≢true is)
first-not false c is = refl

second-not : (b c : Bool) → (not b && not c) ≡ true → c ≡ false
second-not true c is = absurd (false≢true is)
second-not false c is = not-true c is

differs-not : (word : List ℕ) (l : ScriptLine) → differs word l ≡ true → pointwise nat_eq word (word-of l) ≡ false
differs-not word (Shifted Indent name node) is = first-not (pointwise nat_eq word (codes "indent")) _ is
differs-not word (Shifted Dedent name node) is = second-not (pointwise nat_eq word (codes "indent")) _ is
differs-not word l is = not-true (pointwise nat_eq word (word-of l)) is

module _ (lang : Language) where
  -- a line of another word
  of-other-word : {A : Type 0} (line word : List ℕ) (all : List (List ℕ)) → fields line ≡ word ∷ all → is_comment word ≡ false → (l : ScriptLine) → IsLine lang line l → (pointwise nat_eq word word ≡ true) → (pointwise nat_eq word (word-of l) ≡ false) → A
  of-other-word line word all is comment l said own other =
      let e : true ≡ false = sym own ∙ ap (λ w. pointwise nat_eq word w) (begins lang line word all is comment l said) ∙ other in
      absurd (cc)

  another : {A : Type 0} (line word : List ℕ) (all : List (List ℕ)) → fields line ≡ word ∷ all → is_comment word ≡ false → (l : ScriptLine) → IsLine lang line l → (pointwise nat_eq word word ≡ true) → differs word l ≡ true → A
  another line word all is comment l said own other-word = of-other-word line word all is comment l said own (differs-not word l other-word)

  behind : (fs : List (List ℕ)) (word : List ℕ) (all others : List (List ℕ)) → fs ≡ word ∷ all → fs ≡ word ∷ others → all ≡ others
  behind fs word all others is says = cc

  -- ---- edit
  pub record SaysEdit (all : List (List ℕ)) : Type 0 where
    pub name : List ℕ
    pub node : Ref
    pub field : List ℕ
    pub is : all ≡ name ∷ field ∷ []
    pub named : IsName name
    pub referred : IsRef field node

  pub only-edit : (line : List ℕ) (all : List (List ℕ)) → fields line ≡ codes "edit" ∷ all → (l : ScriptLine) → IsLine lang line l → SaysEdit all
  only-edit line all is (Edit name node) said = record { name = name; node = node; field = said.0; is = behind (fields line) (codes "edit") all _ is said.1; named = said.2; referred = said.3 }
  only-edit line all is l said = another line (codes "edit") all is refl l said refl refl

  -- ---- map
  pub record SaysMap (all : List (List ℕ)) : Type 0 where
    pub parent : Ref
    pub input : Ref
    pub output : Ref
    pub first : List ℕ
    pub second : List ℕ
    pub third : List ℕ
    pub is : all ≡ first ∷ second ∷ third ∷ []
    pub is_parent : IsRef first parent
    pub is_input : IsRef second input
    pub is_output : IsRef third output

  pub only-map : (line : List ℕ) (all : List (List ℕ)) → fields line ≡ codes "map" ∷ all → (l : ScriptLine) → IsLine lang line l → SaysMap all
  only-map line all is (Map parent input output) said = record { parent = parent; input = input; output = output; first = said.0; second = said.1; third = said.2; is = behind (fields line) (codes "map") all _ is said.3; is_parent = said.4; is_input = said.5; is_output = said.6 }
  only-map line all is l said = another line (codes "map") all is refl l said refl refl

  -- ---- insert
  pub record SaysInsert (all : List (List ℕ)) : Type 0 where
    pub at : Gap
    pub payload : List Ref
    pub word : List ℕ
    pub beside : List ℕ
    pub others : List (List ℕ)
    pub is : all ≡ word ∷ beside ∷ others
    pub placed : IsGap word beside at
    pub referred : Each IsRef others payload

  pub only-insert : (line : List ℕ) (all : List (List ℕ)) → fields line ≡ codes "insert" ∷ all → (l : ScriptLine) → IsLine lang line l → SaysInsert all
  only-insert line all is (Insert at payload) said = record { at = at; payload = payload; word = said.0; beside = said.1; others = said.2; is = behind (fields line) (codes "insert") all _ is said.3; placed = said.4; referred = said.5 }
  only-insert line all is l said = another line (codes "insert") all is refl l said refl refl

  -- ---- delete
  pub record SaysDelete (all : List (List ℕ)) : Type 0 where
    pub target : Ref
    pub field : List ℕ
    pub is : all ≡ field ∷ []
    pub referred : IsRef field target

  pub only-delete : (line : List ℕ) (all : List (List ℕ)) → fields line ≡ codes "delete" ∷ all → (l : ScriptLine) → IsLine lang line l → SaysDelete all
  only-delete line all is (Delete target) said = record { target = target; field = said.0; is = behind (fields line) (codes "delete") all _ is said.1; referred = said.2 }
  only-delete line all is l said = another line (codes "delete") all is refl l said refl refl

  -- ---- replace
  pub record SaysReplace (all : List (List ℕ)) : Type 0 where
    pub target : Ref
    pub payload : List Ref
    pub field : List ℕ
    pub others : List (List ℕ)
    pub is : all ≡ field ∷ others
    pub is_target : IsRef field target
    pub referred : Each IsRef others payload

  pub only-replace : (line : List ℕ) (all : List (List ℕ)) → fields line ≡ codes "replace" ∷ all → (l : ScriptLine) → IsLine lang line l → SaysReplace all
  only-replace line all is (Replace target payload) said = record { target = target; payload = payload; field = said.0; others = said.1; is = behind (fields line) (codes "replace") all _ is said.2; is_target = said.3; referred = said.4 }
  only-replace line all is l said = another line (codes "replace") all is refl l said refl refl

  -- ---- range
  pub record SaysRange (all : List (List ℕ)) : Type 0 where
    pub start : Ref
    pub end : Ref
    pub payload : List Ref
    pub first : List ℕ
    pub second : List ℕ
    pub others : List (List ℕ)
    pub is : all ≡ first ∷ second ∷ others
    pub is_start : IsRef first start
    pub is_end : IsRef second end
    pub referred : Each IsRef others payload

  pub only-range : (line : List ℕ) (all : List (List ℕ)) → fields line ≡ codes "range" ∷ all → (l : ScriptLine) → IsLine lang line l → SaysRange all
  only-range line all is (Range start end payload) said = record { start = start; end = end; payload = payload; first = said.0; second = said.1; others = said.2; is = behind (fields line) (codes "range") all _ is said.3; is_start = said.4; is_end = said.5; referred = said.6 }
  only-range line all is l said = another line (codes "range") all is refl l said refl refl

  -- ---- note
  pub record SaysNote (all : List (List ℕ)) : Type 0 where
    pub word : List ℕ
    pub element : Ref
    pub field : List ℕ
    pub is : all ≡ word ∷ field ∷ []
    pub named : IsName word
    pub referred : IsRef field element

  pub only-note : (line : List ℕ) (all : List (List ℕ)) → fields line ≡ codes "note" ∷ all → (l : ScriptLine) → IsLine lang line l → SaysNote all
  only-note line all is (Note word element) said = record { word = word; element = element; field = said.0; is = behind (fields line) (codes "note") all _ is said.1; named = said.2; referred = said.3 }
  only-note line all is l said = another line (codes "note") all is refl l said refl refl

  -- ---- remove
  pub record SaysRemove (all : List (List ℕ)) : Type 0 where
    pub element : Ref
    pub separator : SyntaxKind
    pub field : List ℕ
    pub kind : List ℕ
    pub is : all ≡ field ∷ kind ∷ []
    pub referred : IsRef field element
    pub is_kind : name_in lang.kinds separator.0 ≡ Some kind

  pub only-remove : (line : List ℕ) (all : List (List ℕ)) → fields line ≡ codes "remove" ∷ all → (l : ScriptLine) → IsLine lang line l → SaysRemove all
  only-remove line all is (Remove element separator) said = record { element = element; separator = separator; field = said.0; kind = said.1; is = behind (fields line) (codes "remove") all _ is said.2; referred = said.3; is_kind = said.4 }
  only-remove line all is l said = another line (codes "remove") all is refl l said refl refl

  -- ---- order
  pub record SaysOrder (all : List (List ℕ)) : Type 0 where
    pub order : List ℕ
    pub numbered : Each IsNumber all order

  pub only-order : (line : List ℕ) (all : List (List ℕ)) → fields line ≡ codes "order" ∷ all → (l : ScriptLine) → IsLine lang line l → SaysOrder all
  only-order line all is (Order order) said = record { order = order; numbered = subst (λ fs. Each IsNumber fs order) (sym (behind (fields line) (codes "order") all said.0 is said.1)) said.2 }
  only-order line all is l said = another line (codes "order") all is refl l said refl refl

  -- ---- finish
  pub only-finish : (line : List ℕ) (all : List (List ℕ)) → fields line ≡ codes "finish" ∷ all → (l : ScriptLine) → IsLine lang line l → all ≡ []
  only-finish line all is Finish said = behind (fields line) (codes "finish") all [] is said
  only-finish line all is l said = another line (codes "finish") all is refl l said refl refl

  -- ---- kinds
  pub only-kinds : (line : List ℕ) (all : List (List ℕ)) → fields line ≡ codes "kinds" ∷ all → (l : ScriptLine) → IsLine lang line l → is_wide lang.dialect ≡ true
  only-kinds line all is (Kinds names) said = said.0
  only-kinds line all is l said = another line (codes "kinds") all is refl l said refl refl

  -- ---- show
  pub record SaysShow (all : List (List ℕ)) : Type 0 where
    pub detail : Detail
    pub is : all ≡ detail_name detail ∷ []
    pub wide : is_wide lang.dialect ≡ true

  pub only-show : (line : List ℕ) (all : List (List ℕ)) → fields line ≡ codes "show" ∷ all → (l : ScriptLine) → IsLine lang line l → SaysShow all
  only-show line all is (Show detail) said = record { detail = detail; is = behind (fields line) (codes "show") all _ is said.1; wide = said.0 }
  only-show line all is l said = another line (codes "show") all is refl l said refl refl

  -- ---- spaced
  pub record SaysSpaced (all : List (List ℕ)) : Type 0 where
    pub says : SaysInsert all
    pub wide : is_wide lang.dialect ≡ true

  pub only-spaced : (line : List ℕ) (all : List (List ℕ)) → fields line ≡ codes "spaced" ∷ all → (l : ScriptLine) → IsLine lang line l → SaysSpaced all
  only-spaced line all is (Spaced at payload) said = record { says = record { at = at; payload = payload; word = said.0; beside = said.1; others = said.2; is = behind (fields line) (codes "spaced") all _ is said.4; placed = said.5; referred = said.6 }; wide = said.3 }
  only-spaced line all is l said = another line (codes "spaced") all is refl l said refl refl

  -- ---- wrap
  pub record SaysWrap (all : List (List ℕ)) : Type 0 where
    pub node : Ref
    pub kind : SyntaxKind
    pub refs : List Ref × List Ref
    pub field : List ℕ
    pub name : List ℕ
    pub others : List (List ℕ)
    pub is : all ≡ field ∷ name ∷ others
    pub referred : IsRef field node
    pub is_kind : name_in lang.kinds kind.0 ≡ Some name
    pub round : AreRoundBar others refs
    pub wide : is_wide lang.dialect ≡ true

  pub only-wrap : (line : List ℕ) (all : List (List ℕ)) → fields line ≡ codes "wrap" ∷ all → (l : ScriptLine) → IsLine lang line l → SaysWrap all
  only-wrap line all is (Wrap node kind before after) (f, k, fs, gs, wide, says, referred, is_kind, are_before, are_after) = record {
    node = node;
    kind = kind;
    refs = (before, after);
    field = f;
    name = k;
    others = fs ++ codes "|" ∷ gs;
    is = behind (fields line) (codes "wrap") all _ is says;
    referred = referred;
    is_kind = is_kind;
    round = record { before = fs; after = gs; is = refl; are_before = are_before; are_after = are_after };
    wide = wide;
  }
  only-wrap line all is l said = another line (codes "wrap") all is refl l said refl refl

  -- ---- indent and dedent
  pub record SaysShifted (all : List (List ℕ)) : Type 0 where
    pub says : SaysEdit all
    pub wide : is_wide lang.dialect ≡ true

  shifted : (line word : List ℕ) (all : List (List ℕ)) (shift : Shift) (name : List ℕ) (node : Ref) → fields line ≡ word ∷ all → IsLine lang line (Shifted shift name node) → word ≡ shift_word shift → SaysShifted all
  shifted line word all shift name node is said own = record { says = record { name = name; node = node; field = said.0; is = behind (fields line) (shift_word shift) all _ (is ∙ ap (λ w. w ∷ all) own) said.2; named = said.3; referred = said.4 }; wide = said.1 }

  pub only-shifted : (line : List ℕ) (shift : Shift) (all : List (List ℕ)) → fields line ≡ shift_word shift ∷ all → (l : ScriptLine) → IsLine lang line l → SaysShifted all
  only-shifted line Indent all is (Shifted Indent name node) said = shifted line (codes "indent") all Indent name node is said refl
  only-shifted line Dedent all is (Shifted Dedent name node) said = shifted line (codes "dedent") all Dedent name node is said refl
  only-shifted line Indent all is (Shifted Dedent name node) said = of-other-word line (codes "indent") all is refl (Shifted Dedent name node) said refl refl
  only-shifted line Dedent all is (Shifted Indent name node) said = of-other-word line (codes "dedent") all is refl (Shifted Indent name node) said refl refl
  only-shifted line Indent all is l said = another line (codes "indent") all is refl l said refl refl
  only-shifted line Dedent all is l said = another line (codes "dedent") all is refl l said refl refl

  -- ---- tree
  pub only-tree : (line : List ℕ) (all : List (List ℕ)) → fields line ≡ codes "tree" ∷ all → (l : ScriptLine) → IsLine lang line l → (name : List ℕ) × (root : SyntaxTree) × IsTreeLine lang line name root
  only-tree line all is (Tree name root) said = (name, root, said)
  only-tree line all is l said = another line (codes "tree") all is refl l said refl refl

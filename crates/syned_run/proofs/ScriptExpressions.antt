-- Tree expressions in the texts of lines, in any layout, by a function that says what is left behind one.
--     Past                    a text begins with one of this description, and this is left
--     past_text               what is left behind these bytes
--     past_gap, past_spaces   what is left behind spaces; the same, where there is one
--     past_quoted             what is left behind a quoted text
--     past_tree               what is left behind what is written for a tree
--     tree-past               it is left there
use Rattle.std.specs.Prelude.{◌≡◌, ◌≢◌, ℕ, ◌==◌, Bool, true, false, ◌&&◌, ◌||◌, cond, List, [], ◌∷◌, ◌++◌, codes, Option, Some, None, option_and_then, nat_eq, refl}
use Rattle.std.specs.Option.{option_or}
use Rattle.std.proofs.Common.{sym, ◌∙◌, ap, ap₂, subst, inl, inr}
use Rattle.std.proofs.lemmas.Bool.{cases_Bool, eqb-true}
use Rattle.std.proofs.lemmas.List.{append_assoc}
use Rattle.cst_core.specs.Tree.{SyntaxTree, Token, Node, Forest, end, more}
use Rattle.tree_text.specs.Escape.{escape}
use Rattle.tree_text.specs.Grammar.{◌⨾◌, IsExactly, is_gap_space, IsGap, IsWritten, IsQuoted, IsName, begins_with_name_byte, IsApart, IsTreeText, AreElements}
use Rattle.tree_text.specs.KindNames.{name_in}
use Rattle.script_lines.specs.Line.{IsSpaces}

pub record Past (P : List ℕ → Type 0) (w r : List ℕ) : Type 0 where
  pub front : List ℕ
  pub is : w ≡ front ++ r
  pub says : P front

pub join : {P Q : List ℕ → Type 0} (w v r : List ℕ) → Past P w v → Past Q v r → Past (P ⨾ Q) w r
join w v r p q = record {
  front = p.front ++ q.front;
  is = p.is ∙ ap (λ x. p.front ++ x) q.is ∙ sym (append_assoc p.front q.front r);
  says = record { first = p.front; second = q.front; joined = refl; is_first = p.says; is_second = q.says };
}

pub weaker : {P Q : List ℕ → Type 0} (w r : List ℕ) → ((x : List ℕ) → P x → Q x) → Past P w r → Past Q w r
weaker w r f p = record { front = p.front; is = p.is; says = f p.front p.says }

pub record Both {A B : Type 0} (o : Option A) (f : A → Option B) (r : B) : Type 0 where
  pub value : A
  pub first : o ≡ Some value
  pub then : f value ≡ Some r

pub both-there : {A B : Type 0} (o : Option A) (f : A → Option B) (r : B) → option_and_then f o ≡ Some r → Both o f r
both-there None f r h = absurd (cc)
both-there (Some x) f r h = record { value = x; first = refl; then = h }

-- ---- bytes
abbrev pub past_text : List ℕ → List ℕ → Option (List ℕ)
past_text [] w = Some w
past_text (b ∷ bs) [] = None
past_text (b ∷ bs) (c ∷ w) = cond (nat_eq b c) (past_text bs w) None

same-first : (b c : ℕ) (o : Option (List ℕ)) (r : List ℕ) (t : Bool) → nat_eq b c ≡ t → cond t o None ≡ Some r → (c ≡ b) × (o ≡ Some r)
same-first b c o r true is h = (sym (eqb-true b c is), h)
same-first b c o r false is h = absurd (cc)

pub text-past : (s w r : List ℕ) → past_text s w ≡ Some r → Past (IsExactly s) w r
text-past [] w r h = record { front = []; is = let e : w ≡ r = cc in e; says = refl }
text-past (b ∷ bs) [] r h = absurd (cc)
text-past (b ∷ bs) (c ∷ w) r h =
    let parts = same-first b c (past_text bs w) r (nat_eq b c) refl h in
    let rest = text-past bs w r parts.1 in
    record { front = b ∷ rest.front; is = ap₂ (λ x y. x ∷ y) parts.0 rest.is; says = ap (λ x. b ∷ x) rest.says }

-- ---- spaces
abbrev pub past_gap : List ℕ → List ℕ
past_gap [] = []
past_gap (b ∷ w) = cond (b == 32) (past_gap w) (b ∷ w)

one-space : (b : ℕ) (w r : List ℕ) → (b == 32) ≡ true → Past IsSpaces w r → Past IsSpaces (b ∷ w) r
one-space b w r is rest = record { front = b ∷ rest.front; is = ap (λ x. b ∷ x) rest.is; says = (eqb-true b 32 is, rest.says) }

pub gap-past : (w : List ℕ) → Past IsSpaces w (past_gap w)
gap-past [] = record { front = []; is = refl; says = tt }
gap-past (b ∷ w) = elim (cases_Bool (b == 32)) [
  | inl is ↦ subst (λ t. Past IsSpaces (b ∷ w) (cond t (past_gap w) (b ∷ w))) (sym is) (one-space b w (past_gap w) is (gap-past w))
  | inr other ↦ subst (λ t. Past IsSpaces (b ∷ w) (cond t (past_gap w) (b ∷ w))) (sym other) (record { front = []; is = refl; says = tt })
]

pub spaces-gap : (s : List ℕ) → IsSpaces s → IsGap is_gap_space s
spaces-gap [] all = refl
spaces-gap (b ∷ s) all = ap₂ (λ x y. x && y) (ap is_gap_space all.0) (spaces-gap s all.1)

abbrev pub past_spaces : List ℕ → Option (List ℕ)
past_spaces [] = None
past_spaces (b ∷ w) = cond (b == 32) (Some (past_gap w)) None

abbrev pub AreSpaces : List ℕ → Type 0
AreSpaces s = IsSpaces s × (s ≢ [])

some-spaces : (b : ℕ) (w r : List ℕ) (t : Bool) → (b == 32) ≡ t → cond t (Some (past_gap w)) None ≡ Some r → Past AreSpaces (b ∷ w) r
some-spaces b w r true is h =
    let same : past_gap w ≡ r = cc in
    let rest = gap-past w in
    let here : Past AreSpaces (b ∷ w) (past_gap w) = record { front = b ∷ rest.front; is = ap (λ x. b ∷ x) rest.is; says = ((eqb-true b 32 is, rest.says), λ none. cc) } in
    subst (Past AreSpaces (b ∷ w)) same here
some-spaces b w r false is h = absurd (cc)

pub spaces-past : (w r : List ℕ) → past_spaces w ≡ Some r → Past AreSpaces w r
spaces-past [] r h = absurd (cc)
spaces-past (b ∷ w) r h = some-spaces b w r (b == 32) refl h

-- ---- quoted texts
abbrev past_byte : ℕ → List ℕ → Option (List ℕ)
past_byte b w = option_or (past_text (escape b) w) (cond (b == 34 || b == 92) None (past_text (b ∷ []) w))

either-byte : (b : ℕ) (w r : List ℕ) (o : Option (List ℕ)) (t : Bool) → past_text (escape b) w ≡ o → (b == 34 || b == 92) ≡ t → option_or o (cond t None (past_text (b ∷ []) w)) ≡ Some r → Past (IsWritten b) w r
either-byte b w r (Some v) t is plain h =
    let same : v ≡ r = cc in
    weaker w r (λ x e. inl e) (text-past (escape b) w r (is ∙ ap Some same))
either-byte b w r None true is plain h = absurd (cc)
either-byte b w r None false is plain h = weaker w r (λ x e. inr (e, plain)) (text-past (b ∷ []) w r h)

abbrev past_quoted : List ℕ → List ℕ → Option (List ℕ)
past_quoted [] w = Some w
past_quoted (b ∷ s) w = option_and_then (λ v. past_quoted s v) (past_byte b w)

quoted-past : (s w r : List ℕ) → past_quoted s w ≡ Some r → Past (IsQuoted s) w r
quoted-past [] w r h = record { front = []; is = let e : w ≡ r = cc in e; says = refl }
quoted-past (b ∷ s) w r h =
    let parts = both-there (past_byte b w) (λ v. past_quoted s v) r h in
    join w parts.value r (either-byte b w parts.value (past_text (escape b) w) (b == 34 || b == 92) refl refl parts.first) (quoted-past s parts.value r parts.then)

-- ---- trees
abbrev past_name : Option (List ℕ) → List ℕ → Option (List ℕ)
past_name None w = None
past_name (Some n) w = past_text n w

name-past : (k : ℕ) (o : Option (List ℕ)) (w r : List ℕ) → name_in [] k ≡ o → past_name o w ≡ Some r → Past (IsName (name_in []) k) w r
name-past k None w r is h = absurd (cc)
name-past k (Some n) w r is h = weaker w r (λ x e. is ∙ ap Some (sym e)) (text-past n w r h)

-- behind a name, where it ends
abbrev ended : List ℕ → Option (List ℕ)
ended w = cond (begins_with_name_byte w) None (Some w)

abbrev mutual
  pub past_tree : SyntaxTree → List ℕ → Option (List ℕ)
  past_tree (Token k s) w =
      option_and_then (λ u. option_and_then (λ v. option_and_then (λ x. past_text (codes "\"") x) (past_quoted s v)) (past_text (codes "\"") u)) (past_name (name_in [] k) w)
  past_tree (Node k f) w =
      option_and_then (λ u. option_and_then (λ v. option_and_then (λ x. option_and_then (λ y. past_text (codes ")") y) (past_elements f x)) (ended v)) (past_name (name_in [] k) u)) (past_text (codes "(") w)

  past_elements : Forest ℕ → List ℕ → Option (List ℕ)
  past_elements end w = Some (past_gap w)
  past_elements (more t f) w = option_and_then (λ v. past_elements f v) (past_tree t (past_gap w))

ends-before : (a b : List ℕ) → begins_with_name_byte (a ++ b) ≡ false → begins_with_name_byte a ≡ false
ends-before [] b h = refl
ends-before (x ∷ a) b h = h

front-ends : (v a b : List ℕ) → v ≡ a ++ b → begins_with_name_byte v ≡ false → begins_with_name_byte a ≡ false
front-ends v a b is h = ends-before a b (sym (ap begins_with_name_byte is) ∙ h)

ended-is : (v x : List ℕ) (t : Bool) → begins_with_name_byte v ≡ t → cond t None (Some v) ≡ Some x → (v ≡ x) × (begins_with_name_byte v ≡ false)
ended-is v x true is h = absurd (cc)
ended-is v x false is h = let same : v ≡ x = cc in (same, is)

mutual
  pub tree-past : (t : SyntaxTree) (w r : List ℕ) → past_tree t w ≡ Some r → Past (IsTreeText (name_in []) is_gap_space t) w r
  tree-past (Token k s) w r h =
      let name = both-there (past_name (name_in [] k) w) _ r h in
      let quote = both-there (past_text (codes "\"") name.value) _ r name.then in
      let text = both-there (past_quoted s quote.value) _ r quote.then in
      join w name.value r (name-past k (name_in [] k) w name.value refl name.first) (join name.value quote.value r (text-past (codes "\"") name.value quote.value quote.first) (join quote.value text.value r (quoted-past s quote.value text.value text.first) (text-past (codes "\"") text.value r text.then)))
  tree-past (Node k f) w r h =
      let opened = both-there (past_text (codes "(") w) _ r h in
      let name = both-there (past_name (name_in [] k) opened.value) _ r opened.then in
      let apart = both-there (ended name.value) _ r name.then in
      let inside = both-there (past_elements f apart.value) _ r apart.then in
      let end_of = ended-is name.value apart.value (begins_with_name_byte name.value) refl apart.first in
      let elements = elements-past f apart.value inside.value inside.first in
      let ends = front-ends name.value elements.front inside.value (end_of.0 ∙ elements.is) end_of.1 in
      let here : Past (IsApart (AreElements (name_in []) is_gap_space f)) name.value inside.value =
      record { front = elements.front; is = end_of.0 ∙ elements.is; says = (ends, elements.says) } in
      join w opened.value r (text-past (codes "(") w opened.value opened.first) (join opened.value name.value r (name-past k (name_in [] k) opened.value name.value refl name.first) (join name.value inside.value r here (text-past (codes ")") inside.value r inside.then)))

  elements-past : (f : Forest ℕ) (w r : List ℕ) → past_elements f w ≡ Some r → Past (AreElements (name_in []) is_gap_space f) w r
  elements-past end w r h =
      let same : past_gap w ≡ r = cc in
      subst (Past (IsGap is_gap_space) w) same (weaker w (past_gap w) spaces-gap (gap-past w))
  elements-past (more t f) w r h =
      let tree = both-there (past_tree t (past_gap w)) _ r h in
      join w (past_gap w) r (weaker w (past_gap w) spaces-gap (gap-past w)) (join (past_gap w) tree.value r (tree-past t (past_gap w) tree.value tree.first) (elements-past f tree.value r tree.then))

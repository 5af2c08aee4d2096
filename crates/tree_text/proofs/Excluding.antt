-- What refusals exclude.
--     split-two             two ways in which a text falls into two: the first part of one begins with that of the other
--     malformed-knows       a malformed text doesn't lack a name, whatever the bytes
--     malformed-once        a text is malformed at one byte
--     deep-once             it is too deep at one byte
--     malformed-never       it is no expression, whatever further names kinds have
--     lacking-never, deep-never      no more is one that lacks a name, nor one that is too deep of a tree that isn't
use Rattle.std.proofs.Common.{◌≡◌, ◌≤◌, ◌⊎◌, ℕ, Bool, true, false, List, [], ◌∷◌, ◌++◌, length, refl, sym, ap, ap₂, ◌∙◌, append_assoc, append-nil, subst, inl, inr, arith}
use Rattle.std.specs.Prelude.{codes}
use Rattle.std.specs.List.{list_all}
use Rattle.std.proofs.lemmas.Bool.{and_parts, false≢true}
use Rattle.std.proofs.lemmas.List.Folds.{list_all-append}
use Rattle.cst_core.specs.Tree.{SyntaxTree}
use Rattle.tree_text.specs.Depth.{depth}
use Rattle.tree_text.specs.Grammar.{IsExpression}
use Rattle.tree_text.specs.KindNames.{KindName, AreNames, is_name_byte, name_in}
use Rattle.tree_text.specs.Refusals.{KeepsNames, Begins, MayGoOn, IsMalformed, IsTooDeepFor, LacksName}
use Rattle.tree_text.proofs.FreshKinds.{one-more}

pub record Longer (p x q y : List ℕ) : Type 0 where
  pub between : List ℕ
  pub is : q ≡ p ++ between
  pub rest : x ≡ between ++ y

pub split-two : (p x q y : List ℕ) → p ++ x ≡ q ++ y → Longer p x q y ⊎ Longer q y p x
split-two [] x q y is = inl (record { between = q; is = refl; rest = is })
split-two (b ∷ p) x [] y is = inr (record { between = b ∷ p; is = refl; rest = sym is })
split-two (b ∷ p) x (c ∷ q) y is =
    let same : c ≡ b = cc in
    let rest : p ++ x ≡ q ++ y = cc in
    elim (split-two p x q y rest) [
      | inl l ↦ inl (record { between = l.between; is = ap₂ (λ a l. a ∷ l) same l.is; rest = l.rest })
      | inr l ↦ inr (record { between = l.between; is = ap₂ (λ a l. a ∷ l) (sym same) l.is; rest = l.rest })
    ]

-- a byte that ends names isn't within a part of one
not-within : (before : List ℕ) (c : ℕ) (after name : List ℕ) → is_name_byte c ≡ false → list_all is_name_byte name ≡ true → name ≡ before ++ c ∷ after → ⊥
not-within before c after name ends all is =
    let parts = and_parts (list_all is_name_byte before) (list_all is_name_byte (c ∷ after)) (sym (list_all-append is_name_byte before (c ∷ after)) ∙ ap (list_all is_name_byte) (sym is) ∙ all) in
    false≢true (sym ends ∙ (and_parts _ _ parts.1).0)

module _ (given : List KindName) (gaps : ℕ → Bool) where
  -- with what an expression begins, one begins with the front of it
  shorter : (more : List KindName) (a b : List ℕ) → Begins more gaps (a ++ b) → Begins more gaps a
  shorter more a b h = (h.0, b ++ h.1, subst (IsExpression (name_in more) gaps h.0) (append_assoc a b h.1) h.2)

  -- an expression that goes on behind a front of the text goes on with the text's next byte
  goes-on : (p rest before after : List ℕ) → rest ≡ before ++ after → (more : List KindName) → KeepsNames given more → (b : ℕ) (bs : List ℕ) → before ≡ b ∷ bs → Begins more gaps (p ++ before) → MayGoOn given gaps p rest
  goes-on p rest before after is more keeps b bs first h =
      let from : Begins more gaps ((p ++ b ∷ []) ++ bs) = subst (Begins more gaps) (ap (λ x. p ++ x) first ∙ sym (append_assoc p (b ∷ []) bs)) h in
      subst (MayGoOn given gaps p) (sym (is ∙ ap (λ x. x ++ after) first)) (more, keeps, shorter more (p ++ b ∷ []) bs from)

  module _ (w : List ℕ) (i j : ℕ) (m : IsMalformed given gaps w i) where
    abbrev end : List ℕ
    end = m.front ++ m.name

    module _ (l : LacksName given gaps w j) (known : AreNames (name_in given)) where
      abbrev before : List ℕ
      before = l.front ++ l.name

      abbrev more : List KindName
      more = given ++ (l.goes.0, l.name) ∷ []

      keeps : KeepsNames given more
      keeps = one-more given l.goes.0 l.name known l.spelled l.unknown

      -- the text is malformed before the byte behind the name
      at-name : (z : List ℕ) → before ≡ end ++ z → m.rest ≡ z ++ l.next ∷ l.rest → ⊥
      at-name z is rest =
          let with-next : before ++ l.next ∷ [] ≡ end ++ (z ++ l.next ∷ []) = ap (λ x. x ++ l.next ∷ []) is ∙ append_assoc end z (l.next ∷ []) in
          let rest' : m.rest ≡ (z ++ l.next ∷ []) ++ l.rest = rest ∙ sym (append_assoc z (l.next ∷ []) l.rest) in
          let first = head-of z l.next in
          m.stops (goes-on end m.rest (z ++ l.next ∷ []) l.rest rest' more keeps first.0 first.1 first.2 (subst (Begins more gaps) with-next l.goes.2))
        where
          head-of : (z : List ℕ) (c : ℕ) → (b : ℕ) × (bs : List ℕ) × (z ++ c ∷ [] ≡ b ∷ bs)
          head-of [] c = (c, [], refl)
          head-of (b ∷ z) c = (b, z ++ c ∷ [], refl)

      -- it begins as an expression does, past the name that no kind has
      past-name : (z : List ℕ) → m.front ≡ before ++ l.next ∷ z → ⊥
      past-name z is =
          let t = m.begins.0 in
          let x = m.begins.1 in
          l.stops t (l.next ∷ (z ++ x)) l.ends (subst (IsExpression (name_in given) gaps t) (ap (λ y. y ++ x) is ∙ append_assoc before (l.next ∷ z) x) m.begins.2)

      -- the byte behind the name stands before the front's end, since it is no byte of a name
      behind-name : (z : List ℕ) → end ≡ before ++ l.next ∷ z → ⊥
      behind-name z is = elim (split-two m.front m.name before (l.next ∷ z) is) [
        | inl within ↦ not-within within.between l.next z m.name l.ends m.spelled within.rest
        | inr past ↦ by past.between past.is past.rest
      ]
        where
          by : (y : List ℕ) → m.front ≡ before ++ y → l.next ∷ z ≡ y ++ m.name → ⊥
          by [] is' rest = not-within [] l.next z m.name l.ends m.spelled (sym rest)
          by (d ∷ y) is' rest =
              let same : d ≡ l.next = cc in
              past-name y (subst (λ b. m.front ≡ before ++ b ∷ y) same is')

      pub malformed-knows : ⊥
      malformed-knows = elim (split-two end m.rest before (l.next ∷ l.rest) (sym m.is ∙ l.is)) [
        | inl past ↦ at-name past.between past.is past.rest
        | inr past ↦ by past.between past.is past.rest
      ]
        where
          by : (z : List ℕ) → end ≡ before ++ z → l.next ∷ l.rest ≡ z ++ m.rest → ⊥
          by [] is rest = at-name [] (sym (append-nil before) ∙ sym is ∙ sym (append-nil end)) (sym rest)
          by (d ∷ z) is rest =
              let same : d ≡ l.next = cc in
              behind-name z (subst (λ b. end ≡ before ++ b ∷ z) same is)

  -- a malformed text isn't malformed further on
  not-further : (w : List ℕ) (i j : ℕ) (m : IsMalformed given gaps w i) (n : IsMalformed given gaps w j) → (z : List ℕ) → n.front ++ n.name ≡ (m.front ++ m.name) ++ z → m.rest ≡ z ++ n.rest → i ≡ j
  not-further w i j m n [] is rest = m.here ∙ ap length (sym (append-nil (m.front ++ m.name)) ∙ sym is) ∙ sym n.here
  not-further w i j m n (b ∷ z) is rest =
      let begins : Begins n.may_begin.0 gaps ((m.front ++ m.name) ++ b ∷ z) = subst (Begins n.may_begin.0 gaps) is n.may_begin.2 in
      absurd (m.stops (goes-on (m.front ++ m.name) m.rest (b ∷ z) n.rest rest n.may_begin.0 n.may_begin.1 b z refl begins))

  not-whole : (w p rest : List ℕ) → w ≡ p ++ rest → (MayGoOn given gaps p rest → ⊥) → (more : List KindName) → KeepsNames given more → (t : SyntaxTree) → IsExpression (name_in more) gaps t w → ⊥
  not-whole w p [] is stops more keeps t whole = stops (more, keeps, t, subst (IsExpression (name_in more) gaps t) (is ∙ append-nil p) whole)
  not-whole w p (b ∷ rest) is stops more keeps t whole =
      stops (more, keeps, (t, rest, subst (IsExpression (name_in more) gaps t) (is ∙ sym (append_assoc p (b ∷ []) rest)) whole))

  pub malformed-never : (w : List ℕ) (i : ℕ) → IsMalformed given gaps w i → (more : List KindName) → KeepsNames given more → (t : SyntaxTree) → IsExpression (name_in more) gaps t w → ⊥
  malformed-never w i m = not-whole w (m.front ++ m.name) m.rest m.is m.stops

  module _ (limit : ℕ) (w : List ℕ) (i j : ℕ) (m : IsTooDeepFor limit given gaps w i) (n : IsTooDeepFor limit given gaps w j) where
    -- before the later parenthesis an expression of a tree that isn't too deep has begun
    behind : (l : List ℕ) → n.front ≡ (m.front ++ codes "(") ++ l → ⊥
    behind l is =
        let f = n.fits in
        let deep = m.only f.0 (l ++ f.1) (subst (IsExpression (name_in given) gaps f.0) (ap (λ x. x ++ f.1) is ∙ append_assoc (m.front ++ codes "(") l f.1) f.2) in
        let shallow = f.3 in
        absurd (omega (arith, deep, shallow))

    not-deeper : (z : List ℕ) → n.front ++ codes "(" ≡ (m.front ++ codes "(") ++ z → i ≡ j
    not-deeper [] is = m.here ∙ ap length (sym (append-nil (m.front ++ codes "(")) ∙ sym is) ∙ sym n.here
    not-deeper (b ∷ z) is = elim (split-two n.front (codes "(") (m.front ++ codes "(") (b ∷ z) is) [
      | inl within ↦ by within.between within.is within.rest
      | inr past ↦ absurd (behind past.between past.is)
    ]
      where
        nothing : (xs : List ℕ) → [] ≡ xs ++ b ∷ z → ⊥
        nothing [] none = cc
        nothing (x ∷ xs) none = cc

        by : (y : List ℕ) → m.front ++ codes "(" ≡ n.front ++ y → codes "(" ≡ y ++ b ∷ z → i ≡ j
        by [] is' rest = absurd (behind [] (sym (append-nil n.front) ∙ sym is' ∙ sym (append-nil (m.front ++ codes "("))))
        by (x ∷ y) is' rest = let none : [] ≡ y ++ b ∷ z = cc in absurd (nothing y none)

  pub deep-once : (limit : ℕ) (w : List ℕ) (i j : ℕ) → IsTooDeepFor limit given gaps w i → IsTooDeepFor limit given gaps w j → i ≡ j
  deep-once limit w i j m n = elim (split-two (m.front ++ codes "(") m.rest (n.front ++ codes "(") n.rest (sym m.is ∙ n.is)) [
    | inl further ↦ not-deeper limit w i j m n further.between further.is
    | inr further ↦ sym (not-deeper limit w j i n m further.between further.is)
  ]

  pub lacking-never : (w : List ℕ) (i : ℕ) → LacksName given gaps w i → (t : SyntaxTree) → IsExpression (name_in given) gaps t w → ⊥
  lacking-never w i l t whole = l.stops t (l.next ∷ l.rest) l.ends (subst (IsExpression (name_in given) gaps t) l.is whole)

  pub deep-never : (limit : ℕ) (w : List ℕ) (i : ℕ) → IsTooDeepFor limit given gaps w i → (t : SyntaxTree) → IsExpression (name_in given) gaps t w → depth t ≤ limit → ⊥
  deep-never limit w i d t whole limited = let deep = d.only t d.rest (subst (IsExpression (name_in given) gaps t) d.is whole) in omega (arith, deep, limited)

  pub malformed-once : (w : List ℕ) (i j : ℕ) → IsMalformed given gaps w i → IsMalformed given gaps w j → i ≡ j
  malformed-once w i j m n = elim (split-two (m.front ++ m.name) m.rest (n.front ++ n.name) n.rest (sym m.is ∙ n.is)) [
    | inl further ↦ not-further w i j m n further.between further.is further.rest
    | inr further ↦ sym (not-further w j i n m further.between further.is further.rest)
  ]

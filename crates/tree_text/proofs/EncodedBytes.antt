-- The bytes of a character, where the tests on bytes hold of ASCII alone.
--     encode-ascii           those of an ASCII character
--     first-byte             the first one: a test that none from 128 on passes answers there as for the character
--     answers-first          so it does at whatever the first one is
--     plain-bytes            those of a character that isn't ASCII, of which none is a quote or a backslash
--     escaped-itself         those of one that has no escape
--     escaped-ascii          those of one that is known
--     escaped-more           one more character of an escaped text
--     large-names, large-gaps, large-trees       such tests
use Rattle.std.proofs.Common.{◌≡◌, ◌≢◌, ℕ, ◌+◌, ◌/◌, ◌≤◌, ◌<◌, Bool, true, false, not, ◌||◌, cond, eqb, ltb, leb, List, [], ◌∷◌, ◌++◌, append-nil, append_assoc, refl, sym, ap, ◌∙◌, subst, inl, inr, arith}
use Rattle.std.specs.Prelude.{encode_utf8, codes, ◌==◌}
use Rattle.std.specs.Str.{encode_utf8_all}
use Rattle.std.specs.List.{list_all}
use Rattle.std.proofs.lemmas.Bool.{and_parts, false≢true, cases_Bool, eqb-true, cases_lt}
use Rattle.std.proofs.lemmas.Bool.Decides.{nat_tests}
use Rattle.std.proofs.lemmas.Str.{encode_ascii, encodes-append}
use lib.Utf8.{encode, next}
use Rattle.tree_text.specs.Escape.{escape, escaped}
use Rattle.tree_text.specs.KindNames.{is_name_byte}
use Rattle.tree_text.specs.inner.Gap.{is_gap}
use Rattle.tree_text.specs.declared.gaps.Gaps.{Gaps}
use Rattle.tree_text.specs.declared.gaps.Gaps.TheVariants.{Spaces, Lines}
use Rattle.tree_text.proofs.Beginnings.{AreGaps, begins_tree, both}
use Rattle.tree_text.proofs.QuotedTexts.{is_special}

pub other : (a b : ℕ) → a ≢ b → eqb a b ≡ false
other a b differ = elim (cases_Bool (eqb a b)) [
  | inl is ↦ absurd (differ (eqb-true a b is))
  | inr is ↦ is
]

-- a test that no byte from 128 on passes
abbrev pub IsAsciiTest : (ℕ → Bool) → Type 0
IsAsciiTest p = (x : ℕ) → 128 ≤ x → p x ≡ false

pub large-names : IsAsciiTest is_name_byte
large-names x large = grind (arith, nat_tests)

pub large-at : (b : ℕ) → b < 128 → IsAsciiTest (λ x. eqb x b)
large-at b small x large = other x b (λ is. absurd (omega arith))

pub neither : (a b : Bool) → a ≡ false → b ≡ false → (a || b) ≡ false
neither true b x y = x
neither false b x y = y

pub large-trees : IsAsciiTest begins_tree
large-trees x large = neither (eqb x 40) (is_name_byte x) (large-at 40 (omega arith) x large) (large-names x large)

large-special : IsAsciiTest is_special
large-special x large = neither (eqb x 34) (eqb x 92) (large-at 34 (omega arith) x large) (large-at 92 (omega arith) x large)

pub large-gaps : (gaps : Gaps) → IsAsciiTest (is_gap gaps)
large-gaps Spaces x large = large-at 32 (omega arith) x large
large-gaps Lines x large = neither _ (eqb x 13) (neither _ (eqb x 10) (neither (eqb x 32) (eqb x 9) (large-at 32 (omega arith) x large) (large-at 9 (omega arith) x large)) (large-at 10 (omega arith) x large)) (large-at 13 (omega arith) x large)

pub encode-ascii : (c : ℕ) → c < 128 → encode_utf8 c ≡ c ∷ []
encode-ascii c small = encode_ascii c small

pub small-where : (p : ℕ → Bool) → IsAsciiTest p → (c : ℕ) → p c ≡ true → c < 128
small-where p test c is = elim (cases_lt c 128) [
  | inl small ↦ small
  | inr large ↦ absurd (false≢true (sym (test c large) ∙ is))
]

-- the bytes of a character from 128 on are from 128 on
pub record AreLarge (bytes : List ℕ) : Type 0 where
  pub first : ℕ
  pub rest : List ℕ
  pub is : bytes ≡ first ∷ rest
  pub large : 128 ≤ first
  pub all : list_all (leb 128) bytes ≡ true

large-byte : (b : ℕ) → 128 ≤ b → leb 128 b ≡ true
large-byte b large = grind (arith, nat_tests)

large-bytes : (b : ℕ) (bs : List ℕ) → 128 ≤ b → list_all (leb 128) bs ≡ true → AreLarge (b ∷ bs)
large-bytes b bs large all = record { first = b; rest = bs; is = refl; large = large; all = both (leb 128 b) _ (large-byte b large) all }

next-large : (x : ℕ) (bs : List ℕ) → list_all (leb 128) bs ≡ true → list_all (leb 128) (next x ∷ bs) ≡ true
next-large x bs all = both (leb 128 (next x)) _ (large-byte (next x) (omega arith)) all

large-cond : (p q r : Bool) (c : ℕ) → p ≡ false → AreLarge (cond p (c ∷ []) (cond q ((192 + c / 64) ∷ next c ∷ []) (cond r ((224 + c / 4096) ∷ next (c / 64) ∷ next c ∷ []) ((240 + c / 262144) ∷ next (c / 4096) ∷ next (c / 64) ∷ next c ∷ []))))
large-cond true q r c is = absurd (false≢true (sym is))
large-cond false true r c is = large-bytes (192 + c / 64) (next c ∷ []) (omega arith) (next-large c [] refl)
large-cond false false true c is = large-bytes (224 + c / 4096) (next (c / 64) ∷ next c ∷ []) (omega arith) (next-large (c / 64) (next c ∷ []) (next-large c [] refl))
large-cond false false false c is = large-bytes (240 + c / 262144) (next (c / 4096) ∷ next (c / 64) ∷ next c ∷ []) (omega arith) (next-large (c / 4096) (next (c / 64) ∷ next c ∷ []) (next-large (c / 64) (next c ∷ []) (next-large c [] refl)))

at-least : (b : ℕ) → leb 128 b ≡ true → 128 ≤ b
at-least b large = grind (arith, nat_tests)

all-plain : (bs : List ℕ) → list_all (leb 128) bs ≡ true → list_all (λ b. not (is_special b)) bs ≡ true
all-plain [] all = refl
all-plain (b ∷ bs) all =
    let p = and_parts _ _ all in
    both (not (is_special b)) _ (ap not (large-special b (at-least b p.0))) (all-plain bs p.1)

-- a byte that has no escape
itself-if : (n d r q s : Bool) (b : ℕ) → n ≡ false → d ≡ false → r ≡ false → q ≡ false → s ≡ false → cond n (codes "\\n") (cond d (codes "\\r") (cond r (codes "\\t") (cond q (codes "\\\"") (cond s (codes "\\\\") (b ∷ []))))) ≡ b ∷ []
itself-if true d r q s b n' d' r' q' s' = absurd (false≢true (sym n'))
itself-if false true r q s b n' d' r' q' s' = absurd (false≢true (sym d'))
itself-if false false true q s b n' d' r' q' s' = absurd (false≢true (sym r'))
itself-if false false false true s b n' d' r' q' s' = absurd (false≢true (sym q'))
itself-if false false false false true b n' d' r' q' s' = absurd (false≢true (sym s'))
itself-if false false false false false b n' d' r' q' s' = refl

all-escaped : (bs : List ℕ) → list_all (leb 128) bs ≡ true → escaped bs ≡ bs
all-escaped [] all = refl
all-escaped (b ∷ bs) all =
    let p = and_parts _ _ all in
    let large = at-least b p.0 in
    let it : escape b ≡ b ∷ [] = itself-if (b == 10) (b == 13) (b == 9) (b == 34) (b == 92) b (large-at 10 (omega arith) b large) (large-at 13 (omega arith) b large) (large-at 9 (omega arith) b large) (large-at 34 (omega arith) b large) (large-at 92 (omega arith) b large) in
    ap (λ l. l ++ escaped bs) it ∙ ap (λ l. b ∷ l) (all-escaped bs p.1)

not-below : (c : ℕ) → 128 ≤ c → ltb c 128 ≡ false
not-below c large = grind (arith, nat_tests)

pub encode-large : (c : ℕ) → 128 ≤ c → AreLarge (encode_utf8 c)
unfolding encode
encode-large c large = large-cond (ltb c 128) (ltb c 2048) (ltb c 65536) c (not-below c large)

pub record HasFirst (c : ℕ) : Type 0 where
  pub first : ℕ
  pub rest : List ℕ
  pub is : encode_utf8 c ≡ first ∷ rest
  pub answers : (p : ℕ → Bool) → IsAsciiTest p → p c ≡ false → p first ≡ false

pub first-byte : (c : ℕ) → HasFirst c
first-byte c = elim (cases_lt c 128) [
  | inl small ↦ record { first = c; rest = []; is = encode_ascii c small; answers = λ p test is. is }
  | inr large ↦ let l = encode-large c large in record { first = l.first; rest = l.rest; is = l.is; answers = λ p test is. test l.first l.large }
]

pub answers-first : (c b : ℕ) (after : List ℕ) → encode_utf8 c ≡ b ∷ after → (p : ℕ → Bool) → IsAsciiTest p → p c ≡ false → p b ≡ false
answers-first c b after is p test fails =
    let f = first-byte c in
    let both' : f.first ∷ f.rest ≡ b ∷ after = sym f.is ∙ is in
    let same : f.first ≡ b = cc in
    subst (λ x. p x ≡ false) same (f.answers p test fails)

-- a character that is no quote and no backslash stands for itself
pub plain-bytes : (c : ℕ) → is_special c ≡ false → list_all (λ b. not (is_special b)) (encode_utf8 c) ≡ true
plain-bytes c plain = elim (cases_lt c 128) [
  | inl small ↦ subst (λ l. list_all (λ b. not (is_special b)) l ≡ true) (sym (encode_ascii c small)) (both (not (is_special c)) true (ap not plain) refl)
  | inr large ↦ all-plain (encode_utf8 c) (encode-large c large).all
]

gap-apart : (gaps : Gaps) (b : ℕ) → is_gap gaps b ≡ true → begins_tree b ≡ false
gap-apart Spaces b is = ap begins_tree (eqb-true b 32 is)
gap-apart Lines b is =
    blank (eqb b 32) (eqb b 9) (eqb b 10) (eqb b 13) b (eqb-true b 32) (eqb-true b 9) (eqb-true b 10) (eqb-true b 13) is
  where
    blank : (s t n r : Bool) (b : ℕ) → (s ≡ true → b ≡ 32) → (t ≡ true → b ≡ 9) → (n ≡ true → b ≡ 10) → (r ≡ true → b ≡ 13) → (s || t || n || r) ≡ true → begins_tree b ≡ false
    blank true t n r b s' t' n' r' is = ap begins_tree (s' refl)
    blank false true n r b s' t' n' r' is = ap begins_tree (t' refl)
    blank false false true r b s' t' n' r' is = ap begins_tree (n' refl)
    blank false false false true b s' t' n' r' is = ap begins_tree (r' refl)
    blank false false false false b s' t' n' r' is = absurd (false≢true is)

no-close : (gaps : Gaps) → is_gap gaps 41 ≡ false
no-close Spaces = refl
no-close Lines = refl

pub are-gaps : (gaps : Gaps) → AreGaps (is_gap gaps)
are-gaps gaps = record { begin_no_tree = gap-apart gaps; close_no_node = no-close gaps }

pub escaped-itself : (c : ℕ) → c ≢ 10 → c ≢ 13 → c ≢ 9 → c ≢ 34 → c ≢ 92 → escaped (encode_utf8 c) ≡ encode_utf8 c
escaped-itself c n d r q s = elim (cases_lt c 128) [
  | inl small ↦
      let it : escape c ≡ c ∷ [] = itself-if (c == 10) (c == 13) (c == 9) (c == 34) (c == 92) c (other c 10 n) (other c 13 d) (other c 9 r) (other c 34 q) (other c 92 s) in
      ap escaped (encode_ascii c small) ∙ append-nil (escape c) ∙ it ∙ sym (encode_ascii c small)
  | inr large ↦ all-escaped (encode_utf8 c) (encode-large c large).all
]

pub escaped-append : (a b : List ℕ) → escaped (a ++ b) ≡ escaped a ++ escaped b
escaped-append [] b = refl
escaped-append (x ∷ a) b = ap (λ l. escape x ++ l) (escaped-append a b) ∙ sym (append_assoc (escape x) (escaped a) (escaped b))

-- one more character is escaped
pub escaped-more : (cs : List ℕ) (c : ℕ) (old before new : List ℕ) → old ≡ before ++ escaped (encode_utf8_all cs) → new ≡ old ++ escaped (encode_utf8 c) → new ≡ before ++ escaped (encode_utf8_all (cs ++ c ∷ []))
escaped-more cs c old before new so_far more =
    let all : escaped (encode_utf8_all (cs ++ c ∷ [])) ≡ escaped (encode_utf8_all cs) ++ escaped (encode_utf8 c) =
    ap escaped (encodes-append cs (c ∷ []) ∙ ap (λ l. encode_utf8_all cs ++ l) (append-nil (encode_utf8 c))) ∙ escaped-append (encode_utf8_all cs) (encode_utf8 c) in
    more ∙ ap (λ l. l ++ escaped (encode_utf8 c)) so_far ∙ append_assoc before (escaped (encode_utf8_all cs)) (escaped (encode_utf8 c)) ∙ ap (λ l. before ++ l) (sym all)

-- an ASCII character that is known
pub escaped-ascii : (c d : ℕ) → c ≡ d → d < 128 → escape d ≡ escaped (encode_utf8 c)
escaped-ascii c d is small = sym (ap (λ x. escaped (encode_utf8 x)) is ∙ ap escaped (encode_ascii d small) ∙ append-nil (escape d))

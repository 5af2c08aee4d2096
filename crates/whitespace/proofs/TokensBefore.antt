-- The tokens before an element one after another, and the level that is read on the way back.
--     tokens_before-last           those before the last one of them are all the others
--     level_of_token               the level of a token as an element
--     level_here                   the level of a whitespace token that breaks the line
--     level_before, level_first    the level of any other token: that of the token before it, and 0 where there is none
--     back_one, zero_first         the same, as calls answer it
--     zero_read                    level 0 is no deep one
use Rattle.std.specs.Prelude.{◌≡◌, ℕ, suc, ◌<◌, ◌≤◌, Bool, true, false, cond, List, [], ◌∷◌, ◌++◌, length, map, filter, Option, Some, None, Ok, option_map, unwrap_or, refl}
use Rattle.std.specs.List.{AllByRecursion}
use Rattle.std.specs.Option.{option_map_or}
use Rattle.std.proofs.Common.{ap, sym, ◌∙◌, subst, arith}
use Rattle.std.proofs.lemmas.Bool.{cases_Bool, cond-true, cond-false}
use Rattle.std.proofs.lemmas.Bool.Decides.{nat_tests}
use Rattle.std.proofs.lemmas.List.{length-append, map-append}
use mathlib.Core.Logic.{inl, inr}
use Rattle.cst_core.specs.Path.{Path, precedes, first_item, last_item}
use Rattle.cst_core.specs.Tree.{Forest, Token, Node, end, more, SyntaxTree, at, is_token, text, paths, paths_from}
use Rattle.cst_core.specs.Order.{token_paths, tokens_before}
use Rattle.cst_core.specs.Element.{Element, IsToken, element_at, below, subtree}
use Rattle.cst_core.specs.SyntaxElement.{token_before}
use Rattle.whitespace.specs.Level.{breaks_line, tokens_up_to, level_after, token_level, level, is_too_deep}
use Rattle.whitespace.specs.LevelCalls.{ReadsLevel}
use Rattle.whitespace.specs.declared.level.IndentLevel.{IndentLevel}

-- ---- document order
precedes-self : (p : Path) → precedes p p ≡ false
precedes-self [] = refl
precedes-self (i ∷ p) = let rest = precedes-self p in grind (arith, nat_tests)

precedes-turned : (p q : Path) → precedes p q ≡ true → precedes q p ≡ false
precedes-turned [] [] h = refl
precedes-turned [] (j ∷ q) h = refl
precedes-turned (i ∷ p) [] h = cc
precedes-turned (i ∷ p) (j ∷ q) h = let rest = precedes-turned p q in grind (arith, nat_tests)

precedes-through : (p q r : Path) → precedes p q ≡ true → precedes q r ≡ true → precedes p r ≡ true
precedes-through p q [] h k = k
precedes-through [] q (l ∷ r) h k = refl
precedes-through (i ∷ p) [] (l ∷ r) h k = cc
precedes-through (i ∷ p) (j ∷ q) (l ∷ r) h k = let rest = precedes-through p q r in grind (arith, nat_tests)

precedes-child : (i : ℕ) (p q : Path) → precedes p q ≡ true → precedes (i ∷ p) (i ∷ q) ≡ true
precedes-child i p q h = grind (arith, nat_tests)

-- ---- lists in document order
abbrev InOrder : List Path → Type 0
InOrder [] = Unit {0}
InOrder (p ∷ ps) = AllByRecursion (λ q. precedes p q ≡ true) ps × InOrder ps

abbrev FromSlot : ℕ → Path → Type 0
FromSlot i [] = ⊥
FromSlot i (j ∷ p) = i ≤ j

further : (i : ℕ) (ps : List Path) → AllByRecursion (FromSlot (suc i)) ps → AllByRecursion (FromSlot i) ps
further i [] all = tt
further i ([] ∷ ps) all = absurd all.0
further i ((j ∷ p) ∷ ps) all = (omega arith, further i ps all.1)

all_joined : (P : Path → Type 0) (ps qs : List Path) → AllByRecursion P ps → AllByRecursion P qs → AllByRecursion P (ps ++ qs)
all_joined P [] qs all others = others
all_joined P (p ∷ ps) qs all others = (all.0, all_joined P ps qs all.1 others)

all_in_child : (i : ℕ) (ps : List Path) → AllByRecursion (FromSlot i) (map (λ p. i ∷ p) ps)
all_in_child i [] = tt
all_in_child i (p ∷ ps) = (omega arith, all_in_child i ps)

from_slot : (i : ℕ) (f : Forest ℕ) → AllByRecursion (FromSlot i) (paths_from i f)
from_slot i end = tt
from_slot i (more t f) = all_joined (FromSlot i) (map (λ p. i ∷ p) (paths t)) (paths_from (suc i) f) (all_in_child i (paths t)) (further i (paths_from (suc i) f) (from_slot (suc i) f))

after_child : (i : ℕ) (p : Path) (ps : List Path) → AllByRecursion (FromSlot (suc i)) ps → AllByRecursion (λ q. precedes (i ∷ p) q ≡ true) ps
after_child i p [] all = tt
after_child i p ([] ∷ ps) all = absurd all.0
after_child i p ((j ∷ q) ∷ ps) all = (later all.0, after_child i p ps all.1)
  where
    later : suc i ≤ j → precedes (i ∷ p) (j ∷ q) ≡ true
    later h = grind (arith, nat_tests)

after_top : (i : ℕ) (ps : List Path) → AllByRecursion (FromSlot i) ps → AllByRecursion (λ q. precedes [] q ≡ true) ps
after_top i [] all = tt
after_top i ([] ∷ ps) all = absurd all.0
after_top i ((j ∷ p) ∷ ps) all = (refl, after_top i ps all.1)

in_child : (i : ℕ) (p : Path) (ps : List Path) → AllByRecursion (λ q. precedes p q ≡ true) ps → AllByRecursion (λ q. precedes (i ∷ p) q ≡ true) (map (λ q. i ∷ q) ps)
in_child i p [] all = tt
in_child i p (q ∷ ps) all = (precedes-child i p q all.0, in_child i p ps all.1)

child_first : (i : ℕ) (ps qs : List Path) → InOrder ps → AllByRecursion (FromSlot (suc i)) qs → InOrder qs → InOrder (map (λ p. i ∷ p) ps ++ qs)
child_first i [] qs order from rest = rest
child_first i (p ∷ ps) qs order from rest =
    (all_joined (λ q. precedes (i ∷ p) q ≡ true) (map (λ q. i ∷ q) ps) qs (in_child i p ps order.0) (after_child i p qs from), child_first i ps qs order.1 from rest)

mutual
  paths_in_order : (t : SyntaxTree) → InOrder (paths t)
  paths_in_order (Token k s) = (tt, tt)
  paths_in_order (Node k f) = (after_top 0 (paths_from 0 f) (from_slot 0 f), children_in_order 0 f)

  children_in_order : (i : ℕ) (f : Forest ℕ) → InOrder (paths_from i f)
  children_in_order i end = tt
  children_in_order i (more t f) = child_first i (paths t) (paths_from (suc i) f) (paths_in_order t) (from_slot (suc i) f) (children_in_order (suc i) f)

-- ---- a part of such a list
all_of_part : (P : Path → Type 0) (test : Path → Bool) (ps : List Path) → AllByRecursion P ps → AllByRecursion P (filter test ps)
all_of_part P test [] all = tt
all_of_part P test (p ∷ ps) all =
    elim (test p) as (λ b. AllByRecursion P (cond b (p ∷ filter test ps) (filter test ps))) [
      | true ↦ (all.0, all_of_part P test ps all.1)
      | false ↦ all_of_part P test ps all.1
    ]

part_in_order : (test : Path → Bool) (ps : List Path) → InOrder ps → InOrder (filter test ps)
part_in_order test [] order = tt
part_in_order test (p ∷ ps) order =
    elim (test p) as (λ b. InOrder (cond b (p ∷ filter test ps) (filter test ps))) [
      | true ↦ (all_of_part (λ q. precedes p q ≡ true) test ps order.0, part_in_order test ps order.1)
      | false ↦ part_in_order test ps order.1
    ]

none_before : (p : Path) (ps : List Path) → AllByRecursion (λ q. precedes p q ≡ true) ps → filter (λ q. precedes q p) ps ≡ []
none_before p [] all = refl
none_before p (q ∷ ps) all = cond-false _ _ _ (precedes-turned p q all.0) ∙ none_before p ps all.1

-- what stands after an element that is not before e is not before e either
none_further : (p e : Path) (ps : List Path) → precedes p e ≡ false → AllByRecursion (λ q. precedes p q ≡ true) ps → filter (λ q. precedes q e) ps ≡ []
none_further p e [] not all = refl
none_further p e (q ∷ ps) not all =
    elim (cases_Bool (precedes q e)) [
      | inl is ↦ let through = precedes-through p q e all.0 is in cc
      | inr isnt ↦ cond-false _ _ _ isnt ∙ none_further p e ps not all.1
    ]

all_last : (P : Path → Type 0) (ps : List Path) (q : Path) → AllByRecursion P ps → last_item ps ≡ Some q → P q
all_last P [] q all is = absurd (none is)
  where
    none : ◌≡◌ {A = Option Path} None (Some q) → ⊥
    none h = cc
all_last P (p ∷ []) q all is = subst P (same is) all.0
  where
    same : Some p ≡ Some q → p ≡ q
    same h = cc
all_last P (p ∷ r ∷ ps) q all is = all_last P (r ∷ ps) q all.1 is

-- the elements before the last one that is before e
before_last : (ps : List Path) (e q : Path) → InOrder ps → last_item (filter (λ r. precedes r e) ps) ≡ Some q → filter (λ r. precedes r e) ps ≡ filter (λ r. precedes r q) ps ++ q ∷ []
before_last [] e q order is = cc
before_last (p ∷ ps) e q order is =
    elim (cases_Bool (precedes p e)) [
      | inl here ↦ cond-true _ _ _ here ∙ at (before_last ps e q order.1) (filter (λ r. precedes r e) ps) refl (ap last_item (sym (cond-true _ _ _ here)) ∙ is)
      | inr not ↦ absurd (nothing (ap last_item (sym (cond-false _ _ _ not ∙ none_further p e ps not order.0)) ∙ is))
    ]
  where
    nothing : ◌≡◌ {A = Option Path} None (Some q) → ⊥
    nothing h = cc

    same : Some p ≡ Some q → p ≡ q
    same h = cc

    alone : p ≡ q → filter (λ r. precedes r q) (p ∷ ps) ≡ []
    alone h = subst (λ x. filter (λ r. precedes r x) (p ∷ ps) ≡ []) h (cond-false _ _ _ (precedes-self p) ∙ none_before p ps order.0)

    at : (last_item (filter (λ r. precedes r e) ps) ≡ Some q → filter (λ r. precedes r e) ps ≡ filter (λ r. precedes r q) ps ++ q ∷ [])
        → (rest : List Path) → filter (λ r. precedes r e) ps ≡ rest → last_item (p ∷ rest) ≡ Some q → p ∷ rest ≡ filter (λ r. precedes r q) (p ∷ ps) ++ q ∷ []
    at further_on [] is_rest last = ap (λ x. x ∷ []) (same last) ∙ sym (ap (λ l. l ++ q ∷ []) (alone (same last)))
    at further_on (r ∷ rest) is_rest last =
        let there : last_item (filter (λ x. precedes x e) ps) ≡ Some q = ap last_item is_rest ∙ last in
        let within : precedes p q ≡ true = all_last (λ x. precedes p x ≡ true) (filter (λ x. precedes x e) ps) q (all_of_part (λ x. precedes p x ≡ true) (λ x. precedes x e) ps order.0) there in
        ap (λ l. p ∷ l) (sym is_rest ∙ further_on there) ∙ sym (ap (λ l. l ++ q ∷ []) (cond-true _ _ _ within))

pub tokens_before-last : (t : SyntaxTree) (p q : Path) → last_item (tokens_before t p) ≡ Some q → tokens_before t p ≡ tokens_before t q ++ q ∷ []
tokens_before-last t p q is = before_last (token_paths t) p q (part_in_order (λ r. option_map_or is_token (at t r) false) (paths t) (paths_in_order t)) is

-- ---- levels
-- a token is its own first token
pub level_of_token : (e : Element) → IsToken e → level e ≡ token_level e
level_of_token e is = at_tree (at e.root e.path) refl is
  where
    itself : (p : Path) → p ++ [] ≡ p
    itself [] = refl
    itself (i ∷ p) = ap (λ q. i ∷ q) (itself p)

    at_tree : (o : Option SyntaxTree) → at e.root e.path ≡ o → option_map is_token o ≡ Some true → level e ≡ token_level e
    at_tree None was h = cc
    at_tree (Some (Node k f)) was h = cc
    at_tree (Some (Token k s)) was h =
        ap (λ t. option_map_or token_level (option_map (below e) (first_item (token_paths t))) 0) (ap (λ o. unwrap_or o (Token 0 [])) was) ∙ ap (λ p. token_level (element_at e p)) (itself e.path)

abbrev level_of : Element → ℕ
level_of whitespace = level_after (text (subtree whitespace))

abbrev read : List Element → ℕ
read tokens = option_map_or level_of (last_item (filter breaks_line tokens)) 0

filter-last : (tokens : List Element) (e : Element) → filter breaks_line (tokens ++ e ∷ []) ≡ filter breaks_line tokens ++ cond (breaks_line e) (e ∷ []) []
filter-last [] e = refl
filter-last (t ∷ tokens) e =
    elim (breaks_line t) as (λ b. cond b (t ∷ filter breaks_line (tokens ++ e ∷ [])) (filter breaks_line (tokens ++ e ∷ [])) ≡ cond b (t ∷ filter breaks_line tokens) (filter breaks_line tokens) ++ cond (breaks_line e) (e ∷ []) []) [
      | true ↦ ap (λ l. t ∷ l) (filter-last tokens e)
      | false ↦ filter-last tokens e
    ]

last_of_joined : (es : List Element) (e : Element) → last_item (es ++ e ∷ []) ≡ Some e
last_of_joined [] e = refl
last_of_joined (x ∷ []) e = refl
last_of_joined (x ∷ y ∷ es) e = last_of_joined (y ∷ es) e

append-nil : (es : List Element) → es ++ [] ≡ es
append-nil [] = refl
append-nil (e ∷ es) = ap (λ l. e ∷ l) (append-nil es)

module _ (e : Element) where
  abbrev pub before : List Path
  before = tokens_before e.root e.path

  up_to : tokens_up_to e ≡ map (element_at e) before ++ e ∷ []
  up_to = map-append (element_at e) before (e.path ∷ [])

  pub level_here : breaks_line e ≡ true → token_level e ≡ level_after (text (subtree e))
  level_here here =
      ap read up_to ∙ ap (λ l. option_map_or level_of (last_item l) 0) (filter-last (map (element_at e) before) e ∙ ap (λ b. filter breaks_line (map (element_at e) before) ++ cond b (e ∷ []) []) here) ∙ ap (λ l. option_map_or level_of l 0) (last_of_joined (filter breaks_line (map (element_at e) before)) e)

  passed : breaks_line e ≡ false → token_level e ≡ read (map (element_at e) before)
  passed not =
      ap read up_to ∙ ap (λ l. option_map_or level_of (last_item l) 0) (filter-last (map (element_at e) before) e ∙ ap (λ b. filter breaks_line (map (element_at e) before) ++ cond b (e ∷ []) []) not ∙ append-nil (filter breaks_line (map (element_at e) before)))

  pub level_first : breaks_line e ≡ false → token_before e ≡ None → token_level e ≡ 0
  level_first not none = passed not ∙ ap (λ l. read (map (element_at e) l)) (empty before none)
    where
      empty : (ps : List Path) → option_map (element_at e) (last_item ps) ≡ None → ps ≡ []
      empty [] h = refl
      empty (p ∷ []) h = cc
      empty (p ∷ q ∷ ps) h = absurd (some (q ∷ ps) (empty (q ∷ ps) h) q ps refl)
        where
          some : (rs : List Path) → rs ≡ [] → (r : Path) (qs : List Path) → rs ≡ r ∷ qs → ⊥
          some rs is r qs isnt = cc

pub record OneBack (e b : Element) : Type 0 where
  pub same : token_level e ≡ token_level b
  pub fewer : length (before b) < length (before e)

pub level_before : (e b : Element) → breaks_line e ≡ false → token_before e ≡ Some b → OneBack e b
level_before e b not is = at (last_item (before e)) refl is
  where
    at : (last : Option Path) → last_item (before e) ≡ last → option_map (element_at e) last ≡ Some b → OneBack e b
    at None was h = cc
    at (Some q) was h =
        let there : element_at e q ≡ b = some_same (element_at e q) h in
        let all : before e ≡ tokens_before e.root q ++ q ∷ [] = tokens_before-last e.root e.path q was in
        subst (λ x. OneBack e x) there (record {
          same = passed e not ∙ ap (λ l. read (map (element_at e) l)) all;
          fewer = omega (arith, ap length all, length-append (tokens_before e.root q) (q ∷ []));
        })
      where
        some_same : (x : Element) → Some x ≡ Some b → x ≡ b
        some_same x h = cc

-- ---- as the walk finds it
pub back_one : (e b : Element) (breaks : Bool) (r : Option Element) → breaks ≡ breaks_line e → breaks ≡ false → r ≡ token_before e → r ≡ Some b → OneBack e b
back_one e b breaks r is not before there = level_before e b (sym is ∙ not) (sym before ∙ there)

pub zero_first : (n : ℕ) (e : Element) (breaks : Bool) (r : Option Element) → n ≡ token_level e → breaks ≡ breaks_line e → breaks ≡ false → r ≡ token_before e → r ≡ None → n ≡ 0
zero_first n e breaks r same is not before none = same ∙ level_first e (sym is ∙ not) (sym before ∙ none)

pub zero_read : (n : ℕ) (l : IndentLevel) → n ≡ 0 → l.0 ≡ 0 → ReadsLevel n (Ok l)
zero_read n l is zero = (ap is_too_deep is, zero ∙ sym is)

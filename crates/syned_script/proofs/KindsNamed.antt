-- Names that are given to kinds one after the other.
--     Left              some of all names were given, and these are left: they can be given exactly if all can, to the same kinds
--     all-left, one-named, all-named, not-free      at first, one name on, at last, and where the next name can't be given
--     kinds-line        what a line gives that names kinds
use Rattle.std.proofs.Common.{◌≡◌, ℕ, ◌+◌, ◌<◌, ◌≤◌, List, [], ◌∷◌, ◌++◌, length, get_or, drop, Result, Ok, Err, OnOk, IfErr, refl, sym, ◌∙◌, ap, subst}
use Rattle.std.proofs.lemmas.List.{drop_all, drop_more}
use Rattle.tree_text.specs.KindNames.{KindName, next_kind}
use Rattle.script_lines.specs.LineValue.{texts_of}
use Rattle.script_lines.specs.ScriptLine as line
use Rattle.script_lines.specs.declared.field.Field.{Field}
use Rattle.syned_script.specs.State.{State, IsFree, AreFree, named}
use Rattle.syned_script.specs.inner.Stops.{StopsFor, LineGives}
use Rattle.syned_script.specs.declared.stop.Stop.{Stop}
use Rattle.syned_script.specs.declared.stop.Stop.TheVariants as stop

pub record Left (given : List KindName) (all : List (List ℕ)) (now : List KindName) (left : List (List ℕ)) : Type 0 where
  pub same : named now left ≡ named given all
  pub on : AreFree given all → AreFree now left
  pub back : AreFree now left → AreFree given all

pub all-left : (given : List KindName) (all : List (List ℕ)) → Left given all given all
all-left given all = record { same = refl; on = λ h. h; back = λ h. h }

one-on : (given now next : List KindName) (all : List (List ℕ)) (name : List ℕ) (left : List (List ℕ)) → Left given all now (name ∷ left) → IsFree now name → next ≡ now ++ (next_kind now, name) ∷ [] → Left given all next left
one-on given now next all name left l free is = record {
  same = ap (λ g. named g left) is ∙ l.same;
  on = λ h. subst (λ g. AreFree g left) (sym is) (l.on h).1;
  back = λ h. l.back (free, subst (λ g. AreFree g left) is h);
}

-- what is left from an index on
next-text : (fields : List Field) (i : ℕ) (d : Field) → i < length fields → texts_of (drop i fields) ≡ (get_or fields i d).text.now ∷ texts_of (drop (i + 1) fields)
next-text fields i d within = ap texts_of (drop_more fields i d within)

pub one-named : (given now next : List KindName) (fields : List Field) (i : ℕ) (d : Field) → i < length fields → Left given (texts_of fields) now (texts_of (drop i fields)) → IsFree now (get_or fields i d).text.now → next ≡ now ++ (next_kind now, (get_or fields i d).text.now) ∷ [] → Left given (texts_of fields) next (texts_of (drop (i + 1) fields))
one-named given now next fields i d within l free is =
    one-on given now next (texts_of fields) (get_or fields i d).text.now (texts_of (drop (i + 1) fields)) (subst (Left given (texts_of fields) now) (next-text fields i d within) l) free is

pub not-free : (given now : List KindName) (fields : List Field) (i : ℕ) (d : Field) → i < length fields → Left given (texts_of fields) now (texts_of (drop i fields)) → (IsFree now (get_or fields i d).text.now → ⊥) → AreFree given (texts_of fields) → ⊥
not-free given now fields i d within l none h = none (subst (AreFree now) (next-text fields i d within) (l.on h)).0

pub all-named : (given now : List KindName) (fields : List Field) (i : ℕ) → length fields ≤ i → Left given (texts_of fields) now (texts_of (drop i fields)) → (now ≡ named given (texts_of fields)) × AreFree given (texts_of fields)
all-named given now fields i past l =
    let none : texts_of (drop i fields) ≡ [] = ap texts_of (drop_all i fields past) in
    let l' = subst (Left given (texts_of fields) now) none l in
    (l'.same, l'.back tt)

pub stops-also : (P Q : Type 0) (s : Stop) → (P → Q) → StopsFor P (λ r. ⊥) s → StopsFor Q (λ r. ⊥) s
stops-also P Q (stop.Bad f) on h = on h
stops-also P Q (stop.Refused r) on h = h
stops-also P Q stop.Memory on h = h

-- ---- the line
abbrev with_kinds : List KindName → State → State
with_kinds kinds s = record s { language = record s.language { kinds = kinds } }

pub kinds-line : (s : State) (names : List (List ℕ)) (r : Result (Unit {0}) Stop) (kinds : List KindName) → s.next ≡ 1 → OnOk r (kinds ≡ named s.language.kinds names) → OnOk r (AreFree s.language.kinds names) → IfErr r (StopsFor (AreFree s.language.kinds names → ⊥) (λ r. ⊥)) → LineGives s (line.Kinds names) r (with_kinds kinds s)
kinds-line s names (Ok done) kinds first same free stops = (first, free, ap (λ k. with_kinds k s) same)
kinds-line s names (Err (stop.Bad f)) kinds first same free stops = λ again. stops
kinds-line s names (Err (stop.Refused r)) kinds first same free stops = stops
kinds-line s names (Err stop.Memory) kinds first same free stops = tt

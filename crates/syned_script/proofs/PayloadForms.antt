-- Which call a line has, by the number of new elements.
use Rattle.std.proofs.Common.{◌≡◌, ◌≢◌, true, false, List, [], ◌∷◌, length, map, get_or, option_and_then, refl, sym, ap, arith}
use Rattle.std.specs.Bool.{◌==◌}
use Rattle.syntax_editor.specs.RecordCall.{Inserting, InsertingAll, Replacing, ReplacingWithMany, DeletingAll, ReplacingAll}
use Rattle.script_lines.specs.ScriptLine.{Ref, Gap, Insert, Replace, Range}
use Rattle.script_lines.specs.LineValue.{ref_of}
use Rattle.script_lines.specs.declared.reference.Reference.{Reference}
use Rattle.syned_script.specs.State.{Roots, element_in, elements_in, position_in, of_both, call_in}

abbrev pub IsOne : List Reference → Reference → Type 0
IsOne rs one = (length rs ≡ 1) × (one ≡ get_or rs 0 one)

abbrev pub IsNotOne : List Reference → Type 0
IsNotOne rs = length rs ≢ 1

one-is : (rs : List Reference) (one : Reference) → IsOne rs one → rs ≡ one ∷ []
one-is [] one h = absurd (omega (arith, h.0))
one-is (x ∷ []) one h = ap (λ y. y ∷ []) (sym h.1)
one-is (x ∷ y ∷ more) one h = absurd (omega (arith, h.0))

pub inserts-one : (roots : Roots) (at : Gap) (rs : List Reference) (one : Reference) → IsOne rs one → call_in roots (Insert at (map ref_of rs)) ≡ of_both Inserting (position_in roots at) (element_in roots (ref_of one))
inserts-one roots at rs one h = ap (λ l. call_in roots (Insert at (map ref_of l))) (one-is rs one h)

pub replaces-by-one : (roots : Roots) (target : Ref) (rs : List Reference) (one : Reference) → IsOne rs one → call_in roots (Replace target (map ref_of rs)) ≡ of_both Replacing (element_in roots target) (element_in roots (ref_of one))
replaces-by-one roots target rs one h = ap (λ l. call_in roots (Replace target (map ref_of l))) (one-is rs one h)

pub inserts-all : (roots : Roots) (at : Gap) (rs : List Reference) → IsNotOne rs → call_in roots (Insert at (map ref_of rs)) ≡ of_both InsertingAll (position_in roots at) (elements_in roots (map ref_of rs))
inserts-all roots at [] h = refl
inserts-all roots at (x ∷ []) h = absurd (h refl)
inserts-all roots at (x ∷ y ∷ more) h = refl

pub replaces-with-many : (roots : Roots) (target : Ref) (rs : List Reference) → IsNotOne rs → call_in roots (Replace target (map ref_of rs)) ≡ of_both ReplacingWithMany (element_in roots target) (elements_in roots (map ref_of rs))
replaces-with-many roots target [] h = refl
replaces-with-many roots target (x ∷ []) h = absurd (h refl)
replaces-with-many roots target (x ∷ y ∷ more) h = refl

pub deletes-all : (roots : Roots) (first last : Ref) (rs : List Reference) → true ≡ (length rs == 0) → call_in roots (Range first last (map ref_of rs)) ≡ of_both DeletingAll (element_in roots first) (element_in roots last)
deletes-all roots first last [] h = refl
deletes-all roots first last (x ∷ more) h = absurd (grind (arith, h))

pub replaces-all : (roots : Roots) (first last : Ref) (rs : List Reference) → false ≡ (length rs == 0) → call_in roots (Range first last (map ref_of rs)) ≡ option_and_then (λ e. of_both (ReplacingAll e) (element_in roots last) (elements_in roots (map ref_of rs))) (element_in roots first)
replaces-all roots first last [] h = absurd (grind (arith, h))
replaces-all roots first last (x ∷ more) h = refl

-- Places of worked scripts: where changes are found in what replaces a node around them.
--     address              an element's number and path
--     placed               the place of one change's target, and those of others
--     all_placed           each change that is owned has its place
--     edited_at            a script whose changes are carried out, where the places are given
--     unmapped             where nothing is mapped, only elements of the payload's tree stand in it
--     stays                and the payload stands in itself only whole
--     edited_at_by         the same of one with an order
--     owner_too_early      a script whose order has a change too early that owns another one
--     not_placed           a script with a change that has no place, and none before it that needs one
use Rattle.std.specs.Prelude.{◌≡◌, ℕ, zero, suc, ◌<◌, true, false, cond, List, [], ◌∷◌, take, slice_get, Option, Some, None, IfSome, IsSomeAnd, nat_eq, is_none, ◌++◌}
use Rattle.std.specs.List.{AllByRecursion}
use Rattle.std.proofs.Common.{ap, sym, ◌∙◌, subst, arith}
use Rattle.std.proofs.lemmas.Bool.{false≢true}
use Rattle.std.proofs.lemmas.List.{append_assoc, append-nil}
use Rattle.std.proofs.lemmas.List.Elements.{All-from_recursion}
use Rattle.cst_core.specs.Path.{Path}
use Rattle.cst_core.specs.Element.{Address}
use Rattle.syntax_editor.specs.Mapping.{StandsFor}
use Rattle.syntax_editor.specs.ChangeForms.{Change}
use Rattle.syntax_editor.specs.EditError.TheVariants.{MissingMapping}
use Rattle.syntax_editor.specs.ExecuteError.TheVariants.{OwnerTooEarly}
use Rattle.syntax_editor.specs.Schedule.{IsAllowed, respects, owned_first}
use Rattle.syntax_editor.specs.Nesting.{first_clash, owner}
use Rattle.syntax_editor.specs.Places.{ArePlaces, FindsPlace, IsUnplaced, IsFirstUnplaced}
use Rattle.script_lines.specs.ScriptLine.{ScriptLine}
use Rattle.syned_script.specs.declared.refusal.Refusal.TheVariants as refused
use Rattle.syned_script.specs.Script.{Refused, EndRefuses}
use Rattle.syned_run.specs.inner.SynedAnswer.{IsAnswer}
use Rattle.syned_run.proofs.ScriptLines.{both}
use Rattle.syned_run.proofs.ScriptEdits.{owns_nothing_in, is_plan, plans}
use Rattle.syned_run.proofs.ScriptAnswers.{begins_with, finishes, answered, editing_after, plan_after, state_after, edit_after, can_carry_out, edited_with, no-order, not_carried_out}
use Rattle.syned_run.proofs.ScriptOrders.{is_each_once, each_once, is_allowed, allowed}

abbrev pub address : ℕ → Path → Address
address number path = record { number = number; path = path }

abbrev pub placed : ℕ → Path → (ℕ → Path) → ℕ → Path
placed d place others c = cond (nat_eq c d) place (others c)

abbrev pub HavePlaces : List ScriptLine → (ℕ → Path) → Type 0
HavePlaces ls places = AllByRecursion (FindsPlace (plan_after ls).mapping (plan_after ls).changes places) (plan_after ls).changes

places-are : (ls : List ScriptLine) (places : ℕ → Path) → HavePlaces ls places → ArePlaces (plan_after ls).mapping (plan_after ls).changes places
places-are ls places are = All-from_recursion (FindsPlace (plan_after ls).mapping (plan_after ls).changes places) (plan_after ls).changes are

pub edited_at : (script answer : List ℕ) (ls : List ScriptLine) (places : ℕ → Path) → HavePlaces ls places → is_none (editing_after ls).order ≡ true → begins_with script ls ≡ true → finishes script ls ≡ true → can_carry_out places ls ≡ true → answered (edit_after places ls) answer ≡ true → IsAnswer script 0 answer
edited_at script answer ls places are unordered begins finish can same =
    edited_with script answer ls places (places-are ls places are) (no-order ls unordered) begins finish can same

same-number : (r : Address) (p : Path) (x : Address) → StandsFor [] r p x → x.number ≡ r.number
same-number r [] x same = ap (λ a. a.number) same
same-number r (i ∷ p) x below = same-number below.0 p x below.2 ∙ ap (λ a. a.number) below.1

pub unmapped : (r x : Address) (p : Path) → (x.number ≡ r.number → ⊥) → StandsFor [] r p x → ⊥
unmapped r x p apart stands = apart (same-number r p x stands)

-- .. and its path goes on from the payload's
path-on : (r : Address) (p : Path) (x : Address) → StandsFor [] r p x → x.path ≡ r.path ++ p
path-on r [] x same = ap (λ (a : Address). a.path) same ∙ sym (append-nil r.path)
path-on r (i ∷ p) x below =
    path-on below.0 p x below.2 ∙ ap (λ (a : Address). a.path ++ p) below.1 ∙ append_assoc r.path (i ∷ []) p

pub stays : (r : Address) (p : Path) → StandsFor [] r p r → p ≡ []
stays r p stands = nothing-more r.path p (path-on r p r stands) where
  nothing-more : (q p : Path) → q ≡ q ++ p → p ≡ []
  nothing-more [] p is = sym is
  nothing-more (i ∷ q) p is = let rest : q ≡ q ++ p = cc in nothing-more q p rest

pub differ : (m n : ℕ) → m < n → ◌≡◌ {A = ℕ} m n → ⊥
differ m n less e = omega (arith, less, e)

-- ---- a change without a place, where none of those before it is owned
abbrev Owned : List Change → ℕ → (Change → Type 0) → Option Change → Type 0
Owned cs e Rest o = IsSomeAnd o (λ c. (owner cs c ≡ Some e) × Rest c)

free-before : (cs ds : List Change) (i j e : ℕ) (Rest : Change → Type 0) → owns_nothing_in cs (take i ds) ≡ true → j < i → Owned cs e Rest (slice_get ds j) → ⊥
free-before cs [] i j e Rest free less owned = owned
free-before cs (d ∷ ds) zero j e Rest free less owned = absurd (omega (arith, less))
free-before cs (d ∷ ds) (suc i) zero e Rest free less owned =
    false≢true (sym (ap is_none owned.0) ∙ (both (is_none (owner cs d)) (owns_nothing_in cs (take i ds)) free).0)
free-before cs (d ∷ ds) (suc i) (suc j) e Rest free less owned =
    free-before cs ds i j e Rest (both (is_none (owner cs d)) (owns_nothing_in cs (take i ds)) free).1 (omega (arith, less)) owned

pub not_placed : (script answer : List ℕ) (ls : List ScriptLine) (i d : ℕ) → IsUnplaced (plan_after ls).mapping (plan_after ls).changes i d → owns_nothing_in (plan_after ls).changes (take i (plan_after ls).changes) ≡ true → first_clash (plan_after ls).changes ≡ None → (editing_after ls).order ≡ None → begins_with script ls ≡ true → finishes script ls ≡ true → answered (Refused (refused.Edit (MissingMapping i d))) answer ≡ true → IsAnswer script 1 answer
not_placed script answer ls i d unplaced free apart unordered begins finish same =
    let cs = (plan_after ls).changes in
    let first : IsFirstUnplaced (plan_after ls).mapping cs i d =
    record { unplaced = unplaced; first = λ j e less owned. free-before cs cs i j e _ free less owned } in
    let why : EndRefuses (editing_after ls).editor None (state_after ls).next (refused.Edit (MissingMapping i d)) = (apart, first) in
    not_carried_out script answer ls (refused.Edit (MissingMapping i d)) (subst (λ o. EndRefuses (editing_after ls).editor o (state_after ls).next (refused.Edit (MissingMapping i d))) (sym unordered) why) begins finish same

-- ---- scripts with places and an order
pub edited_at_by : (script answer : List ℕ) (ls : List ScriptLine) (places : ℕ → Path) (order : List ℕ) → HavePlaces ls places → (editing_after ls).order ≡ Some order → is_allowed (plan_after ls).changes order ≡ true → begins_with script ls ≡ true → finishes script ls ≡ true → can_carry_out places ls ≡ true → answered (edit_after places ls) answer ≡ true → IsAnswer script 0 answer
edited_at_by script answer ls places order are there can_order begins finish can same =
    let in_order = subst (λ o. IfSome o (IsAllowed (editing_after ls).editor.changes)) (sym there) (allowed (plan_after ls).changes order can_order) in
    edited_with script answer ls places (places-are ls places are) in_order begins finish can same

pub owner_too_early : (script answer : List ℕ) (ls : List ScriptLine) (places : ℕ → Path) (order : List ℕ) → HavePlaces ls places → (editing_after ls).order ≡ Some order → is_each_once (plan_after ls).changes order ≡ true → respects (owned_first (plan_after ls).changes) (plan_after ls).changes order ≡ false → is_plan (plan_after ls) ≡ true → begins_with script ls ≡ true → finishes script ls ≡ true → answered (Refused (refused.Order OwnerTooEarly)) answer ≡ true → IsAnswer script 1 answer
owner_too_early script answer ls places order are there once owned plan begins finish same =
    let why : EndRefuses (editing_after ls).editor (Some order) (state_after ls).next (refused.Order OwnerTooEarly) =
    (plans (plan_after ls) places (places-are ls places are) plan, (each_once (plan_after ls).changes order once, owned)) in
    not_carried_out script answer ls (refused.Order OwnerTooEarly) (subst (λ o. EndRefuses (editing_after ls).editor o (state_after ls).next (refused.Order OwnerTooEarly)) (sym there) why) begins finish same

-- Orders of worked scripts, by tests that compute.
--     counts_alike        a number stands as often in an order as among the changes that are not dropped
--     is_each_once        an order has each of these once and nothing else
--     not-each            it has not, if some number is counted otherwise
--     is_allowed          an order is allowed
--     edited_by           a script whose changes are carried out in an order
--     is_good             what was recorded is a plan, in which no change owns another one
--     not_each_once, gap_out_of_order, token_too_early      a script whose order is refused
use Rattle.std.specs.Prelude.{◌≡◌, ℕ, ◌+◌, Bool, true, false, ◌&&◌, ◌||◌, cond, List, [], ◌∷◌, count_by, Some, IfSome, nat_eq, refl}
use Rattle.std.specs.List.{list_all, list_any}
use Rattle.std.proofs.Common.{sym, ◌∙◌, ap, ap₂, subst, inl, inr}
use Rattle.std.proofs.lemmas.Bool.{cases_Bool, eqb-true, eqb-false, false≢true}
use Rattle.std.proofs.lemmas.List.Sums.{sum_by-cons}
use Rattle.syntax_editor.specs.ChangeForms.{Change}
use Rattle.syntax_editor.specs.Nesting.{Numbered, undropped}
use Rattle.syntax_editor.specs.Schedule.{ListsEachOnce, IsAllowed, respects, owned_first, gap_first, token_first}
use Rattle.syntax_editor.specs.ExecuteError.TheVariants as execute_error
use Rattle.syntax_editor.specs.Plan.{IsPlan}
use Rattle.script_lines.specs.ScriptLine.{ScriptLine}
use Rattle.syned_script.specs.declared.refusal.Refusal.{Refusal}
use Rattle.syned_script.specs.declared.refusal.Refusal.TheVariants as refused
use Rattle.syned_script.specs.Script.{Refused, EndRefuses}
use Rattle.syned_run.specs.inner.SynedAnswer.{IsAnswer}
use Rattle.syned_run.proofs.ScriptLines.{both}
use Rattle.syned_run.proofs.ScriptEdits.{is_plan, plans, unowned, owns_nothing, no_places}
use Rattle.syned_run.proofs.ScriptAnswers.{begins_with, finishes, answered, editing_after, plan_after, state_after, edit_after, can_carry_out, edited_with, not_carried_out}

-- ---- each once
abbrev counts_alike : List Change → List ℕ → ℕ → Bool
counts_alike cs order n = nat_eq (count_by (nat_eq n) order) (count_by (λ c. nat_eq n c.0) (undropped cs))

abbrev pub is_each_once : List Change → List ℕ → Bool
is_each_once cs order = list_all (counts_alike cs order) order && list_all (λ c. counts_alike cs order c.0) (undropped cs)

neither : (a b : Bool) → (a || b) ≡ false → (a ≡ false) × (b ≡ false)
neither true b h = absurd (false≢true (sym h))
neither false b h = (refl, h)

count-none : {X : Type 0} (p : X → Bool) (xs : List X) → list_any p xs ≡ false → count_by p xs ≡ 0
count-none p [] h = refl
count-none p (x ∷ xs) h =
    let parts = neither (p x) (list_any p xs) h in
    sum_by-cons (λ y. cond (p y) 1 0) x xs ∙ ap₂ (λ b n. cond b 1 0 + n) parts.0 (count-none p xs parts.1)

-- where all numbers pass a test, one that is among them does
passes : {X : Type 0} (number : X → ℕ) (test : ℕ → Bool) (n : ℕ) (xs : List X) → list_all (λ x. test (number x)) xs ≡ true → list_any (λ x. nat_eq n (number x)) xs ≡ true → test n ≡ true
passes number test n [] all some = absurd (false≢true some)
passes number test n (x ∷ xs) all some =
    let parts = both (test (number x)) (list_all (λ y. test (number y)) xs) all in
    elim (cases_Bool (nat_eq n (number x))) [
      | inl same ↦ ap test (eqb-true n (number x) same) ∙ parts.0
      | inr differ ↦ passes number test n xs parts.1 (sym (ap (λ b. b || list_any (λ y. nat_eq n (number y)) xs) differ) ∙ some)
    ]

pub each_once : (cs : List Change) (order : List ℕ) → is_each_once cs order ≡ true → ListsEachOnce cs order
each_once cs order h n =
    let parts = both (list_all (counts_alike cs order) order) (list_all (λ c. counts_alike cs order c.0) (undropped cs)) h in
    elim (cases_Bool (list_any (nat_eq n) order)) [
      | inl listed ↦ eqb-true _ _ (passes (λ (m : ℕ). m) (counts_alike cs order) n order parts.0 listed)
      | inr unlisted ↦
          elim (cases_Bool (list_any (λ c. nat_eq n c.0) (undropped cs))) [
            | inl kept ↦ eqb-true _ _ (passes (λ (c : Numbered). c.0) (counts_alike cs order) n (undropped cs) parts.1 kept)
            | inr dropped ↦ count-none (nat_eq n) order unlisted ∙ sym (count-none (λ c. nat_eq n c.0) (undropped cs) dropped)
          ]
    ]

pub not-each : (cs : List Change) (order : List ℕ) (n : ℕ) → counts_alike cs order n ≡ false → ListsEachOnce cs order → ⊥
not-each cs order n h each = eqb-false _ _ h (each n)

-- ---- allowed orders
abbrev pub is_allowed : List Change → List ℕ → Bool
is_allowed cs order = is_each_once cs order && respects (owned_first cs) cs order && respects gap_first cs order && respects token_first cs order

pub allowed : (cs : List Change) (order : List ℕ) → is_allowed cs order ≡ true → IsAllowed cs order
allowed cs order h =
    let once = is_each_once cs order in
    let owned = respects (owned_first cs) cs order in
    let gaps = respects gap_first cs order in
    let last = both (once && owned && gaps) (respects token_first cs order) h in
    let third = both (once && owned) gaps last.0 in
    let front = both once owned third.0 in
    record { each_once = each_once cs order front.0; owned_changes_first = front.1; gaps_in_order = third.1; tokens_last = last.1 }

-- ---- scripts with an order
pub edited_by : (script answer : List ℕ) (ls : List ScriptLine) (order : List ℕ) → (editing_after ls).order ≡ Some order → begins_with script ls ≡ true → finishes script ls ≡ true → owns_nothing (plan_after ls).changes ≡ true → is_allowed (plan_after ls).changes order ≡ true → can_carry_out no_places ls ≡ true → answered (edit_after no_places ls) answer ≡ true → IsAnswer script 0 answer
edited_by script answer ls order there begins finish simple can_order can same =
    let in_order = subst (λ o. IfSome o (IsAllowed (editing_after ls).editor.changes)) (sym there) (allowed (plan_after ls).changes order can_order) in
    edited_with script answer ls no_places (unowned (plan_after ls).mapping (plan_after ls).changes simple) in_order begins finish can same

-- ---- scripts whose order is refused, where what was recorded is a plan in which no change owns another one
abbrev Refuses : List ScriptLine → List ℕ → Refusal → Type 0
Refuses ls order r = EndRefuses (editing_after ls).editor (Some order) (state_after ls).next r

abbrev pub is_good : List ScriptLine → Bool
is_good ls = owns_nothing (plan_after ls).changes && is_plan (plan_after ls)

a-plan : (ls : List ScriptLine) → is_good ls ≡ true → IsPlan (plan_after ls)
a-plan ls h =
    let parts = both (owns_nothing (plan_after ls).changes) (is_plan (plan_after ls)) h in
    plans (plan_after ls) no_places (unowned (plan_after ls).mapping (plan_after ls).changes parts.0) parts.1

not-in-order : (script answer : List ℕ) (ls : List ScriptLine) (order : List ℕ) (r : Refusal) → (editing_after ls).order ≡ Some order → Refuses ls order r → begins_with script ls ≡ true → finishes script ls ≡ true → answered (Refused r) answer ≡ true → IsAnswer script 1 answer
not-in-order script answer ls order r there why begins finish same =
    not_carried_out script answer ls r (subst (λ o. EndRefuses (editing_after ls).editor o (state_after ls).next r) (sym there) why) begins finish same

-- this number is counted otherwise
pub not_each_once : (script answer : List ℕ) (ls : List ScriptLine) (order : List ℕ) (n : ℕ) → (editing_after ls).order ≡ Some order → counts_alike (plan_after ls).changes order n ≡ false → is_good ls ≡ true → begins_with script ls ≡ true → finishes script ls ≡ true → answered (Refused (refused.Order execute_error.NotEachOnce)) answer ≡ true → IsAnswer script 1 answer
not_each_once script answer ls order n there other good begins finish same =
    not-in-order script answer ls order (refused.Order execute_error.NotEachOnce) there (a-plan ls good, not-each (plan_after ls).changes order n other) begins finish same

pub gap_out_of_order : (script answer : List ℕ) (ls : List ScriptLine) (order : List ℕ) → (editing_after ls).order ≡ Some order → is_each_once (plan_after ls).changes order ≡ true → respects (owned_first (plan_after ls).changes) (plan_after ls).changes order ≡ true → respects gap_first (plan_after ls).changes order ≡ false → is_good ls ≡ true → begins_with script ls ≡ true → finishes script ls ≡ true → answered (Refused (refused.Order execute_error.GapOutOfOrder)) answer ≡ true → IsAnswer script 1 answer
gap_out_of_order script answer ls order there once owned gaps good begins finish same =
    not-in-order script answer ls order (refused.Order execute_error.GapOutOfOrder) there (a-plan ls good, (each_once (plan_after ls).changes order once, owned, gaps)) begins finish same

pub token_too_early : (script answer : List ℕ) (ls : List ScriptLine) (order : List ℕ) → (editing_after ls).order ≡ Some order → is_each_once (plan_after ls).changes order ≡ true → respects (owned_first (plan_after ls).changes) (plan_after ls).changes order ≡ true → respects gap_first (plan_after ls).changes order ≡ true → respects token_first (plan_after ls).changes order ≡ false → is_good ls ≡ true → begins_with script ls ≡ true → finishes script ls ≡ true → answered (Refused (refused.Order execute_error.TokenTooEarly)) answer ≡ true → IsAnswer script 1 answer
token_too_early script answer ls order there once owned gaps tokens good begins finish same =
    not-in-order script answer ls order (refused.Order execute_error.TokenTooEarly) there (a-plan ls good, (each_once (plan_after ls).changes order once, owned, gaps, tokens)) begins finish same

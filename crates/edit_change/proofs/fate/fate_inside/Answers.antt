use Rattle.std.proofs.Common.{rules, ◌≡◌, ◌<◌, ℕ, length, List, Option, Some, option_map, slice_get, get_or, Bool, true, false, cond, ap, ap₂, sym, subst, ◌∙◌}
use Rattle.std.specs.Option.{option_map_or, IfSome}
use Rattle.std.proofs.lemmas.Option.{slice_get-get_or}
use denote.Ref.{Bor}
use Rattle.edit_change.specs.Nesting.{is_keeping}
use Rattle.edit_change.specs.inner.Aimed.{numbered}
use Rattle.edit_change.specs.inner.Fate.{is_dropped_in}
use Rattle.edit_change.specs.inner.Open.{inside, inside_last}
use Rattle.edit_change.specs.declared.aimed.Aimed.{Aimed}
use Rattle.edit_change.specs.declared.change.Change.{Change}
use Rattle.edit_change.specs.declared.fate.Fate.{Fate}
use Rattle.edit_change.specs.declared.fate.Fate.TheVariants.{Independent, Dropped, Owned}
use Rattle.edit_change.proofs.Clashes.{at-index}
use Rattle.edit_change.proofs.fate.fate_inside.Goals as goal

there : (r : Option (Bor Aimed)) (a : Bor Aimed) (n : ℕ) → r ≡ Some a → IfSome r (λ a. a.now.change < n) → a.now.change < n
there r a n is = subst (λ r. IfSome r (λ a. a.now.change < n)) is

told : (cs : List Change) (fates : List Fate) (r : Option (Bor Aimed)) (a : Bor Aimed) (c : Change) (keeps : Bool) → r ≡ Some a → IfSome r (λ a. a.now.change < length cs) → length fates ≡ length cs → c ≡ get_or cs a.now.change c → is_keeping c ≡ keeps → cond keeps (cond (is_dropped_in (get_or fates a.now.change Independent)) Dropped (Owned a.now.change)) Dropped ≡ inside_last cs fates (option_map (λ a. numbered a.now) r)
told cs fates r a c keeps is in_range long at known =
    let n = a.now.change in
    let e = get_or fates n Independent in
    let below : n < length cs = there r a (length cs) is in_range in
    let of_e : slice_get fates n ≡ Some e = slice_get-get_or fates n Independent (subst (λ m. n < m) (sym long) below) in
    let of_c : slice_get cs n ≡ Some c = at-index cs n c below at in
    ap (λ b. cond b (cond (is_dropped_in e) Dropped (Owned n)) Dropped) (sym known) ∙ sym (ap (λ r. inside_last cs fates (option_map (λ a. numbered a.now) r)) is ∙ ap₂ (λ o p. option_map_or (λ c. option_map_or (inside c n) p Independent) o Independent) of_c of_e)

moves : (n : ℕ) (e f : Fate) → e ≡ f → cond (is_dropped_in f) Dropped (Owned n) ≡ cond (is_dropped_in e) Dropped (Owned n)
moves n e f same = ap (λ e. cond (is_dropped_in e) Dropped (Owned n)) (sym same)

pub returns-in_default : goal.returns-in_default
returns-in_default c = ap (λ r. inside_last c.args.changes.now c.args.fates.now (option_map (λ a. numbered a.now) r)) (sym c.in_default.is)

pub bounds-changes-number : goal.bounds-changes-number
bounds-changes-number c = there c.args.region c.in-Some.region (length c.args.changes.now) c.in-Some.is c.requires.there

pub bounds : goal.bounds
bounds c = subst (λ n. c.in-Some.region.now.change < n) (sym c.requires.told) (there c.args.region c.in-Some.region (length c.args.changes.now) c.in-Some.is c.requires.there)

pub returns-in_default-changes : goal.returns-in_default-changes
returns-in_default-changes c = told c.args.changes.now c.args.fates.now c.args.region c.in-Some.region c.index-changes-number.result false c.in-Some.is c.requires.there c.requires.told c.index-changes-number.is (search rules)

pub returns-in_default-changes-2 : goal.returns-in_default-changes-2
returns-in_default-changes-2 c = told c.args.changes.now c.args.fates.now c.args.region c.in-Some.region c.index-changes-number.result false c.in-Some.is c.requires.there c.requires.told c.index-changes-number.is (search rules)

pub returns-in_default-changes-3 : goal.returns-in_default-changes-3
returns-in_default-changes-3 c = told c.args.changes.now c.args.fates.now c.args.region c.in-Some.region c.index-changes-number.result false c.in-Some.is c.requires.there c.requires.told c.index-changes-number.is (search rules)

pub returns-in-Independent : goal.returns-in-Independent
returns-in-Independent c = moves c.in-Some.region.now.change _ _ c.in-Independent.is ∙ told c.args.changes.now c.args.fates.now c.args.region c.in-Some.region c.index-changes-number.result true c.in-Some.is c.requires.there c.requires.told c.index-changes-number.is (search rules)

pub returns-in-Dropped : goal.returns-in-Dropped
returns-in-Dropped c = moves c.in-Some.region.now.change _ _ c.in-Dropped.is ∙ told c.args.changes.now c.args.fates.now c.args.region c.in-Some.region c.index-changes-number.result true c.in-Some.is c.requires.there c.requires.told c.index-changes-number.is (search rules)

pub returns-in-Owned : goal.returns-in-Owned
returns-in-Owned c = moves c.in-Some.region.now.change _ _ c.in-Owned.is ∙ told c.args.changes.now c.args.fates.now c.args.region c.in-Some.region c.index-changes-number.result true c.in-Some.is c.requires.there c.requires.told c.index-changes-number.is (search rules)

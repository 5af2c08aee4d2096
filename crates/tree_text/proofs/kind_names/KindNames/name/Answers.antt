use Rattle.std.proofs.Common.{◌≡◌, ◌<◌, ◌+◌, ◌∷◌, ℕ, false, cond, nat_eq, None, Some, List, drop, get_or, length, string_bytes, arith, ap, ap₂, sym, ◌∙◌}
use Rattle.std.specs.Map.{lookup}
use Rattle.std.specs.Option.{option_or}
use Rattle.std.specs.Prelude.{option_map}
use Rattle.std.proofs.lemmas.List.{drop_all, drop_more}
use Rattle.cst_core.specs.Kind.{name_of}
use Rattle.tree_text.specs.declared.kind_names.GivenName.{GivenName}
use Rattle.tree_text.proofs.Names.{entries, name_of_its_own}
use Rattle.tree_text.proofs.kind_names.KindNames.name.Goals as goal

-- one that is given to another kind
passed : (k : ℕ) (gs : List GivenName) (i : ℕ) (g : GivenName) → i < length gs → g ≡ get_or gs i g → nat_eq k g.kind.0 ≡ false
    → lookup (nat_eq k) (entries (drop (i + 1) gs)) ≡ lookup (nat_eq k) (entries (drop i gs))
passed k gs i g within is other =
    let rest = drop (i + 1) gs in
    sym (ap (λ b. cond b (Some (string_bytes g.name)) (lookup (nat_eq k) (entries rest))) other)
    ∙ ap (λ x. lookup (nat_eq k) (entries (x ∷ rest))) is
    ∙ sym (ap (λ xs. lookup (nat_eq k) (entries xs)) (drop_more gs i g within))

pub returns-in-Some : goal.returns-in-Some
returns-in-Some c = sym (name_of_its_own _ _ _ (sym c.in-Some.ensures))

pub returns-in-Some-given_at : goal.returns-in-Some-given_at
returns-in-Some-given_at c = ap Some c.as_str.ensures.value ∙ sym c.in-Some-given_at.ensures

pub loop-given-init : goal.loop-given-init
loop-given-init c =
    let k = c.args.kind.0 in
    ap (λ gs. lookup (nat_eq k) (entries gs)) c.deref-given-items.ensures.value ∙ ap (lookup (nat_eq k)) c.self.view_is

pub offset_bounds-given-items-given-index : goal.offset_bounds-given-items-given-index
offset_bounds-given-items-given-index c = omega (arith, c.loop-given-test.true)

pub bounds-given-items-given-index : goal.bounds-given-items-given-index
bounds-given-items-given-index c = c.loop-given-test.true

pub loop-given-preserved : goal.loop-given-preserved
loop-given-preserved c =
    passed c.args.kind.0 c.deref-given-items.result.now c.loop-given.given-index c.given-item.result c.loop-given-test.true c.given-item.is
    (sym c.if-eq.ensures)
    ∙ c.loop-given.invariant

pub returns : goal.returns
returns c =
    let k = c.args.kind.0 in
    let own : name_of k ≡ None = sym c.name.ensures ∙ ap (option_map _) c.in_default.is in
    let gs = c.deref-given-items.result.now in
    let none = ap (λ xs. lookup (nat_eq k) (entries xs)) (drop_all c.loop-given.given-index gs c.loop-given-test.false) in
    sym (ap₂ (λ o l. option_or o l) own (sym c.loop-given.invariant ∙ none))

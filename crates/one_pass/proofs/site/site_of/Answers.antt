use Rattle.std.proofs.Common.{◌≡◌, ◌≤◌, ◌<◌, ℕ, length, get_or, drop, true, false, arith, rules, ap, sym, subst, ◌∙◌}
use Rattle.green_tree.specs.Path.{Path}
use Rattle.edit_change.specs.declared.aimed.Aimed.{Aimed}
use Rattle.edit_change.specs.inner.Aimed.{FormedAim, of_formed, has_parent}
use Rattle.one_pass.specs.inner.Sweep.{lowered, IsRun, IsBelow, PassesAll}
use Rattle.one_pass.proofs.OneAim.{idle-passes, beyond-passes, is-below, is-run}
use Rattle.one_pass.proofs.site.site_of.Goals as goal

-- the aim with the path from there
abbrev seen : Aimed → Path → FormedAim
seen a p = record { change = a.change; path = p; form = a.form }

seen-lowered : (depth : ℕ) (a : Aimed) (p : Path) → p ≡ drop depth a.path.now → seen a p ≡ lowered depth a
seen-lowered depth a p is = ap (seen a) is

pub returns-then-not-has_parent : goal.returns-then-not-has_parent
returns-then-not-has_parent c =
    let a = seen c.args.aim.now c.path_from.result.now in
    let none : has_parent (of_formed a) ≡ false = sym c.has_parent.ensures ∙ c.if-not-has_parent.true in
    subst (PassesAll c.args.count) (seen-lowered c.args.depth c.args.aim.now c.path_from.result.now c.path_from.ensures) (idle-passes c.args.count a none)

pub returns-then-slot-count : goal.returns-then-slot-count
returns-then-slot-count c =
    let a = seen c.args.aim.now c.path_from.result.now in
    let some : has_parent (of_formed a) ≡ true = sym c.has_parent.ensures ∙ c.if-not-has_parent.false in
    subst (PassesAll c.args.count) (seen-lowered c.args.depth c.args.aim.now c.path_from.result.now c.path_from.ensures) (beyond-passes c.args.count a some c.in-len1-up.len_at_least c.if-slot-count.true)

pub returns-then-not-is_empty : goal.returns-then-not-is_empty
returns-then-not-is_empty c =
    let a = seen c.args.aim.now c.path_from.result.now in
    let some : has_parent (of_formed a) ≡ true = sym c.has_parent.ensures ∙ c.if-not-has_parent.false in
    let long : 2 ≤ length a.path = search (arith, rules) in
    (c.if-slot-count.false, subst (IsBelow (get_or a.path 0 0)) (seen-lowered c.args.depth c.args.aim.now c.path_from.result.now c.path_from.ensures) (is-below a some long))

pub returns-in-Over : goal.returns-in-Over
returns-in-Over c =
    let a = seen c.args.aim.now c.path_from.result.now in
    let some : has_parent (of_formed a) ≡ true = sym c.has_parent.ensures ∙ c.if-not-has_parent.false in
    let short : length a.path < 2 = search (arith, rules) in
    (c.if-slot-count.false, subst (λ (b : FormedAim). IsRun (get_or a.path 0 0) c.in-Over.count b.path b.form) (seen-lowered c.args.depth c.args.aim.now c.path_from.result.now c.path_from.ensures) (is-run c.in-Over.count a c.in-Over.is some c.in-len1-up.len_at_least short))

pub returns-in_default : goal.returns-in_default
returns-in_default c = search rules

pub returns-in-AfterElement : goal.returns-in-AfterElement
returns-in-AfterElement c = search rules

use Rattle.std.proofs.Common.{rules, ◌≡◌, length, ap, arith}
use Rattle.cst_core.specs.Element.{IsElement}
use Rattle.cst_core.specs.Navigation.{family_of}
use Rattle.cst_core.proofs.Families.{slot_in_family}
use Rattle.cst_core.proofs.location.Location.siblings.Goals as goal

pub split_off-requires : goal.split_off-requires
split_off-requires c =
    let there : IsElement c.args.self.now = rw (← c.self.view_is) c.self.invariant.there in
    let inside = slot_in_family c.args.self.now there in
    let count : length c.in_ok-all.all.items ≡ length (family_of c.args.self.now) = ap length c.in_ok-all.ensures in
    omega (arith, inside, count, c.index.ensures)

pub overflow_add-index : goal.overflow_add-index
overflow_add-index c =
    let all = c.in_ok-all.all in
    let there : IsElement c.args.self.now = rw (← c.self.view_is) c.self.invariant.there in
    let inside = slot_in_family c.args.self.now there in
    let count : length all.items ≡ length (family_of c.args.self.now) = ap length c.in_ok-all.ensures in
    omega (arith, inside, count, c.index-in-Prev.ensures, all.ok.0, all.ok.1, all.small)

pub returns-in-Next : goal.returns-in-Next
returns-in-Next c = search rules

pub returns-in-Prev : goal.returns-in-Prev
returns-in-Prev c = search rules

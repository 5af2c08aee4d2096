use Rattle.std.proofs.Common.{◌^◌, ◌<◌, length, refl, sym, ◌∙◌, arith}
use Rattle.std.proofs.lemmas.Bool.{eqb-false}
use Rattle.edit_change.proofs.DocumentOrder.{way-within, after-none, after-last, after-on, first-on, over-key}
use Rattle.edit_change.proofs.aimed.Aimed.key.Goals as goal

pub returns-in_err-key-in-AfterElement-clause-key : goal.returns-in_err-key-in-AfterElement-clause-key
returns-in_err-key-in-AfterElement-clause-key c =
    rw c.in-AfterElement.is (c.from_residual.ensures ∙ after-none c.args.self.now.path.now c.args.depth (eqb-false (length c.args.self.now.path.now) 0 (sym c.is_empty.ensures ∙ c.if-is_empty.false)) (sym c.in_err-key-in-AfterElement.was ∙ c.on_the_way-way.ensures.key))

pub overflow_sub-self : goal.overflow_sub-self
overflow_sub-self c =
    let l = way-within c.args.self.now.path.now c.args.depth c.in_ok-key-in-AfterElement.key (sym c.in_ok-key-in-AfterElement.was ∙ c.on_the_way-way.ensures.key) in
    omega (arith, l)

pub overflow_add-result : goal.overflow_add-result
overflow_add-result c =
    let small : c.in_ok-key-in-AfterElement.key < 2 ^ 66 = c.in_ok-key-in-AfterElement.ensures.small in
    omega (arith, small)

pub returns-then-self-depth-eq1-clause-key : goal.returns-then-self-depth-eq1-clause-key
returns-then-self-depth-eq1-clause-key c =
    rw c.in-AfterElement.is (after-last c.args.self.now.path.now c.args.depth c.in_ok-key-in-AfterElement.key _ (sym c.in_ok-key-in-AfterElement.was ∙ c.on_the_way-way.ensures.key) c.if-self-depth-eq1.true refl)

pub returns-else-depth-self-clause-key : goal.returns-else-depth-self-clause-key
returns-else-depth-self-clause-key c =
    rw c.in-FirstIn.is (first-on c.args.self.now.path.now c.args.depth c.on_the_way-way.result c.if-depth-self.false c.on_the_way-way.ensures.key)

pub returns-else-self-depth-eq1-clause-key : goal.returns-else-self-depth-eq1-clause-key
returns-else-self-depth-eq1-clause-key c =
    rw c.in-AfterElement.is (after-on c.args.self.now.path.now c.args.depth c.in_ok-key-in-AfterElement.key (sym c.in_ok-key-in-AfterElement.was ∙ c.on_the_way-way.ensures.key) c.if-self-depth-eq1.false)

pub returns-else-count-eq0-clause-key : goal.returns-else-count-eq0-clause-key
returns-else-count-eq0-clause-key c =
    rw c.in-Over.is (over-key c.args.self.now.path.now c.in-Over.count c.args.depth c.on_the_way-way.result c.if-count-eq0.false c.on_the_way-way.ensures.key)

use Rattle.std.proofs.Common.{◌≡◌, zero, sym, refl}
use Rattle.cst_core.specs.SyntaxElement.{element_of}
use Rattle.edit_map.specs.Builder.{ArePairs}
use Rattle.edit_map.proofs.Making.{pairs-rise}
use Rattle.edit_map.proofs.Followed.{followed_unique}
use Rattle.edit_map.proofs.Reached.{standing-given, standing-next, syntax-falls, told-first, step-told, no_step-told, followed-there, followed-back, reached-back}
use Rattle.edit_map.proofs.mapping.SyntaxMapping.follow.Goals as goal

pub steps-init : goal.steps-init
steps-init c =
    let same : c.in_ok-here.here ≡ c.args.element.now = c.in_ok-here.ensures in
    rw same (record {
      standing = standing-given c.args.element.now _ c.as_green.ensures.there c.kind.ensures.form;
      reached = λ f there. there;
      told = λ tell. told-first (element_of c.args.element.now) c.args.self.now tell;
      followed = λ tell f there. there;
    })

pub steps-smaller : goal.steps-smaller
steps-smaller c =
    let pairs : ArePairs c.args.self.now = rw (← c.self.view_is) c.self.invariant.mapping.pairs in
    let step = rw c.in-Some.is at c.in_ok-next.ensures in
    syntax-falls c.args.self.now (pairs-rise c.args.self.now pairs) c.steps.here c.in-Some.next (sym step)

pub steps-preserved : goal.steps-preserved
steps-preserved c =
    let pairs : ArePairs c.args.self.now = rw (← c.self.view_is) c.self.invariant.mapping.pairs in
    let step = rw c.in-Some.is at c.in_ok-next.ensures in
    record {
      standing = standing-next c.args.self.now c.steps.here c.in-Some.next (sym step);
      reached = λ f there. c.steps.invariant.reached f (reached-back c.args.self.now c.steps.here c.in-Some.next f (sym step) there);
      told = λ tell. (step-told c.args.self.now (element_of c.args.element.now) pairs tell c.steps.here c.in-Some.next c.steps.invariant.standing (c.steps.invariant.told tell) (sym step)).1;
      followed = λ tell f there. c.steps.invariant.followed tell f (followed-back c.args.self.now (element_of c.steps.here) (element_of c.in-Some.next) f (step-told c.args.self.now (element_of c.args.element.now) pairs tell c.steps.here c.in-Some.next c.steps.invariant.standing (c.steps.invariant.told tell) (sym step)).0 there);
    }

pub returns-clause-reached : goal.returns-clause-reached
returns-clause-reached c =
    let none = rw c.in_default.is at c.in_ok-next.ensures in
    c.steps.invariant.reached c.steps.here (record { reached = (zero, refl); ends = sym none })

pub returns-clause-followed : goal.returns-clause-followed
returns-clause-followed c = λ tell.
    let pairs : ArePairs c.args.self.now = rw (← c.self.view_is) c.self.invariant.mapping.pairs in
    let none = rw c.in_default.is at c.in_ok-next.ensures in
    let ends = no_step-told c.args.self.now (element_of c.args.element.now) pairs tell c.steps.here c.steps.invariant.standing (c.steps.invariant.told tell) (sym none) in
    followed_unique c.args.self.now (pairs-rise c.args.self.now pairs) (element_of c.args.element.now) (element_of c.steps.here) (c.steps.invariant.followed tell (element_of c.steps.here) (followed-there c.args.self.now (element_of c.steps.here) ends))

use Rattle.std.proofs.Common.{ℕ, sym, subst}
use Rattle.text_edit.specs.inner.Composing.{place_of, Passes}
use Rattle.text_edit.proofs.compose.Composing.step.Goals as goal

pub returns-in_ok-begin-clause-passes : goal.returns-in_ok-begin-clause-passes
returns-in_ok-begin-clause-passes c =
    let P : ℕ → Type 0 = λ k. Passes c.args.pass c.args.n k (place_of c.args.self.now) (place_of c.begin.new.self) in
    subst P (sym c.if-kept-eq0.true) (c.in_ok-begin.ensures.passes c.args.pass c.args.n)

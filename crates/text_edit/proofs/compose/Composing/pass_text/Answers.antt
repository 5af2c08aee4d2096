use Rattle.std.proofs.Common.{◌≤◌, List, ℕ, length, drop, ap, refl, subst, arith}
use Rattle.text_edit.specs.TextPiece.{pieces}
use Rattle.text_edit.specs.inner.Composing.{left_of, Puts}
use Rattle.text_edit.proofs.Passing.{place, Passes-text, Passes-at}
use Rattle.text_edit.proofs.compose.Composing.pass_text.Goals as goal

pub returns-clause-passes : goal.returns-clause-passes
returns-clause-passes c =
    let at = c.args.self.now.at in
    let left = c.args.self.now.left.now in
    let rest = pieces c.args.self.now.rest.now in
    let out = pieces c.args.self.now.out.items in
    let new = pieces c.put_text.new.out.items in
    let k = c.min-passed.result in
    let inside : k ≤ length left = omega (arith, c.split_at.ensures.back_len) in
    let P : List ℕ → Type 0 = λ t. Puts out new at at (left_of c.args.pass t) in
    Passes-at c.args.pass c.args.n k _ (place left at rest out) _ (place (drop k left) at rest new) refl (ap (λ l. place l at rest new) c.split_at.ensures.back) (Passes-text c.args.pass c.args.n k at left rest out new inside (subst P c.split_at.ensures.front c.in_ok-put_text.ensures))

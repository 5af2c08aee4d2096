use Rattle.std.proofs.Common.{◌≡◌, ◌≤◌, ◌<◌, take, length, sym, ap, ◌∙◌, arith}
use Rattle.std.proofs.lemmas.Grind.{common_steps}
use Rattle.edit_change.specs.Aim.{replaces}
use Rattle.edit_change.specs.inner.Aimed.{aim_in}
use Rattle.edit_change.proofs.Surrounding.{none-surrounds, way-replaced, too-short}
use Rattle.edit_change.proofs.aimed.Aimed.surrounds.Goals as goal

pub returns-in_default : goal.returns-in_default
returns-in_default c = rw c.in_default.is (none-surrounds c.args.self.now.path.now c.args.self.now.form)

pub returns-in_default-get : goal.returns-in_default-get
returns-in_default-get c =
    let short : length c.in-Some.path.now < length c.args.self.now.path.now = grind (arith, common_steps) in
    rw c.in-Some.is (too-short c.args.self.now.path.now c.args.self.now.form c.in-Some.path.now short)

pub returns : goal.returns
returns c =
    let p = c.args.self.now.path.now in
    let q = c.in-Some.path.now in
    let long : length p ≤ length q = grind (arith, common_steps) in
    let way : c.in-Some-get.way.now ≡ take (length p) q = grind (arith, common_steps) in
    rw c.in-Some.is (c.replaces.ensures ∙ ap (λ r. replaces r (aim_in p c.args.self.now.form)) way ∙ way-replaced p c.args.self.now.form q long)

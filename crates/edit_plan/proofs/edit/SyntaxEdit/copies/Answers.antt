use Rattle.std.proofs.Common.{◌≡◌, map, Some, ap}
use Rattle.cst_core.specs.SyntaxElement.{syntax_at}
use Rattle.edit_change.specs.Topmost.{paths_of}
use Rattle.edit_plan.specs.Plan.{Edit}
use Rattle.edit_plan.specs.FurtherPlans.{AreCopies}
use Rattle.edit_plan.proofs.CopiesOfOne.{copies-there, are-copies, ok-gives}
use Rattle.edit_plan.proofs.edit.SyntaxEdit.copies.Goals as goal

pub returns : goal.returns
returns c makes tell =
    let p = c.args.plan.now in
    let edit = c.args.self.now in
    let root = c.self.inside.new_root in
    let paths = paths_of c.in_ok-paths.paths.items in
    let unique = c.place_is_unique.ensures in
    let rises = c.pairs_rise.ensures _ c.root.ensures.planned.mapping_is.pairs in
    let same = ap (λ (x : Edit). x.new_root) c.self.view_is in
    let there = copies-there unique p rises edit.new_root.number edit makes c.args.element.now paths c.in_ok-paths.ensures root same in
    ok-gives (λ v. map Some v.items ≡ map (syntax_at root) paths) (λ v. AreCopies p edit c.args.element.now v.items) c.elements_at.result (λ v lead. are-copies unique p rises edit.new_root.number edit makes c.args.element.now paths c.in_ok-paths.ensures root same v.items lead tell) (c.elements_at.ensures there)

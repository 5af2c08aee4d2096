use Rattle.std.specs.Prelude.{◌≡◌, ◌<◌, ℕ, List, length, Option, Some, None, IfSome}
use Rattle.std.proofs.Common.{map, ap, ap₂, ◌++◌, ◌∙◌}
use Rattle.std.proofs.lemmas.List.{map-id}
use Rattle.edit_change.specs.inner.Aimed.{aims_of}
use Rattle.cst_core.specs.Element.{subtree}
use Rattle.edit_change.specs.declared.change.Change.{Change}
use Rattle.one_pass.specs.TextEdits.{number_token}
use Rattle.one_pass.specs.declared.marked_element.GivenTable.{GivenTable}
use Rattle.one_pass.specs.inner.Marked.{marked, mark_below, marks_of}
use Rattle.one_pass.specs.inner.Pass.{AreMarkedIn, entry_in}
use Rattle.one_pass.proofs.TextOrders.{one-numbered, numbers-of, numbers-of-root}
use Rattle.one_pass.proofs.text_changes.in_text_order.Goals as goal

pub returns : goal.returns
returns c =
    let changes = c.args.changes.now in
    let cs = aims_of c.args.aims.now in
    let ms = c.rewritten_root.new.walk.found.items in
    let finds = c.in_ok-rewritten_root.ensures.marks (number_token changes) c.in_ok-table.ensures in
    let shown = marked finds.0 in
    let found = finds.2 ∙ ap₂ (λ ns p. marks_of ns ++ map (mark_below p) shown) c.begin-walk.ensures.found c.begin-walk.ensures.path ∙ map-id shown in
    numbers-of changes cs ms ∙ ap (map (λ m. m.0)) found ∙ numbers-of-root changes cs (subtree c.args.root.now) finds.0 finds.1

-- what replaces the root gives one token
numbered : (table : GivenTable) (changes : List Change) (o : Option ℕ) → AreMarkedIn table (number_token changes) → IfSome o (λ c. c < length changes) → IfSome o (λ c. length (entry_in table c) ≡ 1)
numbered table changes None are there = tt
numbered table changes (Some c) are there = one-numbered table changes c are there

pub rewritten_root-requires-clause-one : goal.rewritten_root-requires-clause-one
rewritten_root-requires-clause-one c = numbered c.in_ok-table.table c.args.changes.now c.args.replacement c.in_ok-table.ensures c.requires.there

pub rewritten_root-requires-clause-alone : goal.rewritten_root-requires-clause-alone
rewritten_root-requires-clause-alone c = c.requires.alone

use Rattle.std.proofs.Common.{◌≡◌, None, Some, position, set, sym, ◌∙◌, ap, refl}
use Rattle.cst_core.specs.SyntaxElement.{element_of}
use Rattle.edit_change.specs.declared.change.Change.TheVariants.{Replace}
use Rattle.change_list.specs.Recording.{with_replacement}
use Rattle.change_list.specs.inner.ByPath.{is_replace_at, delete_at}
use Rattle.path_table.specs.inner.PathTable.{value_by_path}
use Rattle.path_table.proofs.PathTables.{at-place}
use Rattle.change_list.specs.inner.Indexing.{replaced_at}
use Rattle.change_list.proofs.TakenUp.{taken-set, taken-none}
use Rattle.change_list.proofs.Indexed.{nothing-said, something-said, deleted-agrees, marked}
use Rattle.change_list.proofs.change_list.delete_element.Goals as goal

pub returns-in_default-clause-list : goal.returns-in_default-clause-list
returns-in_default-clause-list c =
    let e = c.args.element in
    let p = (element_of e).path in
    let cs = c.args.changes.now.items in
    let unsaid : replaced_at p cs ≡ None = sym (c.requires.agrees.says p) ∙ at-place c.args.replaced.now p c.args.place c.requires.place ∙ sym c.at.ensures ∙ c.in_default.is in
    c.add_replace.ensures.list ∙ taken-none (is_replace_at p) (with_replacement (λ _. None)) (Replace e None) cs (nothing-said p cs unsaid)

pub returns-clause-list : goal.returns-clause-list
returns-clause-list c =
    let e = c.args.element in
    let p = (element_of e).path in
    let cs = c.args.changes.now.items in
    let r = c.in-Some.known in
    let said : replaced_at p cs ≡ Some r = sym (c.requires.agrees.says p) ∙ at-place c.args.replaced.now p c.args.place c.requires.place ∙ sym c.at.ensures ∙ c.in-Some.is in
    ap (set cs r.first) (c.take_away.ensures ∙ ap (with_replacement (λ _. None)) c.index_mut.ensures.value) ∙ taken-set (is_replace_at p) (with_replacement (λ _. None)) (Replace e None) cs r.first c.index_mut.result.now (something-said p cs r said).0

pub returns-clause-agrees : goal.returns-clause-agrees
returns-clause-agrees c =
    let e = c.args.element in
    let p = (element_of e).path in
    let cs = c.args.changes.now.items in
    let r = c.in-Some.known in
    let old = value_by_path c.args.replaced.now in
    let known : old p ≡ Some r = at-place c.args.replaced.now p c.args.place c.requires.place ∙ sym c.at.ensures ∙ c.in-Some.is in
    let stands : position (is_replace_at p) cs ≡ Some r.first = (something-said p cs r (sym (c.requires.agrees.says p) ∙ known)).0 in
    let list : set cs r.first c.take_away.new.change ≡ delete_at e cs = ap (set cs r.first) (c.take_away.ensures ∙ ap (with_replacement (λ _. None)) c.index_mut.ensures.value) ∙ taken-set (is_replace_at p) (with_replacement (λ _. None)) (Replace e None) cs r.first c.index_mut.result.now stands in
    record {
      says = λ q. deleted-agrees e cs r.first old (value_by_path c.set.new.self) p stands refl c.requires.agrees.says (λ s. c.set.ensures.put p c.requires.place s ∙ marked old p s r known) q ∙ ap (replaced_at q) (sym list);
      tree = c.set.ensures.tree;
    }

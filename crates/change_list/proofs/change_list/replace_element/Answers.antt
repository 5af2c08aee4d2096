use Rattle.std.proofs.Common.{◌≡◌, None, Some, option_map, position, set, sym, ◌∙◌, ap}
use Rattle.cst_core.specs.SyntaxElement.{element_of}
use Rattle.edit_change.specs.declared.change.Change.TheVariants.{Replace}
use Rattle.change_list.specs.Recording.{with_replacement}
use Rattle.change_list.specs.inner.ByPath.{is_replace_at, replace_at}
use Rattle.path_table.proofs.PathTables.{at-place}
use Rattle.change_list.specs.inner.Indexing.{replaced_at}
use Rattle.change_list.proofs.TakenUp.{taken-set, taken-none}
use Rattle.change_list.proofs.Indexed.{nothing-said, something-said, said-replaced}
use Rattle.change_list.proofs.change_list.replace_element.Goals as goal

pub returns-in-None-clause-list : goal.returns-in-None-clause-list
returns-in-None-clause-list c =
    let e = c.args.element in
    let p = (element_of e).path in
    let cs = c.args.changes.now.items in
    let unsaid : replaced_at p cs ≡ None = sym (c.requires.agrees.says p) ∙ at-place c.args.replaced.now p c.args.place c.requires.place ∙ sym c.at.ensures ∙ c.in-None.is in
    c.add_replace.ensures.list ∙ taken-none (is_replace_at p) (with_replacement (option_map (λ _. c.args.new))) (Replace e (Some c.args.new)) cs (nothing-said p cs unsaid)

pub returns-in-Some-clause-list : goal.returns-in-Some-clause-list
returns-in-Some-clause-list c =
    let e = c.args.element in
    let p = (element_of e).path in
    let cs = c.args.changes.now.items in
    let r = c.in-Some.known in
    let said : replaced_at p cs ≡ Some r = sym (c.requires.agrees.says p) ∙ at-place c.args.replaced.now p c.args.place c.requires.place ∙ sym c.at.ensures ∙ c.in-Some.is in
    ap (set cs r.first) (c.take_up.ensures ∙ ap (with_replacement (option_map (λ _. c.args.new))) c.index_mut.ensures.value) ∙ taken-set (is_replace_at p) (with_replacement (option_map (λ _. c.args.new))) (Replace e (Some c.args.new)) cs r.first c.index_mut.result.now (something-said p cs r said).0

pub returns-in-Some-clause-agrees : goal.returns-in-Some-clause-agrees
returns-in-Some-clause-agrees c =
    let e = c.args.element in
    let p = (element_of e).path in
    let cs = c.args.changes.now.items in
    let r = c.in-Some.known in
    let said : replaced_at p cs ≡ Some r = sym (c.requires.agrees.says p) ∙ at-place c.args.replaced.now p c.args.place c.requires.place ∙ sym c.at.ensures ∙ c.in-Some.is in
    let stands : position (is_replace_at p) cs ≡ Some r.first = (something-said p cs r said).0 in
    let list : set cs r.first c.take_up.new.change ≡ replace_at e c.args.new cs = ap (set cs r.first) (c.take_up.ensures ∙ ap (with_replacement (option_map (λ _. c.args.new))) c.index_mut.ensures.value) ∙ taken-set (is_replace_at p) (with_replacement (option_map (λ _. c.args.new))) (Replace e (Some c.args.new)) cs r.first c.index_mut.result.now stands in
    record {
      says = λ q. c.requires.agrees.says q ∙ sym (said-replaced e cs r.first stands c.args.new q) ∙ ap (replaced_at q) (sym list);
      tree = c.requires.agrees.tree;
    }

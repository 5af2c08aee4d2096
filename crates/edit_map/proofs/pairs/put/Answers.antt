use Rattle.std.proofs.Common.{◌≡◌, None, Some, length, subst, sym, ◌∙◌, arith}
use Rattle.cst_core.specs.Element.{address}
use Rattle.cst_core.specs.inner.InTree.{address_path}
use Rattle.path_table.specs.inner.PathTable.{IsPut}
use Rattle.path_table.proofs.PathTables.{at-place}
use Rattle.edit_map.specs.inner.Climbing.{number_at}
use Rattle.edit_map.proofs.Numbered.{numbered-within, exchanged, made-exchanged, added, made-added}
use Rattle.edit_map.proofs.pairs.put.Goals as goal

pub index_mut-requires : goal.index_mut-requires
index_mut-requires c =
    let x = address c.args.pair.0 in
    let known : number_at c.args.numbers.now x ≡ Some c.in-Some.number = at-place c.args.numbers.now (address_path x) c.args.cell c.requires.cell ∙ sym c.at.ensures ∙ c.in-Some.is in
    omega (arith, numbered-within c.args.pairs.now.items c.args.numbers.now c.requires.numbered x c.in-Some.number known, c.args.pairs.now.ok.0)

pub returns-in-Some-clause-made : goal.returns-in-Some-clause-made
returns-in-Some-clause-made c =
    let x = address c.args.pair.0 in
    let known : number_at c.args.numbers.now x ≡ Some c.in-Some.number = at-place c.args.numbers.now (address_path x) c.args.cell c.requires.cell ∙ sym c.at.ensures ∙ c.in-Some.is in
    made-exchanged c.args.pairs.now.items c.args.numbers.now c.requires.numbered c.args.pair c.in-Some.number known

pub returns-in-Some-clause-numbered : goal.returns-in-Some-clause-numbered
returns-in-Some-clause-numbered c =
    let x = address c.args.pair.0 in
    let known : number_at c.args.numbers.now x ≡ Some c.in-Some.number = at-place c.args.numbers.now (address_path x) c.args.cell c.requires.cell ∙ sym c.at.ensures ∙ c.in-Some.is in
    exchanged c.args.pairs.now.items c.args.numbers.now c.requires.numbered c.args.pair c.in-Some.number known

pub returns-in-None-clause-made : goal.returns-in-None-clause-made
returns-in-None-clause-made c =
    let p = address_path (address c.args.pair.0) in
    let m = c.args.pairs.now.items in
    let unknown : number_at c.args.numbers.now (address c.args.pair.0) ≡ None = at-place c.args.numbers.now p c.args.cell c.requires.cell ∙ sym c.at.ensures ∙ c.in-None.is in
    let last : c.len.result ≡ length m = omega (arith, c.len.ensures, c.args.pairs.now.ok.0) in
    let put : IsPut c.args.numbers.now c.set.new.self p (length m) = subst (IsPut c.args.numbers.now c.set.new.self p) last (c.set.ensures.put p c.requires.cell) in
    rw c.push_reserved.ensures.items (made-added m c.args.numbers.now c.set.new.self c.requires.numbered c.args.pair unknown c.set.ensures.tree put)

pub returns-in-None-clause-numbered : goal.returns-in-None-clause-numbered
returns-in-None-clause-numbered c =
    let p = address_path (address c.args.pair.0) in
    let m = c.args.pairs.now.items in
    let unknown : number_at c.args.numbers.now (address c.args.pair.0) ≡ None = at-place c.args.numbers.now p c.args.cell c.requires.cell ∙ sym c.at.ensures ∙ c.in-None.is in
    let last : c.len.result ≡ length m = omega (arith, c.len.ensures, c.args.pairs.now.ok.0) in
    let put : IsPut c.args.numbers.now c.set.new.self p (length m) = subst (IsPut c.args.numbers.now c.set.new.self p) last (c.set.ensures.put p c.requires.cell) in
    rw c.push_reserved.ensures.items (added m c.args.numbers.now c.set.new.self c.requires.numbered c.args.pair unknown c.set.ensures.tree put)

pub returns-in-None-clause-cells : goal.returns-in-None-clause-cells
returns-in-None-clause-cells c = λ e. c.set.ensures.places (address_path (address e))

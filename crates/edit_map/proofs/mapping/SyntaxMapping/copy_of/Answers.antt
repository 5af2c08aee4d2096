use Rattle.std.proofs.Common.{ap, sym, ◌∙◌, arith}
use Rattle.std.specs.Prelude.{option_map}
use Rattle.cst_core.specs.Element.{address}
use Rattle.edit_map.proofs.Numbered.{unnumbered, numbered-within, copy-indexed}
use Rattle.edit_map.proofs.mapping.SyntaxMapping.copy_of.Goals as goal

pub returns-in_err-number : goal.returns-in_err-number
returns-in_err-number c =
    ap (option_map (λ c. c.now)) c.from_residual.ensures ∙ sym (rw (← c.self.view_is) (unnumbered c.self.inside.pairs.items c.self.inside.numbers c.self.invariant.numbered (address c.args.node.now) (sym c.number_of.ensures ∙ c.in_err-number.was)))

pub index-requires : goal.index-requires
index-requires c =
    omega (arith, numbered-within c.self.inside.pairs.items c.self.inside.numbers c.self.invariant.numbered (address c.args.node.now) c.in_ok-number.number (sym c.number_of.ensures ∙ c.in_ok-number.was), c.self.inside.pairs.ok.0)

pub returns : goal.returns
returns c =
    rw (← c.self.view_is) (copy-indexed c.self.inside.pairs.items c.self.inside.numbers c.self.invariant.numbered (address c.args.node.now) c.in_ok-number.number c.index.result.now (sym c.number_of.ensures ∙ c.in_ok-number.was) c.index.ensures)

use Rattle.std.proofs.Common.{Result, Ok, Err, OnOk, ◌≡◌, [], ◌∷◌, ◌∙◌, sym}
use Rattle.syntax_editor.specs.SyntaxElement.{child_nodes}
use Rattle.callers.proofs.Arguments.{three_items, rearranges}
use Rattle.callers.proofs.assist.rearrange.Goals as goal

on-ok : {A E P Q : Type 0} (r : Result A E) → (P → Q) → OnOk r P → OnOk r Q
on-ok (Ok x) f p = f p
on-ok (Err e) f p = tt

pub returns : goal.returns
returns c =
    let taken : c.as_slice.result.now ≡ c.first-item.result ∷ c.second-item.result ∷ c.third-item.result ∷ [] =
    three_items c.as_slice.result.now c.first-item.result c.second-item.result c.third-item.result c.in-len3.len_at_least c.in-len3.len_below c.first-item.is c.second-item.is c.third-item.is in
    let arguments : child_nodes c.args.root.now ≡ c.first-item.result ∷ c.second-item.result ∷ c.third-item.result ∷ [] = sym c.in_ok-arguments.ensures ∙ (sym c.as_slice.ensures.value ∙ taken) in
    on-ok c.record.result (rearranges c.args.root.now c.args.editor.now c.record.new.editor c.first-item.result c.second-item.result c.third-item.result arguments) c.record.ensures

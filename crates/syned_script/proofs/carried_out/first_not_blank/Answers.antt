-- The lines before this one are blank, and this one is or is not.
use Rattle.std.proofs.Common.{ℕ, List, [], get_or, sym, ◌∙◌}
use denote.Ref.{Bor}
use Rattle.script_lines.specs.Line.{is_blank}
use Rattle.syned_script.specs.inner.Run.{texts_in}
use Rattle.syned_script.proofs.TextLines.{item-text, is-text, one-more-passes, first-fails}
use Rattle.syned_script.proofs.carried_out.first_not_blank.Goals as goal

abbrev item : List (Bor (List ℕ)) → ℕ → List ℕ
item lines i = (get_or lines i (record { ref_ptr = (0, 0); now = [] })).now

pub returns-then-not-is_blank-clause-some : goal.returns-then-not-is_blank-clause-some
returns-then-not-is_blank-clause-some c =
    let lines = c.args.lines.now in
    let i = c.loop-index.index in
    (first-fails is_blank (texts_in lines) i (item lines i) (is-text lines i c.loop-index-test.true) (item-text lines i _ c.loop-index-test.true) c.loop-index.invariant (sym c.is_blank.ensures ∙ c.if-not-is_blank.true)).0

pub returns-then-not-is_blank-clause-first : goal.returns-then-not-is_blank-clause-first
returns-then-not-is_blank-clause-first c =
    let lines = c.args.lines.now in
    let i = c.loop-index.index in
    (first-fails is_blank (texts_in lines) i (item lines i) (is-text lines i c.loop-index-test.true) (item-text lines i _ c.loop-index-test.true) c.loop-index.invariant (sym c.is_blank.ensures ∙ c.if-not-is_blank.true)).1

pub loop-index-preserved : goal.loop-index-preserved
loop-index-preserved c =
    let lines = c.args.lines.now in
    let i = c.loop-index.index in
    one-more-passes is_blank (texts_in lines) i (item lines i) (is-text lines i c.loop-index-test.true) (item-text lines i _ c.loop-index-test.true) c.loop-index.invariant (sym c.is_blank.ensures ∙ c.if-not-is_blank.false)

use Rattle.std.proofs.Common.{map, sym, subst, ap, ◌∙◌}
use Rattle.script_lines.specs.LineValue.{ref_of, gap_of, line_of}
use Rattle.script_lines.specs.ScriptLine.{Insert, Replace, Range}
use Rattle.syned_script.specs.State.{call_in}
use Rattle.syned_script.specs.inner.Stops.{RecordGives}
use Rattle.syned_script.specs.inner.SessionState.{roots_of}
use Rattle.syned_script.proofs.PayloadForms.{inserts-one, inserts-all, replaces-by-one, replaces-with-many, deletes-all, replaces-all}
use Rattle.syned_script.proofs.calls.record.Goals as goal

pub returns-then-payload-eq1 : goal.returns-then-payload-eq1
returns-then-payload-eq1 c =
    let roots = roots_of c.args.roots.now in
    let same = ap (λ l. call_in roots (line_of l)) c.in-Insert.is ∙ ap (λ rs. call_in roots (Insert (gap_of c.in-Insert.at) (map ref_of rs))) (sym c.as_slice-payload.ensures.value) in
    let form = inserts-one roots (gap_of c.in-Insert.at) c.as_slice-payload.result.now c.index-payload-0.result (c.if-payload-eq1.true, c.index-payload-0.is) in
    subst (λ o. RecordGives o c.args.editor.now c.insert_one.result c.insert_one.new.editor) (sym (same ∙ form)) c.insert_one.ensures

pub returns-else-payload-eq1 : goal.returns-else-payload-eq1
returns-else-payload-eq1 c =
    let roots = roots_of c.args.roots.now in
    let same = ap (λ l. call_in roots (line_of l)) c.in-Insert.is ∙ ap (λ rs. call_in roots (Insert (gap_of c.in-Insert.at) (map ref_of rs))) (sym c.as_slice-payload.ensures.value) in
    let form = inserts-all roots (gap_of c.in-Insert.at) c.as_slice-payload.result.now c.if-payload-eq1.false in
    subst (λ o. RecordGives o c.args.editor.now c.insert_all.result c.insert_all.new.editor) (sym (same ∙ form)) c.insert_all.ensures

pub returns-then-payload-eq1-2 : goal.returns-then-payload-eq1-2
returns-then-payload-eq1-2 c =
    let roots = roots_of c.args.roots.now in
    let same = ap (λ l. call_in roots (line_of l)) c.in-Replace.is ∙ ap (λ rs. call_in roots (Replace (ref_of c.in-Replace.target) (map ref_of rs))) (sym c.as_slice-payload-in-Replace.ensures.value) in
    let form = replaces-by-one roots (ref_of c.in-Replace.target) c.as_slice-payload-in-Replace.result.now c.index-payload-0-then-payload-eq1-2.result (c.if-payload-eq1-2.true, c.index-payload-0-then-payload-eq1-2.is) in
    subst (λ o. RecordGives o c.args.editor.now c.replace_by_one.result c.replace_by_one.new.editor) (sym (same ∙ form)) c.replace_by_one.ensures

pub returns-else-payload-eq1-2 : goal.returns-else-payload-eq1-2
returns-else-payload-eq1-2 c =
    let roots = roots_of c.args.roots.now in
    let same = ap (λ l. call_in roots (line_of l)) c.in-Replace.is ∙ ap (λ rs. call_in roots (Replace (ref_of c.in-Replace.target) (map ref_of rs))) (sym c.as_slice-payload-in-Replace.ensures.value) in
    let form = replaces-with-many roots (ref_of c.in-Replace.target) c.as_slice-payload-in-Replace.result.now c.if-payload-eq1-2.false in
    subst (λ o. RecordGives o c.args.editor.now c.replace_with_many.result c.replace_with_many.new.editor) (sym (same ∙ form)) c.replace_with_many.ensures

pub returns-then-is_empty : goal.returns-then-is_empty
returns-then-is_empty c =
    let roots = roots_of c.args.roots.now in
    let same = ap (λ l. call_in roots (line_of l)) c.in-Range.is ∙ ap (λ rs. call_in roots (Range (ref_of c.in-Range.first) (ref_of c.in-Range.last) (map ref_of rs))) (sym c.as_slice-payload-in-Range.ensures.value) in
    let form = deletes-all roots (ref_of c.in-Range.first) (ref_of c.in-Range.last) c.as_slice-payload-in-Range.result.now c.if-is_empty.ensures in
    subst (λ o. RecordGives o c.args.editor.now c.delete_all.result c.delete_all.new.editor) (sym (same ∙ form)) c.delete_all.ensures

pub returns-else-is_empty : goal.returns-else-is_empty
returns-else-is_empty c =
    let roots = roots_of c.args.roots.now in
    let same = ap (λ l. call_in roots (line_of l)) c.in-Range.is ∙ ap (λ rs. call_in roots (Range (ref_of c.in-Range.first) (ref_of c.in-Range.last) (map ref_of rs))) (sym c.as_slice-payload-in-Range.ensures.value) in
    let form = replaces-all roots (ref_of c.in-Range.first) (ref_of c.in-Range.last) c.as_slice-payload-in-Range.result.now c.if-is_empty.ensures in
    subst (λ o. RecordGives o c.args.editor.now c.replace_all.result c.replace_all.new.editor) (sym (same ∙ form)) c.replace_all.ensures

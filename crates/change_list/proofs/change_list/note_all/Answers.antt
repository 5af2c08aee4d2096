use Rattle.std.proofs.Common.{◌≡◌, ◌++◌, ◌+◌, ◌∷◌, [], length, take, ap, sym, subst, ◌∙◌, arith, append_assoc, length-append}
use Rattle.std.proofs.lemmas.List.{take_all, take_more, length-take}
use Rattle.change_list.specs.inner.Indexing.{Agrees}
use Rattle.change_list.proofs.Unchanged.{no-ok}
use Rattle.change_list.proofs.change_list.note_all.Goals as goal

pub loop-change-preserved : goal.loop-change-preserved
loop-change-preserved c =
    let xs = c.args.changes.now in
    let i = c.loop-change.change-index in
    let more : take (i + 1) xs ≡ take i xs ++ c.change-item.result ∷ [] = take_more xs i c.change-item.result c.loop-change-test.true ∙ ap (λ x. take i xs ++ x ∷ []) (sym c.change-item.is) in
    record {
      number = omega (arith, c.loop-change.invariant.number);
      tree = c.in_ok-note.ensures.tree;
      agrees = λ cs long start.
          let before = c.loop-change.invariant.agrees cs long start in
          let so_many : length (cs ++ take i xs) ≡ c.loop-change.number = length-append cs (take i xs) ∙ omega (arith, long, length-take i xs, c.loop-change.invariant.number, c.loop-change-test.true) in
          let noted = c.in_ok-note.ensures.noted (cs ++ take i xs) so_many before in
          subst (Agrees c.note.new.index) (append_assoc cs (take i xs) (c.change-item.result ∷ []) ∙ ap (λ ys. cs ++ ys) (sym more)) noted;
    }

pub note-requires : goal.note-requires
note-requires c = c.loop-change.invariant.tree

pub returns-in_err-note-clause-tree : goal.returns-in_err-note-clause-tree
returns-in_err-note-clause-tree c = c.in_err-note.ensures.tree

pub returns-in_err-note-clause-noted : goal.returns-in_err-note-clause-noted
returns-in_err-note-clause-noted c = λ cs long agrees. no-ok _ c.from_residual.result c.from_residual.ensures.0

pub returns-clause-tree : goal.returns-clause-tree
returns-clause-tree c = c.loop-change.invariant.tree

pub returns-clause-noted : goal.returns-clause-noted
returns-clause-noted c = λ cs long agrees. subst (λ xs. Agrees c.loop-change.index (cs ++ xs)) (take_all c.loop-change.change-index c.args.changes.now (omega (arith, c.loop-change-test.false))) (c.loop-change.invariant.agrees cs long agrees)

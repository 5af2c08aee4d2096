use Rattle.std.proofs.Common.{◌++◌, take}
use Rattle.syned_run.proofs.Written.{Appends-trans, Appends-kept, moves_front, is_beginning}
use Rattle.syned_run.proofs.ends.write_all_of.Goals as goal

pub loop-rest-preserved : goal.loop-rest-preserved
loop-rest-preserved g c =
    let (done, split, written) = c.loop-rest.invariant in
    let rest = c.loop-rest.rest.now in
    let n = c.in_ok-count.count in
    (done ++ take n rest, moves_front _ done rest n split, Appends-trans _ _ _ _ _ written c.in_ok-count.ensures.bytes)

pub returns-in_err-count-clause-beginning : goal.returns-in_err-count-clause-beginning
returns-in_err-count-clause-beginning g c =
    let (done, split, written) = c.loop-rest.invariant in
    is_beginning _ _ _ done _ split (Appends-kept _ _ _ _ written c.in_err-count.ensures.bytes)

pub returns-then-count-eq0-clause-beginning : goal.returns-then-count-eq0-clause-beginning
returns-then-count-eq0-clause-beginning g c =
    let (done, split, written) = c.loop-rest.invariant in
    let rest = c.loop-rest.rest.now in
    let n = c.in_ok-count.count in
    is_beginning _ _ _ (done ++ take n rest) _ (moves_front _ done rest n split) (Appends-trans _ _ _ _ _ written c.in_ok-count.ensures.bytes)

pub returns-clause-beginning : goal.returns-clause-beginning
returns-clause-beginning g c =
    let (done, split, written) = c.loop-rest.invariant in
    is_beginning _ _ _ done _ split written

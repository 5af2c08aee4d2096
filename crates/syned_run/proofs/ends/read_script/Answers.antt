use Rattle.std.proofs.Common.{◌+◌, arith, subst, sym}
use Rattle.std.proofs.KnownBytes.{Consumes-trans}
use Rattle.std.specs.Io.KnownBytes.{Consumes}
use Rattle.script_lines.specs.Dialect.{bytes_in}
use Rattle.syned_run.proofs.Read.{read_whole, read_enough, no_longer, takes_more}
use Rattle.syned_run.proofs.ends.read_script.Goals as goal

pub returns-clause-read : goal.returns-clause-read
returns-clause-read g c = read_enough _ _ c.loop-script.script.items (bytes_in c.args.dialect + 1) c.loop-script.invariant.1 (omega (arith, c.script_limit-limit.ensures.limit, c.loop-script.invariant.0, c.len.ensures, c.loop-script-test.false))

pub returns-clause-taken : goal.returns-clause-taken
returns-clause-taken g c = (c.loop-script.script.items, c.loop-script.invariant.1, omega (arith, c.script_limit-limit.ensures.limit, c.loop-script.invariant.0))

pub returns-then-branch-eq0-clause-read : goal.returns-then-branch-eq0-clause-read
returns-then-branch-eq0-clause-read g c =
    let more = c.in_ok-read_more.ensures.ok in
    let read = subst (Consumes _ _) (sym more.added) (Consumes-trans _ _ _ _ _ c.loop-script.invariant.1 more.consumed) in
    read_whole _ _ c.read_more.new.out.items (bytes_in c.args.dialect + 1) read (more.ended c.if-branch-eq0.true) (no_longer c.loop-script.script.items c.read_more.new.out.items more.bytes _ (bytes_in c.args.dialect + 1) more.added more.count c.if-branch-eq0.true (omega (arith, c.script_limit-limit.ensures.limit, c.loop-script.invariant.0)))

pub returns-then-branch-eq0-clause-left : goal.returns-then-branch-eq0-clause-left
returns-then-branch-eq0-clause-left g c =
    let more = c.in_ok-read_more.ensures.ok in
    subst (Consumes _ _) (sym more.added) (Consumes-trans _ _ _ _ _ c.loop-script.invariant.1 more.consumed)

pub returns-then-branch-eq0-clause-taken : goal.returns-then-branch-eq0-clause-taken
returns-then-branch-eq0-clause-taken g c = takes_more _ _ _ c.loop-script.script.items _ (bytes_in c.args.dialect + 1) c.loop-script.invariant.1 c.in_ok-read_more.ensures.taken (omega (arith, c.script_limit-limit.ensures.limit, c.loop-script.invariant.0, c.len-in-loop-script.ensures))

pub returns-in_err-read_more-clause-taken : goal.returns-in_err-read_more-clause-taken
returns-in_err-read_more-clause-taken g c = takes_more _ _ _ c.loop-script.script.items _ (bytes_in c.args.dialect + 1) c.loop-script.invariant.1 c.in_err-read_more.ensures.taken (omega (arith, c.script_limit-limit.ensures.limit, c.loop-script.invariant.0, c.len-in-loop-script.ensures))

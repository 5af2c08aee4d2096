use Rattle.std.proofs.Common.{◌<◌, length, sym, arith}
use Rattle.path_table.proofs.Ways.{shared-more, end-more}
use Rattle.path_table.proofs.table.shared.Goals as goal

pub loop-count-preserved : goal.loop-count-preserved
loop-count-preserved c =
    let way = c.args.way.now in
    let path = c.args.path.now in
    let count = c.loop-count.count in
    let within : count < length way = omega (arith, c.loop-count-test.true, c.min-most.ensures) in
    let within_path : count < length path = omega (arith, c.loop-count-test.true, c.min-most.ensures) in
    record {
      slots = shared-more way path count within within_path c.loop-count.invariant.slots c.if-slot-path.false;
      end = sym (end-more way count within);
    }

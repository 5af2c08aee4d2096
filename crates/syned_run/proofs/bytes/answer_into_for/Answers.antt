use Rattle.std.proofs.Common.{refl}
use Rattle.std.specs.Prelude.{string_bytes}
use Rattle.syned_run.specs.inner.ExitCode.{exit_code}
use Rattle.syned_run.proofs.Answered.{put_into}
use Rattle.syned_run.proofs.bytes.answer_into_for.Goals as goal

pub returns-clause-answered : goal.returns-clause-answered
returns-clause-answered c = λ below.
    put_into c.args.dialect c.args.script.now (string_bytes c.in-Ok.answer.text) c.as_bytes-text.result.now c.args.room.now c.put.new.room c.code.result (exit_code c.in-Ok.answer.status) _ c.in-Ok.ensures c.code.ensures c.as_bytes-text.ensures.value refl c.put.ensures.put

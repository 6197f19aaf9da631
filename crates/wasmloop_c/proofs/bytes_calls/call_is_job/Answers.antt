use Rattle.wasmloop_c.proofs.Answering.{is_job}
use Rattle.wasmloop_c.proofs.bytes_calls.call_is_job.Goals as goal

pub returns : goal.returns
returns c = is_job

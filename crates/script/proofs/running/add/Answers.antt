use Rattle.std.proofs.Common.{rules}
use Rattle.script.proofs.ProgressLemmas.{goes_on_then}
use Rattle.script.proofs.running.add.Goals as goal

pub returns-clause-goes_on : goal.returns-clause-goes_on
returns-clause-goes_on g c = record {
  written = λ text is. goes_on_then _ _ _ c.add_block.new.backlog c.write_ended.new.self text _ c.write_ended.result (c.in_ok-add_block.ensures.goes_on.written text is) c.write_ended.ensures.goes_on.written;
  sound = search rules;
  fault = search rules;
}

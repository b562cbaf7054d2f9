use Rattle.script.proofs.SessionsLemmas.{output_of_replies}
use Rattle.script.proofs.laws.a_session_writes_the_output_of_its_lines.Goals as goal

pub returns : goal.returns
returns c = output_of_replies

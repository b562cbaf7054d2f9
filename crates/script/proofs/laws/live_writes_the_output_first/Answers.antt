use Rattle.script.proofs.BlocksLemmas.{one_output}
use Rattle.script.proofs.laws.live_writes_the_output_first.Goals as goal

pub returns : goal.returns
returns c = λ hash givens viewing script output bytes is live.
    let laws = c.a_text_has_one_answer.ensures in
    record {
      first = live.first;
      second = live.second;
      is_first = one_output (record { one_query = laws.one_query; one_fault = laws.one_fault; no_both = laws.no_both }) hash givens script live.first output live.is_first is;
      is_second = live.is_second;
      joined = live.joined;
    }

use Rattle.olap.proofs.ask.input_of_files.Goals as goal

pub returns : goal.returns
returns c = record {
  proposal = c.in_ok-proposal.proposal;
  proposed = c.in_ok-proposal.ensures;
  script = rw c.as_slice.ensures.value at c.in_ok-input_of.ensures.script;
  parts = c.in_ok-input_of.ensures.parts;
}

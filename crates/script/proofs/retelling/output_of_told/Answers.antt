use Rattle.script.specs.Output.{of_lines}
use Rattle.script.proofs.WalksLemmas.{given_so}
use Rattle.script.proofs.retelling.output_of_told.Goals as goal

pub returns : goal.returns
returns g c = λ hash givens all same few short fit every are.
    given_so c.blocks_of_told.result _ _ (λ text blocks. of_lines short few blocks) (c.blocks_of_told.ensures hash givens all same every fit are)

use Rattle.script.specs.Output.{deed_behind}
use Rattle.script.proofs.BlocksLemmas.{answer_alike}
use Rattle.script.proofs.laws.hash_decides_shapes_alone.Goals as goal

pub returns : goal.returns
returns c = λ hash other givens before line bytes unlike is. answer_alike hash other givens before (deed_behind givens before line) bytes unlike is

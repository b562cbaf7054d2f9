use Rattle.std.proofs.Common.{[], ◌∷◌, reverse, subst}
use Rattle.std.proofs.lemmas.List.{append-nil}
use Rattle.script.specs.Output.{AreBlocks, InThree, IsBlock}
use Rattle.script.proofs.BlocksLemmas.{in_three}
use Rattle.script.proofs.laws.each_line_by_itself.Goals as goal

pub returns : goal.returns
returns c = λ hash givens earlier line later bytes are.
    subst (λ ls. InThree (AreBlocks hash givens [] earlier) (IsBlock hash givens ls line) (AreBlocks hash givens (line ∷ ls) later) bytes) (append-nil (reverse earlier))
    (in_three earlier hash givens [] line later bytes are)

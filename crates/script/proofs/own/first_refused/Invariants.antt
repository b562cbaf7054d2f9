use Rattle.script.proofs.OwnLemmas.{NoneYet}
use Rattle.script.proofs.own.first_refused.Given as goal

abbrev pub invariant-loop-told : goal.invariant-loop-told
invariant-loop-told l = NoneYet l.tolds l.told-index l.line

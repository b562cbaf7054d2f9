use Rattle.std.proofs.Common.{◌≡◌, map, take}
use Rattle.questions.proofs.proposal.columns_with.Given as goal

abbrev pub invariant-loop-place : goal.invariant-loop-place
invariant-loop-place l = record {
  names : map (λ c. c.name) l.columns.items ≡ take l.place l.names;
  types : map (λ c. c.kind) l.columns.items ≡ take l.place l.types;
}

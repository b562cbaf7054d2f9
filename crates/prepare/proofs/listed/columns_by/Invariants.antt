use Rattle.std.proofs.Common.{map}
use Rattle.prepare.specs.Listed.{naming_by}
use Rattle.prepare.proofs.ListedLemmas.{ReachedColumns}
use Rattle.prepare.proofs.listed.columns_by.Given as goal

abbrev pub invariant-loop-place : goal.invariant-loop-place
invariant-loop-place l = ReachedColumns (naming_by l.form) (map (λ f. f.now) l.fields) l.place l.columns.items

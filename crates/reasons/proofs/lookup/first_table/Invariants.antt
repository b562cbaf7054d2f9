use Rattle.std.proofs.Common.{◌≡◌, drop, map}
use Rattle.reasons.specs.Books.{declared_in}
use Rattle.reasons.proofs.lookup.first_table.Given as goal

abbrev pub invariant-loop-line : goal.invariant-loop-line
invariant-loop-line l = declared_in (map (λ line. line.now) l.lines) ≡ declared_in (map (λ line. line.now) (drop l.line-index l.lines))

use Rattle.std.proofs.Common.{◌≡◌, false, take}
use Rattle.std.specs.List.{count_by, list_any}
use Rattle.query.specs.Depth.{beginnings, is_close, is_deep, is_open}
use Rattle.query.proofs.depth.is_too_deep.Given as goal

abbrev pub invariant-loop-token : goal.invariant-loop-token
invariant-loop-token l = record {
  opened : l.opened ≡ count_by is_open (take l.token-index l.tokens);
  closed : l.closed ≡ count_by is_close (take l.token-index l.tokens);
  shallow : list_any is_deep (beginnings l.token-index l.tokens) ≡ false;
}

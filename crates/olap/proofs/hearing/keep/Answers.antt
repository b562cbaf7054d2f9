use Rattle.std.proofs.Common.{rules, ◌∙◌, ◌+◌}
use Rattle.olap.proofs.HearingLemmas.{kept_room}
use Rattle.script.specs.Limits.{script_limit}
use Rattle.olap.proofs.hearing.keep.Goals as goal

pub returns : goal.returns
returns c = c.in_ok-extend_from_slice.ensures.items ∙ kept_room (script_limit + 2) c.min.result c.args.line.now.items c.args.piece.now c.requires (search rules)

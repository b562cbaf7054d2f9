use Rattle.std.proofs.Common.{◌∙◌, refl, sym}
use Rattle.groups.proofs.MeetingLemmas.{folds_join, joins_nothing, may_take_others}
use Rattle.groups.proofs.folding.Folding.join.Goals as goal

pub all_with_others-requires : goal.all_with_others-requires
all_with_others-requires g c = may_take_others c.args.self c.args.other _ refl c.requires

pub returns : goal.returns
returns g c = λ plan rows more one two. folds_join plan rows more c.args.self c.args.other _ one two refl refl _ refl c.in_ok-sources.ensures

pub returns-then-groups-eq0 : goal.returns-then-groups-eq0
returns-then-groups-eq0 g c = joins_nothing c.args.self c.args.other (sym c.groups.ensures ∙ c.if-groups-eq0.true)

use Rattle.std.proofs.lemmas.Result.{IfOk-weaker}
use Rattle.groups.proofs.MeetingLemmas.{beside_each}
use Rattle.groups.proofs.meeting.both.Goals as goal

pub returns-then-apart : goal.returns-then-apart
returns-then-apart g c = IfOk-weaker c.with.result _ _ (λ both is. beside_each c.args.bag c.args.more both is) c.with.ensures

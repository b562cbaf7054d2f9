use Rattle.script.proofs.JoiningLemmas.{groups_both}
use Rattle.script.proofs.joining.joined_groups.Goals as goal

pub returns-in-Ok : goal.returns-in-Ok
returns-in-Ok g c = λ t xs ys zs together has one two.
    let laws = c.a_text_has_one_answer.ensures in
    groups_both (record { one_query = laws.one_query; one_fault = laws.one_fault; no_both = laws.no_both }) c.args.walk.now.schema c.in-Some.schema t xs ys zs c.args.query.now c.in-Ok.plan c.args.firsts.items c.args.seconds.items c.kept_of_both-joined.result
    c.in-Some.is has c.in-Ok.ensures together one two c.kept_of_both-joined.ensures

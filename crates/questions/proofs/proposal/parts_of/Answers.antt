use Rattle.std.proofs.Common.{◌≡◌, ◌+◌, ◌++◌, ◌∷◌, [], rules}
use Rattle.questions.proofs.ProposalsLemmas.{made_more}
use Rattle.questions.proofs.proposal.parts_of.Goals as goal

pub loop-file-preserved : goal.loop-file-preserved
loop-file-preserved c =
    let sum : c.in-Some.counted ≡ c.loop-file.choice.counted + c.in_ok-text.field-0.records = search rules in
    let items : c.push.new.self.items ≡ c.loop-file.parts.items ++ c.in_ok-text.field-0.text ∷ [] =
    cc (c.in_ok-push.ensures.items, c.in_ok-text.text-is) in
    rw (items, c.count-in-loop-file.ensures)
    (made_more c.args.choice.now c.args.files.now c.loop-file.file c.index-files-file.result c.loop-file.parts.items c.loop-file.choice c.in_ok-text.field-0 c.in-Some.counted
    c.loop-file.invariant c.loop-file-test.true c.index-files-file.is (rw c.as_slice.ensures.value at c.in_ok-text.ensures) sum)

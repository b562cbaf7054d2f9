use Rattle.std.proofs.Common.{◌≡◌, ◌∙◌, ap, arith, rules, sym}
use Rattle.shards.specs.Frames.{head_of}
use Rattle.shards.proofs.FramesLemmas.{body_is, head_is, text_long}
use Rattle.shards.proofs.frame.body_of.Goals as goal

pub returns-then-text-lt-HEAD_BYTES-clause-only : goal.returns-then-text-lt-HEAD_BYTES-clause-only
returns-then-text-lt-HEAD_BYTES-clause-only c = λ body is. absurd (omega (arith, text_long c.args.text.now body is, c.if-text-lt-HEAD_BYTES.true))

pub returns-then-ne-clause-only : goal.returns-then-ne-clause-only
returns-then-ne-clause-only c = λ body is.
    let same : c.as_slice.result.now ≡ c.split_at.result.0.now =
    c.as_slice.ensures.value ∙ c.in_ok-right.ensures ∙ ap head_of (c.split_at.ensures.back ∙ body_is c.args.text.now body is)
    ∙ sym (c.split_at.ensures.front ∙ head_is c.args.text.now body is) in
    absurd (search (rules, same))

pub returns-clause-only : goal.returns-clause-only
returns-clause-only c = λ body is. c.split_at.ensures.back ∙ body_is c.args.text.now body is

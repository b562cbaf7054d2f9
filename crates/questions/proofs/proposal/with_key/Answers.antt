use Rattle.std.proofs.Common.{◌≡◌, ◌∙◌, ap, map, sym, true}
use Rattle.std.specs.Prelude.{is_some}
use Rattle.prepare.specs.declared.choice.Choice.{Choice}
use Rattle.questions.proofs.ProposalsLemmas.{key_asked}
use Rattle.questions.proofs.proposal.with_key.Goals as goal

pub returns-then-is_some : goal.returns-then-is_some
returns-then-is_some c =
    let some : is_some c.args.choice.number ≡ true = ap (λ (ch : Choice). is_some ch.number) (sym c.in_ok-typed.ensures.1) ∙ sym c.is_some.ensures ∙ c.if-is_some.true in
    key_asked c.args.choice (map (λ f. f.items) c.args.files.now) c.in_ok-typed.typed c.in_ok-typed.ensures.0 c.in_ok-proposal_of.field-0 some c.in_ok-proposal_of.ensures

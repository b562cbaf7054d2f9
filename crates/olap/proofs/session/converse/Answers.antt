use Rattle.std.proofs.Common.{inr, map, string_bytes, ℕ, List, Option}
use Rattle.clap.specs.Words.{Text}
use Rattle.olap.specs.Endings.{NoViewers}
use Rattle.olap.specs.Talks.{AskForSessionHelp, AskToTalk, IsOfJob, IsTalk, IsTalkSoFar}
use Rattle.olap.proofs.EndingsLemmas.{ends_as, help_of_session, unless_help}
use Rattle.olap.proofs.TalksLemmas.{asked_to_talk}
use Rattle.olap.proofs.session.converse.Goals as goal

pub returns-in-Ok-clause-ends : goal.returns-in-Ok-clause-ends
returns-in-Ok-clause-ends g c =
    let words : List Text = map string_bytes c.args.words.now in
    let file : List ℕ → Option (List ℕ) = g.F.Folder.file c.args.folder.now in
    let input = g.I.Read.remaining c.args.input in
    let so = asked_to_talk file words c.in-Ok.job c.in-Ok.ensures.job in
    inr (ends_as _ _ _ _ (λ finish. IsOfJob file c.in-Ok.job (IsTalk input finish)) (λ finish. AskToTalk file words (IsTalk input finish)) (IsOfJob file c.in-Ok.job (IsTalkSoFar input))
    (AskToTalk file words (IsTalkSoFar input)) NoViewers NoViewers (λ finish. so (IsTalk input finish)) (so (IsTalkSoFar input)) (λ served none. none) c.with_parts.ensures.ends)

pub returns-in-Err-clause-ends : goal.returns-in-Err-clause-ends
returns-in-Err-clause-ends g c =
    let words : List Text = map string_bytes c.args.words.now in
    unless_help _ _ _ _ (AskForSessionHelp words) _ _ _ c.refuse.ensures.status (λ zero. help_of_session words c.in-Err.fault c.in-Err.ensures.fault (c.refuse.ensures.only zero))
    (λ three. help_of_session words c.in-Err.fault c.in-Err.ensures.fault (c.refuse.ensures.only_early three)) c.refuse.ensures.nothing

use Rattle.std.proofs.Common.{ap, subst, map, List, ◌∙◌}
use Rattle.clap.specs.Words.{App, FailsBy, Text, app_of, fault_of, is_simple_and_free}
use Rattle.command.specs.ShardWords.{shard_app}
use Rattle.command.proofs.SessionWordsLemmas.{rows_found}
use Rattle.command.proofs.ShardWordsLemmas.{shard-is_simple, shard-is_simple_and_free}
use Rattle.command.proofs.shard_words.shard_matches.Goals as goal

pub returns-clause-fails : goal.returns-clause-fails
returns-clause-fails c =
    let given : List Text = map (λ w. w.now) c.args.words.now in
    subst (λ (a : App). FailsBy (fault_of a given) c.try_get_matches_from.result) c.in_ok-shard_command.ensures
    (c.try_get_matches_from.ensures.kinds (ap is_simple_and_free c.in_ok-shard_command.ensures ∙ shard-is_simple_and_free))

pub returns-clause-found : goal.returns-clause-found
returns-clause-found c =
    rows_found c.try_get_matches_from.result (app_of c.in_ok-shard_command.field-0) shard_app (map (λ w. w.now) c.args.words.now) c.in_ok-shard_command.ensures shard-is_simple
    c.try_get_matches_from.ensures.matches

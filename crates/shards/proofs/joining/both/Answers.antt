use Rattle.std.proofs.Common.{[], ap, subst, sym, ◌++◌, ◌||◌, ◌∙◌}
use Rattle.std.specs.Prelude.{IfSome}
use Rattle.std.specs.Str.Lines.{lines}
use Rattle.script.specs.Told.{AreTold}
use Rattle.shards.specs.Documents.{DocumentValue}
use Rattle.shards.proofs.ToldsLemmas.{both_answer}
use Rattle.shards.proofs.joining.both.Goals as goal

pub returns-clause-told : goal.returns-clause-told
returns-clause-told g c = λ shard_of givens.
    let script = c.as_bytes.ensures.value ∙ ap (λ (d : DocumentValue). d.script) c.first.view_is in
    both_answer shard_of givens c.args.first c.args.second c.in_ok-tolds.tolds.items c.in_ok-others.others.items c.in-Some.both.items _ c.requires.script c.requires.count c.requires.apart
    (c.in_ok-tolds.ensures ∙ ap (λ (d : DocumentValue). d.lines) c.first.view_is) (c.in_ok-others.ensures ∙ ap (λ (d : DocumentValue). d.lines) c.second.view_is)
    (λ one two are_apart told_one told_two. subst (λ s. AreTold givens (λ key. one key || two key) [] (lines s) c.in-Some.both.items) script
    (subst (λ o. IfSome o (λ both. AreTold givens (λ key. one key || two key) [] (lines c.as_bytes.result.now) both.items)) c.in-Some.is
    (c.in_ok-both.ensures givens one two are_apart (subst (λ s. AreTold givens one [] (lines s) c.in_ok-tolds.tolds.items) (sym script) told_one)
    (subst (λ s. AreTold givens two [] (lines s) c.in_ok-others.others.items) (sym script) told_two))))
    (ap (λ (d : DocumentValue). d.script) c.first.view_is) (ap (λ (d : DocumentValue). d.count) c.first.view_is)
    (c.in_ok-append.ensures.items ∙ ap (λ (d : DocumentValue). d.numbers ++ c.second.inside.numbers.items) c.first.view_is ∙ ap (λ (d : DocumentValue). c.args.first.numbers ++ d.numbers) c.second.view_is) c.in_ok-lines.ensures

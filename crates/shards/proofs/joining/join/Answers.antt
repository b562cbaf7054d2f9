use Rattle.std.proofs.Common.{None, ap, subst, sym, true, ◌≡◌, ◌==◌, ◌∙◌}
use Rattle.std.specs.List.{find, list_any}
use Rattle.shards.specs.Documents.{DocumentValue}
use Rattle.shards.proofs.ToldsLemmas.{apart, in_both_lists}
use Rattle.shards.proofs.joining.join.Goals as goal

pub both-requires-clause-apart : goal.both-requires-clause-apart
both-requires-clause-apart g c =
    let first = c.as_slice.ensures.value ∙ ap (λ (d : DocumentValue). d.numbers) c.first.view_is in
    let second = c.as_slice-2.ensures.value ∙ ap (λ (d : DocumentValue). d.numbers) c.second.view_is in
    let none = sym c.in_both.ensures ∙ c.in_default.is in
    apart c.args.first.numbers c.args.second.numbers
    (subst (λ ns. find (λ number. list_any (λ n. number == n) ns) c.args.first.numbers ≡ None) second
    (subst (λ ns. find (λ number. list_any (λ n. number == n) c.as_slice-2.result.now) ns ≡ None) first none))

pub returns-in-Some-clause-why : goal.returns-in-Some-clause-why
returns-in-Some-clause-why g c =
    let first = c.as_slice.ensures.value ∙ ap (λ (d : DocumentValue). d.numbers) c.first.view_is in
    let second = c.as_slice-2.ensures.value ∙ ap (λ (d : DocumentValue). d.numbers) c.second.view_is in
    let both = in_both_lists c.as_slice.result.now c.as_slice-2.result.now c.in-Some.shard (sym c.in_both.ensures ∙ c.in-Some.is) in
    (subst (λ ns. list_any (λ n. c.in-Some.shard == n) ns ≡ true) first both.0, subst (λ ns. list_any (λ n. c.in-Some.shard == n) ns ≡ true) second both.1)

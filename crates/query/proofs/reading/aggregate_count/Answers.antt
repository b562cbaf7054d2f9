use Rattle.std.proofs.Common.{rules, ◌≡◌, ◌∙◌, sym}
use Rattle.std.proofs.lemmas.List.Sums.{length-filter}
use Rattle.std.specs.List.{count_by}
use Rattle.query.specs.Values.{is_aggregate}
use Rattle.query.proofs.reading.aggregate_count.Goals as goal

pub returns : goal.returns
returns c =
    let counted : c.count.result ≡ count_by is_aggregate c.args.items.now = search rules in
    counted ∙ sym (length-filter is_aggregate c.args.items.now)

use Rattle.std.proofs.Common.{◌++◌, ◌∙◌, ap₂, map}
use Rattle.query.specs.Plans.{resolved_item}
use Rattle.query.specs.Values.{items_of}
use Rattle.query.proofs.ShortLemmas.{short_both, short_resolved}
use Rattle.query.proofs.plan.Outline.of.Goals as goal

pub returns-clause-short : goal.returns-clause-short
returns-clause-short c =
    let made = c.in_ok-items.ensures ∙ ap₂ (λ is more. map (resolved_item c.args.columns.now) (is ++ more)) c.items.ensures.items c.having_items.ensures.items in
    short_resolved c.args.columns.now (items_of c.args.query.now) c.in_ok-items.items.items made
    (short_both c.args.query.now.items c.args.query.now.having.items c.items.ensures.short c.having_items.ensures.short)

use Rattle.std.proofs.Common.{◌≡◌, take, false, length, subst, sym}
use Rattle.std.specs.List.{list_any}
use Rattle.query.specs.Values.{is_long}
use Rattle.groups.proofs.GroupingLemmas.{short_front}
use Rattle.groups.proofs.finishing.shown_items.Goals as goal

pub returns-clause-short : goal.returns-clause-short
returns-clause-short c =
    subst (λ l. list_any is_long (take (length c.headings-shown.result.now) l) ≡ false) (sym c.items-items.ensures.items)
    (short_front c.args.plan.now.items (length c.headings-shown.result.now) c.items-items.ensures.short)

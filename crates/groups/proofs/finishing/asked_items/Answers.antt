use Rattle.std.proofs.Common.{◌≡◌, ◌-◌, List, ℕ, drop, false, length, subst, sym, take}
use Rattle.std.specs.List.{list_any}
use Rattle.query.specs.Values.{is_long}
use Rattle.query.specs.declared.item.Item.{Item}
use Rattle.groups.proofs.GroupingLemmas.{short_behind, short_front}
use Rattle.groups.proofs.finishing.asked_items.Goals as goal

pub returns-clause-short : goal.returns-clause-short
returns-clause-short c =
    let n = length c.headings-shown.result.now in
    let items : List (Item ℕ) = c.args.plan.now.items in
    subst (λ l. list_any is_long (take (length l - n) (drop n l)) ≡ false) (sym c.items-items.ensures.items)
    (short_front (drop n items) (length items - n) (short_behind items n c.items-items.ensures.short))

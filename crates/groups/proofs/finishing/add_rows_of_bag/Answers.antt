use Rattle.std.proofs.Common.{◌≡◌, [], ap, List, ◌++◌, ◌∙◌, refl, subst}
use Rattle.std.specs.List.Sorted.{IsPermutation}
use Rattle.std.specs.Vec.Iter.{into_iter_items}
use Rattle.std.proofs.lemmas.Result.{IfOk-weaker}
use Rattle.cells.specs.declared.total.Total.{Total}
use Rattle.cells.specs.TupleOrder.{tuple_cmp}
use Rattle.std.specs.Map.{keys_of}
use Rattle.groups.specs.Bags.{Covers}
use Rattle.groups.specs.Finishing.{rows_by}
use Rattle.groups.specs.Groups.{set_rows}
use Rattle.groups.proofs.LayingLemmas.{not_nil}
use Rattle.groups.proofs.RisingLemmas.{rows_of_groups}
use Rattle.groups.proofs.finishing.add_rows_of_bag.Goals as goal
use Rattle.trie.specs.Entries.{IsRising}
use Rattle.trie.specs.Holding.{lent}

pub returns : goal.returns
returns g c = λ kept covers.
    let set = c.args.set.now in
    let plan = c.args.plan.now in
    let groups = lent c.in_ok-groups.groups.items in
    let all : List (List Total) → List (List Total) = λ made. c.args.rows.now.items ++ made in
    let columns : c.as_slice-columns.result.now ≡ set = c.as_slice-columns.ensures.value ∙ c.set.view_is in
    let some : set ≡ [] → ⊥ = λ none. not_nil c.as_slice-columns.result.now c.if-is_empty.ensures (columns ∙ none) in
    let rising : IsRising tuple_cmp (keys_of groups) = subst (λ l. IsRising tuple_cmp (keys_of (lent l))) c.as_slice.ensures.value (c.if-not-rise.ensures refl) in
    let moved : IsPermutation c.args.bag.now groups = subst (λ l. IsPermutation l groups) c.groups.ensures.all c.in_ok-groups.ensures.all in
    IfOk-weaker c.add_rows.result (λ _. c.add_rows.new.rows.items ≡ all (rows_by c.as_slice-columns.result.now plan (lent (into_iter_items c.into_iter.result))))
    (λ _. c.add_rows.new.rows.items ≡ all (set_rows plan set kept)) (λ _ e. e
    ∙ ap all (ap (λ s. rows_by s plan (lent (into_iter_items c.into_iter.result))) columns ∙ ap (λ l. rows_by set plan (lent l)) c.into_iter.ensures.rest
    ∙ rows_of_groups plan set some kept c.args.bag.now groups (subst (λ a. Covers a set kept c.args.bag.now) c.requires.asked covers) moved rising c.in_ok-groups.ensures.sorted)) c.add_rows.ensures

use Rattle.std.proofs.Common.{◌≡◌, ap, List, ◌++◌, ◌∙◌}
use Rattle.std.specs.Vec.Iter.{into_iter_items}
use Rattle.std.proofs.lemmas.Result.{IfOk-weaker}
use Rattle.cells.specs.declared.total.Total.{Total}
use Rattle.groups.specs.Finishing.{rows_by}
use Rattle.groups.specs.Groups.{set_rows}
use Rattle.groups.proofs.FinishLemmas.{rows_are}
use Rattle.groups.proofs.finishing.add_rows_of_set.Goals as goal
use Rattle.trie.specs.Holding.{lent}

pub returns : goal.returns
returns g c = λ kept stands.
    let set = c.args.set.now in
    let plan = c.args.plan.now in
    let rising = lent (into_iter_items c.in_ok-rising.rising) in
    let all : List (List Total) → List (List Total) = λ made. c.args.rows.now.items ++ made in
    IfOk-weaker c.add_rows.result (λ _. c.add_rows.new.rows.items ≡ all (rows_by c.as_slice.result.now plan rising))
    (λ _. c.add_rows.new.rows.items ≡ all (set_rows plan set kept)) (λ _ e. e
    ∙ ap all (ap (λ s. rows_by s plan rising) (c.as_slice.ensures.value ∙ c.set.view_is)
    ∙ rows_are g.H.KeyHash-2.hash_of set plan kept c.args.groups.now c.keys_rise.ensures stands rising
    c.in_ok-rising.ensures.all c.in_ok-rising.ensures.rising)) c.add_rows.ensures

-- What a report has of a group, in the words of the query.
use Rattle.std.specs.Prelude.{◌≡◌, ℕ, List, [], ◌∷◌, ◌++◌, drop, if◌then◌else◌, length, map, option_map, Some, take, refl}
use Rattle.std.proofs.Common.{ap, sym, ◌∙◌}
use Rattle.std.proofs.lemmas.Option.{same_Some}
use Rattle.cells.specs.Values.{RowValue, Table}
use Rattle.cells.specs.declared.cell.Cell.{Cell}
use Rattle.cells.specs.declared.schema.Column.{Column}
use Rattle.cells.specs.declared.total.Total.{Total}
use Rattle.groups.specs.Groups.{holds, is_true, item_value, shown}
use Rattle.groups.specs.Names.{named_value, shown_where}
use Rattle.query.specs.Having.{having_of, having_truth, numbered}
use Rattle.query.specs.Headings.{heading}
use Rattle.query.specs.Plans.{plan_of, resolved_item}
use Rattle.query.specs.Trees.{PredicateTree}
use Rattle.query.specs.Truth.{truth}
use Rattle.query.specs.Values.{QueryTree}
use Rattle.query.specs.declared.item.Item.{Item}
use Rattle.query.specs.declared.test.Test.{Test}

-- the law of the plan's predicate
abbrev pub HavingByNames : Type 0
HavingByNames = (t : Table) (q : QueryTree) (p : PredicateTree (Test (Item (List ℕ)))) (value : Item ℕ → Total) → q.having ≡ having_of p →
    option_map (λ n. truth n (drop (length (plan_of t q).headings) (map value (plan_of t q).items))) (plan_of t q).having ≡ Some (having_truth (λ i. value (resolved_item t.columns i)) p)

first_values : (columns : List Column) (value : Item ℕ → Total) (is js : List (Item (List ℕ))) →
    take (length (map heading is)) (map value (map (resolved_item columns) (is ++ js))) ≡ map (λ i. value (resolved_item columns i)) is
first_values columns value [] js = refl
first_values columns value (i ∷ is) js = ap (λ vs. value (resolved_item columns i) ∷ vs) (first_values columns value is js)

pub shown_by_names : HavingByNames → (t : Table) (q : QueryTree) (p : PredicateTree (Test (Item (List ℕ)))) (set : List ℕ) (tuple : List Cell) (group : List RowValue) → q.having ≡ having_of p →
    shown (plan_of t q) (map (item_value set tuple group) (plan_of t q).items) ≡ shown_where t q p set tuple group
shown_by_names law t q p set tuple group e =
    let values : List Total = map (item_value set tuple group) (plan_of t q).items in
    let asked : List Total = drop (length (plan_of t q).headings) values in
    let first : List Total = take (length (plan_of t q).headings) values in
    let is : q.having.predicate ≡ Some (numbered p) = ap (λ h. h.predicate) e in
    let same : truth (numbered p) asked ≡ having_truth (named_value t set tuple group) p =
    same_Some _ _ (sym (ap (option_map (λ n. truth n asked)) is) ∙ law t q p (item_value set tuple group) e) in
    ap (λ h. if holds h asked then first ∷ [] else []) is ∙ ap (λ b. if is_true b then first ∷ [] else []) same
    ∙ ap (λ vs. if is_true (having_truth (named_value t set tuple group) p) then vs ∷ [] else []) (first_values t.columns (item_value set tuple group) q.items q.having.items)

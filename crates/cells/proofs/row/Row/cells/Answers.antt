use Rattle.std.proofs.Common.{◌++◌, ◌∷◌, [], ◌+◌, ap, map, sym, subst, take, ◌∙◌}
use Rattle.std.proofs.lemmas.List.{map-append}
use Rattle.cells.specs.Lent.{lent_cell}
use Rattle.cells.specs.Packing.{IsLeft}
use Rattle.cells.specs.RowForms.{form_bytes, form_count}
use Rattle.cells.specs.Values.{RowValue}
use Rattle.cells.proofs.PackingLemmas.{left_as, left_first, left_next, left_none, left_taken}
use Rattle.cells.proofs.row.Row.cells.Goals as goal

pub first_cell-requires : goal.first_cell-requires
first_cell-requires c = left_first _ _ c.args.self.now.cells c.loop-i.rest.now c.loop-i-test.true c.loop-i.invariant.left

pub behind_first-rest-requires : goal.behind_first-rest-requires
behind_first-rest-requires c = left_first _ _ c.args.self.now.cells c.loop-i.rest.now c.loop-i-test.true c.loop-i.invariant.left

pub loop-i-init : goal.loop-i-init
loop-i-init c = record {
  read = ap (map lent_cell) c.in_ok-cells.ensures.items;
  left =
      left_as (form_count c.self.inside.form) c.count-count.result (form_bytes c.self.inside.form) c.bytes-rest.result.now c.args.self.now.cells
      c.self.invariant c.count-count.ensures c.bytes-rest.ensures (ap (λ (r : RowValue). r.cells) c.self.view_is);
}

pub loop-i-preserved : goal.loop-i-preserved
loop-i-preserved c =
    let left = c.loop-i.invariant.left in
    record {
      read =
          ap (map lent_cell) c.in_ok-push.ensures.items ∙ map-append lent_cell c.loop-i.cells.items (c.first_cell.result ∷ [])
          ∙ ap (λ xs. xs ++ lent_cell c.first_cell.result ∷ []) c.loop-i.invariant.read
          ∙ ap (λ x. take c.loop-i._i c.args.self.now.cells ++ x ∷ []) c.first_cell.ensures
          ∙ left_taken _ _ c.args.self.now.cells c.loop-i.rest.now c.loop-i-test.true left;
      left =
          subst (IsLeft c.count-count.result (c.loop-i._i + 1) c.args.self.now.cells) (sym c.behind_first-rest.ensures)
          (left_next _ _ c.args.self.now.cells c.loop-i.rest.now c.loop-i-test.true left);
    }

pub returns : goal.returns
returns c = c.loop-i.invariant.read ∙ left_none _ _ c.args.self.now.cells c.loop-i.rest.now c.loop-i-test.false c.loop-i.invariant.left

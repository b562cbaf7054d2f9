use Rattle.cells.specs.Laws.{len_rows, table_rows_delete, table_rows_put}
use Rattle.cells.proofs.updates.updates_make_a_map.Goals as goal

pub returns-clause-put : goal.returns-clause-put
returns-clause-put c = table_rows_put

pub returns-clause-delete : goal.returns-clause-delete
returns-clause-delete c = table_rows_delete

pub returns-clause-once : goal.returns-clause-once
returns-clause-once c = len_rows

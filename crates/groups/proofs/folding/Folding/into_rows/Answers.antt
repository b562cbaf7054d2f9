use Rattle.groups.proofs.FoldsLemmas.{end_asked, end_counted}
use Rattle.groups.proofs.folding.Folding.into_rows.Goals as goal

pub rows_of_sources-requires-clause-can : goal.rows_of_sources-requires-clause-can
rows_of_sources-requires-clause-can g c = end_counted c.args.self c.as_slice.result.now c.as_slice.ensures.value c.requires

pub rows_of_sources-requires-clause-asked : goal.rows_of_sources-requires-clause-asked
rows_of_sources-requires-clause-asked g c = end_asked c.args.self c.as_slice.result.now c.as_slice.ensures.value c.requires

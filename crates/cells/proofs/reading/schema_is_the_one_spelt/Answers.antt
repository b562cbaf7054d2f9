use Rattle.cells.proofs.ReadingLemmas.{schema_spelt, spelt_schema}
use Rattle.cells.proofs.reading.schema_is_the_one_spelt.Goals as goal

pub returns : goal.returns
returns c text t = (schema_spelt text t, spelt_schema text t)

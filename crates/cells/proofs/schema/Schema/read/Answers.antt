use Rattle.std.proofs.Common.{◌∙◌, subst, sym, rules}
use Rattle.std.proofs.lemmas.Option.{same_Some}
use Rattle.cells.specs.Schemas.{SpellsSchema}
use Rattle.cells.proofs.ReadingLemmas.{schema_answers}
use Rattle.cells.proofs.schema.Schema.read.Goals as goal

-- the tokens that spell the schema are those that were read
pub returns-clause-only : goal.returns-clause-only
returns-clause-only c t spells =
    let same = same_Some _ _ (c.in_ok-found.ensures.only spells.0 spells.1) in
    c.schema_of.ensures.only t (subst (λ ts. SpellsSchema ts t) (same ∙ sym c.as_slice.ensures.value) spells.2)

pub returns-clause-exact : goal.returns-clause-exact
returns-clause-exact c = schema_answers c.args.text.now c.schema_of.result (search rules) (returns-clause-only c) c.schema_of.ensures.refused

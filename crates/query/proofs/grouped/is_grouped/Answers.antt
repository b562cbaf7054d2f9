use Rattle.std.proofs.Common.{◌∙◌, sym}
use Rattle.query.proofs.GroupedLemmas.{named_or_not}
use Rattle.query.proofs.grouped.is_grouped.Goals as goal

pub returns : goal.returns
returns c = c.is_in_elements.ensures ∙ sym (named_or_not c.args.name.now c.args.elements.now c.requires)

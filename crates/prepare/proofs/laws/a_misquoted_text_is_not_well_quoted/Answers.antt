use Rattle.prepare.proofs.QuotesRunLemmas.{never_both}
use Rattle.prepare.proofs.laws.a_misquoted_text_is_not_well_quoted.Goals as goal

pub returns : goal.returns
returns c = never_both

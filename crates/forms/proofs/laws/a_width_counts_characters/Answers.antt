use Rattle.forms.proofs.WidthsLemmas.{characters_counted}
use Rattle.forms.proofs.laws.a_width_counts_characters.Goals as goal

pub returns : goal.returns
returns c = characters_counted

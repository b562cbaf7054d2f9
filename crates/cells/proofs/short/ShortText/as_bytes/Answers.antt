use Rattle.std.proofs.lemmas.Str.{IsUtf8-had}
use Rattle.cells.proofs.short.ShortText.as_bytes.Goals as goal

pub returns-clause-text : goal.returns-clause-text
returns-clause-text c = IsUtf8-had _ c.self.invariant.1

use Rattle.std.proofs.Common.{◌≡◌, ◌∙◌, map, max, rules}
use Rattle.std.specs.List.{enumerate_from}
use Rattle.std.specs.Prelude.{slice_get}
use Rattle.forms.specs.Tables.{width_of}
use Rattle.forms.proofs.WidthsLemmas.{widths_more}
use Rattle.forms.proofs.table.widths.Widths.widen.Goals as goal

pub returns : goal.returns
returns c = λ headings rows is.
    let made : c.in_ok-wider.wider.items ≡ map (λ at. max at.1 (width_of (slice_get c.args.totals.now at.0))) (enumerate_from 0 c.args.self.now) = search rules in
    made ∙ widths_more headings rows c.args.totals.now c.args.self.now is

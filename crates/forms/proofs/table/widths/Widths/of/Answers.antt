use Rattle.std.proofs.Common.{◌∙◌, ap, arith, map, take_all}
use Rattle.std.specs.Fmt.{char_count}
use Rattle.forms.specs.Tables.{shown_text}
use Rattle.forms.proofs.WidthsLemmas.{widths_of_none}
use Rattle.forms.proofs.table.widths.Widths.of.Goals as goal

pub returns : goal.returns
returns c =
    c.loop-heading.invariant
    ∙ ap (map (λ heading. char_count (shown_text heading))) (take_all c.loop-heading.heading-index c.args.headings.now (omega arith))
    ∙ widths_of_none c.args.headings.now

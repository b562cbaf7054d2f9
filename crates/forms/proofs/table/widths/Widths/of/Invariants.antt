use Rattle.std.proofs.Common.{◌≡◌, map, take}
use Rattle.std.specs.Fmt.{char_count}
use Rattle.forms.specs.Tables.{shown_text}
use Rattle.forms.proofs.table.widths.Widths.of.Given as goal

abbrev pub invariant-loop-heading : goal.invariant-loop-heading
invariant-loop-heading l = l.widths.items ≡ map (λ heading. char_count (shown_text heading)) (take l.heading-index l.headings)

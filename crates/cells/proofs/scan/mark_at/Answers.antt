use Rattle.std.proofs.Common.{◌∙◌, sym, ap, slice_index}
use Rattle.cells.specs.Scanning.{mark_of}
use Rattle.cells.proofs.MarksLemmas.{mark_boundary}
use Rattle.cells.proofs.scan.mark_at.Goals as goal

pub split_at-requires : goal.split_at-requires
split_at-requires c =
    let bytes = ap (mark_of (slice_index c.args.text.now 0)) (sym c.byte_at-2.ensures) ∙ ap (λ a. mark_of a c.byte_at-2.result) (sym c.byte_at.ensures) in
    mark_boundary c.args.text.now c.in-Some.mark c.in-Some.len c.utf8.text (bytes ∙ sym c.mark_of.ensures ∙ c.in-Some.is)

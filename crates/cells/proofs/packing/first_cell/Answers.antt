use Rattle.std.proofs.Common.{sym, ap, subst, ◌∙◌, IsUtf8}
use Rattle.std.proofs.lemmas.List.{length-take-le, nil_from_length}
use Rattle.std.proofs.lemmas.Int.{to_z-of_z}
use Rattle.std.proofs.lemmas.Str.{IsUtf8-had}
use Rattle.std.specs.Int.{w64}
use Rattle.cells.specs.Packing.{first_cell}
use Rattle.cells.specs.declared.cell.Cell.TheVariants as cell
use Rattle.cells.proofs.PackingLemmas.{cell_is, first_of_none, spelt_behind, within}
use Rattle.cells.proofs.packing.first_cell.Goals as goal

pub returns-in_default : goal.returns-in_default
returns-in_default c = sym (ap first_cell (nil_from_length c.args.bytes.now c.in_default.ensures.cases) ∙ first_of_none)

pub int_32-requires : goal.int_32-requires
int_32-requires c = within c.args.bytes.now c.in-Some.first.now c.in-Some.behind.now _ c.in-Some.ensures.cases.0 c.in-Int32.ensures c.requires

pub int_64-requires : goal.int_64-requires
int_64-requires c = within c.args.bytes.now c.in-Some.first.now c.in-Some.behind.now _ c.in-Some.ensures.cases.0 c.in-Int64.ensures c.requires

pub slice_bounds-of-end : goal.slice_bounds-of-end
slice_bounds-of-end c = sym (length-take-le c.in-ShortText.len c.in-Some.behind.now
    (within c.args.bytes.now c.in-Some.first.now c.in-Some.behind.now _ c.in-Some.ensures.cases.0 c.in-ShortText.ensures c.requires))

pub of-requires : goal.of-requires
of-requires c = IsUtf8-had _ (spelt_behind c.args.bytes.now c.in-Some.first.now c.in-Some.behind.now _ c.in-Some.ensures.cases.0 c.in-ShortText.ensures c.requires)

pub long_text-requires : goal.long_text-requires
long_text-requires c = within c.args.bytes.now c.in-Some.first.now c.in-Some.behind.now _ c.in-Some.ensures.cases.0 c.in-LongText.ensures c.requires

pub of-requires-in-LongText : goal.of-requires-in-LongText
of-requires-in-LongText c =
    subst IsUtf8 (sym c.long_text.ensures)
    (IsUtf8-had _ (spelt_behind c.args.bytes.now c.in-Some.first.now c.in-Some.behind.now _ c.in-Some.ensures.cases.0 c.in-LongText.ensures c.requires))

pub returns-in-Null : goal.returns-in-Null
returns-in-Null c = sym (cell_is c.args.bytes.now c.in-Some.first.now c.in-Some.behind.now _ c.in-Some.ensures.cases.0 c.in-Null.ensures)

pub returns-in-Int32 : goal.returns-in-Int32
returns-in-Int32 c =
    ap cell.Int (to_z-of_z w64 c.int_32.result (record { sfits = c.int_32.type_inv }) ∙ c.int_32.ensures)
    ∙ sym (cell_is c.args.bytes.now c.in-Some.first.now c.in-Some.behind.now _ c.in-Some.ensures.cases.0 c.in-Int32.ensures)

pub returns-in-Int64 : goal.returns-in-Int64
returns-in-Int64 c =
    ap cell.Int (to_z-of_z w64 c.int_64.result (record { sfits = c.int_64.type_inv }) ∙ c.int_64.ensures)
    ∙ sym (cell_is c.args.bytes.now c.in-Some.first.now c.in-Some.behind.now _ c.in-Some.ensures.cases.0 c.in-Int64.ensures)

pub returns-in-ShortText : goal.returns-in-ShortText
returns-in-ShortText c =
    ap cell.Text c.of.ensures ∙ sym (cell_is c.args.bytes.now c.in-Some.first.now c.in-Some.behind.now _ c.in-Some.ensures.cases.0 c.in-ShortText.ensures)

pub returns-in-LongText : goal.returns-in-LongText
returns-in-LongText c =
    ap cell.Text (c.of-in-LongText.ensures ∙ c.long_text.ensures)
    ∙ sym (cell_is c.args.bytes.now c.in-Some.first.now c.in-Some.behind.now _ c.in-Some.ensures.cases.0 c.in-LongText.ensures)

use Rattle.std.proofs.Common.{sym, ap, ◌∙◌, drop, arith}
use Rattle.cells.proofs.PackingLemmas.{drop_first, within}
use Rattle.cells.proofs.packing.behind_first.Goals as goal

pub split_at-requires : goal.split_at-requires
split_at-requires c =
    let fits = within c.args.bytes.now c.in-Some.first.now c.in-Some.behind.now c.form_of.result c.in-Some.ensures.cases.0 c.form_of.ensures c.requires in
    let size = c.size_behind.ensures in
    omega arith

pub returns : goal.returns
returns c =
    c.split_at.ensures.back ∙ ap (λ n. drop n c.in-Some.behind.now) c.size_behind.ensures
    ∙ sym (drop_first c.args.bytes.now c.in-Some.first.now c.in-Some.behind.now c.form_of.result c.in-Some.ensures.cases.0 c.form_of.ensures)

use Rattle.std.proofs.Common.{◌∙◌, sym, ap, subst, take, drop}
use Rattle.std.specs.Str.{IsCharBoundary}
use Rattle.cells.specs.Scanning.{number_len}
use Rattle.cells.proofs.NumbersLemmas.{number_boundary, take_number, drop_number}
use Rattle.cells.proofs.scan.split_number.Goals as goal

pub split_at-requires : goal.split_at-requires
split_at-requires c =
    let len = c.number_len.ensures ∙ ap number_len c.as_bytes.ensures.value in
    subst (IsCharBoundary c.args.text.now) (sym len) (number_boundary c.args.text.now c.utf8.text)

pub returns-clause-front : goal.returns-clause-front
returns-clause-front c =
    let len = c.number_len.ensures ∙ ap number_len c.as_bytes.ensures.value in
    c.split_at.ensures.front ∙ ap (λ n. take n c.args.text.now) len ∙ take_number c.args.text.now

pub returns-clause-back : goal.returns-clause-back
returns-clause-back c =
    let len = c.number_len.ensures ∙ ap number_len c.as_bytes.ensures.value in
    c.split_at.ensures.back ∙ ap (λ n. drop n c.args.text.now) len ∙ drop_number c.args.text.now

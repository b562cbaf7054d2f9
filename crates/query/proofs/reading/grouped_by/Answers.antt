use Rattle.std.proofs.Common.{◌∷◌, Ok, Err, refl}
use Rattle.std.proofs.lemmas.Result.{err_from_is_err_and}
use Rattle.query.specs.Grammar.{BY, GROUP}
use Rattle.query.proofs.Lists.{beside_reads, part_err, split_found, split_nothing}
use Rattle.query.proofs.Ends.{grouped_split, with_having}
use Rattle.query.proofs.reading.grouped_by.Goals as goal

pub returns-in_err-groups : goal.returns-in_err-groups
returns-in_err-groups c =
    let p = err_from_is_err_and c.from_residual.result c.from_residual.ensures.1 in
    rw (p.1, p.2) (part_err (split_nothing (grouped_split (GROUP ∷ BY ∷ c.args.tokens.now) c.args.tokens.now refl)) c.in_err-groups.ensures)

pub returns-in_err-groups-2 : goal.returns-in_err-groups-2
returns-in_err-groups-2 c =
    let p = err_from_is_err_and c.from_residual-in_err-groups-2.result c.from_residual-in_err-groups-2.ensures.1 in
    rw (p.1, p.2) (beside_reads with_having (λ h. h) c.in_ok-groups.groups c.having.result (Err c.in_err-groups-2.field-0.0)
    (split_found (grouped_split (GROUP ∷ BY ∷ c.args.tokens.now) c.args.tokens.now refl) c.in_ok-groups.ensures) c.having.ensures c.in_err-groups-2.ensures)

pub returns : goal.returns
returns c =
    beside_reads with_having (λ h. h) c.in_ok-groups.groups c.having.result (Ok (c.in_ok-groups-2.groups, c.in_ok-groups-2.having))
    (split_found (grouped_split (GROUP ∷ BY ∷ c.args.tokens.now) c.args.tokens.now refl) c.in_ok-groups.ensures) c.having.ensures c.in_ok-groups-2.ensures

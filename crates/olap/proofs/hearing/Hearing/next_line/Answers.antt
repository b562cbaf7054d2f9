use Rattle.std.proofs.Common.{rules, subst}
use Rattle.olap.proofs.HearingLemmas.{hears_end, hears_ended, listens_fits, listens_more}
use Rattle.olap.specs.Hearing.{TakesPiece}
use Rattle.olap.proofs.hearing.Hearing.next_line.Goals as goal

pub take_piece-requires : goal.take_piece-requires
take_piece-requires g c = listens_fits _ _ _ c.loop.invariant

pub returns-in-LineEnd : goal.returns-in-LineEnd
returns-in-LineEnd g c =
    let taken = subst (TakesPiece _ _ _ _) c.in-LineEnd.is c.in_ok-take_piece.ensures in
    hears_ended _ _ _ _ _ _ c.loop.invariant taken c.close_line.ensures

pub returns-in-InputEnd : goal.returns-in-InputEnd
returns-in-InputEnd g c =
    let taken = subst (TakesPiece _ _ _ _) c.in-InputEnd.is c.in_ok-take_piece.ensures in
    hears_end _ _ _ _ _ _ _ c.loop.invariant taken c.truncate.ensures.items (search rules)

pub loop-preserved : goal.loop-preserved
loop-preserved g c = listens_more _ _ _ _ _ c.loop.invariant (subst (TakesPiece _ _ _ _) c.in-More.is c.in_ok-take_piece.ensures)

use Rattle.std.proofs.Common.{subst, rules}
use Rattle.std.specs.Io.BufRead.{FillKeeps}
use Rattle.olap.proofs.HearingLemmas.{takes_none, takes_shown}
use Rattle.olap.proofs.hearing.take_piece.Goals as goal

pub returns : goal.returns
returns g c =
    let cut = c.first_piece-cut in
    let rested = c.fill_buf.follows.lender-at-none in
    let filled = subst (FillKeeps _ (g.B.Read.remaining rested) (g.B.BufRead.consumable_len rested)) c.in-Ok.is c.fill_buf.follows.holds-at-none in
    takes_shown _ _ _ _ c.in-Ok.available.now cut.result.piece cut.result.used cut.result.met c.args.line.now.items c.keep.new.line.items cut.ensures.cut
    c.in-Ok.ensures.front c.in-Ok.ensures.end filled.0 filled.1 c.consume.ensures.bytes (search rules)

pub returns-then-eq : goal.returns-then-eq
returns-then-eq g c = takes_none _ _ c.args.line.now.items c.requires c.fill_buf.follows.holds-at-none.0

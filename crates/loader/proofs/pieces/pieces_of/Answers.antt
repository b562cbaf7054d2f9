use Rattle.std.proofs.Common.{◌<◌, arith, length, rules}
use Rattle.loader.proofs.PiecesLemmas.{cut_next, many_next}
use Rattle.loader.proofs.pieces.pieces_of.Goals as goal

pub loop-place-preserved : goal.loop-place-preserved
loop-place-preserved c =
    let held = c.loop-place.invariant in
    let within : c.loop-place.place < length c.args.parts.now = search rules in
    let many = many_next c.loop-place.pieces.items c.push_all.new.pieces.items c.loop-place.place _ c.in_ok-texts.texts.items c.in_ok-push_all.ensures in
    record {
      cut = cut_next c.args.parts.now c.loop-place.place _ c.loop-place.pieces.items c.push_all.new.pieces.items c.in_ok-texts.texts.items within held.cut c.in_ok-texts.ensures.records c.in_ok-push_all.ensures;
      many = omega (arith, held.many, within, many, c.in_ok-texts.ensures.many, c.loop-place.pieces.ok.0);
    }

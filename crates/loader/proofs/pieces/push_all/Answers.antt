use Rattle.std.proofs.Common.{◌≡◌, ◌∙◌, ◌++◌, [], arith, ap}
use Rattle.std.proofs.lemmas.List.{nil_from_length}
use Rattle.std.specs.Vec.Iter.{into_iter_items}
use Rattle.loader.specs.Pieces.{labelled}
use Rattle.loader.proofs.PiecesLemmas.{labelled-all, labelled-more}
use Rattle.loader.proofs.pieces.push_all.Goals as goal

pub loop-bytes-preserved : goal.loop-bytes-preserved
loop-bytes-preserved c =
    ap (λ pieces. pieces ++ labelled c.args.place c.args.part _ (into_iter_items c.next.new.self)) c.in_ok-push.ensures.items
    ∙ labelled-more c.args.place c.args.part c.loop-bytes.first c.loop-bytes.pieces.items _ (into_iter_items c.loop-bytes.bytes-iterator) (into_iter_items c.next.new.self) c.in-Some.bytes
    c.in-Some.ensures.steps.0 c.loop-bytes.invariant

pub returns : goal.returns
returns c =
    let iterator = c.loop-bytes.bytes-iterator in
    let none : into_iter_items iterator ≡ [] = nil_from_length (into_iter_items iterator) (omega (arith, iterator.rest.ok, c.in-None.ensures.steps.0)) in
    labelled-all c.args.place c.args.part c.loop-bytes.first c.loop-bytes.pieces.items _ (into_iter_items iterator) none c.loop-bytes.invariant

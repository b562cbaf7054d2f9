use Rattle.std.proofs.Common.{ap, arith, inl, inr, length, rules, subst}
use Rattle.std.proofs.lemmas.List.{nil_from_length}
use Rattle.std.specs.Iterator.Adapters.{zip_first, zip_second}
use Rattle.std.specs.Slice.Iter.{iter_rest}
use Rattle.std.specs.Vec.Iter.{into_iter_items}
use Rattle.loader.specs.Loads.{IsContent}
use Rattle.loader.specs.Pieces.{rows_of_piece}
use Rattle.loader.specs.Shards.{takes}
use Rattle.loader.specs.Shares.{in_shares, lists}
use Rattle.loader.proofs.ListedLemmas.{listed_end, listed_first, listed_more, none_left, read_next}
use Rattle.loader.proofs.loading.rows_of.Goals as goal

pub loop-piece-init : goal.loop-piece-init
loop-piece-init g c =
    let h = g.H.KeyHash.hash_of in
    let mine = takes h c.args.shard.now in
    let zipped = c.zip-piece-items.ensures in
    rw (c.into_iter-piece-iterator.ensures.into_iter_gives, zipped.first, c.iter.ensures.rest, zipped.second.0)
    (record {
      listed = listed_first h mine c.args.schema.now c.args.pieces.now (in_shares c.in_ok-rows.rows.shares.items) (c.in_ok-rows.ensures h);
      read = c.requires;
      counted = search rules;
    })

pub loop-piece-preserved : goal.loop-piece-preserved
loop-piece-preserved g c =
    let h = g.H.KeyHash.hash_of in
    let mine = takes h c.args.shard.now in
    let steps = c.in-Some.ensures.steps in
    let held = c.loop-piece.invariant in
    let t = c.args.schema.now in
    let old = c.loop-piece.piece-iterator in
    let new = c.next.new.self in
    let piece = c.in-Some.piece.now in
    let next = read_next h mine t (iter_rest (zip_first old)) (iter_rest (zip_first new)) (into_iter_items (zip_second old)) (into_iter_items (zip_second new))
    piece c.in-Some.found held.read steps.0 steps.1.0 in
    let read = subst (IsContent h mine t (rows_of_piece t piece)) c.in-Ok.is next.0 in
    record {
      listed = listed_more h mine t _ c.loop-piece.count _ piece (iter_rest (zip_first old)) (iter_rest (zip_first new)) (in_shares c.loop-piece.rows.shares.items) (lists c.in-Ok.own.rows.shares.items) (in_shares c.append.new.self.shares.items)
          held.listed steps.0 read.read (omega (arith, c.in_ok-count-in-Ok.ensures, c.records_before-before.ensures, read.count)) (c.in_ok-append-in-Ok.ensures h);
      read = next.1;
      counted = omega (arith, held.counted, ap length steps.1.0, steps.1.1);
    }

pub returns : goal.returns
returns g c =
    let h = g.H.KeyHash.hash_of in
    let mine = takes h c.args.shard.now in
    let held = c.loop-piece.invariant in
    let t = c.args.schema.now in
    let old = c.loop-piece.piece-iterator in
    let left = iter_rest (zip_first old) in
    let found = into_iter_items (zip_second old) in
    listed_end h mine t _ c.loop-piece.count left (in_shares c.loop-piece.rows.shares.items) held.listed
    (elim c.in-None.ensures.steps [
      | inl pieces ↦ nil_from_length left pieces.1.0
      | inr all ↦ none_left h mine t left found held.read (nil_from_length found (omega (arith, held.counted, all.1.0)))
    ])

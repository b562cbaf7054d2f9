use Rattle.std.proofs.Common.{◌≡◌, ◌∙◌, ◌∷◌, [], Some, ap, arith, length, rules, sym}
use Rattle.std.proofs.lemmas.List.{length-map}
use Rattle.csv.specs.Records.{fields_of}
use Rattle.cells.specs.Records.{row_of}
use Rattle.loader.specs.Parts.{rows_from}
use Rattle.loader.specs.Shards.{takes}
use Rattle.loader.specs.Shares.{lists}
use Rattle.loader.proofs.PartLemmas.{reached_end, reached_first, reached_more}
use Rattle.loader.proofs.part.read_rows.Goals as goal

pub loop-record-init : goal.loop-record-init
loop-record-init g c =
    let h = g.H.KeyHash.hash_of in
    record {
      reached = reached_first h (takes h c.args.shard.now) c.args.schema.now c.args.records (lists c.in_ok-rows.rows.shares.items) (c.in_ok-rows.ensures h);
      counted = omega arith;
    }

pub loop-record-preserved : goal.loop-record-preserved
loop-record-preserved g c =
    let h = g.H.KeyHash.hash_of in
    let t = c.args.schema.now in
    let row = c.in-Ok.row in
    let took : c.loop-record.records ≡ fields_of c.next.new.row ∷ c.next.new.self = search rules in
    let spelt : row_of t (fields_of c.next.new.row) ≡ Some row = search rules in
    record {
      reached = reached_more h (takes h c.args.shard.now) t _ c.loop-record.number c.loop-record.records c.next.new.self (fields_of c.next.new.row) row (lists c.loop-record.rows.shares.items) (lists c.put_taken.new.self.shares.items)
          c.loop-record.invariant.reached took spelt c.in-Ok.ensures.fits c.in_ok-put_taken.ensures;
      counted = omega (arith, c.loop-record.invariant.counted, ap length took);
    }

pub returns : goal.returns
returns g c =
    let h = g.H.KeyHash.hash_of in
    let left : c.loop-record.records ≡ [] = search rules in
    reached_end h (takes h c.args.shard.now) c.args.schema.now (rows_from c.args.schema.now 1 c.args.records) c.loop-record.number c.loop-record.records
    _ c.loop-record.invariant.reached left (omega (arith, c.loop-record.invariant.reached.counted))

pub put_taken-requires : goal.put_taken-requires
put_taken-requires g c = sym (length-map c.loop-record.rows.shares.items (λ list. list.items)) ∙ c.loop-record.invariant.reached.spread.many

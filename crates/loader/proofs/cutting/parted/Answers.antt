use Rattle.std.proofs.Common.{rules}
use Rattle.loader.specs.Records.{records_of}
use Rattle.loader.proofs.CutsLemmas.{parted_more}
use Rattle.loader.proofs.cutting.parted.Goals as goal

pub loop-at-preserved : goal.loop-at-preserved
loop-at-preserved c =
    let held = c.loop-at.invariant in
    record {
      records = parted_more c.loop-at.pieces.items c.push.new.self.items c.split_at.result.0 c.loop-at.left.now c.split_at.result.1.now c.in-Some.at (records_of c.args.bytes.now)
          c.in-Some.ensures.cut.1 c.in_ok-push.ensures.items c.split_at.ensures.front c.split_at.ensures.back held.records;
      many = search rules;
    }

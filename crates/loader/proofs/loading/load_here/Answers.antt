use Rattle.std.proofs.Common.{map}
use Rattle.loader.specs.Parts.{part_of, rows_of_parts}
use Rattle.loader.proofs.ShardLemmas.{whole_loads}
use Rattle.loader.proofs.loading.load_here.Goals as goal

pub returns-clause-loaded : goal.returns-clause-loaded
returns-clause-loaded g c =
    whole_loads g.H.KeyHash.hash_of c.whole-shard.result (rows_of_parts c.args.schema.now (map part_of c.args.parts.now)) c.load_shard_here.result c.whole-shard.ensures c.load_shard_here.ensures.loaded

use Rattle.std.proofs.Common.{ap}
use Rattle.trie.specs.Holding.{found_in}
use Rattle.trie.proofs.both.pair_of_both.Goals as goal

pub unreachable-requires : goal.unreachable-requires
unreachable-requires g c = rw (ap found_in c.in_default.is, ap found_in c.in_default-second.is) at c.requires.found

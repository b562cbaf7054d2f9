use Rattle.std.proofs.Common.{◌≡◌, take}
use Rattle.trie.specs.Building.{digits_of}
use Rattle.trie.proofs.build.digits_of.Given as goal

abbrev pub invariant-loop-one : goal.invariant-loop-one
invariant-loop-one g l = l.bits ≡ digits_of l.depth (take l.one-index l.pairs)

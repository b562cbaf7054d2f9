-- Nodes, whoever owns them.
use Rattle.std.specs.Prelude.{ℕ, List, map, Option, Some, None, Vec}
use Rattle.std.specs.declared.alloc.Global.{Global}
use Rattle.std.specs.declared.sync.Arc.{Arc}
use Rattle.trie.specs.declared.meeting.Meeting as meetings
use Rattle.trie.specs.declared.node.Children as families
use Rattle.trie.specs.declared.node.Inner as inners
use Rattle.trie.specs.declared.node.Inner.TheVariants as inner
use Rattle.trie.specs.declared.node.Owner.{Owner}
use Rattle.trie.specs.declared.node.Owner.TheVariants as owner
use Rattle.trie.specs.declared.node.Unmade as makings
use Rattle.trie.specs.declared.node.View as views
use Rattle.trie.specs.declared.put.Reach as reaches
use Rattle.trie.specs.declared.remove.Removed as removals

-- what an owner owns: the only pair of a prefix, or what stands for several
pub data Owned (P I : Type 0) : Type 0 where
  One : P → Owned P I
  Several : I → Owned P I

abbrev pub owned : {P I : Type 0} → Owner P I → Owned P I
owned (owner.Leaf pair) = One pair.value
owned (owner.Inner inner) = Several inner.value

-- an inner node, where what lies beside each branch is seen as the entries that it was told
abbrev pub Inner : Type 0 → Type 0 → Type 0
Inner K V = inners.Inner K V (List (K × V))

abbrev pub Children : Type 0 → Type 0 → Type 0
Children K V = families.Children K V (List (K × V))

abbrev pub Unmade : Type 0 → Type 0 → Type 0
Unmade K V = makings.Unmade K V (List (K × V))

abbrev pub View : Type 0 → Type 0 → Type 0
View K V = views.View K V (List (K × V))

abbrev pub Reach : Type 0 → Type 0 → Type 0
Reach K V = reaches.Reach K V (List (K × V))

abbrev pub Removed : Type 0 → Type 0 → Type 0
Removed K V = removals.Removed K V (List (K × V))

abbrev pub Meeting : Type 0 → Type 0 → Type 0
Meeting K V = meetings.Meeting K V (List (K × V))

-- a node: a leaf, a bucket or a branch
abbrev pub Node : Type 0 → Type 0 → Type 0
Node K V = Owned (K × V) (Inner K V)

abbrev pub Child : Type 0 → Type 0 → Type 0
Child K V = Owner (K × V) (Inner K V)

abbrev pub Leaf : {K V : Type 0} → K × V → Node K V
Leaf pair = One pair

abbrev pub Bucket : {K V : Type 0} → Vec (Arc (K × V) Global) Global → Node K V
Bucket pairs = Several (inner.Bucket pairs)

abbrev pub Branch : {K V : Type 0} → ℕ → ℕ → Vec (Child K V) Global → List (K × V) → Node K V
Branch len bitmap children told = Several (inner.Branch len bitmap children told)

-- what stands in a slot
abbrev pub node_of : {P I : Type 0} → Option (Owner P I) → Option (Owned P I)
node_of None = None
node_of (Some node) = Some (owned node)

-- the children
abbrev pub values : {P I : Type 0} → List (Owner P I) → List (Owned P I)
values children = map owned children

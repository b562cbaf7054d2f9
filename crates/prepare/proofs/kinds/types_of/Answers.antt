use Rattle.std.proofs.Common.{◌≡◌, ◌∷◌, drop, length, map, rules}
use Rattle.std.proofs.lemmas.List.{take_at}
use Rattle.csv.specs.Records.{fields_of}
use Rattle.prepare.specs.Proposals.{rows_of}
use Rattle.prepare.proofs.TypesLemmas.{types_more}
use Rattle.prepare.proofs.kinds.types_of.Goals as goal

pub loop-row-preserved : goal.loop-row-preserved
loop-row-preserved c =
    let took : c.loop-row.rows ≡ fields_of c.next.new.row ∷ c.next.new.self = search rules in
    let value : c.as_mut_slice.result.now ≡ c.loop-row.types.items = search rules in
    let long : length c.narrow.new.types ≡ length c.loop-row.types.items = search rules in
    let size : length c.narrow.new.types ≡ c.loop-row.types.len = search rules in
    rw (take_at c.narrow.new.types (drop (length c.narrow.new.types) c.loop-row.types.items) c.loop-row.types.len size)
    (types_more (rows_of (map (λ p. p.items) c.args.parts.now)) c.loop-row.rows c.next.new.self c.args.count c.loop-row.types.items c.narrow.new.types
    (fields_of c.next.new.row) c.loop-row.invariant took long (rw value at c.narrow.ensures))

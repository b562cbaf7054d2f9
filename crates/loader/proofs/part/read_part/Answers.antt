use Rattle.std.proofs.Common.{◌≡◌, ◌<◌, ◌^◌, ◌∷◌, arith, length, rules}
use Rattle.std.specs.Prelude.{true}
use Rattle.csv.specs.Records.{fields_of}
use Rattle.loader.specs.Parts.{is_header}
use Rattle.loader.specs.Records.{records_of}
use Rattle.loader.specs.Shards.{takes}
use Rattle.std.proofs.lemmas.Result.{IfOk-weaker}
use Rattle.csv.specs.Writing.{comma}
use Rattle.records.specs.Laws.{few_after}
use Rattle.loader.proofs.PartLemmas.{read_behind}
use Rattle.loader.proofs.part.read_part.Goals as goal

pub read_rows-requires : goal.read_rows-requires
read_rows-requires g c =
    let took : records_of c.args.bytes.now ≡ fields_of c.next.new.row ∷ c.next.new.self = search rules in
    let few = few_after comma c.args.bytes.now (fields_of c.next.new.row) c.next.new.self took in
    let small : length c.args.bytes.now < 2 ^ 63 = search rules in
    omega (arith, few, small)

pub returns : goal.returns
returns g c =
    let h = g.H.KeyHash.hash_of in
    let t = c.args.schema.now in
    let took : records_of c.args.bytes.now ≡ fields_of c.next.new.row ∷ c.next.new.self = search rules in
    let is : is_header t.columns (fields_of c.next.new.row) ≡ true = search rules in
    IfOk-weaker c.read_rows.result _ _ (λ content. read_behind h (takes h c.args.shard.now) t (fields_of c.next.new.row) c.next.new.self (records_of c.args.bytes.now) content took is)
    c.read_rows.ensures

use Rattle.std.proofs.Common.{◌≡◌, ◌<◌, ◌^◌, ◌∷◌, ◌∙◌, Ok, ap, arith, length, map, rules, sym}
use Rattle.std.proofs.lemmas.List.{length-map}
use Rattle.std.proofs.lemmas.Result.{IfErr-weaker, IfOk-weaker}
use Rattle.csv.specs.Records.{fields_of}
use Rattle.csv.specs.Writing.{default_writer, row_text}
use Rattle.records.specs.Laws.{few_after}
use Rattle.records.specs.Records.{records_of}
use Rattle.prepare.specs.Parts.{as_read, headed, places_of, words_of}
use Rattle.prepare.proofs.PartLemmas.{part_fault, part_text, read_length}
use Rattle.prepare.proofs.part.of_records.Goals as goal

pub with_records-requires : goal.with_records-requires
with_records-requires c =
    let took : records_of c.args.choice.now.delimiter c.args.bytes.now ≡ fields_of c.next.new.row ∷ c.next.new.self = search rules in
    let few = few_after c.args.choice.now.delimiter c.args.bytes.now (fields_of c.next.new.row) c.next.new.self took in
    let small : length c.args.bytes.now < 2 ^ 63 = search rules in
    omega (arith, few, small)

pub returns-clause-part : goal.returns-clause-part
returns-clause-part c =
    let choice = c.args.choice.now in
    let header = fields_of c.next.new.row in
    let took : records_of choice.delimiter c.args.bytes.now ≡ header ∷ c.next.new.self = search rules in
    let names : map (λ f. f.now) c.in_ok-names.names.items ≡ as_read choice header = search rules in
    let placed : places_of choice.columns (as_read choice header) ≡ Ok c.in_ok-places.places.items = search rules in
    let first : c.in_ok-lines.lines ≡ row_text default_writer (headed choice.number (words_of choice.columns (as_read choice header))) = search rules in
    let width : c.len.result ≡ length header =
    search rules ∙ sym (length-map c.in_ok-names.names.items (λ f. f.now)) ∙ ap length names ∙ read_length choice header in
    IfOk-weaker c.with_records.result _ _
    (λ part read. part_text choice (records_of choice.delimiter c.args.bytes.now) c.next.new.self header took c.in_ok-places.places.items placed c.in_ok-lines.lines part first
    (rw width at read))
    c.with_records.ensures.text

pub returns-clause-fault : goal.returns-clause-fault
returns-clause-fault c =
    let choice = c.args.choice.now in
    let header = fields_of c.next.new.row in
    let took : records_of choice.delimiter c.args.bytes.now ≡ header ∷ c.next.new.self = search rules in
    let names : map (λ f. f.now) c.in_ok-names.names.items ≡ as_read choice header = search rules in
    let placed : places_of choice.columns (as_read choice header) ≡ Ok c.in_ok-places.places.items = search rules in
    let width : c.len.result ≡ length header =
    search rules ∙ sym (length-map c.in_ok-names.names.items (λ f. f.now)) ∙ ap length names ∙ read_length choice header in
    IfErr-weaker c.with_records.result _ _
    (λ fault told. part_fault choice (records_of choice.delimiter c.args.bytes.now) c.next.new.self header took c.in_ok-places.places.items placed fault (rw width at told))
    c.with_records.ensures.fault

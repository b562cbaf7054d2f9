use Rattle.std.proofs.Common.{◌≡◌, ◌++◌, ◌∷◌, ap, arith, length, rules}
use Rattle.csv.specs.Records.{fields_of}
use Rattle.csv.specs.Writing.{default_writer, row_text}
use Rattle.prepare.specs.Parts.{record_of}
use Rattle.prepare.proofs.PartLemmas.{reached_more}
use Rattle.prepare.proofs.part.with_records.Goals as goal

pub loop-row-preserved : goal.loop-row-preserved
loop-row-preserved c =
    let layout = c.args.layout.now in
    let took : c.loop-row.records ≡ fields_of c.next.new.row ∷ c.next.new.self = search rules in
    let even : length (fields_of c.next.new.row) ≡ layout.width = search rules in
    let added : c.write.new.lines ≡ c.loop-row.lines ++ row_text default_writer (record_of layout.choice.now layout.places.items c.loop-row.number (fields_of c.next.new.row)) = search rules in
    record {
      reached = reached_more layout.choice.now layout.places.items layout.width c.args.lines _ c.loop-row.number c.loop-row.records c.next.new.self c.loop-row.lines
          (fields_of c.next.new.row) c.loop-row.invariant.reached took c.write.new.lines even added;
      counted = omega (arith, c.loop-row.invariant.counted, ap length took);
    }

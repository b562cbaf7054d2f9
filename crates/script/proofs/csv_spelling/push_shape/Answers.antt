use Rattle.std.proofs.Common.{◌∙◌, ◌++◌, ap, append_assoc}
use Rattle.std.specs.List.{flat_map}
use Rattle.std.specs.Prelude.{codes, string_bytes}
use Rattle.script.specs.CsvSpelling.{shape_line}
use Rattle.script.proofs.csv_spelling.push_shape.Goals as goal

pub returns : goal.returns
returns c =
    c.in_ok-push_records.ensures ∙ ap (λ t. t ++ flat_map shape_line c.args.shape.now) c.in_ok-push_titles.ensures
    ∙ append_assoc (string_bytes c.args.text.now) (codes "prefix,keys\n") (flat_map shape_line c.args.shape.now)

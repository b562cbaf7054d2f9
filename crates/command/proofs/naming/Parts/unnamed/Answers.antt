use Rattle.std.proofs.Common.{◌≡◌, ◌∙◌, ◌≤◌, None, ap, length, map, rules, take}
use Rattle.std.proofs.lemmas.List.{take_all}
use Rattle.command.proofs.NamingLemmas.{none_named}
use Rattle.command.proofs.naming.Parts.unnamed.Goals as goal

pub returns : goal.returns
returns c =
    let files = c.args.files.items in
    let over : length files ≤ c.loop-file._file-index = search rules in
    let are : c.loop-file.names.items ≡ map (λ file. None) (take c.loop-file._file-index files) = search rules in
    none_named files c.loop-file.names.items (are ∙ ap (map (λ file. None)) (take_all c.loop-file._file-index files over))

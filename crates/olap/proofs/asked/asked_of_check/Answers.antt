use Rattle.std.proofs.Common.{rules, ◌≡◌, codes, false}
use Rattle.std.specs.Prelude.{bytes_eq}
use Rattle.olap.proofs.CommandsLemmas.{other}
use Rattle.olap.proofs.asked.asked_of_check.Goals as goal

pub returns-in_default-as_str : goal.returns-in_default-as_str
returns-in_default-as_str c =
    let help : bytes_eq c.as_str.result.now (codes "--help") ≡ false = other _ _ c.in_default-as_str.not-text in
    let short : bytes_eq c.as_str.result.now (codes "-h") ≡ false = other _ _ c.in_default-as_str.not-text-2 in
    search rules

use Rattle.std.proofs.Common.{map, ◌≡◌, None, Some}
use Rattle.clap.specs.Words.{all_of, found_of, rows_of}
use Rattle.command.proofs.CommandLineLemmas.{all_found}
use Rattle.command.proofs.words.values.Goals as goal

pub returns-in-Some : goal.returns-in-Some
returns-in-Some c =
    let found : Some (map (λ v. v.now) c.in-Some.values.now) ≡ all_of c.args.id.now (rows_of (found_of c.args.found.now)) =
    all_found (found_of c.args.found.now) c.args.id.now _ (rw c.in-Some.is at c.get_strs.ensures) in
    rw (← found) c.all_owned.ensures

pub returns-in-None : goal.returns-in-None
returns-in-None c =
    let found : None ≡ all_of c.args.id.now (rows_of (found_of c.args.found.now)) =
    all_found (found_of c.args.found.now) c.args.id.now _ (rw c.in-None.is at c.get_strs.ensures) in
    rw (← found) c.new.ensures.items

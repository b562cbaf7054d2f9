use Rattle.std.proofs.Common.{subst, sym, ◌≡◌, Some}
use Rattle.std.specs.Prelude.{IsUtf8}
use Rattle.serde_json.specs.Read.{read}
use Rattle.shards.proofs.document.read.Goals as goal

pub returns-in-Ok : goal.returns-in-Ok
returns-in-Ok c = λ it is.
    let same : c.in-Ok.body.now ≡ is.body = c.in-Ok.ensures.only is.body is.is in
    c.read_body.ensures it is.value (subst IsUtf8 (sym same) is.utf8) (subst (λ b. read b ≡ Some is.value) (sym same) is.reads) is.spells

pub returns-in-Err : goal.returns-in-Err
returns-in-Err c = λ it is. c.in-Err.ensures.only is.body is.is

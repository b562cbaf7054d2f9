use Rattle.std.proofs.Common.{rules, ◌≡◌, ◌+◌, ◌*◌, refl, ap, ◌∙◌, get_or, length, replicate}
use lib.ListN.{length-replicate}
use Rattle.board.proofs.HistoryLemmas.{zeros_at}
use Rattle.board.proofs.OpeningLemmas.{starts}
use Rattle.board.proofs.writer.Writer.new.Goals as goal

pub vacant-requires : goal.vacant-requires
vacant-requires g c =
    let n = c.args.places in
    let words = c.as_slice.result.now in
    let zeros : words ≡ replicate (n + 1) 0 = search rules in
    starts n c.args.schema.value words (2 * n + 2) (ap length zeros ∙ length-replicate (n + 1) 0) refl (λ i. ap (λ ws. get_or ws i 0) zeros ∙ zeros_at (n + 1) i)

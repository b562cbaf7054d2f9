use Rattle.std.proofs.Common.{◌≡◌, ap, arith, length, take, ◌∙◌}
use Rattle.groups.proofs.AccumulatorsLemmas.{adding_first}
use Rattle.groups.proofs.accumulators.Accumulators.add.Goals as goal

pub loop-i-init : goal.loop-i-init
loop-i-init g c =
    let old = c.args.self.now in
    let others = c.args.other.now in
    let count : c.len.result ≡ length others = omega (arith, c.len.ensures, c.other.inside.accs.ok.0, ap (λ l. length l) c.other.view_is) in
    adding_first old others c.truncate.new.self.items (c.truncate.ensures.items ∙ ap (λ n. take n c.self.inside.accs.items) count ∙ ap (take (length others)) c.self.view_is) c.requires

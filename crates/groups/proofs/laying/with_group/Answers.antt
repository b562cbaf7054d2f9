use Rattle.std.proofs.Common.{Some, IfSome, ap, sym, subst, ◌∙◌}
use Rattle.std.proofs.lemmas.Result.{IfOk-weaker}
use Rattle.groups.specs.Accumulators.{AllFit, both}
use Rattle.groups.proofs.LayingLemmas.{laid}
use Rattle.groups.proofs.laying.with_group.Goals as goal

pub together-requires : goal.together-requires
together-requires g c = subst (λ o. IfSome o (λ old. AllFit old c.args.accumulators)) (sym c.get.ensures) c.requires.fit

pub returns : goal.returns
returns g c =
    IfOk-weaker c.put.result _ _ (λ t is.
    laid g.H.KeyHash-2.hash_of (record { value = c.entries_are_a_map.ensures.value; put = c.entries_are_a_map.ensures.put })
    c.args.trie.now t c.args.tuple c.args.accumulators c.in_ok-sum.sum
    (c.in_ok-sum.ensures ∙ ap (λ o. both o (Some c.args.accumulators)) c.get.ensures) is)
    c.put.ensures.map

use Rattle.std.proofs.Common.{◌+◌, ap, arith, length, sym, subst, ◌∙◌, refl}
use Rattle.groups.proofs.SourcesLemmas.{Sourced, sourced_fewer, sourced_more}
use Rattle.groups.proofs.sources.add_sources.Goals as goal
use Rattle.groups.proofs.sources.add_sources.Goals.{then-set-columns+in_ok-add_source, else-set-columns}

pub loop-group_set-preserved : goal.loop-group_set-preserved
loop-group_set-preserved g c =
    let is = c.as_slice-set.ensures.value ∙ c.group_set.view_is in
    elim c.if-set-columns.branch [
      | then-set-columns+in_ok-add_source w ↦
          subst (λ v. Sourced c.args.sets.now c.args.columns (c.loop-group_set.group_set-index + 1) v.items) (sym w.sources-is)
          (sourced_more c.args.sets.now c.args.sets.now c.args.columns c.loop-group_set.group_set-index c.group_set-item.result c.as_slice-set.result.now
          c.loop-group_set.sources.items w.add_source.new.sources.items refl c.loop-group_set-test.true c.group_set-item.is is w.in_ok-add_source.ensures
          c.loop-group_set.invariant)
      | else-set-columns w ↦
          subst (λ v. Sourced c.args.sets.now c.args.columns (c.loop-group_set.group_set-index + 1) v.items) (sym w.sources-is)
          (sourced_fewer c.args.sets.now c.args.sets.now c.args.columns c.loop-group_set.group_set-index (length c.as_slice-set.result.now) c.group_set-item.result
          c.loop-group_set.sources.items refl c.loop-group_set-test.true c.group_set-item.is (ap (λ s. length s) is)
          (omega (arith, w.if-set-columns.false)) c.loop-group_set.invariant)
    ]

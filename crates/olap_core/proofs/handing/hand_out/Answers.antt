use Rattle.std.proofs.Common.{◌++◌, ap, drop, length, refl}
use Rattle.olap_core.specs.Outputs.{fits, too_long}
use Rattle.olap_core.proofs.handing.hand_out.Goals as goal

pub returns-then-text-out : goal.returns-then-text-out
returns-then-text-out c = too_long c.if-text-out.true refl refl

pub returns : goal.returns
returns c = fits c.if-text-out.false (ap (λ front. front ++ drop (length c.args.text.now) c.args.out.now) c.copy_from_slice.ensures.after) refl

use Rattle.std.proofs.Common.{◌∙◌, sym, ap, subst, take, drop}
use Rattle.std.specs.List.{prefix_len}
use Rattle.std.specs.Str.{IsCharBoundary}
use Rattle.cells.specs.Scanning.{class_test}
use Rattle.cells.proofs.RunsLemmas.{run_boundary, take_run, drop_past}
use Rattle.cells.proofs.scan.split_run.Goals as goal

pub split_at-requires : goal.split_at-requires
split_at-requires c =
    let len = c.run_len.ensures ∙ ap (prefix_len (class_test c.args.class)) c.as_bytes.ensures.value in
    subst (IsCharBoundary c.args.text.now) (sym len) (run_boundary c.args.class c.args.text.now c.utf8.text)

pub returns-clause-front : goal.returns-clause-front
returns-clause-front c =
    let len = c.run_len.ensures ∙ ap (prefix_len (class_test c.args.class)) c.as_bytes.ensures.value in
    c.split_at.ensures.front ∙ ap (λ n. take n c.args.text.now) len ∙ take_run (class_test c.args.class) c.args.text.now

pub returns-clause-back : goal.returns-clause-back
returns-clause-back c =
    let len = c.run_len.ensures ∙ ap (prefix_len (class_test c.args.class)) c.as_bytes.ensures.value in
    c.split_at.ensures.back ∙ ap (λ n. drop n c.args.text.now) len ∙ drop_past (class_test c.args.class) c.args.text.now

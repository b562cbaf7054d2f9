use Rattle.trie.proofs.RunsLemmas.{run_made}
use Rattle.trie.proofs.build.next_run.Goals as goal

pub returns : goal.returns
returns g c =
    let made = run_made c.args.depth c.args.pairs.now c.requires.rise c.in_ok-first.first.now c.in_ok-first.ensures.value c.digit_at-digit.result
    c.digit_at-digit.ensures.value c.digit_at-digit.ensures.bound c.end_of.result c.end_of.ensures.bound c.end_of.ensures.parted in
    rw (c.split_at.ensures.front, c.split_at.ensures.back) made

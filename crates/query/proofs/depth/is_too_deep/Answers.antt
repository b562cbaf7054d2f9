use Rattle.std.proofs.Common.{◌≡◌, ◌+◌, ◌∙◌, ap, cond, length, rules, sym, take}
use Rattle.std.specs.List.{list_any}
use Rattle.query.specs.Depth.{beginnings, is_close, is_deep, is_open}
use Rattle.query.proofs.DepthLemmas.{counted, deep_at, deep_here, shallow_at, shallow_more}
use Rattle.query.proofs.depth.is_too_deep.Goals as goal

pub returns-then-closed-opened : goal.returns-then-closed-opened
returns-then-closed-opened c =
    let opens : c.from-opened.result ≡ cond (is_open c.token-item.result) 1 0 = search rules in
    let closes : c.from-closed.result ≡ cond (is_close c.token-item.result) 1 0 = search rules in
    let opened = counted c.args.tokens.now c.loop-token.token-index c.token-item.result c.loop-token-test.true c.token-item.is is_open _ _ c.loop-token.invariant.opened opens in
    let closed = counted c.args.tokens.now c.loop-token.token-index c.token-item.result c.loop-token-test.true c.token-item.is is_close _ _ c.loop-token.invariant.closed closes in
    sym (deep_here c.args.tokens.now c.loop-token.token-index c.token-item.result c.loop-token-test.true c.token-item.is (deep_at (take (c.loop-token.token-index + 1) c.args.tokens.now) _ _ opened closed c.if-closed-opened.true))

pub loop-token-preserved : goal.loop-token-preserved
loop-token-preserved c =
    let opens : c.from-opened.result ≡ cond (is_open c.token-item.result) 1 0 = search rules in
    let closes : c.from-closed.result ≡ cond (is_close c.token-item.result) 1 0 = search rules in
    let opened = counted c.args.tokens.now c.loop-token.token-index c.token-item.result c.loop-token-test.true c.token-item.is is_open _ _ c.loop-token.invariant.opened opens in
    let closed = counted c.args.tokens.now c.loop-token.token-index c.token-item.result c.loop-token-test.true c.token-item.is is_close _ _ c.loop-token.invariant.closed closes in
    record {
      opened = opened;
      closed = closed;
      shallow =
          shallow_more c.args.tokens.now c.loop-token.token-index c.loop-token.invariant.shallow
          (shallow_at (take (c.loop-token.token-index + 1) c.args.tokens.now) _ _ opened closed c.if-closed-opened.false);
    }

pub returns : goal.returns
returns c =
    let all : length c.args.tokens.now ≡ c.loop-token.token-index = search rules in
    sym (ap (λ n. list_any is_deep (beginnings n c.args.tokens.now)) all ∙ c.loop-token.invariant.shallow)

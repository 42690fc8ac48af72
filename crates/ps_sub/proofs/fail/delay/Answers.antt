use Rattle.std.proofs.Common.{◌≡◌, ℕ, ◌-◌, ◌*◌, ◌^◌, ◌<◌, ◌≤◌, min, sym, arith, lit<}
use Rattle.std.proofs.Math.Nat.{pow-le-pow_right, mul-le-mul_right, min-eq_left}
use Rattle.ps_sub.proofs.fail.delay.Goals as goal

-- twenty doublings pass every greatest delay
far : (least most k : ℕ) → 0 < least → most ≤ 600000 → 20 ≤ k → most ≡ min most (least * 2 ^ k)
far least most k hl hm hk =
    let wide : 2 ^ 20 ≤ 2 ^ k = pow-le-pow_right {n = 2} (lit< tt) hk in
    let more : 1 * 2 ^ k ≤ least * 2 ^ k = mul-le-mul_right (2 ^ k) hl in
    sym (min-eq_left (omega arith))

pub returns-then-doublings-ge20-clause-value : goal.returns-then-doublings-ge20-clause-value
returns-then-doublings-ge20-clause-value c = far c.args.retry.least c.args.retry.most (c.args.failures - 1) (omega arith) c.requires.most (omega arith)

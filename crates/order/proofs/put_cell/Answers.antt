-- `order::put_cell` meets its contract: after b turns the first b soft bits are copied. Assumes nothing.
use Rattle.std.proofs.Common.{ℕ, ◌+◌, ◌<◌, ◌≡◌, List, add-one, length, get_or, set, Float, arith}
use Rattle.std.proofs.Math.Seq.{paste, paste-suc}
use Rattle.std.specs.Float.{nan}
use Rattle.order.proofs.put_cell.Goals as goal

-- a turn of the loop
turn : (cell out₀ out : List Float) (to b : ℕ) → out ≡ paste out₀ to cell b → b < length cell → to + b < length out₀
    → set out (to + b) (get_or cell b nan) ≡ paste out₀ to cell (b + 1)
turn cell out₀ out to b h B T = rw (add-one b, h) (paste-suc out₀ to cell b nan T B)

pub loop-b-preserved : goal.loop-b-preserved
loop-b-preserved c =
    turn _ c.args.out.now _ c.args.to _ c.loop-b.invariant (omega arith) (omega arith)

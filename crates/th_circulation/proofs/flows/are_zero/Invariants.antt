use Rattle.std.proofs.Common.{◌≡◌, pos, All, take}
use Rattle.th_circulation.proofs.flows.are_zero.Given as goal

abbrev pub invariant-loop-balance : goal.invariant-loop-balance
invariant-loop-balance l = All (λ balance. balance ≡ pos 0) (take l.balance-index l.balances)

use Rattle.std.proofs.Common.{◌≡◌, ◌+◌, ◌*◌, ◌^◌, ◌≤◌, length}
use Rattle.decimals.specs.Scan.{digits_from, count, past}
use Rattle.decimals.proofs.scan.digits.Given as goal

abbrev pub invariant-loop-rest : goal.invariant-loop-rest
invariant-loop-rest l =
    (digits_from l.value l.rest ≡ digits_from l.v l.s)
    × (length l.s + count l.rest ≡ count l.s + length l.rest)
    × (past l.rest ≡ past l.s)
    × (length l.rest ≤ length l.s)
    × ((l.value + 1) * 10 ^ length l.rest ≤ (l.v + 1) * 10 ^ length l.s)

abbrev pub decreases-loop-rest : goal.decreases-loop-rest
decreases-loop-rest l = length l.rest

use Rattle.std.proofs.Common.{◌≡◌, ◌-◌, ◌/◌, ◌^◌, ◌≤◌, length, drop}
use Rattle.decimals.specs.Write.{fixed}
use Rattle.decimals.proofs.writes.put_digits.Given as goal

abbrev pub invariant-loop-i : goal.invariant-loop-i
invariant-loop-i l = (l.i ≤ length l.initial.out) × (drop l.i l.out ≡ fixed (length l.initial.out - l.i) l.m) × (l.rest ≡ l.m / 10 ^ (length l.initial.out - l.i))

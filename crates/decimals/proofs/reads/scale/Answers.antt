use Rattle.std.proofs.Common.{◌≡◌, ◌+◌, pos, ◌+ℤ◌, ◌-ℤ◌, arith, w32, to_z, of_z}
use Rattle.std.proofs.lemmas.Int.{ints}
use Rattle.decimals.specs.Number.{Said, size}
use Rattle.decimals.proofs.Powers.{ten_more}
use Rattle.decimals.proofs.Sizes.{size_is, size_le}
use Rattle.decimals.proofs.Scaling.{scaled_fits}
use Rattle.decimals.proofs.reads.scale.Goals as goal

pub first_power-requires-clause-digits_bound : goal.first_power-requires-clause-digits_bound
first_power-requires-clause-digits_bound c =
    let k = c.ilog10-digits.result in
    omega (arith, size_is c.args.value k c.ilog10-digits.ensures.power_le (omega (arith, ten_more k)), size_le c.args.value 21 c.requires.value_bound)

pub returns : goal.returns
returns c =
    let k = c.ilog10-digits.result in
    let s : Said = record { negative = c.args.negative; value = c.args.value; power = c.args.power } in
    let n : size c.args.value ≡ k + 1 = size_is c.args.value k c.ilog10-digits.ensures.power_le (omega (arith, ten_more k)) in
    let l = size_le c.args.value 21 c.requires.value_bound in
    let t : to_z w32 (of_z w32 c.first_power.result) ≡ (c.args.power +ℤ pos (k + 1)) -ℤ pos 1 = omega (arith, ints) in
    let e = scaled_fits c.args.unit s c.if-value-eq0.false in
    rw (e, n, ← t, ← c.pow-place.ensures) c.fit.ensures

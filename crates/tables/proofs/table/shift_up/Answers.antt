use Rattle.std.proofs.Common.{◌≡◌, ◌+◌, ◌-◌, ◌≤◌, length, get_or, take, drop, set, refl, sym, ap, ◌∙◌, arith}
use Rattle.tables.proofs.Shifts.{rise_start, rise_take, rise_drop, rise_end, risen}
use Rattle.tables.proofs.table.shift_up.Goals as goal

pub loop-i-init : goal.loop-i-init
loop-i-init g c =
    let start = c.args.part.now in
    let e : length start ≡ length start - 1 + 1 = omega arith in (omega arith, refl, ap (λ n. drop n start) e ∙ rise_start start (length start - 1) (sym e))

pub loop-i-preserved : goal.loop-i-preserved
loop-i-preserved g c =
    let i = c.loop-i.i - 1 in
    let start = c.args.part.now in
    let u = length start - 1 in
    let d = g.R.Record.bare in
    let e : i ≡ i - 1 + 1 = omega arith in
    let s : i + 1 ≡ c.loop-i.i = omega arith in
    let top : i ≤ u = omega arith in
    let long : u + 1 ≡ length start = omega arith in
    let below : take (i + 1) c.loop-i.part ≡ take (i + 1) start = ap (λ n. take n c.loop-i.part) s ∙ c.loop-i.invariant.1 ∙ ap (λ n. take n start) (sym s) in
    let above : drop (i + 1) c.loop-i.part ≡ drop i (take u start) = ap (λ n. drop n c.loop-i.part) s ∙ c.loop-i.invariant.2 in
    let raised = set c.loop-i.part i (get_or c.loop-i.part (i - 1) d) in
    let done = c.raise.ensures d in (
      omega arith,
      ap (take i) done ∙ ap (λ n. take n raised) e ∙ rise_take c.loop-i.part start u i (i - 1) d e top long c.loop-i.auto.part below ∙ ap (λ n. take n start) (sym e),
      ap (drop i) done ∙ ap (λ n. drop n raised) e ∙ rise_drop c.loop-i.part start u i (i - 1) d e top long c.loop-i.auto.part below above,
    )

pub returns : goal.returns
returns g c =
    let one : c.loop-i.i ≡ 0 + 1 = omega arith in
    risen c.loop-i.part c.args.part.now c.requires (rise_end c.loop-i.part c.args.part.now 0 (length c.args.part.now - 1) refl refl (rw one at c.loop-i.invariant.1) (rw one at c.loop-i.invariant.2))

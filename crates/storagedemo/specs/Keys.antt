-- The orders of the worksheet's records are total. Assumes nothing.
use Rattle.std.specs.Cmp.{IsTotalOrder}
use Rattle.std.proofs.lemmas.Cmp.{nat_cmp_total, on_total, then_total}
use Rattle.storagedemo.specs.declared.records.Code.{Code}
use Rattle.storagedemo.specs.declared.records.Reading.{Reading}
use Rattle.storagedemo.specs.declared.records.Visit.{Visit}
use Rattle.storagedemo.specs.Records.{code_order, reading_order, visit_order}

code_order_lem : IsTotalOrder code_order
code_order_lem = then_total (on_total (λ (x : Code). x.letter) nat_cmp_total) (on_total (λ (x : Code). x.digit) nat_cmp_total)

pub reading_order_lem : IsTotalOrder reading_order
reading_order_lem = on_total (λ (x : Reading). x.code) code_order_lem

pub visit_order_lem : IsTotalOrder visit_order
visit_order_lem =
    then_total (on_total (λ (x : Visit). x.code) code_order_lem)
    (then_total (on_total (λ (x : Visit). x.hour) nat_cmp_total) (on_total (λ (x : Visit). x.minute) nat_cmp_total))

-- What holds of the keys.
use Rattle.codes.specs.Order.{TotalOrder}
use Rattle.records.specs.Keys.{site_key_order, solution_key_order}
use Rattle.records.specs.Parameters.{parameter_key_order}
use Rattle.records.specs.Spans.{span_key_order}

-- the keys of each kind are totally ordered, and only equal keys compare equal
pub record KeysAreOrdered : Type 0 where
  pub sites : TotalOrder site_key_order
  pub solutions : TotalOrder solution_key_order
  pub spans : TotalOrder span_key_order
  pub parameters : TotalOrder parameter_key_order

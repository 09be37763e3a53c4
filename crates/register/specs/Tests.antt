-- A test of rows that is handed in as a closure.
use Rattle.std.specs.Prelude.{◌≡◌, Bool}
use denote.Param.Members.{Shared}
use denote.Ref.{Bor}

-- the closure answers of each row what `met` says of it
pub record Computes {F R : Type 0} (g : Shared F (Bor R × Unit {0}) Bool) (met : R → Bool) (f : F) : Type 0 where
  pub each : (x : Bor R) (b : Bool) → g.post f (x, tt) b → b ≡ met x.now

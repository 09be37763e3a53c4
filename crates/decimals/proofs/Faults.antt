-- A fault is no result, and nothing is not something.
use Rattle.std.proofs.Common.{◌≡◌, ℕ, Some, None, Ok, Err, Option, Result, arith}
use Rattle.refusals.specs.declared.Fault.{Fault}

pub no_fault : {A : Type 0} (e : Fault) (a : A) → ◌≡◌ {A = Result A Fault} (Err e) (Ok a) → ⊥
no_fault e a x = let z : ◌≡◌ {A = ℕ} 0 1 = cc in omega arith

pub same_result : {A : Type 0} (a b : A) → ◌≡◌ {A = Result A Fault} (Ok a) (Ok b) → a ≡ b
same_result a b x = cc

pub nothing : {A : Type 0} (a : A) → ◌≡◌ {A = Option A} None (Some a) → ⊥
nothing a e = let z : ◌≡◌ {A = ℕ} 0 1 = cc in omega arith

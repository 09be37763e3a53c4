use Rattle.std.proofs.Common.{◌≡◌, ℕ, ◌-◌, ◌≤◌, List, ◌++◌, length, drop, replicate, ap, ◌∙◌, ap₂, arith}
use Rattle.frame.specs.Lines.{padded}
use Rattle.register.proofs.handed.columns_of.Goals as goal
use Rattle.std.proofs.lemmas.List.{drop-replicate}

-- bytes over the first of 80 blanks
over-blanks : (cs bs : List ℕ) (n : ℕ) → cs ≡ bs → n ≡ length bs → n ≤ 80 → cs ++ drop n (replicate 80 32) ≡ padded 32 80 bs
over-blanks cs bs n e m h = ap₂ ◌++◌ e (drop-replicate n 80 32 ∙ ap (λ k. replicate (80 - k) 32) m)

pub returns : goal.returns
returns c = over-blanks c.copy_from_slice.new.self c.args.bytes.now (length c.args.bytes.now - 0) c.copy_from_slice.ensures.after (omega arith) (omega (arith, c.requires))

-- A line is read as a command exactly where it spells it.
use Rattle.std.proofs.Common.{◌≡◌, ℕ, cond, List, [], ◌∷◌, Some, Option, sym, refl, ap, ◌∙◌, inl, inr, arith}
use Rattle.codes.proofs.Spellings.{same_is}
use Rattle.codes.specs.Order.{same_text}
use Rattle.codes.specs.declared.letters.MatrixKind.TheVariants.{Correlation, Covariance, Information}
use Rattle.model.specs.declared.counts.Sort.TheVariants.{Site, Span, Estimate, Apriori}
use Rattle.std.specs.List.{find}
use Rattle.std.proofs.lemmas.Bool.{cases_Bool, cond-false, cond-true}
use Rattle.worksheets.specs.Commands.{Spells, commands, read_command, spelled, spelled_by}
use Rattle.worksheets.specs.declared.commands.Command.{Command}
use Rattle.worksheets.specs.declared.commands.Command.TheVariants.{SetHead, Put, Drop, SetCell}

-- what is read is spelled so
spelled_so : (bs : List ℕ) (cs : List Command) (c : Command) → spelled_by bs cs ≡ Some c → bs ≡ spelled c
spelled_so bs [] c e = let z : ◌≡◌ {A = ℕ} 0 1 = cc in absurd (omega arith)
spelled_so bs (d ∷ cs) c e = elim (cases_Bool (same_text bs (spelled d))) [
  | inl y ↦
      let f : Some d ≡ Some c = sym (cond-true (same_text bs (spelled d)) (Some d) (spelled_by bs cs) y) ∙ e in
      let g : d ≡ c = cc in
      same_is bs (spelled d) y ∙ ap spelled g
  | inr y ↦ spelled_so bs cs c (sym (cond-false (same_text bs (spelled d)) (Some d) (spelled_by bs cs) y) ∙ e)
]

-- what is spelled so is read
read_so : (c : Command) → read_command (spelled c) ≡ Some c
read_so (SetHead Correlation) = refl
read_so (SetHead Covariance) = refl
read_so (SetHead Information) = refl
read_so (Put Site) = refl
read_so (Put Span) = refl
read_so (Put Estimate) = refl
read_so (Put Apriori) = refl
read_so (Drop Site) = refl
read_so (Drop Span) = refl
read_so (Drop Estimate) = refl
read_so (Drop Apriori) = refl
read_so SetCell = refl

pub spells : (bs : List ℕ) (r : Option Command) → r ≡ read_command bs → Spells bs r
spells bs r e = λ c. (λ h. spelled_so bs commands c (sym e ∙ h), λ h. e ∙ (ap read_command h ∙ read_so c))

pub spelled_found : (bs : List ℕ) (cs : List Command) → spelled_by bs cs ≡ find (λ c. same_text bs (spelled c)) cs
spelled_found bs [] = refl
spelled_found bs (c ∷ cs) = ap (cond (same_text bs (spelled c)) (Some c)) (spelled_found bs cs)

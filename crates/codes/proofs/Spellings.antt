-- A code is read exactly from its own letter.
use Rattle.std.proofs.Common.{◌≡◌, ℕ, true, List, [], ◌∷◌, Some, None, Ok, Option, Result, refl, ap, ◌∙◌, ⊎_elim, arith, length, false}
use Rattle.std.proofs.lemmas.Bool.{cond-false, cases_Bool}
use Rattle.refusals.specs.declared.Fault.{Fault}
use Rattle.refusals.specs.declared.Fault.TheVariants.{WrongText}
use Rattle.codes.specs.Order.{same_text}
use Rattle.codes.specs.Codes.{by_letter, technique_letter, technique_at, constraint_digit, constraint_at, contents_letter, contents_at, place_letter, place_at, matrix_kind_text, read_matrix_kind, CodesComeBack}
use Rattle.std.proofs.lemmas.Grind.{common_steps}
use Rattle.codes.specs.declared.letters.Technique.{Technique}
use Rattle.codes.specs.declared.letters.Technique.TheVariants.{Combined, Doris, SatelliteLaser, LunarLaser, Gnss, Vlbi}
use Rattle.codes.specs.declared.letters.Constraint.{Constraint}
use Rattle.codes.specs.declared.letters.Constraint.TheVariants.{Fixed, Significant, Unconstrained}
use Rattle.codes.specs.declared.letters.Contents.{Contents}
use Rattle.codes.specs.declared.letters.Contents.TheVariants.{Stations, Orbits, EarthOrientation, Troposphere, CelestialFrame, Antennas}
use Rattle.codes.specs.declared.letters.MatrixKind.{MatrixKind}
use Rattle.codes.specs.declared.letters.MatrixKind.TheVariants.{Correlation, Covariance, Information}
use Rattle.decimals.proofs.Faults.{no_fault}
use Rattle.std.proofs.lemmas.Map.Views.{tells_apart}
use Rattle.std.proofs.lemmas.Map.Lookups.{exact_bytes}

-- what a field of one column gives, where a letter gives what it is the letter of
exactly : {A : Type 0} (at : ℕ → Result A Fault) (letter : A → ℕ) → ((c : ℕ) (t : A) → at c ≡ Ok t → c ≡ letter t) → ((t : A) → at (letter t) ≡ Ok t) → (bs : List ℕ) (t : A) → (by_letter at bs ≡ Ok t → bs ≡ letter t ∷ []) × (bs ≡ letter t ∷ [] → by_letter at bs ≡ Ok t)
exactly at letter is back [] t = (λ e. absurd (no_fault WrongText t e), λ e. ap (by_letter at) e ∙ back t)
exactly at letter is back (c ∷ []) t = (λ e. ap (λ x. x ∷ []) (is c t e), λ e. ap (by_letter at) e ∙ back t)
exactly at letter is back (c ∷ (d ∷ ds)) t = (λ e. absurd (no_fault WrongText t e), λ e. ap (by_letter at) e ∙ back t)

technique_is : (c : ℕ) (t : Technique) → technique_at c ≡ Ok t → c ≡ technique_letter t
technique_is c t e = grind (arith, common_steps)

technique_back : (t : Technique) → technique_at (technique_letter t) ≡ Ok t
technique_back Combined = refl
technique_back Doris = refl
technique_back SatelliteLaser = refl
technique_back LunarLaser = refl
technique_back Gnss = refl
technique_back Vlbi = refl

constraint_is : (c : ℕ) (t : Constraint) → constraint_at c ≡ Ok t → c ≡ constraint_digit t
constraint_is c t e = grind (arith, common_steps)

constraint_back : (t : Constraint) → constraint_at (constraint_digit t) ≡ Ok t
constraint_back Fixed = refl
constraint_back Significant = refl
constraint_back Unconstrained = refl

contents_is : (c : ℕ) (t : Contents) → contents_at c ≡ Ok t → c ≡ contents_letter t
contents_is c t e = grind (arith, common_steps)

place_is : (c : ℕ) (t : Option Contents) → place_at c ≡ Ok t → c ≡ place_letter t
place_is c t e = grind (arith, common_steps, contents_is)

place_back : (t : Option Contents) → place_at (place_letter t) ≡ Ok t
place_back None = refl
place_back (Some Stations) = refl
place_back (Some Orbits) = refl
place_back (Some EarthOrientation) = refl
place_back (Some Troposphere) = refl
place_back (Some CelestialFrame) = refl
place_back (Some Antennas) = refl

-- ---- words

pub same_is : (xs ys : List ℕ) → same_text xs ys ≡ true → xs ≡ ys
same_is xs ys e = tells_apart exact_bytes xs ys e

differs : (xs ys : List ℕ) → (length xs ≡ length ys → ⊥) → same_text xs ys ≡ false
differs xs ys n = ⊎_elim (λ y. absurd (n (ap length (same_is xs ys y)))) (λ f. f) (cases_Bool (same_text xs ys))

-- only a text of four bytes names a kind
pub kind_none : (bs : List ℕ) → (length bs ≡ 4 → ⊥) → read_matrix_kind bs ≡ None
kind_none bs n = cond-false _ _ _ (differs bs _ n) ∙ (cond-false _ _ _ (differs bs _ n) ∙ cond-false _ _ _ (differs bs _ n))

kind_is : (bs : List ℕ) (t : MatrixKind) → read_matrix_kind bs ≡ Some t → bs ≡ matrix_kind_text t
kind_is bs t e = grind (arith, common_steps, same_is)

kind_read : (t : MatrixKind) → read_matrix_kind (matrix_kind_text t) ≡ Some t
kind_read Correlation = refl
kind_read Covariance = refl
kind_read Information = refl

pub codes_come_back : CodesComeBack
codes_come_back = (
  exactly technique_at technique_letter technique_is technique_back,
  exactly constraint_at constraint_digit constraint_is constraint_back,
  exactly place_at place_letter place_is place_back,
  (λ bs t. (kind_is bs t, λ e. ap read_matrix_kind e ∙ kind_read t)),
)

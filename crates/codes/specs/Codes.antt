-- Codes of one letter, and the kinds of a matrix.
use Rattle.std.specs.Prelude.{◌≡◌, ℕ, cond, List, [], ◌∷◌, Some, None, Ok, Err, codes, Option, Result, ◌==◌}
use Rattle.std.specs.Result.{result_map_both}
use Rattle.refusals.specs.declared.Fault.{Fault}
use Rattle.refusals.specs.declared.Fault.TheVariants.{WrongText}
use Rattle.codes.specs.Order.{same_text}
use Rattle.codes.specs.declared.letters.Technique.{Technique}
use Rattle.codes.specs.declared.letters.Technique.TheVariants.{Combined, Doris, SatelliteLaser, LunarLaser, Gnss, Vlbi}
use Rattle.codes.specs.declared.letters.Constraint.{Constraint}
use Rattle.codes.specs.declared.letters.Constraint.TheVariants.{Fixed, Significant, Unconstrained}
use Rattle.codes.specs.declared.letters.Contents.{Contents}
use Rattle.codes.specs.declared.letters.Contents.TheVariants.{Stations, Orbits, EarthOrientation, Troposphere, CelestialFrame, Antennas}
use Rattle.codes.specs.declared.letters.MatrixKind.{MatrixKind}
use Rattle.codes.specs.declared.letters.MatrixKind.TheVariants.{Correlation, Covariance, Information}

-- a field of one column: what its letter gives
abbrev pub by_letter : {A : Type 0} → (ℕ → Result A Fault) → List ℕ → Result A Fault
by_letter at [] = Err WrongText
by_letter at (c ∷ []) = at c
by_letter at (c ∷ (d ∷ ds)) = Err WrongText

-- C D L M P R
abbrev pub technique_letter : Technique → ℕ
technique_letter Combined = 67
technique_letter Doris = 68
technique_letter SatelliteLaser = 76
technique_letter LunarLaser = 77
technique_letter Gnss = 80
technique_letter Vlbi = 82

abbrev pub technique_at : ℕ → Result Technique Fault
technique_at c =
    cond (c == 67) (Ok Combined) (cond (c == 68) (Ok Doris) (cond (c == 76) (Ok SatelliteLaser)
    (cond (c == 77) (Ok LunarLaser) (cond (c == 80) (Ok Gnss) (cond (c == 82) (Ok Vlbi) (Err WrongText))))))

abbrev pub read_technique : List ℕ → Result Technique Fault
read_technique bs = by_letter technique_at bs

-- 0 1 2
abbrev pub constraint_digit : Constraint → ℕ
constraint_digit Fixed = 48
constraint_digit Significant = 49
constraint_digit Unconstrained = 50

abbrev pub constraint_at : ℕ → Result Constraint Fault
constraint_at c = cond (c == 48) (Ok Fixed) (cond (c == 49) (Ok Significant) (cond (c == 50) (Ok Unconstrained) (Err WrongText)))

abbrev pub read_constraint : List ℕ → Result Constraint Fault
read_constraint bs = by_letter constraint_at bs

-- S O E T C A
abbrev pub contents_letter : Contents → ℕ
contents_letter Stations = 83
contents_letter Orbits = 79
contents_letter EarthOrientation = 69
contents_letter Troposphere = 84
contents_letter CelestialFrame = 67
contents_letter Antennas = 65

-- or blank
abbrev pub place_letter : Option Contents → ℕ
place_letter None = 32
place_letter (Some c) = contents_letter c

abbrev pub contents_at : ℕ → Result Contents Fault
contents_at c =
    cond (c == 83) (Ok Stations) (cond (c == 79) (Ok Orbits) (cond (c == 69) (Ok EarthOrientation)
    (cond (c == 84) (Ok Troposphere) (cond (c == 67) (Ok CelestialFrame) (cond (c == 65) (Ok Antennas) (Err WrongText))))))

abbrev pub place_at : ℕ → Result (Option Contents) Fault
place_at c = cond (c == 32) (Ok None) (result_map_both Some (λ e. e) (contents_at c))

abbrev pub read_contents : List ℕ → Result (Option Contents) Fault
read_contents bs = by_letter place_at bs

abbrev pub matrix_kind_text : MatrixKind → List ℕ
matrix_kind_text Correlation = codes "CORR"
matrix_kind_text Covariance = codes "COVA"
matrix_kind_text Information = codes "INFO"

abbrev pub read_matrix_kind : List ℕ → Option MatrixKind
read_matrix_kind bs =
    cond (same_text bs (codes "CORR")) (Some Correlation) (cond (same_text bs (codes "COVA")) (Some Covariance) (cond (same_text bs (codes "INFO")) (Some Information) None))

-- a code is read exactly from its own letter
abbrev pub CodesComeBack : Type 0
CodesComeBack = ((bs : List ℕ) (t : Technique) → (read_technique bs ≡ Ok t → bs ≡ technique_letter t ∷ []) × (bs ≡ technique_letter t ∷ [] → read_technique bs ≡ Ok t))
    × ((bs : List ℕ) (c : Constraint) → (read_constraint bs ≡ Ok c → bs ≡ constraint_digit c ∷ []) × (bs ≡ constraint_digit c ∷ [] → read_constraint bs ≡ Ok c))
    × ((bs : List ℕ) (p : Option Contents) → (read_contents bs ≡ Ok p → bs ≡ place_letter p ∷ []) × (bs ≡ place_letter p ∷ [] → read_contents bs ≡ Ok p))
    × ((bs : List ℕ) (k : MatrixKind) → (read_matrix_kind bs ≡ Some k → bs ≡ matrix_kind_text k) × (bs ≡ matrix_kind_text k → read_matrix_kind bs ≡ Some k))
